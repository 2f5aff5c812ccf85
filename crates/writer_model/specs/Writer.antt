-- The writer as the Rust has it, to be held beside feature_writer.rs: types and mode, a vector for each pool, finished parts.
use Rattle.std.specs.Prelude.{None, Some, Bool, true, false, cond, ◌||◌, List, [], ◌∷◌, ◌++◌, ℕ, ◌/◌, length, leb, ltb, eqb}
use Rattle.std.proofs.Math.Option.{Option, none, some}
use Rattle.kinds.specs.Event.{bit_set}
use Rattle.kinds.specs.declared.event.Event.{Event}
use Rattle.store.specs.Lists.{Pools, pools_of, Rec}
use Rattle.asking.specs.declared.typing.Typing.{Typing}
use Rattle.asking.specs.SetType.{Typed, typing, with_mode, typed_number}
use Rattle.asking.specs.Ask.{begun, calmed, pushes_end, collects}

-- pending lists belong to no part yet; a finished feature waits while it has a root
pub record Writer : Type 0 where
  pub typing : Typing
  pub pending : Pools
  pub parts : List Rec
  pub root : Option Rec

abbrev pub writer : Typing → Pools → List Rec → Option Rec → Writer
writer h pending parts root = record { typing = h; pending = pending; parts = parts; root = root }

abbrev pub no_lists : Pools
no_lists = pools_of [] [] [] [] [] []

unfoldable pub fresh : ℕ → Bool → Bool → Writer
fresh declared detect promote = writer (typing declared detect promote 0 0) no_lists [] none

abbrev pub is_there : Option Rec → Bool
is_there none = false
is_there (some r) = true

abbrev pub waits : Writer → Bool
waits w = is_there w.root

abbrev pub retyped : Writer → Typing → Writer
retyped w h = writer h w.pending w.parts w.root

abbrev pub holding : Writer → Pools → Writer
holding w lists = writer w.typing lists w.parts w.root

-- ---- finish_part: xy always, an ends list of 0 or 1 and empty others left out
unfoldable pub longer : ℕ → List ℕ → Option (List ℕ)
longer most l = cond (leb (length l) most) none (some l)

unfoldable pub part_of : Writer → Rec
part_of w =
    record {
      kind = w.typing.current;
      xy = some w.pending.xy;
      ends = longer 1 w.pending.ends;
      z = longer 0 w.pending.z;
      m = longer 0 w.pending.m;
      t = longer 0 w.pending.t;
      tm = longer 0 w.pending.tm;
      parts = none;
    }

unfoldable pub finish_part : Writer → Writer
finish_part w = writer w.typing no_lists (w.parts ++ (part_of w ∷ [])) w.root

abbrev pub part_if : Bool → Writer → Writer
part_if on w = cond on (finish_part w) w

-- ---- a begin, where set_type does not refuse
abbrev pub typed_to : Writer → Typed → Writer
typed_to w None = w
typed_to w (Some h) = retyped w h

-- ---- xy and coordinate: a pair, and the values that are present
abbrev pub pushed : Bool → List ℕ → ℕ → List ℕ
pushed on l v = cond on (l ++ (v ∷ [])) l

unfoldable pub coordinate : Writer → Event → Writer
coordinate w e =
    holding w
    (pools_of
    (w.pending.xy ++ (e.x ∷ e.y ∷ []))
    w.pending.ends
    (pushed (bit_set e.present 1) w.pending.z e.z)
    (pushed (bit_set e.present 2) w.pending.m e.m)
    (pushed (bit_set e.present 4) w.pending.t e.t)
    (pushed (bit_set e.present 8) w.pending.tm e.tm))

-- ---- linestring_end and polygon_end; ends count pairs within the pending list
unfoldable pub end_pushed : Writer → Writer
end_pushed w = holding w (pools_of w.pending.xy (w.pending.ends ++ (length w.pending.xy / 2 ∷ [])) w.pending.z w.pending.m w.pending.t w.pending.tm)

abbrev pub end_if : Bool → Writer → Writer
end_if on w = cond on (end_pushed w) w

-- a tagged end leaves ForceMulti
abbrev pub calm : Writer → Bool → Writer
calm w tagged = retyped w (calmed w.typing tagged)

unfoldable pub line_end : Writer → Bool → Writer
line_end w tagged = calm (part_if (collects w.typing) (end_if (pushes_end w.typing tagged) w)) tagged

unfoldable pub polygon_end : Writer → Bool → Writer
polygon_end w tagged = calm (part_if (pushes_end w.typing tagged || collects w.typing) w) tagged

-- ---- an event: what it does where it is accepted. 33, 34, 35 and 39 are the ends of Point, LineString, Polygon and GeometryCollection; every other end does nothing
unfoldable pub after : Writer → Event → Writer
after w e =
    cond (ltb e.kind 32) (typed_to w (begun w.typing e))
    (cond (leb 64 e.kind) (coordinate w e)
    (cond (eqb e.kind 33) (part_if (collects w.typing) w)
    (cond (eqb e.kind 34) (line_end w e.tagged)
    (cond (eqb e.kind 35) (polygon_end w e.tagged)
    (cond (eqb e.kind 39) (retyped w (with_mode w.typing 0)) w)))))

unfoldable pub after_all : Writer → List Event → Writer
after_all w [] = w
after_all w (e ∷ es) = after_all (after w e) es

-- the number with which it is refused, but for want of room
unfoldable pub nay : Writer → Event → ℕ
nay w e = cond (waits w) 15 (cond (ltb e.kind 32) (typed_number (begun w.typing e)) 0)

-- ---- finish and then next are the Rust's finish_to_feature. The pending lists are the root if there are no parts, else a root with type and parts alone
abbrev pub root_over : Writer → List Rec → Rec
root_over w [] = part_of w
root_over w (p ∷ ps) = record { kind = w.typing.current; xy = none; ends = none; z = none; m = none; t = none; tm = none; parts = some (1, length (p ∷ ps)) }

abbrev pub left_by : Pools → List Rec → Pools
left_by pending [] = no_lists
left_by pending (p ∷ ps) = pending

unfoldable pub finish : Writer → Writer
finish w = writer w.typing (left_by w.pending w.parts) w.parts (some (root_over w w.parts))

-- the finished tree: its records by number, the root first
abbrev pub tree : Writer → List Rec
tree w = root_over w w.parts ∷ w.parts

-- next empties the parts and carries what is still pending; the types and the mode are kept
unfoldable pub next : Writer → Writer
next w = writer w.typing w.pending [] none
