-- SPEC 6.7 to 6.13: what an event asks for, a typing, words for some of the pools, perhaps a finished part.
use Rattle.std.specs.Prelude.{◌≡◌, refl, Bool, true, false, cond, not, ◌&&◌, ◌||◌, ℕ, ◌<◌, leb, ltb, eqb, Some, None}
use Rattle.std.proofs.lemmas.Bool.{lt-leb}
use Rattle.kinds.specs.Event.{is_tagged_type, bit_set}
use Rattle.kinds.specs.Lanes.{Lane, lane}
use Rattle.kinds.specs.declared.lanes.Lanes.{Lanes}
use Rattle.kinds.specs.declared.event.Event.{Event}
use Rattle.asking.specs.declared.typing.Typing.{Typing}
use Rattle.asking.specs.declared.ask.Ask.{Ask}
use Rattle.asking.specs.SetType.{Typed, with_mode, set_type}

-- ---- the pools that it adds words to
abbrev pub Added : Type 0
Added = Lanes Bool

abbrev pub adds_to : Added → Lane → Bool
adds_to a n = lane a n

abbrev pub no_words : Added
no_words = record { xy = false; ends = false; z = false; m = false; t = false; tm = false }

abbrev pub end_if : Bool → Added
end_if on = record { xy = false; ends = on; z = false; m = false; t = false; tm = false }

-- a pair, and the values that are present
abbrev pub pair_with : ℕ → Added
pair_with present = record { xy = true; ends = false; z = bit_set present 1; m = bit_set present 2; t = bit_set present 4; tm = bit_set present 8 }

abbrev pub ask : Typed → Added → Bool → Ask
ask typed added part = record { typed = typed; added = added; part = part }

-- a tagged end leaves ForceMulti
abbrev pub calmed : Typing → Bool → Typing
calmed h tagged = cond (tagged && eqb h.mode 2) (with_mode h 0) h

-- a collection's begin sets its type, and then the mode
abbrev pub in_collection : Typed → Typed
in_collection None = None
in_collection (Some h) = Some (with_mode h 1)

-- the begins of lines, polygons and triangles set the type only where they are tagged
unfoldable pub begun : Typing → Event → Typed
begun h e =
    cond (is_tagged_type e.kind && not e.tagged) (Some h)
    (cond (eqb e.kind 7) (in_collection (set_type h 7)) (set_type h e.kind))

-- an end goes down if the line is untagged or in ForceMulti
abbrev pub pushes_end : Typing → Bool → Bool
pushes_end h tagged = not tagged || eqb h.mode 2

abbrev pub collects : Typing → Bool
collects h = eqb h.mode 1

-- begin kinds are below 32, ends below 64; of the ends those of Point, LineString, Polygon and GeometryCollection do something
unfoldable pub ask_of : Typing → Event → Ask
ask_of h e =
    cond (ltb e.kind 32) (ask (begun h e) no_words false)
    (cond (leb 64 e.kind) (ask (Some h) (pair_with e.present) false)
    (cond (eqb e.kind 33) (ask (Some h) no_words (collects h))
    (cond (eqb e.kind 34) (ask (Some (calmed h e.tagged)) (end_if (pushes_end h e.tagged)) (collects h))
    (cond (eqb e.kind 35) (ask (Some (calmed h e.tagged)) no_words (pushes_end h e.tagged || collects h))
    (cond (eqb e.kind 39) (ask (Some (with_mode h 0)) no_words false)
    (ask (Some h) no_words false))))))

-- ---- a begin or an end adds to the ends at most
abbrev pub OnlyEnds : Ask → Type 0
OnlyEnds a = a.added ≡ end_if a.added.ends

only-cond : (b : Bool) (x y : Ask) → OnlyEnds x → OnlyEnds y → OnlyEnds (cond b x y)
only-cond true x y h k = h
only-cond false x y h k = k

pub other_adds : (h : Typing) (e : Event) → e.kind < 64 → OnlyEnds (ask_of h e)
unfolding ask_of
other_adds h e below =
    only-cond (ltb e.kind 32) _ _ refl
    (rw (lt-leb 64 e.kind below)
    (only-cond (eqb e.kind 33) _ _ refl (only-cond (eqb e.kind 34) _ _ refl (only-cond (eqb e.kind 35) _ _ refl (only-cond (eqb e.kind 39) _ _ refl refl)))))
