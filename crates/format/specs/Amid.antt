-- The writer in the midst of a geometry: what is pending is the coordinates and ends so far.
use Rattle.std.specs.Prelude.{◌≡◌, Bool, true, false, cond, List, [], ◌∷◌, ◌++◌, ℕ, ◌+◌, ltb}
use Rattle.std.proofs.Math.Path.{refl}
use Rattle.std.proofs.Common.{sym, ◌∙◌, append_assoc, append-nil}
use Rattle.std.proofs.Math.Option.{Option, none, some}
use Rattle.laws.specs.Every.{never, neither}
use Rattle.kinds.specs.Event.{is_tagged_type, bit_set, begin_e, xy_e, coordinate_e}
use Rattle.kinds.specs.declared.event.Event.{Event}
use Rattle.kinds.specs.declared.flags.Flags.{Flags}
use Rattle.store.specs.Lists.{Rec}
use Rattle.geometries.specs.Coordinate.{multi, is, or0, bits, coord_e}
use Rattle.asking.specs.declared.typing.Typing.{Typing}
use Rattle.asking.specs.Ask.{begun}
use Rattle.writer_model.specs.Writer.{Writer, pushed, coordinate, after, after_all}
use Rattle.geometries.specs.Geometry.{Coord}
use Rattle.geometries.specs.Events.{shown, each, seen_as, coord_of}
use Rattle.format.specs.Format.{xy_of}
use Rattle.format.specs.FormatLaws.{xy_append}
use Rattle.format.specs.Writable.{All, Has}
use Rattle.format.specs.Tables.{listed, vals, is_none}

vals_snoc : (f : Coord → Option ℕ) (cs : List Coord) (c : Coord) → vals f (cs ++ (c ∷ [])) ≡ vals f cs ++ listed (f c)
vals_snoc f [] c = append-nil (listed (f c))
vals_snoc f (d ∷ cs) c = rw (vals_snoc f cs c, append_assoc)

unfoldable pub amid : Typing → List Coord → List ℕ → List Rec → Writer
amid h cs es parts = record {
  typing = h;
  pending = record { xy = xy_of cs; ends = es; z = vals (λ c. c.z) cs; m = vals (λ c. c.m) cs; t = vals (λ c. c.t) cs; tm = vals (λ c. c.tm) cs };
  parts = parts;
  root = none;
}

pushed-is : (o : Option ℕ) (l : List ℕ) → pushed (is o) l (or0 o) ≡ l ++ listed o
pushed-is none l = sym (append-nil l)
pushed-is (some v) l = refl

bits_are : (a b c d : Bool) → (bit_set (bits a b c d) 1 ≡ a) × (bit_set (bits a b c d) 2 ≡ b) × (bit_set (bits a b c d) 4 ≡ c) × (bit_set (bits a b c d) 8 ≡ d)
bits_are true true true true = (refl, refl, refl, refl)
bits_are true true true false = (refl, refl, refl, refl)
bits_are true true false true = (refl, refl, refl, refl)
bits_are true true false false = (refl, refl, refl, refl)
bits_are true false true true = (refl, refl, refl, refl)
bits_are true false true false = (refl, refl, refl, refl)
bits_are true false false true = (refl, refl, refl, refl)
bits_are true false false false = (refl, refl, refl, refl)
bits_are false true true true = (refl, refl, refl, refl)
bits_are false true true false = (refl, refl, refl, refl)
bits_are false true false true = (refl, refl, refl, refl)
bits_are false true false false = (refl, refl, refl, refl)
bits_are false false true true = (refl, refl, refl, refl)
bits_are false false true false = (refl, refl, refl, refl)
bits_are false false false true = (refl, refl, refl, refl)
bits_are false false false false = (refl, refl, refl, refl)

shown-is : (b : Bool) (o : Option ℕ) → is o ≡ b → shown b o ≡ o
shown-is true o e = refl
shown-is false none e = refl
shown-is false (some v) e = absurd (never (cc))

no_flags_lem : (F : Flags) → multi F ≡ false → (F.z ≡ false) × (F.m ≡ false) × (F.t ≡ false) × (F.tm ≡ false)
no_flags_lem F e =
    let tm = neither _ F.tm e in
    let t = neither _ F.t tm.0 in
    let m = neither F.z F.m t.0 in
    (m.0, m.1, t.1, tm.1)

module _ (h : Typing) (cs : List Coord) (es : List ℕ) (parts : List Rec) (c : Coord) (i : ℕ) where
  on_full : after (amid h cs es parts) (coord_e c.x c.y c.z c.m c.t c.tm i) ≡ amid h (cs ++ (c ∷ [])) es parts
  unfolding after amid coord_e coordinate_e coordinate
  on_full =
      let b = bits_are (is c.z) (is c.m) (is c.t) (is c.tm) in
      rw (b.0, b.1, b.2, b.3, xy_append cs (c ∷ [])) (simp (pushed-is, vals_snoc))

  on_bare : c.z ≡ none → c.m ≡ none → c.t ≡ none → c.tm ≡ none → after (amid h cs es parts) (xy_e c.x c.y i) ≡ amid h (cs ++ (c ∷ [])) es parts
  unfolding after amid xy_e coordinate
  on_bare a b d e = simp (xy_append, vals_snoc, a, b, d, e, append-nil)

  on_coord : (F : Flags) → Has F c → after (amid h cs es parts) (seen_as F c i) ≡ amid h (cs ++ (c ∷ [])) es parts
  on_coord F q = go (multi F) refl
    where
      go : (b : Bool) → multi F ≡ b → after (amid h cs es parts) (cond b (coord_e c.x c.y (shown F.z c.z) (shown F.m c.m) (shown F.t c.t) (shown F.tm c.tm) i) (xy_e c.x c.y i)) ≡ amid h (cs ++ (c ∷ [])) es parts
      go true e = rw (shown-is F.z c.z q.z, shown-is F.m c.m q.m, shown-is F.t c.t q.t, shown-is F.tm c.tm q.tm) on_full
      go false e =
          let f = no_flags_lem F e in
          on_bare (is_none _ (q.z ∙ f.0)) (is_none _ (q.m ∙ f.1)) (is_none _ (q.t ∙ f.2)) (is_none _ (q.tm ∙ f.3))

pub all_nil : (w : Writer) → after_all w [] ≡ w
unfolding after_all
all_nil w = refl

pub all_cons : (w : Writer) (e : Event) (es : List Event) → after_all w (e ∷ es) ≡ after_all (after w e) es
unfolding after_all
all_cons w e es = refl

module _ (F : Flags) (h : Typing) where
  pub on_coords : (cs ls : List Coord) (es : List ℕ) (parts : List Rec) (i : ℕ) (k : List Event) → All (Has F) ls → after_all (amid h cs es parts) (each (coord_of F) ls i k) ≡ after_all (amid h (cs ++ ls) es parts) k
  on_coords cs [] es parts i k q = rw append-nil
  on_coords cs (c ∷ ls) es parts i k q = rw (all_cons, on_coord h cs es parts c i F q.0, on_coords (cs ++ (c ∷ [])) ls es parts (i + 1) k q.1, append_assoc)

  pub on_begin : (type : ℕ) (cs : List Coord) (es : List ℕ) (parts : List Rec) (n i : ℕ) → is_tagged_type type ≡ true → ltb type 32 ≡ true → after (amid h cs es parts) (begin_e type false n i) ≡ amid h cs es parts
  unfolding after amid begin_e begun
  on_begin type cs es parts n i e b = rw (b, e)
