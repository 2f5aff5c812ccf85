-- Trees that mean nothing.
use Rattle.std.specs.Prelude.{◌≡◌, true, List, [], ◌∷◌, ℕ, ◌+◌, ◌*◌, ◌≤◌, length}
use Rattle.std.proofs.Common.{sym, ap, ◌∙◌, arith, length-append}
use Rattle.std.proofs.Math.Option.{Option, some}
use Rattle.kinds.specs.declared.flags.Flags.{Flags}
use Rattle.store.specs.Lists.{Rec}
use Rattle.reader.specs.Reading.{read_s}
use Rattle.geometries.specs.Geometry.{Line, Geometry, depth}
use Rattle.geometries.specs.Events.{events_of}
use Rattle.format.specs.Format.{xy_of, joined, ends_from, Lines, Tree}
use Rattle.format.specs.FormatLaws.{xy_length}
use Rattle.geometries.specs.Told.{told}
use Rattle.format.specs.Reads.{AllSmall, agrees}
use Rattle.format.proofs.ReadLaws.{reads}
use Rattle.format.specs.NoMeaning.{Refused, last_end}

told_whole : {A : Type 0} (l : List A) → Refused (told l) → ⊥
told_whole [] r = r
told_whole (a ∷ l) r = told_whole l r

pub refused_meaningless : (F : Flags) (get : ℕ → Option Rec) → AllSmall get → (n type : ℕ) (g : Geometry n) (t : Tree get n type g) → agrees type t.root.kind ≡ true → depth n g ≤ 15 → Refused (read_s F get type) → ⊥
refused_meaningless F get small n type g t a d r = told_whole (events_of F n g) (rw (reads F get small n type g t a d) at r)

last_end_lem : (n : ℕ) (ls : List Line) → last_end n (ends_from n ls) ≡ n + length (joined ls)
last_end_lem n [] = omega arith
last_end_lem n (l ∷ ls) = last_end_lem (n + length l) ls ∙ omega (arith, length-append l (joined ls))

pub ends-count : (r : Rec) (ls : List Line) (xy : List ℕ) (e : ℕ) (es : List ℕ) → r.xy ≡ some xy → r.ends ≡ some (e ∷ es) → Lines r ls → length xy ≡ 2 * last_end e es
ends-count r ls xy e es a b h =
    let q : some xy ≡ some (xy_of (joined ls)) = sym a ∙ h.coords.xy in
    let p : xy ≡ xy_of (joined ls) = cc in
    let f : e ∷ es ≡ ends_from 0 ls = rw b at h.ends in
    omega (arith, ap (λ (l : List ℕ). length l) p, xy_length (joined ls), ap (λ (l : List ℕ). last_end 0 l) f, last_end_lem 0 ls)
