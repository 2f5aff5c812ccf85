-- What was laid down: a run of bytes at the place where those before it end, with the rest of the memory as it was.
use Rattle.std.specs.Prelude.{◌≡◌, refl, List, [], ◌++◌, ℕ, ◌+◌, length}
use Rattle.std.proofs.Common.{sym, ap, ◌∙◌, subst, arith, length-append}
use Rattle.std.proofs.lemmas.List.Edits.{sets}
use Rattle.laws.specs.Runs.{then}
use Rattle.wkb_put.specs.declared.output.Output.{Output}

pub record Laid (a b : Output) (added : List ℕ) : Type 0 where
  pub memory : b.bytes.ghost_name ≡ a.bytes.ghost_name
  pub laid : b.bytes.now ≡ sets a.bytes.now a.at added
  pub place : b.at ≡ a.at + length added
  pub long : length b.bytes.now ≡ length a.bytes.now

pub nothing : (a : Output) → Laid a a []
nothing a = record { memory = refl; laid = refl; place = omega arith; long = refl }

-- a second run starts where the first ends
pub and_then : {a b c : Output} (x y : List ℕ) → Laid a b x → Laid b c y → Laid a c (x ++ y)
and_then {a = a} {b = b} x y first second = record {
  memory = second.memory ∙ first.memory;
  laid = then a.bytes.now x y a.at (length x) first.laid refl (second.laid ∙ ap (λ (n : ℕ). sets b.bytes.now n y) first.place);
  place = omega (arith, first.place, second.place, length-append x y);
  long = second.long ∙ first.long;
}

-- the same bytes, otherwise said
pub laid_as : {a b : Output} {x y : List ℕ} → x ≡ y → Laid a b y → Laid a b x
laid_as {a = a} {b = b} e h = subst (Laid a b) (sym e) h
