-- SPEC 6.26, a written property: the state counts its bytes; a refused one changes nothing.
use Rattle.std.specs.Prelude.{List, ℕ, Result}
use Rattle.std.proofs.Common.{Ok, Err}
use Rattle.kinds.specs.Refusal.{number_of}
use Rattle.property_value.specs.declared.refused.PropertyRefusal.{PropertyRefusal}
use Rattle.property_value.specs.Refused.{refusal_of}
use Rattle.property_writer.specs.Writing.{PropertyPut, put_of}
use Rattle.writing.specs.declared.state.State.{State}
use Rattle.writing.specs.State.{Wrote, with_properties, wrote}

abbrev pub counted : State → PropertyPut → Wrote
counted s put = wrote put.number (with_properties s put.used)

unfoldable pub property_call : State → ℕ → ℕ → ℕ → List ℕ → List ℕ → Wrote
property_call s column kind bits text buffer = counted s (put_of s.waiting s.properties column kind bits text buffer)

-- the place of the text's first bad byte where it is refused with 6, and else 0 (SPEC 9.13)
unfoldable pub property_place : State → ℕ → ℕ → ℕ → List ℕ → List ℕ → ℕ
property_place s column kind bits text buffer = (put_of s.waiting s.properties column kind bits text buffer).place

-- what the code answers: the state after, or a refusal, which leaves the state as it was
abbrev pub wrote_as : State → Result State PropertyRefusal → Wrote
wrote_as s (Ok after) = wrote 0 after
wrote_as s (Err refusal) = wrote (number_of (refusal_of refusal)) s
