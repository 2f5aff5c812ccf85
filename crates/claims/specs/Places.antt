-- SPEC 9.13 over the calls that a machine links: each property call writes a place beside its answer, and this is what it says. The premises are the calls' own `ensures`.
use Rattle.std.specs.Prelude.{◌≡◌, Some, Bool, true, List, ℕ, take}
use Rattle.std.proofs.Common.{sym, ◌∙◌}
use Rattle.laws.specs.Cut.{Said}
use Rattle.event_log.specs.Values.{values}
use Rattle.utf8.specs.Utf8.{BadIs}
use Rattle.property_value.specs.Column.{is_text}
use Rattle.property_value.specs.Value.{placed}
use Rattle.property_value.specs.ValueLaws.{not-placed}
use Rattle.property_reader.specs.Reading.{reading, bad_in}
use Rattle.properties.specs.Places.{put_bad, put_not_bad, RefusedText, read_bad}
use Rattle.writing.specs.declared.state.State.{State}
use Rattle.writer.specs.Property.{property_call, property_place}

-- with 6 the column type is held to be UTF-8, and the place is that of the text's first bad byte; with any other answer it is 0
pub property_place_lem : (s : State) (column kind bits : ℕ) (text buffer : List ℕ) (number place : ℕ)
    → number ≡ (property_call s column kind bits text buffer).number → place ≡ property_place s column kind bits text buffer
    → (number ≡ 6 → (is_text kind ≡ true) × BadIs text (Some place)) × ((number ≡ 6 → ⊥) → place ≡ 0)
unfolding property_call property_place
property_place_lem s column kind bits text buffer number place h k = (
  (λ six. rw k (put_bad s.waiting s.properties column kind bits text buffer (sym h ∙ six))),
  (λ n. k ∙ put_not_bad s.waiting s.properties column kind bits text buffer (λ six. n (h ∙ six))),
)

-- with 6 the reading comes to a text that is whole and not UTF-8, and the place is that of its first bad byte; with any other answer it is 0
pub read_properties_place : (bytes : List ℕ) (has-columns : Bool) (columns : List ℕ) (stop : ℕ) (L M : List ℕ) (number count place : ℕ)
    → Said values (reading bytes has-columns columns stop) L number count M → place ≡ placed number (bad_in bytes has-columns columns stop)
    → (number ≡ 6 → RefusedText (take 65536 bytes) columns stop place) × ((number ≡ 6 → ⊥) → place ≡ 0)
unfolding placed
read_properties_place bytes has-columns columns stop L M number count place h k = (
  (λ six. rw (k, six) (read_bad bytes has-columns columns stop L M count (rw six at h))),
  (λ n. k ∙ not-placed number (bad_in bytes has-columns columns stop) n),
)
