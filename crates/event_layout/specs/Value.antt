-- SPEC 3.11: a value record. Column, two bytes; type and a spare byte; how many bytes the value has, four bytes; its word, eight bytes.
use Rattle.std.specs.Prelude.{List, [], ◌∷◌, ◌++◌, ℕ}
use Rattle.laws.specs.Bytes.{le}
use Rattle.kinds.specs.declared.value.Value.{Value}

unfoldable pub value_bytes : Value → List ℕ
value_bytes v = le 2 v.column ++ (v.kind ∷ 0 ∷ []) ++ le 4 v.len ++ le 8 v.word
