-- The numbers of refusals, and of answers: 0 for done (SPEC 5.1).
use Rattle.std.specs.Prelude.{◌≡◌, ℕ, Result}
use Rattle.std.proofs.Common.{Ok, Err, arith}
use Rattle.kinds.specs.declared.refusal.Refusal.{Refusal}
use Rattle.kinds.specs.declared.refusal.Refusal.TheVariants.{XyAbsent, Missing, TypeUnknown, TypeNotACurve, TypesMixed, NotUtf8, PastList, BadEnd, LogFull, BadRecord, Malformed, NoRoom, TooDeep, ValueCut, NotItsTurn, ColumnTooLarge, OtherFeature, WkbCut, WkbUnknown, WkbLeftOver, BadlyNested}

abbrev pub number_of : Refusal → ℕ
number_of XyAbsent = 1
number_of Missing = 2
number_of TypeUnknown = 3
number_of TypeNotACurve = 4
number_of TypesMixed = 5
number_of NotUtf8 = 6
number_of PastList = 7
number_of BadEnd = 8
number_of LogFull = 9
number_of BadRecord = 10
number_of Malformed = 11
number_of NoRoom = 12
number_of TooDeep = 13
number_of ValueCut = 14
number_of NotItsTurn = 15
number_of ColumnTooLarge = 16
number_of OtherFeature = 17
number_of WkbCut = 18
number_of WkbUnknown = 19
number_of WkbLeftOver = 20
number_of BadlyNested = 21

abbrev pub answer_of : {A : Type 0} → Result A Refusal → ℕ
answer_of (Ok a) = 0
answer_of (Err r) = number_of r

-- no refusal has the number of what is done
pub refused : (r : Refusal) → number_of r ≡ 0 → ⊥
refused r h = grind arith
