-- One record said to a log: the part of the log that is lent for it, and what the log holds once the record stands in that part.
use Rattle.std.specs.Prelude.{◌≡◌, List, ◌++◌, true, ℕ, suc, ◌+◌, ◌-◌, ◌*◌, ◌≤◌, length, take, drop}
use Rattle.std.proofs.Common.{sym, ◌∙◌, le-div_iff_mul-le, mul_comm, mul-suc, arith}
use Rattle.std.proofs.Math.Path.{ap}
use Rattle.laws.specs.Runs.{lent_part}
use Rattle.laws.specs.Script.{Format, one, out, put, room_at, room_in_lem, run, one-put}

module _ {A : Type 0} (F : Format A) (a : A) (log : List ℕ) (n : ℕ) (room : room_at F.wide log n ≡ true) where
  pub whole : F.wide * n + F.wide ≤ length log
  whole =
      let enough : suc n * F.wide ≤ length log = (le-div_iff_mul-le F.some).0 (room_in_lem F.wide log n room).1 in
      omega (arith, mul_comm (suc n) F.wide, mul-suc F.wide n)

  pub said_in_part : (end : ℕ) → end ≡ F.wide * n + F.wide
      → run F (one a) log n ≡ out 0 (n + 1) (take (F.wide * n) log ++ (F.bytes a ++ drop (end - F.wide * n) (drop (F.wide * n) log)))
  unfolding put
  said_in_part end e =
      one-put F a log n room
      ∙ ap (out 0 (n + 1)) (sym (lent_part log (F.bytes a) (F.wide * n) (omega (arith, whole, F.long a)) end (omega (arith, F.long a))))
