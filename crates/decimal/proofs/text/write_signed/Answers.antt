use mathlib.Core.Path.{sym, subst, ◌∙◌}
use native.Mathlib.Omega.{arith}
use Rattle.std.specs.Prelude.{IsAscii}
use Rattle.decimal.specs.TextLaws.{lent-end, spelt-one, spelt-ascii, spelt_is}
use Rattle.decimal.proofs.text.write_signed.Goals as goal

pub in_ascii-requires : goal.in_ascii-requires
in_ascii-requires g c =
    let n = c.args.n in
    let spelt = c.spell-start in
    subst IsAscii (sym (lent-end spelt.new.text spelt.result spelt.ensures.1)) (spelt-ascii n.negative n.decimal _ spelt.ensures.2)

pub returns-clause-writes : goal.returns-clause-writes
returns-clause-writes g c =
    let n = c.args.n in
    let spelt = c.spell-start in
    let printed =
    c.in_ascii.ensures
    ∙ lent-end spelt.new.text spelt.result spelt.ensures.1
    ∙ spelt-one n.negative n.decimal _ (omega arith) spelt.ensures.2 in
    λ plain ok. rw printed at (c.write_str.ensures.writes plain ok)

pub returns-clause-reads : goal.returns-clause-reads
returns-clause-reads g c = spelt_is c.args.n.negative c.args.n.decimal (omega arith)
