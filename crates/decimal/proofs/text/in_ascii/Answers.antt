use Rattle.std.proofs.lemmas.Str.{IsUtf8-from_ascii}
use Rattle.decimal.proofs.text.in_ascii.Goals as goal

pub returns-in-Err : goal.returns-in-Err
returns-in-Err c = absurd (c.in-Err.ensures.cases.0 (IsUtf8-from_ascii c.args.bytes.now c.requires))
