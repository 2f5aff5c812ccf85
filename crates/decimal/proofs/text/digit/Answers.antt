use Rattle.decimal.specs.TextLaws.{glyph_of}
use Rattle.decimal.proofs.text.digit.Goals as goal

pub returns : goal.returns
returns c = glyph_of c.args.n
