use Rattle.jk_io.proofs.DecimalLaws.{SomeIff-decimal_of}
use Rattle.jk_io.proofs.decimals.parse_decimal.Goals as goal

pub returns-clause-value : goal.returns-clause-value
returns-clause-value c = SomeIff-decimal_of _ c.args.text.now c.read_digits.ensures
