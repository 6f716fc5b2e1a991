use Rattle.journal_text.proofs.WideLemmas.{SomeIff-wide_number}
use Rattle.journal_text.proofs.wide.wide_number.Goals as goal

pub returns : goal.returns
returns c = SomeIff-wide_number _ c.args.text.now c.read_digits.ensures
