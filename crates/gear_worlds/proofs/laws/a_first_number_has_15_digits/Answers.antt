use Rattle.gear_worlds.proofs.FileLaws.{first_length}
use Rattle.gear_worlds.proofs.laws.a_first_number_has_15_digits.Goals as goal

pub returns : goal.returns
returns c = first_length
