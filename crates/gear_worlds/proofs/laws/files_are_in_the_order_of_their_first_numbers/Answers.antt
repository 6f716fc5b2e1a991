use Rattle.gear_worlds.proofs.FileLaws.{files_in_order}
use Rattle.gear_worlds.proofs.laws.files_are_in_the_order_of_their_first_numbers.Goals as goal

pub returns : goal.returns
returns c = files_in_order
