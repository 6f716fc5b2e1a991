use Rattle.status_worker.proofs.PartLaws.{unread_bad, repeated_bad}
use Rattle.status_worker.proofs.laws.one_bad_part_is_enough.Goals as goal

pub returns : goal.returns
returns c = record { unread = unread_bad; repeated = repeated_bad }
