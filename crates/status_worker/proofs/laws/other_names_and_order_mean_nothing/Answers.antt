use Rattle.status_worker.proofs.PartLaws.{unknown_ignored, order_ignored}
use Rattle.status_worker.proofs.laws.other_names_and_order_mean_nothing.Goals as goal

pub returns : goal.returns
returns c = record { others = unknown_ignored; order = order_ignored }
