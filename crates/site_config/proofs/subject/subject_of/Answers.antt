use Rattle.std.proofs.Common.{sym}
use Rattle.site_config.proofs.SubjectLemmas.{speaks_of_worker}
use Rattle.site_config.proofs.subject.subject_of.Goals as goal

pub returns-in-Some : goal.returns-in-Some
returns-in-Some c = speaks_of_worker c.args.key.now c.in-Some.name c.in-Some.text.now c.directive_of.result (sym c.in-Some.ensures) (sym c.directive_of.ensures)
