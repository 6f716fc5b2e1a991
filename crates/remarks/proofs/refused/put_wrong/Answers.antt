use Rattle.std.proofs.Common.{rules, sym}
use Rattle.jk_io.proofs.ToldLaws.{appended-nil}
use Rattle.remarks.proofs.refused.put_wrong.Goals as goal

pub returns-in-None : goal.returns-in-None
returns-in-None g c = record { added = rw c.in-None.is (sym (appended-nil c.args.out.now.said)); cause = search rules; steady = search rules }

pub returns-in-Some : goal.returns-in-Some
returns-in-Some g c = rw c.in-Some.is c.put_told.ensures
