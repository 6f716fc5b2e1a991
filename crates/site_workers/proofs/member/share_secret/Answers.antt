use Rattle.std.proofs.Common.{arith}
use Rattle.site_workers.proofs.ShareLemmas.{shared_more}
use Rattle.site_workers.proofs.member.share_secret.Goals as goal

pub loop-end-preserved : goal.loop-end-preserved
loop-end-preserved c = shared_more _ c.args.ends.now c.loop-end.ends c.loop-end.end-index _ c.share_one.new.end (omega arith) c.loop-end.invariant c.in_ok-share_one.ensures.shared
