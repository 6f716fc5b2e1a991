-- The one balancer was looked at.
use Rattle.status_worker.proofs.PageLaws.{sees_one}
use Rattle.status_worker.proofs.pages.parts_of.Goals as goal

pub returns-clause-seen : goal.returns-clause-seen
returns-clause-seen g c =
    let within = rw c.in-Some.is at c.requires.within in
    rw c.in-Some.is (sees_one c.args.cfg.now _ c.in-Some.place c.index-as_slice-place.result _ c.in_ok-look_at.field-0 within
    (rw c.as_slice.ensures at c.index-as_slice-place.is) c.in_ok-look_at.ensures.seen (rw c.new-parts.ensures at c.in_ok-push.ensures.ok))
