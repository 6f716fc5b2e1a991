use Rattle.std.proofs.Common.{refl}
use Rattle.ajp_container.proofs.ServingLaws.{begins, closes, goes_on, lacks, wants}
use Rattle.ajp_container.proofs.door_links.serve_links.Goals as goal

pub links-init : goal.links-init
links-init g c = begins _ _ _

pub returns-then-is_want : goal.returns-then-is_want
returns-then-is_want g c =
    record { served = wants _ _ _ _ _ _ _ _ _ _ c.links.invariant c.in-Client.ensures.arrives c.serve_link-end.ensures.served }

pub returns-in-NoMemory : goal.returns-in-NoMemory
returns-in-NoMemory g c = record { served = lacks _ _ _ _ _ _ c.links.invariant c.in-NoMemory.ensures.arrives (c.in-NoMemory.ensures.wanted refl) }

pub links-preserved : goal.links-preserved
links-preserved g c =
    goes_on _ _ _ _ _ _ _ _ _ _ _ c.links.invariant c.in-Client.ensures.arrives c.serve_link-end.ensures.served
    (c.is_want.ensures.no c.if-is_want.false) c.saturating_add-links.ensures

pub returns-in-Closed : goal.returns-in-Closed
returns-in-Closed g c =
    record { served = closes _ _ _ _ _ _ c.links.invariant c.in-Closed.ensures.arrives (c.in-Closed.ensures.steady refl) }
