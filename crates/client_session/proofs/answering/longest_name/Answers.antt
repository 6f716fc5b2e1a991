-- The worker's own name, or its members'.
use Rattle.std.proofs.Common.{length, sym, ap, ◌∙◌}
use Rattle.site_config.specs.declared.balancer.Lb.{Lb}
use Rattle.site_config.specs.declared.config.Status.{Status}
use Rattle.client_session.proofs.NameLaws.{balancer_within, names_of_balancer, names_of_status, status_within}
use Rattle.client_session.proofs.answering.longest_name.Goals as goal

pub bounds-as_slice-place : goal.bounds-as_slice-place
bounds-as_slice-place c = rw c.as_slice.ensures (status_within c.args.mounted.cfg.now c.args.mounted.worker c.in-Status.place c.args.mounted.stands c.in-Status.is)

pub bounds-as_slice-lb : goal.bounds-as_slice-lb
bounds-as_slice-lb c = rw c.as_slice-in-Balancer.ensures (balancer_within c.args.mounted.cfg.now c.args.mounted.worker c.in-Balancer.lb c.args.mounted.stands c.in-Balancer.is)

pub returns-in-Status : goal.returns-in-Status
returns-in-Status c =
    rw c.in-Status.is
    (names_of_status c.args.mounted.cfg.now c.in-Status.place c.index-as_slice-place.result _ (rw c.as_slice.ensures at c.index-as_slice-place.is)
    (status_within c.args.mounted.cfg.now c.args.mounted.worker c.in-Status.place c.args.mounted.stands c.in-Status.is) (c.len.ensures ∙ ap (λ (s : Status). length s.name) (sym c.index-as_slice-place.is)))

pub returns-in-Balancer : goal.returns-in-Balancer
returns-in-Balancer c =
    rw c.in-Balancer.is
    (names_of_balancer c.args.mounted.cfg.now c.in-Balancer.lb c.index-as_slice-lb.result c.as_slice-in-Balancer-2.result.now _
    (rw c.as_slice-in-Balancer.ensures at c.index-as_slice-lb.is) (balancer_within c.args.mounted.cfg.now c.args.mounted.worker c.in-Balancer.lb c.args.mounted.stands c.in-Balancer.is) (c.as_slice-in-Balancer-2.ensures ∙ ap (λ (b : Lb). b.book.members) (sym c.index-as_slice-lb.is)) c.longest_of.ensures)
