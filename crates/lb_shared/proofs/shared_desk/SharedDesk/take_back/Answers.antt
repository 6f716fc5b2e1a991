-- The shelf after a Return, done or refused.
use Rattle.std.proofs.Common.{◌≡◌, Bool, true, subst, sym}
use Rattle.lb_shared.specs.SharedDesks.{CutsOrWants}
use Rattle.lb_shared.specs.Holds.{cut_in}
use Rattle.lb_shared.proofs.shared_desk.SharedDesk.take_back.Goals as goal

pub returns-in-Ok-clause-shelf : goal.returns-in-Ok-clause-shelf
returns-in-Ok-clause-shelf g c =
    rw (sym c.self.view_is) (record {
      cut = cut_in c.give_back-cut.result.0;
      of = c.give_back-cut.ensures.cuts.of;
      when = subst (λ (b : Bool). CutsOrWants g.L.SiteName.sizes g.L.SiteName.cut_at c.args.lease.lb (cut_in c.give_back-cut.result.0) (b ≡ true))
          (sym c.put_cut-kept.ensures.err) c.give_back-cut.ensures.cuts.when;
      next = c.give_back-cut.ensures.cuts.next;
      put = c.put_cut-kept.ensures.put;
      told = c.give_back-cut.ensures.marks;
      starts = c.give_back-cut.ensures.kept.2;
      forgotten = c.give_back-cut.ensures.kept.1;
    })

pub returns-in-Err-clause-shelf : goal.returns-in-Err-clause-shelf
returns-in-Err-clause-shelf g c =
    rw (sym c.self.view_is) (record {
      cut = cut_in c.give_back-cut.result.0;
      of = c.give_back-cut.ensures.cuts.of;
      when = subst (λ (b : Bool). CutsOrWants g.L.SiteName.sizes g.L.SiteName.cut_at c.args.lease.lb (cut_in c.give_back-cut.result.0) (b ≡ true))
          (sym c.put_cut-kept.ensures.err) c.give_back-cut.ensures.cuts.when;
      next = c.give_back-cut.ensures.cuts.next;
      put = c.put_cut-kept.ensures.put;
      told = c.give_back-cut.ensures.marks;
      starts = c.give_back-cut.ensures.kept.2;
      forgotten = c.give_back-cut.ensures.kept.1;
    })
