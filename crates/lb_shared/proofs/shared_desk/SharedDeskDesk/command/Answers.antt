-- A command of a shared desk: its answer, and the desk, its shelf and its seat afterwards.
use Rattle.std.proofs.Common.{sym}
use Rattle.lb_shared.specs.SharedDesks.{stray_in}
use Rattle.lb_shared.proofs.SharedLaws.{final_done, final_refused, refusal_kept}
use Rattle.lb_shared.proofs.shared_desk.SharedDeskDesk.command.Goals as goal

pub returns-clause-ok : goal.returns-clause-ok
returns-clause-ok g c =
    rw (sym c.self.view_is) (final_done g.L.SiteName.sizes c.self.inside.stake.parts c.command-segment.new.self.parts c.self.inside.stake.receipts c.command-segment.new.self.receipts c.self.inside.stake.held c.command-segment.new.self.held c.self.inside.stake.amount c.command-segment.new.self.amount c.self.inside.strays c.self.inside.fulls c.count_refusal.new.fulls c.self.inside.wides c.count_refusal.new.wides (stray_in c.self.inside.met) c.args.lb c.args.session c.args.at c.args.command.now c.command-segment.result.1 c.count_refusal.ensures.counted c.command-segment.ensures.ok)

pub returns-clause-err : goal.returns-clause-err
returns-clause-err g c =
    rw (sym c.self.view_is) (final_refused g.L.SiteName.sizes c.self.inside.stake.parts c.command-segment.new.self.parts c.self.inside.stake.receipts c.command-segment.new.self.receipts c.self.inside.stake.held c.command-segment.new.self.held c.self.inside.stake.amount c.command-segment.new.self.amount c.self.inside.strays c.self.inside.fulls c.count_refusal.new.fulls c.self.inside.wides c.count_refusal.new.wides (stray_in c.self.inside.met) c.args.lb c.args.session c.args.at c.args.command.now c.command-segment.result.1 c.count_refusal.ensures.counted c.command-segment.ensures.err)

pub returns-clause-kept : goal.returns-clause-kept
returns-clause-kept g c =
    rw (sym c.self.view_is) (refusal_kept g.L.SiteName.sizes c.self.inside.stake.parts c.command-segment.new.self.parts c.self.inside.stake.receipts c.command-segment.new.self.receipts c.self.inside.stake.held c.command-segment.new.self.held c.self.inside.stake.amount c.command-segment.new.self.amount c.self.inside.strays c.self.inside.fulls c.count_refusal.new.fulls c.self.inside.wides c.count_refusal.new.wides (stray_in c.self.inside.met) c.args.lb c.args.session c.args.at c.command-segment.ensures.kept.stake.0 c.count_refusal.ensures.no_fewer.0 c.count_refusal.ensures.no_fewer.1)

pub returns-clause-shelf : goal.returns-clause-shelf
returns-clause-shelf g c =
    rw (sym c.self.view_is) (record {
      cut = c.command-segment.result.0;
      of = c.command-segment.ensures.cuts.of;
      when = c.command-segment.ensures.cuts.when;
      next = c.command-segment.ensures.cuts.next;
      put = c.put_away.ensures;
      told = c.command-segment.ensures.kept.marks;
      starts = c.command-segment.ensures.kept.stake.2;
      forgotten = c.command-segment.ensures.kept.stake.1;
    })

pub returns-clause-sees : goal.returns-clause-sees
returns-clause-sees g c = rw (sym c.self.view_is) c.command-segment.ensures.sees
