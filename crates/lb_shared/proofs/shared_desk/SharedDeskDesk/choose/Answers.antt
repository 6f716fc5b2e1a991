-- An ask of a shared desk: its answer, and the desk, its shelf and its seat afterwards.
use Rattle.std.proofs.Common.{sym}
use Rattle.lb_shared.specs.SharedDesks.{stray_in}
use Rattle.lb_shared.proofs.SharedLaws.{final_err, final_ok, full_kept}
use Rattle.lb_shared.proofs.shared_desk.SharedDeskDesk.choose.Goals as goal

pub returns-clause-ok : goal.returns-clause-ok
returns-clause-ok g c =
    rw (sym c.self.view_is) (final_ok g.L.SiteName.sizes c.self.inside.stake.parts c.choose-segment.new.self.parts c.self.inside.stake.receipts c.choose-segment.new.self.receipts c.self.inside.stake.held c.choose-segment.new.self.held c.self.inside.stake.amount c.choose-segment.new.self.amount c.self.inside.strays c.self.inside.fulls c.count_full.new.fulls c.self.inside.wides c.self.inside.wides (stray_in c.self.inside.met) c.args.lb c.args.session c.args.at c.args.ask.now c.choose-segment.result.1 c.count_full.ensures.counted c.choose-segment.ensures.ok)

pub returns-clause-err : goal.returns-clause-err
returns-clause-err g c =
    rw (sym c.self.view_is) (final_err g.L.SiteName.sizes c.self.inside.stake.parts c.choose-segment.new.self.parts c.self.inside.stake.receipts c.choose-segment.new.self.receipts c.self.inside.stake.held c.choose-segment.new.self.held c.self.inside.stake.amount c.choose-segment.new.self.amount c.self.inside.strays c.self.inside.fulls c.count_full.new.fulls c.self.inside.wides c.self.inside.wides (stray_in c.self.inside.met) c.args.lb c.args.session c.args.at c.choose-segment.result.1 c.count_full.ensures.counted c.choose-segment.ensures.held c.choose-segment.ensures.err)

pub returns-clause-kept : goal.returns-clause-kept
returns-clause-kept g c =
    rw (sym c.self.view_is) (full_kept g.L.SiteName.sizes c.self.inside.stake.parts c.choose-segment.new.self.parts c.self.inside.stake.receipts c.choose-segment.new.self.receipts c.self.inside.stake.held c.choose-segment.new.self.held c.self.inside.stake.amount c.choose-segment.new.self.amount c.self.inside.strays c.self.inside.fulls c.count_full.new.fulls c.self.inside.wides c.self.inside.wides (stray_in c.self.inside.met) c.args.lb c.args.session c.args.at c.choose-segment.ensures.kept.stake.0 c.count_full.ensures.no_fewer)

pub returns-clause-shelf : goal.returns-clause-shelf
returns-clause-shelf g c =
    rw (sym c.self.view_is) (record {
      cut = c.choose-segment.result.0;
      of = c.choose-segment.ensures.cuts.of;
      when = c.choose-segment.ensures.cuts.when;
      next = c.choose-segment.ensures.cuts.next;
      put = c.put_away.ensures;
      told = c.choose-segment.ensures.kept.marks;
      starts = c.choose-segment.ensures.kept.stake.2;
      forgotten = c.choose-segment.ensures.kept.stake.1;
    })

pub returns-clause-sees : goal.returns-clause-sees
returns-clause-sees g c = rw (sym c.self.view_is) c.choose-segment.ensures.sees
