use Rattle.std.proofs.Common.{ap, refl, sym, ◌∙◌}
use Rattle.client_session.specs.Requests.{visit}
use Rattle.conn_pool.specs.Idle.{counts}
use Rattle.jk_io.specs.Doors.{side}
use Rattle.jk_server.proofs.CutLaws.{closes_said}
use Rattle.gear_parts.proofs.ListLaws.{some_so}
use Rattle.jk_server.specs.RunTells.{logging}
use Rattle.jk_server.proofs.StartLaws.{run_done, table_counts, table_ends}
use Rattle.jk_server.proofs.runs.serve.over_site.Goals as goal

pub invariant_of-common : goal.invariant_of-common
invariant_of-common g c = record {
  every = c.watch_at-watch.ensures.every;
  ends = ap (λ ps. counts ps) c.in-Ok.ensures ∙ table_counts c.args.plan.cfg.now.lbs ∙ table_ends c.args.plan.cfg.now.lbs;
}

pub work-requires-clause-ready : goal.work-requires-clause-ready
work-requires-clause-ready g c = λ κs within. record {
  each = c.in-Ok-shared_site.ensures.0 ∙ c.requires.ready.each;
  some = c.requires.ready.some;
  few = c.requires.ready.few;
  stands = c.requires.ready.stands;
  idle = c.requires.ready.idle;
}

pub work-requires-clause-amount : goal.work-requires-clause-amount
work-requires-clause-amount g c = λ κs within. c.in-Ok-shared_site.ensures.1

pub work-requires-clause-desk_sizes : goal.work-requires-clause-desk_sizes
work-requires-clause-desk_sizes g c = λ κs within. c.requires.new.sized

pub work-requires-clause-pool_sizes : goal.work-requires-clause-pool_sizes
work-requires-clause-pool_sizes g c = λ κs within. ap (λ ps. counts ps) c.in-Ok.ensures ∙ table_counts c.args.plan.cfg.now.lbs

pub work-requires-clause-format : goal.work-requires-clause-format
work-requires-clause-format g c = λ κs within. refl

pub settle-requires-clause-some : goal.settle-requires-clause-some
settle-requires-clause-some g c = (
  some_so _ _ (c.in-Ok-work.ran.gears.ok.0 ∙ c.in-Ok-work.ensures.ran.each.0 ∙ sym c.args.gears.ok.0) c.requires.ready.some,
  some_so _ _ (c.in-Ok-work.ensures.ran.each.1 ∙ sym c.args.gears.ok.0) c.requires.ready.some,
)

pub settle-requires-clause-whole : goal.settle-requires-clause-whole
settle-requires-clause-whole g c = c.in-Ok-work.ensures.ran.whole ∙ sym c.args.gears.ok.0 ∙ sym c.requires.ready.each

pub settle-requires-clause-here : goal.settle-requires-clause-here
settle-requires-clause-here g c = c.in-Ok-work.ensures.ran.here

pub returns-in-Ok-work-clause-ran : goal.returns-in-Ok-work-clause-ran
returns-in-Ok-work-clause-ran g c =
    run_done (visit c.args.plan.cfg.now c.args.plan.map.now) g.D.L.Meanings g.S.Shelf.shelved (logging g.S.Shelf.shelved g.S.Shelf.faults g.O.Meanings g.D.L.Link.may_wait)
    c.args.plan.format.now c.args.plan.cfg.now.lbs c.args.new.at _ _ _ _ _ _ _ c.in-Ok-work.ensures.ran.served c.settle.ensures.workers
    (closes_said (side g.D.Door.coming g.D.Door.left g.D.Door.faults) g.T.Tape.talks g.K.Clock.answers g.S.Shelf.shelved g.S.Shelf.faults
    c.args.plan.cfg.now.lbs _ _ _ _ c.args.new.at _ _ _ _ c.requires.new.sized c.requires.new.numbered c.requires.new.begun c.requires.new.books c.settle.ensures.closed)
