use Rattle.std.proofs.Common.{refl, sym, ◌∙◌}
use Rattle.client_session.specs.Requests.{visit}
use Rattle.jk_io.specs.Doors.{side}
use Rattle.gear_parts.specs.Gears.{gear_side}
use Rattle.jk_server.specs.RunTells.{logging}
use Rattle.gear_parts.proofs.ListLaws.{few_so, some_so}
use Rattle.jk_server.proofs.StartLaws.{err_started, ok_weaker, started_run}
use Rattle.jk_server.proofs.runs.serve.serve_gears.Goals as goal

pub over_site-requires-clause-new : goal.over_site-requires-clause-new
over_site-requires-clause-new g c = λ κs within. record {
  blank = record { named = refl; whole = refl; cuts_named = refl; cuts_whole = c.in-Ok.ensures.parts.1 ∙ sym c.in-Ok.ensures.parts.0 };
  sized = refl;
  numbered = refl;
  cut_so = refl;
  books = c.in-Ok.ensures.books;
  begun = refl;
}

pub over_site-requires-clause-ready : goal.over_site-requires-clause-ready
over_site-requires-clause-ready g c = λ κs within. record {
  each = c.in-Ok.ensures.parts.0 ∙ c.len.ensures;
  some = some_so _ _ c.first_moment-at.ensures.len c.requires.some;
  few = few_so _ _ _ c.first_moment-at.ensures.len c.requires.few;
  stands = c.requires.stands;
  idle = c.first_moment-at.ensures.idle c.requires.idle;
}

pub returns-in-Ok : goal.returns-in-Ok
returns-in-Ok g c = record {
  ran =
      ok_weaker _ _ c.over_site.result c.over_site.ensures.ran
      (λ run is.
      started_run (visit c.args.plan.cfg.now c.args.plan.map.now) g.D.L.Meanings g.S.Shelf.shelved (logging g.S.Shelf.shelved g.S.Shelf.faults g.O.Meanings g.D.L.Link.may_wait)
      c.args.plan.format.now c.args.plan.cfg.now.lbs c.in-Ok.new.at
      (gear_side (side g.D.Door.coming g.D.Door.left g.D.Door.faults) g.T.Tape.talks g.K.Clock.answers) c.args.gears.items
      c.args.gears.items c.first_moment-at.new.gears.items c.first_moment-at.new.gears.items run.gears.items run.workers run.closing refl refl
      c.first_moment-at.ensures.started (rw c.in-Ok.ensures.at c.first_moment-at.ensures.given) is);
  unasked =
      err_started (gear_side (side g.D.Door.coming g.D.Door.left g.D.Door.faults) g.T.Tape.talks g.K.Clock.answers) (λ v. v.items) c.args.gears.items
      c.first_moment-at.new.gears.items c.over_site.result c.first_moment-at.ensures.started c.over_site.ensures.unasked;
}
