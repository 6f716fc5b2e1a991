-- The session, what the worker makes of its end, and its link at the door.
use Rattle.std.proofs.Common.{◌∙◌, ap, refl, subst, sym}
use Rattle.exchange.specs.Awaits.{AwaitsDials}
use Rattle.gear_parts.specs.Logs.{log_tells}
use Rattle.jk_server.specs.Worker.{keeps, worker_side}
use Rattle.jk_server.proofs.RunLaws.{begins_so, fit_after, fit_forgot, parts_after, rose_loud, ready_for, same_but_desk, settled, settles_so, stray_met}
use Rattle.jk_server.proofs.client.serve_client.Goals as goal

pub serve_seated-end-requires : goal.serve_seated-end-requires
serve_seated-end-requires g c = record {
  ready = ready_for c.args.post c.args.peer.now _ _ (fit_forgot _ _ _ _ _ c.requires.ready.fit (ap (λ d. d.desk) c.forget_last-before.ensures.desk));
}

pub close_client-requires-clause-stray : goal.close_client-requires-clause-stray
close_client-requires-clause-stray g c = stray_met _ _ _ c.serve_seated-end.ensures.session.met

pub returns : goal.returns
returns g c =
    let log = log_tells g.Y.RowSink.gained g.Y.WorkerLog.greets g.Y.WorkerLog.broken_by g.Y.WorkerLog.log_faults in
    let of = keeps g.S.Shelf.shelved g.S.Shelf.faults log g.D.L.Link.may_wait in
    let s = c.serve_seated-end in
    let e = s.ensures.session in
    let from = worker_side g.K.Clock.answers g.R.Meanings g.R.Reach.looks c.forget_last-before.new.desk c.args.part.now.clock c.args.part.now.reach c.greet.new.self in
    let to = worker_side g.K.Clock.answers g.R.Meanings g.R.Reach.looks s.new.desk s.new.means.clock.now s.new.means.reach.now s.new.means.rows.now in
    let client = c.link-2-1.given.1 (sym s.ensures.still.2) in
    let forgets = ap (λ d. d.desk) c.forget_last-before.ensures.desk in
    let loud = rose_loud _ _ _ _ _ c.requires.ready.logged c.greet.ensures.calm
    (g.met.Y.WorkerLog.breaks_loudly _ _ e.ran.gained e.ran.added) in
    let calm = g.met.Y.WorkerLog.breaks_calmly _ _ e.ran.gained e.ran.added in
    let settles = settles_so of from to c.close_client.new.part.desk s.result _ c.close_client.result refl loud calm
    (c.close_client.ensures.settled c.forget_last-before.new.desk c.forget_last-before.ensures.counted.0 c.forget_last-before.ensures.counted.1
    s.ensures.shelf.no_fewer s.ensures.shelf.no_less) in
    record {
      served = record {
        back = s.new.means.client.now;
        from = from;
        to = to;
        session_end = s.result;
        begins = begins_so log g.K.Clock.answers g.R.Meanings g.R.Reach.looks c.args.part.now.desk _ _ _ _ _ _ c.forget_last-before.ensures.desk c.greet.ensures.greeted;
        run = record {
          session = e.ran;
          parts = e.parts;
          each = e.each;
          fault = e.fault;
          met = e.met;
          kept = e.kept;
          idle_only = e.idle_only;
          awaits = e.awaits;
          gone = s.ensures.gone;
          shelf = s.ensures.shelf;
        };
        settles = settles;
        same = same_but_desk g.K.Clock.answers g.R.Meanings g.R.Reach.looks s.new.desk _ _ _ _ _ _ _ c.close_client.ensures.same;
        coming = c.close_client.ensures.same_door.0;
        left = rw client at c.close_client.ensures.left;
        door_faults = c.close_client.ensures.same_door.1;
      };
      dials =
          subst (λ r. AwaitsDials g.R.Meanings g.R.Link.heard c.args.post.cfg.now.lbs c.args.part.now.reach r) (sym c.close_client.ensures.same.0) e.dials;
      fit =
          fit_after _ _ _ _ _ _ _ _ _ c.requires.ready.fit forgets e.kept (settled of from to _ _ _ settles)
          (ap (λ r. (g.R.Meanings.beside r).sizes) c.close_client.ensures.same.0 ∙ e.ready.reach_sizes)
          (ap (λ r. (g.R.Meanings.beside r).runs) c.close_client.ensures.same.0 ∙ e.ready.idle);
      parts = parts_after c.args.part.now.desk.desk _ _ _ _ forgets e.kept (settled of from to _ _ _ settles);
    }
