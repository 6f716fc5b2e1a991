-- The own answer was written, and its row put.
use Rattle.client_session.specs.Standings.{client_at}
use Rattle.client_session.proofs.OwnLaws.{form_own}
use Rattle.client_session.proofs.WritingLaws.{refused_closed}
use Rattle.client_session.proofs.serving.refuse.Goals as goal

pub returns-in-Closed : goal.returns-in-Closed
returns-in-Closed g c =
    let is = form_own c.args.form _ _ c.status.ensures c.with_status-own.ensures in
    record {
      step = refused_closed c.args.date c.args.form (client_at g.C.Meanings c.args.client.now) (client_at g.C.Meanings c.write_own-stop.new.client)
          (λ gained. g.W.RowSink.gained c.args.rows.now gained c.put.new.self) c.write_own-stop.result _ c.in-Closed.is (rw (is, c.refused_kind.ensures) at c.write_own-stop.ensures.step)
          (rw (c.own.ensures, c.refused.ensures, is) at (g.met.W.RowSink.gains_on _ _ _ _ _ c.in-Ok.ensures.same c.put.ensures));
      kept = c.write_own-stop.ensures.kept;
    }
