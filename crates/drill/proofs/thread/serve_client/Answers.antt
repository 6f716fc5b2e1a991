-- The rows are those of the session that the client had.
use Rattle.std.proofs.Common.{ap, refl, sym, None}
use Rattle.status_worker.proofs.DeskLaws.{untouched}
use Rattle.drill.proofs.CountLaws.{none_counted, rows_counted}
use Rattle.drill.proofs.thread.serve_client.Goals as goal

pub returns-clause-rows : goal.returns-clause-rows
returns-clause-rows g c =
    let desk = c.desk-1.given.1 (sym c.serve_counted.ensures.kept.same.0) in
    rows_counted _ _ _ _ _ _ _ _ _ c.serve_counted.ensures.session.1.session refl refl (λ inbox. ap (λ d. (g.B.Desk.state d).receipts) (sym desk))

pub returns-in_err-inbox-clause-rows : goal.returns-in_err-inbox-clause-rows
returns-in_err-inbox-clause-rows g c = none_counted _ (record { state = g.B.Desk.state c.args.desk.now; clock = None }) _ _

pub returns-in_err-inbox-clause-kept : goal.returns-in_err-inbox-clause-kept
returns-in_err-inbox-clause-kept g c = untouched _ _
