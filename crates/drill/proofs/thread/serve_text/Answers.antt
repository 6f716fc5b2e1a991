-- The client has the text to come.
use Rattle.std.proofs.Common.{List, ℕ, subst}
use Rattle.drill.specs.Counts.{CountsRows, visit_at}
use Rattle.drill.proofs.thread.serve_text.Goals as goal

pub returns-clause-rows : goal.returns-clause-rows
returns-clause-rows g c =
    subst
    (λ (xs : List ℕ). CountsRows (visit_at c.args.post) xs (g.B.Desk.state c.args.desk.now).receipts (g.B.Desk.state c.serve_client.new.desk).receipts
    c.args.bodies.now.bytes c.serve_client.new.bodies.bytes)
    c.new-client.ensures.came.0 c.serve_client.ensures.rows
