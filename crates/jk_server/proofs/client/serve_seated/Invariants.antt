-- The moment at which the session begins: which desk it is, its seat, its receipts and its shelf then.
use Rattle.lb_shared.specs.Loans.{name_in, seat_in, shelf_in, state_in}
use Rattle.jk_server.proofs.client.serve_seated.Given as goal

abbrev pub ghosts-serve_lent : goal.ghosts-serve_lent
ghosts-serve_lent g a = record {
  name = name_in a.loan.now.desk;
  seat = seat_in g.B.SeatedDesk.seat a.loan.now.desk;
  receipts = (state_in g.B.Desk.state a.loan.now.desk).receipts;
  shelf = shelf_in g.B.SeatedDesk.shelf a.loan.now.desk;
}
