-- A desk that is lent for a session, from now on.
use Rattle.std.proofs.Common.{◌≡◌, ◌∙◌, Some, rules, sym, ap}
use Rattle.lb_shared.specs.Loans.{name_in, seat_in, shelf_in, state_in}
use Rattle.jk_server.proofs.ToldLaws.{lent_now, lent_shelf}
use Rattle.jk_server.proofs.client.serve_lent.Goals as goal

pub invariant_of-lent : goal.invariant_of-lent
invariant_of-lent g c =
    let is : c.args.loan.now.desk ≡ Some c.unwrap-desk.result = sym c.take.ensures.value ∙ c.unwrap-desk.ensures in
    record {
      same = sym (ap (λ d. name_in d) is) ∙ c.requires.name;
      gone = lent_now _ _ _ _ (sym (ap (λ d. seat_in g.B.SeatedDesk.seat d) is) ∙ c.requires.seat) (sym (ap (λ d. (state_in g.B.Desk.state d).receipts) is) ∙ c.requires.receipts);
      shelved = lent_shelf _ _ (sym (ap (λ d. shelf_in g.B.SeatedDesk.shelf d) is) ∙ c.requires.shelf);
    }

pub returns-clause-session : goal.returns-clause-session
returns-clause-session g c = record {
  ran = search rules;
  parts = search rules;
  each = search rules;
  fault = search rules;
  met = search rules;
  kept = search rules;
  ready = search rules;
  idle_only = search rules;
  awaits = let is : c.args.loan.now.desk ≡ Some c.unwrap-desk.result = sym c.take.ensures.value ∙ c.unwrap-desk.ensures in
      rw is c.serve_visit-end.ensures.session.awaits;
  dials = search rules;
}
