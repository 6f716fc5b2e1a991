use Rattle.std.proofs.Common.{◌≡◌, ◌++◌, List, not, take}
use Rattle.std.specs.List.{filter, filter_map}
use Rattle.lb_model.specs.Tickets.{is_returned, ticket_in}
use Rattle.lb_model.specs.declared.journal.Entry.{Entry}
use Rattle.lb_book.specs.Ending.{AreOwn}
use Rattle.lb_book.proofs.ending.put_own.Given as goal

abbrev pub invariant-loop-k : goal.invariant-loop-k
invariant-loop-k l =
    (p : List Entry) → AreOwn p l.entries l.kept → l.tickets.items
    ≡ l.initial.tickets.items ++ filter (λ x. not (is_returned x.0 p)) (filter_map (λ e. ticket_in e.seq e.answer) (take l.k l.entries))
