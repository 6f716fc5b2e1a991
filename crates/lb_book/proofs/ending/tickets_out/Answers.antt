use Rattle.std.proofs.Common.{◌++◌, List, not, reverse, ap, ◌∙◌}
use Rattle.std.specs.List.{filter, filter_map}
use Rattle.lb_model.specs.Tickets.{Ticket, is_returned, ticket_in}
use Rattle.lb_model.specs.declared.journal.Entry.{Entry}
use Rattle.lb_book.proofs.EndedLaws.{early_of, own_of}
use Rattle.lb_book.proofs.EndingLaws.{out-oldest}
use Rattle.lb_book.proofs.ending.tickets_out.Goals as goal

pub returns : goal.returns
returns c = λ v legal.
    let p : List Entry = reverse c.args.entries.now in
    let early = rw c.as_slice.ensures at c.in_ok-tickets.ensures in
    c.in_ok-put_own.ensures p (own_of v c.args.opening.now c.args.entries.now c.args.kept.now c.args.early.now legal c.requires)
    ∙ ap (λ (xs : List Ticket). xs ++ filter (λ (x : Ticket). not (is_returned x.0 p)) (filter_map (λ (e : Entry). ticket_in e.seq e.answer) c.args.entries.now))
    (early p (early_of c.args.opening.now p c.args.kept.now c.args.early.now c.requires))
    ∙ out-oldest c.args.opening.now c.args.entries.now
