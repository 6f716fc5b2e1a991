use Rattle.std.proofs.Common.{◌≡◌, ◌++◌, List, not, take, ap, ◌∙◌, arith}
use Rattle.std.specs.List.{filter, filter_map}
use Rattle.std.proofs.lemmas.List.{take_all}
use Rattle.lb_model.specs.Tickets.{Ticket, is_returned, ticket_in}
use Rattle.lb_model.specs.declared.journal.Entry.{Entry}
use Rattle.lb_book.proofs.EndedLaws.{own-read}
use Rattle.lb_book.proofs.ending.put_own.Goals as goal

pub loop-k-preserved : goal.loop-k-preserved
loop-k-preserved c = λ p are.
    own-read p c.args.entries.now c.args.kept.now c.loop-k.k c.args.tickets.now.items c.loop-k.tickets.items c.put_if_out.new.tickets.items
    _ _ c.ticket_of.result are (omega arith) (omega arith) (c.loop-k.invariant p are) c.ticket_of.ensures c.in_ok-put_if_out.ensures

pub returns : goal.returns
returns c = λ p are.
    let end : take c.loop-k.k c.args.entries.now ≡ c.args.entries.now = take_all c.loop-k.k c.args.entries.now (omega arith) in
    c.loop-k.invariant p are
    ∙ ap (λ (es : List Entry). c.args.tickets.now.items
    ++ filter (λ (x : Ticket). not (is_returned x.0 p)) (filter_map (λ (e : Entry). ticket_in e.seq e.answer) es)) end
