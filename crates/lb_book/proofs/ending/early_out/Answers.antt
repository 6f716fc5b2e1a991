use Rattle.std.proofs.Common.{◌≡◌, not, take, ap, ◌∙◌, arith}
use Rattle.std.specs.List.{filter}
use Rattle.std.proofs.lemmas.List.{take_all}
use Rattle.lb_model.specs.Tickets.{Ticket, is_returned}
use Rattle.lb_book.proofs.EndedLaws.{early-read}
use Rattle.lb_book.proofs.ending.early_out.Goals as goal

pub loop-i-preserved : goal.loop-i-preserved
loop-i-preserved c = λ p are.
    early-read p c.args.out.now c.args.early.now c.loop-i.i c.loop-i.tickets.items c.put_if_out.new.tickets.items _ _ are
    (omega arith) (omega arith) (c.loop-i.invariant p are) c.in_ok-put_if_out.ensures

pub returns : goal.returns
returns c = λ p are.
    let end : take c.loop-i.i c.args.out.now ≡ c.args.out.now = take_all c.loop-i.i c.args.out.now (omega arith) in
    c.loop-i.invariant p are ∙ ap (filter (λ (x : Ticket). not (is_returned x.0 p))) end
