-- A lease that is held is of a Book that is there.
use Rattle.std.proofs.Common.{◌≡◌, ◌<◌, true, List, length, sym, subst}
use Rattle.std.specs.Prelude.{vec_capacity}
use Rattle.lb_book.specs.Desks.{DeskState, holds}
use Rattle.lb_book.specs.Journal.{Journal}
use Rattle.lb_book.specs.PlainDesks.{IsPlain}
use Rattle.lb_book.proofs.PlainLaws.{held_within}
use Rattle.lb_book.proofs.plain_desk.PlainDeskDesk.hand_back.Goals as goal

pub return_at-requires-clause-known : goal.return_at-requires-clause-known
return_at-requires-clause-known c =
    let had = subst (λ (d : DeskState). holds d.held (c.args.lease.lb, c.args.lease.lease.ticket) ≡ true) (sym c.self.view_is) c.requires.held in
    subst (λ (xs : List Journal). c.args.lease.lb < length xs) (sym c.as_mut_slice.ensures.value)
    (held_within c.self.inside.books.items c.args.lease.lb c.self.inside.held.items c.args.lease.lease.ticket had c.self.invariant.held_out)

pub return_at-requires-clause-plain : goal.return_at-requires-clause-plain
return_at-requires-clause-plain c =
    subst (λ (books : List Journal). IsPlain books c.self.inside.receipts.items c.self.inside.held.items (vec_capacity c.self.inside.receipts))
    (sym c.as_mut_slice.ensures.value) c.self.invariant
