-- The lists of the desk are lent to a command.
use Rattle.std.proofs.Common.{◌∙◌, ℕ, List, length, sym, ap, subst}
use Rattle.std.specs.Prelude.{vec_capacity}
use Rattle.lb_book.specs.Journal.{Journal}
use Rattle.lb_book.specs.PlainDesks.{IsPlain}
use Rattle.lb_book.proofs.PlainDeskLaws.{desk_commanded, desk_refused, lent_back}
use Rattle.lb_book.proofs.plain_desk.PlainDeskDesk.command.Goals as goal

pub command_at-done-requires-clause-plain : goal.command_at-done-requires-clause-plain
command_at-done-requires-clause-plain c =
    subst (λ (books : List Journal). IsPlain books c.self.inside.receipts.items c.as_slice.result.now (vec_capacity c.self.inside.receipts))
    (sym c.as_mut_slice.ensures.value)
    (subst (λ (held : List (ℕ × ℕ)). IsPlain c.self.inside.books.items c.self.inside.receipts.items held (vec_capacity c.self.inside.receipts))
    (sym c.as_slice.ensures.value) c.self.invariant)

pub returns-clause-ok : goal.returns-clause-ok
returns-clause-ok c =
    let done = c.command_at-done in
    let whole = c.self.inside.books.ok.0 ∙ sym (ap length c.as_mut_slice.ensures.value) ∙ sym done.ensures.len in
    desk_commanded c.as_mut_slice.result.now c.self.inside.books.items _ done.new.books c.self.inside.receipts.items done.new.receipts.items c.as_slice.result.now
    c.self.inside.held.items c.self.inside.fulls c.count_refusal.new.fulls c.self.inside.wides c.count_refusal.new.wides _ c.args.command.now done.result c.args.self.now
    c.as_mut_slice.ensures.value c.as_slice.ensures.value (lent_back c.self.inside.books.len done.new.books _ whole) c.self.view_is done.ensures.ok c.count_refusal.ensures

pub returns-clause-err : goal.returns-clause-err
returns-clause-err c =
    let done = c.command_at-done in
    let whole = c.self.inside.books.ok.0 ∙ sym (ap length c.as_mut_slice.ensures.value) ∙ sym done.ensures.len in
    desk_refused c.as_mut_slice.result.now c.self.inside.books.items _ done.new.books c.self.inside.receipts.items done.new.receipts.items c.as_slice.result.now
    c.self.inside.held.items c.self.inside.fulls c.count_refusal.new.fulls c.self.inside.wides c.count_refusal.new.wides _ c.args.command.now done.result c.args.self.now
    c.as_mut_slice.ensures.value c.as_slice.ensures.value (lent_back c.self.inside.books.len done.new.books _ whole) c.self.view_is done.ensures.err c.count_refusal.ensures
