-- The lists of the desk are lent to a Select.
use Rattle.std.proofs.Common.{◌∙◌, List, length, sym, ap, subst}
use Rattle.std.specs.Prelude.{vec_capacity}
use Rattle.lb_book.specs.Journal.{Journal}
use Rattle.lb_book.specs.PlainDesks.{IsPlain}
use Rattle.lb_book.proofs.PlainDeskLaws.{desk_chose, desk_denied, lent_back}
use Rattle.lb_book.proofs.plain_desk.PlainDeskDesk.choose.Goals as goal

pub select_at-done-requires-clause-plain : goal.select_at-done-requires-clause-plain
select_at-done-requires-clause-plain c =
    subst (λ (books : List Journal). IsPlain books c.self.inside.receipts.items c.self.inside.held.items (vec_capacity c.self.inside.receipts))
    (sym c.as_mut_slice.ensures.value) c.self.invariant

pub returns-clause-ok : goal.returns-clause-ok
returns-clause-ok c =
    let done = c.select_at-done in
    let whole = c.self.inside.books.ok.0 ∙ sym (ap length c.as_mut_slice.ensures.value) ∙ sym done.ensures.len in
    desk_chose c.as_mut_slice.result.now c.self.inside.books.items _ done.new.books c.self.inside.receipts.items done.new.receipts.items c.self.inside.held.items
    done.new.held.items c.self.inside.fulls c.count_full.new.fulls c.self.inside.wides _ c.args.ask.now done.result c.args.self.now c.as_mut_slice.ensures.value
    (lent_back c.self.inside.books.len done.new.books _ whole) c.self.view_is done.ensures.ok c.count_full.ensures

pub returns-clause-err : goal.returns-clause-err
returns-clause-err c =
    let done = c.select_at-done in
    let whole = c.self.inside.books.ok.0 ∙ sym (ap length c.as_mut_slice.ensures.value) ∙ sym done.ensures.len in
    desk_denied c.as_mut_slice.result.now c.self.inside.books.items _ done.new.books c.self.inside.receipts.items done.new.receipts.items c.self.inside.held.items
    done.new.held.items c.self.inside.fulls c.count_full.new.fulls c.self.inside.wides _ done.result c.args.self.now c.as_mut_slice.ensures.value
    (lent_back c.self.inside.books.len done.new.books _ whole) c.self.view_is done.ensures.err done.ensures.held c.count_full.ensures
