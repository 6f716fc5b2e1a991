use Rattle.std.proofs.Common.{◌≡◌, ◌++◌, ◌∙◌, ℕ, List, Some, get_or, refl, ap, subst, arith}
use Rattle.std.specs.Prelude.{slice_get, vec_capacity}
use Rattle.std.proofs.lemmas.Option.{slice_get-get_or}
use Rattle.lb_model.specs.declared.refusal.RoomError.TheVariants as room
use Rattle.lb_book.specs.Desks.{IsAskRefusal}
use Rattle.lb_book.specs.PlainDesks.{BookGainsDue, BookGainsLast}
use Rattle.lb_book.specs.PlainLeases.{pairs_in}
use Rattle.lb_book.specs.declared.receipt.Receipt.{Receipt}
use Rattle.lb_book.proofs.PlainLaws.{due_none, due-hold, plain-due, plain-picked}
use Rattle.lb_book.proofs.HoldLaws.{chooses, of_error, sizes-due, sizes-last}
use Rattle.lb_book.proofs.hold_at.select_at.Goals as goal

pub returns-in_err-reserve-clause-err : goal.returns-in_err-reserve-clause-err
returns-in_err-reserve-clause-err c =
    of_error c.from_residual.result room.NoMemory _ c.from_residual.ensures.1
    (λ f w f' w'. due_none _ _ _ _ _ _ _ _ f w f' w' _ _ c.reserve.ensures.items refl)

pub returns-in_err-reserve-2-clause-err : goal.returns-in_err-reserve-2-clause-err
returns-in_err-reserve-2-clause-err c =
    of_error c.from_residual-in_err-reserve-2.result room.NoMemory _ c.from_residual-in_err-reserve-2.ensures.1
    (λ f w f' w'. due_none _ _ _ _ _ _ _ _ f w f' w' _ _ c.reserve.ensures.items refl)

pub select_after-requires-clause-modern : goal.select_after-requires-clause-modern
select_after-requires-clause-modern c =
    c.requires.plain.modern c.args.on.lb _ (slice_get-get_or c.args.books.now c.args.on.lb c.index-books-on.result c.requires.known)

-- The hold of the Book, over the receipts before the room was taken.
pub returns-in_err-picked-clause-plain : goal.returns-in_err-picked-clause-plain
returns-in_err-picked-clause-plain c =
    let due = subst (λ (rs : List Receipt). BookGainsDue (get_or c.args.books.now c.args.on.lb c.index-books-on.result) c.select_after.new.book rs c.select_after.new.receipts.items
    c.args.on.lb c.args.on.session c.args.on.at (IsAskRefusal (λ mark. mark) c.args.on.at c.in_err-picked.field-0.0 (get_or c.args.books.now c.args.on.lb c.index-books-on.result))) c.reserve.ensures.items c.in_err-picked.ensures.err in
    plain-due c.args.books.now c.args.on.lb (get_or c.args.books.now c.args.on.lb c.index-books-on.result) c.select_after.new.book c.args.receipts.now.items
    c.select_after.new.receipts.items c.args.held.now.items c.reserve-2.new.self.items c.args.on.session c.args.on.at (vec_capacity c.args.receipts.now)
    (vec_capacity c.select_after.new.receipts) (IsAskRefusal (λ mark. mark) c.args.on.at c.in_err-picked.field-0.0 (get_or c.args.books.now c.args.on.lb c.index-books-on.result)) c.requires.plain
    (slice_get-get_or c.args.books.now c.args.on.lb c.index-books-on.result c.requires.known) due c.reserve-2.ensures.items
    (omega (arith, c.in_ok-reserve.ensures.ok, c.select_after.ensures.room, c.args.receipts.now.ok.0, c.args.held.now.ok.0, c.reserve.ensures.len, c.len.ensures))

pub returns-in_err-picked-clause-err : goal.returns-in_err-picked-clause-err
returns-in_err-picked-clause-err c =
    let here : slice_get c.args.books.now c.args.on.lb ≡ Some (get_or c.args.books.now c.args.on.lb c.index-books-on.result) =
    slice_get-get_or c.args.books.now c.args.on.lb c.index-books-on.result c.requires.known in
    let due = subst (λ (rs : List Receipt). BookGainsDue (get_or c.args.books.now c.args.on.lb c.index-books-on.result) c.select_after.new.book rs c.select_after.new.receipts.items
    c.args.on.lb c.args.on.session c.args.on.at (IsAskRefusal (λ mark. mark) c.args.on.at c.in_err-picked.field-0.0 (get_or c.args.books.now c.args.on.lb c.index-books-on.result))) c.reserve.ensures.items c.in_err-picked.ensures.err in
    of_error c.from_residual-in_err-picked.result c.in_err-picked.field-0.0 _ c.from_residual-in_err-picked.ensures.1
    (λ f w f' w'. due-hold c.args.books.now c.args.on.lb (get_or c.args.books.now c.args.on.lb c.index-books-on.result) c.select_after.new.book c.args.receipts.now.items c.select_after.new.receipts.items
    c.args.held.now.items c.reserve-2.new.self.items c.args.on.session c.args.on.at f w f' w' _ _ c.requires.plain.modern c.requires.plain.legal here due)

pub returns-in_err-picked-clause-sizes : goal.returns-in_err-picked-clause-sizes
returns-in_err-picked-clause-sizes c =
    sizes-due _ _ _ _ _ _ _ _ (IsAskRefusal (λ mark. mark) c.args.on.at c.in_err-picked.field-0.0 (get_or c.args.books.now c.args.on.lb c.index-books-on.result))
    (slice_get-get_or c.args.books.now c.args.on.lb c.index-books-on.result c.requires.known) c.in_err-picked.ensures.err

pub returns-clause-plain : goal.returns-clause-plain
returns-clause-plain c =
    let last = subst (λ (rs : List Receipt). BookGainsLast (get_or c.args.books.now c.args.on.lb c.index-books-on.result) c.select_after.new.book rs
    c.select_after.new.receipts.items c.args.on.lb c.args.on.session c.args.on.at (record { lb = c.args.on.lb; given = c.args.on.at; entry = c.in_ok-picked.picked.entry }))
    c.reserve.ensures.items c.in_ok-picked.ensures.ok in
    let tickets : c.chosen.new.held.items ≡ c.args.held.now.items ++ pairs_in c.args.on.lb c.in_ok-picked.picked.entry.answer =
    c.chosen.ensures.held ∙ ap (λ (xs : List (ℕ × ℕ)). xs ++ pairs_in c.args.on.lb c.in_ok-picked.picked.entry.answer) c.reserve-2.ensures.items in
    plain-picked c.args.books.now c.args.on.lb (get_or c.args.books.now c.args.on.lb c.index-books-on.result) c.select_after.new.book c.args.receipts.now.items
    c.select_after.new.receipts.items c.args.held.now.items c.chosen.new.held.items c.args.on.session c.args.on.at (vec_capacity c.args.receipts.now)
    (vec_capacity c.select_after.new.receipts) (record { lb = c.args.on.lb; given = c.args.on.at; entry = c.in_ok-picked.picked.entry }) c.args.ask.now
    c.in_ok-picked.picked.entry.seq c.in_ok-picked.picked.entry.answer c.requires.plain
    (slice_get-get_or c.args.books.now c.args.on.lb c.index-books-on.result c.requires.known) last c.in_ok-picked.ensures.picks tickets
    (omega (arith, c.in_ok-reserve.ensures.ok, c.select_after.ensures.room, c.args.receipts.now.ok.0, c.args.held.now.ok.0, c.reserve.ensures.len, c.len.ensures))

pub returns-clause-ok : goal.returns-clause-ok
returns-clause-ok c =
    let last = subst (λ (rs : List Receipt). BookGainsLast (get_or c.args.books.now c.args.on.lb c.index-books-on.result) c.select_after.new.book rs
    c.select_after.new.receipts.items c.args.on.lb c.args.on.session c.args.on.at (record { lb = c.args.on.lb; given = c.args.on.at; entry = c.in_ok-picked.picked.entry }))
    c.reserve.ensures.items c.in_ok-picked.ensures.ok in
    let tickets : c.chosen.new.held.items ≡ c.args.held.now.items ++ pairs_in c.args.on.lb c.in_ok-picked.picked.entry.answer =
    c.chosen.ensures.held ∙ ap (λ (xs : List (ℕ × ℕ)). xs ++ pairs_in c.args.on.lb c.in_ok-picked.picked.entry.answer) c.reserve-2.ensures.items in
    chooses c.args.books.now c.args.on.lb (get_or c.args.books.now c.args.on.lb c.index-books-on.result) c.select_after.new.book c.args.receipts.now.items
    c.select_after.new.receipts.items c.args.held.now.items c.chosen.new.held.items c.args.on.session c.args.on.at c.args.ask.now c.in_ok-picked.picked.entry
    c.chosen.result c.requires.plain.modern c.requires.plain.legal (slice_get-get_or c.args.books.now c.args.on.lb c.index-books-on.result c.requires.known) last c.in_ok-picked.ensures.asked
    c.in_ok-picked.ensures.picks c.chosen.ensures.choice tickets

pub returns-clause-sizes : goal.returns-clause-sizes
returns-clause-sizes c =
    sizes-last _ _ _ _ _ _ _ _ _ (slice_get-get_or c.args.books.now c.args.on.lb c.index-books-on.result c.requires.known) c.in_ok-picked.ensures.ok
