use Rattle.std.proofs.Common.{◌≡◌, ℕ, List, Some, get_or, refl, subst, arith}
use Rattle.std.specs.Prelude.{slice_get, slice_set, vec_capacity, IfErr, OnOk}
use Rattle.std.proofs.lemmas.Option.{slice_get-get_or}
use Rattle.lb_model.specs.declared.refusal.AdminError.TheVariants as admin
use Rattle.lb_book.specs.Desks.{Commands, GainsDue, IsCommandRefusal}
use Rattle.lb_book.specs.PlainDesks.{IsPlain, plain_state}
use Rattle.lb_book.specs.declared.receipt.Receipt.{Receipt}
use Rattle.lb_book.proofs.PlainLaws.{due_none, plain-none}
use Rattle.lb_book.proofs.HoldLaws.{command_err, command_ok, command_plain, command_sizes, of_error}
use Rattle.lb_book.proofs.hold_at.command_at.Goals as goal

pub returns-in_err-reserve-clause-err : goal.returns-in_err-reserve-clause-err
returns-in_err-reserve-clause-err c =
    of_error c.from_residual.result admin.NoMemory _ c.from_residual.ensures.1
    (λ f w f' w'. due_none _ _ _ _ _ _ _ _ f w f' w' _ _ c.reserve.ensures.items refl)

pub returns-clause-plain : goal.returns-clause-plain
returns-clause-plain c =
    let here : slice_get c.args.books.now c.args.on.lb ≡ Some (get_or c.args.books.now c.args.on.lb c.index-books-on.result) =
    slice_get-get_or c.args.books.now c.args.on.lb c.index-books-on.result c.requires.known in
    let is : IsPlain c.args.books.now c.reserve.new.self.items c.args.held.now (vec_capacity c.reserve.new.self) =
    plain-none c.args.books.now c.args.receipts.now.items c.reserve.new.self.items c.args.held.now c.args.held.now _ _ c.requires.plain
    c.reserve.ensures.items refl (omega (arith, c.reserve.ensures.capacity)) in
    command_plain c.command_after.result
    (λ e. IsCommandRefusal (λ mark. mark) c.args.on.at c.args.command.now e (get_or c.args.books.now c.args.on.lb c.index-books-on.result))
    c.args.books.now c.args.on.lb (get_or c.args.books.now c.args.on.lb c.index-books-on.result) c.command_after.new.book
    c.reserve.new.self.items c.command_after.new.receipts.items c.args.held.now c.args.on.session c.args.on.at _ _ c.args.command.now is here
    c.command_after.ensures.ok c.command_after.ensures.err
    (omega (arith, c.in_ok-reserve.ensures.ok, c.command_after.ensures.room, c.reserve.new.self.ok.0, c.reserve.ensures.len))

pub returns-clause-ok : goal.returns-clause-ok
returns-clause-ok c =
    let here : slice_get c.args.books.now c.args.on.lb ≡ Some (get_or c.args.books.now c.args.on.lb c.index-books-on.result) =
    slice_get-get_or c.args.books.now c.args.on.lb c.index-books-on.result c.requires.known in
    subst (λ (rs : List Receipt). OnOk c.command_after.result ((f w : ℕ) → Commands (plain_state c.args.books.now rs c.args.held.now 0 f w)
    (plain_state (slice_set c.args.books.now c.args.on.lb c.command_after.new.book) c.command_after.new.receipts.items c.args.held.now 0 f w)
    c.args.on.lb c.args.on.session c.args.on.at c.args.command.now)) c.reserve.ensures.items
    (command_ok c.command_after.result _ _ _ _ _ _ c.args.held.now _ _ _ c.requires.plain.modern c.requires.plain.legal here c.command_after.ensures.ok c.command_after.ensures.named)

pub returns-clause-err : goal.returns-clause-err
returns-clause-err c =
    let here : slice_get c.args.books.now c.args.on.lb ≡ Some (get_or c.args.books.now c.args.on.lb c.index-books-on.result) =
    slice_get-get_or c.args.books.now c.args.on.lb c.index-books-on.result c.requires.known in
    subst (λ (rs : List Receipt). IfErr c.command_after.result (λ e. (f w f' w' : ℕ) → GainsDue (plain_state c.args.books.now rs c.args.held.now 0 f w)
    (plain_state (slice_set c.args.books.now c.args.on.lb c.command_after.new.book) c.command_after.new.receipts.items c.args.held.now 0 f' w')
    c.args.on.lb c.args.on.session c.args.on.at
    (e ≡ admin.NoMemory) (IsCommandRefusal (λ mark. mark) c.args.on.at c.args.command.now e))) c.reserve.ensures.items
    (command_err c.command_after.result _ _ _ _ _ _ c.args.held.now _ _ c.args.command.now c.requires.plain.modern c.requires.plain.legal here c.command_after.ensures.err)

pub returns-clause-sizes : goal.returns-clause-sizes
returns-clause-sizes c =
    let here : slice_get c.args.books.now c.args.on.lb ≡ Some (get_or c.args.books.now c.args.on.lb c.index-books-on.result) =
    slice_get-get_or c.args.books.now c.args.on.lb c.index-books-on.result c.requires.known in
    command_sizes c.command_after.result
    (λ e. IsCommandRefusal (λ mark. mark) c.args.on.at c.args.command.now e (get_or c.args.books.now c.args.on.lb c.index-books-on.result))
    _ _ _ _ _ _ _ _ c.args.command.now here c.command_after.ensures.ok c.command_after.ensures.err
