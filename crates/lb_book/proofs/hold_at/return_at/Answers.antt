use Rattle.std.proofs.Common.{◌∙◌, get_or, ap}
use Rattle.std.specs.Prelude.{vec_capacity}
use Rattle.std.proofs.lemmas.Option.{slice_get-get_or}
use Rattle.lb_book.specs.Journal.{Journal}
use Rattle.lb_book.proofs.PlainLaws.{held_is_out, plain-return, sizes-hold, without-last}
use Rattle.lb_book.proofs.HoldLaws.{takes_back}
use Rattle.lb_book.proofs.hold_at.return_at.Goals as goal

pub unreachable-requires : goal.unreachable-requires
unreachable-requires c =
    let out = held_is_out c.args.books.now c.args.on.lb (get_or c.args.books.now c.args.on.lb c.index-books-on.result) c.args.held.now.items c.args.ticket
    (slice_get-get_or c.args.books.now c.args.on.lb c.index-books-on.result c.requires.known) c.requires.held c.requires.plain.held_out in
    let ok = c.in_default.ensures.found.1 out in
    absurd cc

pub returns-clause-plain : goal.returns-clause-plain
returns-clause-plain c =
    plain-return c.args.books.now c.args.on.lb (get_or c.args.books.now c.args.on.lb c.index-books-on.result) c.return_ticket-returned.new.self
    c.args.receipts.now.items c.note.new.receipts.items c.args.held.now.items c.take_out.new.held.items c.args.on.session c.args.on.at
    (vec_capacity c.args.receipts.now) (vec_capacity c.note.new.receipts) c.args.ticket c.args.outcome c.in-Ok.entry c.requires.plain
    (slice_get-get_or c.args.books.now c.args.on.lb c.index-books-on.result c.requires.known) c.in-Ok.ensures.ok c.in-Ok.ensures.sound c.note.ensures.added c.requires.held
    c.take_out.ensures c.note.ensures.room

pub returns-clause-back : goal.returns-clause-back
returns-clause-back c = λ m f w.
    takes_back c.args.books.now c.args.on.lb (get_or c.args.books.now c.args.on.lb c.index-books-on.result) c.return_ticket-returned.new.self
    c.args.receipts.now.items c.note.new.receipts.items c.args.held.now.items c.take_out.new.held.items c.args.on.session c.args.on.at
    c.args.ticket c.args.outcome c.in-Ok.entry c.requires.plain.modern c.requires.plain.legal (slice_get-get_or c.args.books.now c.args.on.lb c.index-books-on.result c.requires.known)
    c.in-Ok.ensures.ok c.in-Ok.ensures.done c.in-Ok.ensures.next c.note.ensures.added m f w

pub returns-clause-held : goal.returns-clause-held
returns-clause-held c =
    c.take_out.ensures ∙ without-last c.args.books.now c.args.held.now.items (c.args.on.lb, c.args.ticket) c.requires.plain.held_out

pub returns-clause-sizes : goal.returns-clause-sizes
returns-clause-sizes c =
    sizes-hold c.args.books.now c.args.on.lb (get_or c.args.books.now c.args.on.lb c.index-books-on.result) c.return_ticket-returned.new.self
    (slice_get-get_or c.args.books.now c.args.on.lb c.index-books-on.result c.requires.known)
    (ap (λ (b : Journal). b.opening) c.in-Ok.ensures.ok.grown)
