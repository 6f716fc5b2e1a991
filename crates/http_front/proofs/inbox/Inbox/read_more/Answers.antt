-- The bytes that came stand after those that were there.
use Rattle.std.proofs.Common.{ℕ, ◌+◌, ◌-◌, List, ◌++◌, take, ap, ◌∙◌, arith}
use Rattle.std.proofs.lemmas.List.{with_items_is}
use Rattle.std.specs.List.{between}
use Rattle.jk_io.specs.Told.{prepended}
use Rattle.http_front.proofs.InboxLemmas.{between-more, between-same, unread-more, on_err_any}
use Rattle.http_front.proofs.inbox.Inbox.read_more.Goals as goal

pub returns-in_err-count-clause-unread : goal.returns-in_err-count-clause-unread
returns-in_err-count-clause-unread g c =
    let room = c.make_room-self-inside in
    let end = room.result + (c.self.inside.end - c.self.inside.start) in
    let err = c.in_err-count.ensures.err in
    let items = with_items_is room.new.buffer c.read_behind.new.buffer (omega (arith, c.as_mut_slice.ensures.len, c.read_behind.auto.buffer)) in
    let view = ap (λ (l : List ℕ). between room.result end l) items ∙ between-same room.result end room.new.buffer.items c.read_behind.new.buffer (err.0 ∙ ap (λ (l : List ℕ). take end l) c.as_mut_slice.ensures.value) ∙ room.ensures.kept ∙ c.self.view_is in
    ap (λ (l : List ℕ). prepended l (g.C.Meanings.incoming c.read_behind.new.client)) view ∙ ap (prepended c.args.self.now) err.1

pub returns-in_err-count-clause-err : goal.returns-in_err-count-clause-err
returns-in_err-count-clause-err g c =
    let room = c.make_room-self-inside in
    let end = room.result + (c.self.inside.end - c.self.inside.start) in
    let err = c.in_err-count.ensures.err in
    let items = with_items_is room.new.buffer c.read_behind.new.buffer (omega (arith, c.as_mut_slice.ensures.len, c.read_behind.auto.buffer)) in
    on_err_any c.from_residual.result (ap (λ (l : List ℕ). between room.result end l) items ∙ between-same room.result end room.new.buffer.items c.read_behind.new.buffer (err.0 ∙ ap (λ (l : List ℕ). take end l) c.as_mut_slice.ensures.value) ∙ room.ensures.kept ∙ c.self.view_is)

pub returns-clause-more : goal.returns-clause-more
returns-clause-more g c =
    let room = c.make_room-self-inside in
    let end = room.result + (c.self.inside.end - c.self.inside.start) in
    let n = c.in_ok-count.count in
    let came = c.in_ok-count.ensures.more in
    let items = with_items_is room.new.buffer c.read_behind.new.buffer (omega (arith, c.as_mut_slice.ensures.len, c.read_behind.auto.buffer)) in
    let read = came.2 ∙ ap (λ (l : List ℕ). take end l ++ came.0) c.as_mut_slice.ensures.value in
    let view = ap (λ (l : List ℕ). between room.result (end + n) l) items ∙ between-more room.result end n room.new.buffer.items c.read_behind.new.buffer came.0 (omega arith) (omega (arith, room.ensures.fits, room.ensures.len)) read ∙ ap (λ (l : List ℕ). l ++ came.0) (room.ensures.kept ∙ c.self.view_is) in
    (came.0, came.1, view)

pub returns-clause-unread : goal.returns-clause-unread
returns-clause-unread g c =
    let room = c.make_room-self-inside in
    let end = room.result + (c.self.inside.end - c.self.inside.start) in
    let n = c.in_ok-count.count in
    let came = c.in_ok-count.ensures.more in
    let items = with_items_is room.new.buffer c.read_behind.new.buffer (omega (arith, c.as_mut_slice.ensures.len, c.read_behind.auto.buffer)) in
    let read = came.2 ∙ ap (λ (l : List ℕ). take end l ++ came.0) c.as_mut_slice.ensures.value in
    let view = ap (λ (l : List ℕ). between room.result (end + n) l) items ∙ between-more room.result end n room.new.buffer.items c.read_behind.new.buffer came.0 (omega arith) (omega (arith, room.ensures.fits, room.ensures.len)) read ∙ ap (λ (l : List ℕ). l ++ came.0) (room.ensures.kept ∙ c.self.view_is) in
    unread-more _ c.args.self.now came.0 _ _ view came.3
