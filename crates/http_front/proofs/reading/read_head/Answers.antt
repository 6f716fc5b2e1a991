-- The head that was found is taken from the inbox, and the client is no more touched.
use Rattle.std.proofs.Common.{◌≡◌, ℕ, List, Option, ap, subst, ◌∙◌}
use Rattle.jk_io.specs.Told.{prepended}
use Rattle.http_front.specs.Answer.{IfHead, OnEnd, UsesHead, UsesEnd}
use Rattle.http_front.proofs.InboxLemmas.{on_err_map}
use Rattle.http_front.proofs.reading.read_head.Goals as goal

pub returns-clause-head : goal.returns-clause-head
returns-clause-head g c =
    let more = g.C.Meanings.incoming c.find_head.new.client in
    let P : Option (List ℕ) → Type 0 = λ o. IfHead c.take_found.result (UsesHead o (prepended c.take_found.new.inbox more)) in
    subst P c.find_head.ensures.unread (c.take_found.ensures.head more)

pub returns-clause-end : goal.returns-clause-end
returns-clause-end g c =
    let more = g.C.Meanings.incoming c.find_head.new.client in
    let P : Option (List ℕ) → Type 0 = λ o. OnEnd c.take_found.result (UsesEnd o (prepended c.take_found.new.inbox more)) in
    subst P c.find_head.ensures.unread (c.take_found.ensures.end more c.in_ok-found.ensures.ended)

pub returns-clause-truncated : goal.returns-clause-truncated
returns-clause-truncated g c = λ is. absurd (c.take_found.ensures.not_cut is)

pub returns-clause-fault : goal.returns-clause-fault
returns-clause-fault g c = λ is. absurd (c.take_found.ensures.no_fault is)

pub returns-clause-err : goal.returns-clause-err
returns-clause-err g c =
    let more = g.C.Meanings.incoming c.find_head.new.client in
    on_err_map c.take_found.result (λ (same : c.take_found.new.inbox ≡ c.find_head.new.inbox). ap (λ (l : List ℕ). prepended l more) same ∙ c.find_head.ensures.unread)
    c.take_found.ensures.err

pub returns-clause-awaited : goal.returns-clause-awaited
returns-clause-awaited g c = λ is decided. c.take_found.ensures.no_fault is

pub returns-clause-steady : goal.returns-clause-steady
returns-clause-steady g c = λ calm. c.in_ok-found.ensures.reads.steady tt
