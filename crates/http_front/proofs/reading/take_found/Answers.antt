-- A head that was found, as it is or refused; or the end.
use Rattle.std.proofs.Common.{◌≡◌, ◌+◌, ◌-◌, ℕ, List, Err, take, drop, sym, ap, subst, ◌∙◌, refl, arith}
use Rattle.std.proofs.lemmas.Result.{err_from_is_err_and}
use Rattle.jk_io.specs.Told.{prepended}
use Rattle.http_front.specs.Answer.{UsesHead}
use Rattle.http_front.proofs.MakesLemmas.{uses-head, uses-end, refuses-head}
use Rattle.http_front.proofs.reading.take_found.Goals as goal

pub returns-in_ok-head-in-Head-clause-head : goal.returns-in_ok-head-in-Head-clause-head
returns-in_ok-head-in-Head-clause-head c = λ more.
    let inbox = c.args.inbox.now in
    let blank = c.in-Head.blank in
    let len = c.in-Head.len in
    let whole = rw c.in-Head.is at c.requires in
    let width : blank + len - blank ≡ len = omega arith in
    let slice = ap (λ (n : ℕ). take n (drop blank c.as_slice.result.now)) width ∙ ap (λ (l : List ℕ). take len (drop blank l)) c.as_slice.ensures.value in
    let P : List ℕ → Type 0 = λ l. UsesHead (prepended inbox more) (prepended l more) c.in_ok-head-in-Head.head in
    subst P (sym c.skip.ensures) (uses-head inbox _ blank len c.in_ok-head-in-Head.head _ _ whole c.as_slice.ensures.few slice c.in_ok-head-in-Head.ensures refl)

pub returns-in_err-head-in-Head-clause-refused : goal.returns-in_err-head-in-Head-clause-refused
returns-in_err-head-in-Head-clause-refused c =
    let inbox = c.args.inbox.now in
    let blank = c.in-Head.blank in
    let len = c.in-Head.len in
    let whole = rw c.in-Head.is at c.requires in
    let width : blank + len - blank ≡ len = omega arith in
    let slice = ap (λ (n : ℕ). take n (drop blank c.as_slice.result.now)) width ∙ ap (λ (l : List ℕ). take len (drop blank l)) c.as_slice.ensures.value in
    let p = err_from_is_err_and c.from_residual.result c.from_residual.ensures.1 in
    let h = refuses-head inbox _ blank len _ whole c.as_slice.ensures.few slice c.in_err-head-in-Head.ensures in
    let same : c.from_residual.result ≡ Err c.in_err-head-in-Head.field-0.0 = cc (p.1, p.2) in
    rw same h

pub returns-in-End-clause-end : goal.returns-in-End-clause-end
returns-in-End-clause-end c = λ more over.
    let inbox = c.args.inbox.now in
    let empty = rw c.in-End.is at c.requires in
    let ended = rw c.in-End.is at over in
    uses-end inbox c.skip-in-End.new.self more empty (c.skip-in-End.ensures ∙ ap (λ (n : ℕ). drop n inbox) c.len.ensures.len) (ended tt)
