-- The bytes that are dropped are those at the front of the inbox.
use Rattle.std.proofs.Common.{◌≡◌, Err, arith, ℕ, List, ◌++◌, take, sym, ap, ◌∙◌}
use Rattle.std.proofs.lemmas.Result.{err_from_is_err_and}
use Rattle.std.proofs.lemmas.List.{length-take-le, take-append-drop}
use Rattle.jk_io.specs.Told.{prepended}
use Rattle.http_front.proofs.BodyLemmas.{inbox-used}
use Rattle.http_front.proofs.ReadLemmas.{step-done, step-refused}
use Rattle.http_front.proofs.walk.drop_data.Goals as goal

pub returns-clause-gone : goal.returns-clause-gone
returns-clause-gone g c =
    let inbox = c.await_byte.new.inbox in
    let n = c.count_of-count.result in
    let incoming = g.C.Meanings.incoming c.await_byte.new.client in
    record {
      gone = take n inbox;
      count = length-take-le n inbox (omega (arith, c.count_of-count.ensures, c.len.ensures.len));
      used = sym c.await_byte.ensures.unread ∙ inbox-used inbox n incoming ∙ ap (λ (l : List ℕ). prepended (take n inbox) (prepended l incoming)) (sym c.skip.ensures);
      inside = λ some. sym (c.await_byte.ensures.inside some) ∙ sym (take-append-drop n inbox) ∙ ap (λ (l : List ℕ). take n inbox ++ l) (sym c.skip.ensures);
    }

pub returns-in_err-await_byte-clause-steps : goal.returns-in_err-await_byte-clause-steps
returns-in_err-await_byte-clause-steps g c =
    let why = c.in_err-await_byte.field-0.0 in
    let p = err_from_is_err_and c.from_residual.result c.from_residual.ensures.1 in
    let same : c.from_residual.result ≡ Err why = cc (p.1, p.2) in
    step-refused g.C.Meanings _ _ _ _ why c.from_residual.result same c.in_err-await_byte.ensures.steps

pub returns-clause-steps : goal.returns-clause-steps
returns-clause-steps g c = step-done g.C.Meanings _ _ _ _ _ _ _ c.in_ok-await_byte.ensures.steps
