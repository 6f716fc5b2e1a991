-- The framing that is stepped over stands at the front of the inbox.
use Rattle.std.proofs.Common.{◌≡◌, ℕ, List, Err, ◌++◌, Some, take, sym, ap, ◌∙◌}
use Rattle.std.proofs.lemmas.Result.{err_from_is_err_and}
use Rattle.std.proofs.lemmas.List.{take-append-drop}
use Rattle.jk_io.specs.Told.{prepended}
use Rattle.http_front.specs.Body.{place_behind, data_from}
use Rattle.http_front.proofs.BodyLemmas.{inbox-used}
use Rattle.http_front.proofs.ReadLemmas.{step-done, step-refused}
use Rattle.http_front.proofs.walk.pass_framing.Goals as goal

pub returns-clause-ok : goal.returns-clause-ok
returns-clause-ok g c =
    let inbox = c.await_byte.new.inbox in
    let stepped = c.step_framing-next in
    let n = stepped.result.1 in
    let incoming = g.C.Meanings.incoming c.await_byte.new.client in
    record {
      gone = take n inbox;
      used = sym c.await_byte.ensures.unread ∙ inbox-used inbox n incoming ∙ ap (λ (l : List ℕ). prepended (take n inbox) (prepended l incoming)) (sym c.skip.ensures);
      own = ap (λ (l : List ℕ). place_behind (take n l) c.args.place) (sym c.as_slice.ensures.value) ∙ stepped.ensures.own;
      brings = ap (λ (l : List ℕ). (data_from (take n l) c.args.place).bytes) (sym c.as_slice.ensures.value) ∙ stepped.ensures.brings;
    }

pub returns-clause-inside : goal.returns-clause-inside
returns-clause-inside g c = λ some.
    let inbox = c.await_byte.new.inbox in
    let stepped = c.step_framing-next in
    let n = stepped.result.1 in
    record {
      gone = take n inbox;
      used = ap Some (sym (c.await_byte.ensures.inside some) ∙ sym (take-append-drop n inbox) ∙ ap (λ (l : List ℕ). take n inbox ++ l) (sym c.skip.ensures));
      own = ap (λ (l : List ℕ). place_behind (take n l) c.args.place) (sym c.as_slice.ensures.value) ∙ stepped.ensures.own;
      brings = ap (λ (l : List ℕ). (data_from (take n l) c.args.place).bytes) (sym c.as_slice.ensures.value) ∙ stepped.ensures.brings;
    }

pub returns-in_err-await_byte-clause-steps : goal.returns-in_err-await_byte-clause-steps
returns-in_err-await_byte-clause-steps g c =
    let why = c.in_err-await_byte.field-0.0 in
    let p = err_from_is_err_and c.from_residual.result c.from_residual.ensures.1 in
    let same : c.from_residual.result ≡ Err why = cc (p.1, p.2) in
    step-refused g.C.Meanings _ _ _ _ why c.from_residual.result same c.in_err-await_byte.ensures.steps

pub returns-clause-steps : goal.returns-clause-steps
returns-clause-steps g c = step-done g.C.Meanings _ _ _ _ _ _ _ c.in_ok-await_byte.ensures.steps
