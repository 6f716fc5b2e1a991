-- The bytes that are copied are those at the front of the inbox.
use Rattle.std.proofs.Common.{◌≡◌, ℕ, List, ◌++◌, Some, take, drop, sym, ap, ◌∙◌}
use Rattle.std.proofs.lemmas.List.{take-append-drop}
use Rattle.jk_io.specs.Told.{prepended}
use Rattle.http_front.proofs.BodyLemmas.{inbox-used}
use Rattle.http_front.proofs.walk.next_data.Goals as goal

pub returns-clause-came : goal.returns-clause-came
returns-clause-came g c =
    let inbox = c.args.inbox.now in
    let n = c.copy_front-count.result in
    let incoming = g.C.Meanings.incoming c.args.client.now in
    let rest = prepended (drop n inbox) incoming in
    inbox-used inbox n incoming
    ∙ ap (λ (l : List ℕ). prepended l rest) (sym (c.copy_front-count.ensures.copied ∙ ap (λ (l : List ℕ). take n l) c.as_slice.ensures.value))
    ∙ ap (λ (l : List ℕ). prepended (take n c.copy_front-count.new.buf) (prepended l incoming)) (sym c.skip.ensures)

pub returns-clause-inside : goal.returns-clause-inside
returns-clause-inside g c = λ some.
    let inbox = c.args.inbox.now in
    let n = c.copy_front-count.result in
    let copied : take n c.copy_front-count.new.buf ≡ take n inbox = c.copy_front-count.ensures.copied ∙ ap (λ (l : List ℕ). take n l) c.as_slice.ensures.value in
    let whole : inbox ≡ take n inbox ++ drop n inbox = sym (take-append-drop n inbox) in
    ap Some (whole ∙ ap (λ (l : List ℕ). l ++ drop n inbox) (sym copied) ∙ ap (λ (l : List ℕ). take n c.copy_front-count.new.buf ++ l) (sym c.skip.ensures))
