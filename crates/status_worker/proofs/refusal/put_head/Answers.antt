-- The pieces of the head of a refusal's answer, one after the other.
use Rattle.std.proofs.Common.{List, ℕ, ◌++◌, ap, codes, ◌∙◌}
use Rattle.std.proofs.lemmas.List.{append_assoc}
use Rattle.http_out.specs.Dates.{date_field}
use Rattle.status_worker.specs.Refusals.{refusal_lines}
use Rattle.status_worker.proofs.refusal.put_head.Goals as goal

pub returns-clause-added : goal.returns-clause-added
returns-clause-added c =
    let before = c.args.answer.now.items in
    let lines = c.put.ensures ∙ ap (λ (x : List ℕ). before ++ x) c.lines_of.ensures.value in
    let dated = c.put_moment.ensures.added ∙ ap (λ (x : List ℕ). x ++ date_field c.args.date) lines
    ∙ append_assoc before (refusal_lines c.args.refusal) (date_field c.args.date) in
    c.put-2.ensures ∙ ap (λ (x : List ℕ). x ++ codes "Connection: close\r\n\r\n") dated
    ∙ append_assoc before (refusal_lines c.args.refusal ++ date_field c.args.date) (codes "Connection: close\r\n\r\n")
