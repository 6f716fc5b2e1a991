use Rattle.std.proofs.Common.{◌≡◌, ℕ, List, ◌++◌, OnOk, codes, length, ap, subst, ◌∙◌, append_assoc}
use Rattle.drill.specs.Requests.{bodies_of}
use Rattle.drill.specs.Summaries.{choices_of, compared_line, summary_line}
use Rattle.drill.proofs.summary.put_summary.Goals as goal

-- a text to which seven lines were added
joined : (t a b d e f g h u v w x y z : List ℕ) → u ≡ t ++ a → v ≡ u ++ b → w ≡ v ++ d → x ≡ w ++ e → y ≡ x ++ f → z ≡ y ++ g
    → z ++ h ≡ t ++ (a ++ (b ++ (d ++ (e ++ (f ++ (g ++ h))))))
joined t a b d e f g h u v w x y z p q r s k l = rw (l, k, s, r, q, p) (simp append_assoc)

pub returns : goal.returns
returns c =
    let plan = c.args.plan in
    let entries = c.args.entries.now in
    let requests = c.in_ok-put_line.ensures ∙ ap (λ (n : ℕ). c.args.out.now ++ summary_line (codes "requests") n) c.from.ensures in
    let of_a = c.in_ok-put_line-2.ensures ∙ ap (λ (n : ℕ). c.put_line.new.out ++ summary_line (codes "a") n) c.choices_of.ensures in
    let of_b = c.in_ok-put_line-3.ensures ∙ ap (λ (n : ℕ). c.put_line-2.new.out ++ summary_line (codes "b") n) c.choices_of-2.ensures in
    let body = c.in_ok-put_line-4.ensures ∙ ap (λ (n : ℕ). c.put_line-3.new.out ++ summary_line (codes "body") n) c.bodies_of.ensures in
    let whole =
    joined c.args.out.now (summary_line (codes "requests") plan.requests) (summary_line (codes "a") (choices_of 0 entries))
    (summary_line (codes "b") (choices_of 1 entries)) (summary_line (codes "body") (bodies_of plan.seed plan.requests))
    (summary_line (codes "entries") (length entries)) (compared_line plan.threads c.args.passes)
    (summary_line (codes "journal good") (length entries)) c.put_line.new.out c.put_line-2.new.out c.put_line-3.new.out c.put_line-4.new.out
    c.put_line-5.new.out c.put_compared.new.out requests of_a of_b body c.in_ok-put_line-5.ensures c.in_ok-put_compared.ensures in
    subst (λ (text : List ℕ). OnOk c.put_line-6.result (c.put_line-6.new.out ≡ text)) whole c.put_line-6.ensures
