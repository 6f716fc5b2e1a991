use Rattle.std.proofs.Common.{◌≡◌, ℕ, length, refl, ◌∙◌, ap, None, replicate, arith}
use Rattle.std.specs.Prelude.{vec_capacity}
use Rattle.lb_model.specs.Multiple.{multiple_of}
use Rattle.lb_model.specs.Ranges.{factors_in}
use Rattle.lb_book.proofs.OpenedLaws.{kept_opened}
use Rattle.lb_book.proofs.beginning.opening_tables.Goals as goal

pub returns-clause-kept : goal.returns-clause-kept
returns-clause-kept c = λ v.
    let out_is : c.len-out.result ≡ length c.args.opening.now.out = c.len-out.ensures in
    let early_is : c.in_ok-early.early.items ≡ replicate (length c.args.opening.now.out) None =
    c.in_ok-early.ensures ∙ ap (λ (n : ℕ). replicate n None) out_is in
    rw (c.in_ok-entries.ensures.items, c.in_ok-returned.ensures.items)
    (kept_opened c.args.opening.now c.requires.valid v (multiple_of (factors_in c.args.opening.now.config.members)) c.args.present c.in_ok-early.early.items
    (vec_capacity c.in_ok-entries.entries) (vec_capacity c.in_ok-returned.returned) refl c.requires.rows c.requires.out
    c.requires.rest.0 c.requires.rest.1 c.requires.rest.2 early_is
    (omega (arith, c.in_ok-entries.ensures.exact, out_is)) (omega (arith, c.in_ok-returned.ensures.exact, out_is)))
