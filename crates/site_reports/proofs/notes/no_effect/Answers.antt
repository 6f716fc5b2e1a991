use Rattle.std.proofs.Common.{◌≡◌, Bool, Option, ◌∙◌, ap, true, false, sym}
use Rattle.site_config.specs.Entries.{as_property}
use Rattle.site_reports.specs.Again.{is_again}
use Rattle.site_reports.specs.Notes.{key_at, or_again, value_at}
use Rattle.site_reports.specs.declared.no_effect.NoEffect.{NoEffect}
use Rattle.site_reports.proofs.notes.no_effect.Goals as goal

pub returns-in-Some : goal.returns-in-Some
returns-in-Some c = λ kinds ps is are.
    let p = as_property c.args.entry.now in
    ap (λ (key : Option NoEffect). or_again key (is_again ps p) (value_at kinds p)) (c.in-Some.ensures kinds.kinds is.0)

pub returns-then-is_again : goal.returns-then-is_again
returns-then-is_again c = λ kinds ps is are.
    let p = as_property c.args.entry.now in
    let again : is_again ps p ≡ true = sym (c.is_again.ensures ps are) ∙ c.if-is_again.true in
    ap (λ (key : Option NoEffect). or_again key true (value_at kinds p)) (c.in-None.ensures kinds.kinds is.0)
    ∙ ap (λ (b : Bool). or_again (key_at kinds.kinds p.key) b (value_at kinds p)) (sym again)

pub returns-else-is_again : goal.returns-else-is_again
returns-else-is_again c = λ kinds ps is are.
    let p = as_property c.args.entry.now in
    let once : is_again ps p ≡ false = sym (c.is_again.ensures ps are) ∙ c.if-is_again.false in
    c.value_at.ensures kinds is ∙ ap (λ (key : Option NoEffect). or_again key false (value_at kinds p)) (c.in-None.ensures kinds.kinds is.0)
    ∙ ap (λ (b : Bool). or_again (key_at kinds.kinds p.key) b (value_at kinds p)) (sym once)
