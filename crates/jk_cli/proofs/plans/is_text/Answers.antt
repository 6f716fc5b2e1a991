use Rattle.std.proofs.Common.{sym, subst}
use Rattle.std.specs.Str.{IsUtf8}
use Rattle.std.proofs.lemmas.Bool.{false_from_ne_true}
use Rattle.std.proofs.lemmas.Str.{IsUtf8-from_is_utf8, is_utf8-from_IsUtf8}
use Rattle.jk_cli.proofs.plans.is_text.Goals as goal

pub returns-in-Ok : goal.returns-in-Ok
returns-in-Ok c = sym (is_utf8-from_IsUtf8 _ (subst (λ bs. IsUtf8 bs) c.as_slice.ensures c.in-Ok.ensures.cases.1))

pub returns-in-Err : goal.returns-in-Err
returns-in-Err c =
    sym (false_from_ne_true _ (λ valid. c.in-Err.ensures.cases.0
    (subst (λ bs. IsUtf8 bs) (sym c.as_slice.ensures) (IsUtf8-from_is_utf8 _ valid))))
