use Rattle.std.proofs.Common.{ap, ◌∙◌}
use Rattle.std.proofs.lemmas.Slice.Eq.{bytes_eq-Decides}
use Rattle.std.proofs.lemmas.Bool.Decides.{same_from_decides}
use Rattle.std.specs.Str.{str_eq_ignore_ascii_case}
use Rattle.ajp_container.proofs.request.is_named.Goals as goal

pub returns : goal.returns
returns c =
    same_from_decides c.eq_ignore_ascii_case.result _ c.eq_ignore_ascii_case.ensures.test (bytes_eq-Decides _ _)
    ∙ ap (λ name. str_eq_ignore_ascii_case name c.args.name.now) c.as_slice.ensures
