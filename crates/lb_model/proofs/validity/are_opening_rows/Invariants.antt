use Rattle.std.proofs.Common.{◌≡◌, ℕ, ◌<◌, Some}
use Rattle.std.specs.Prelude.{slice_get}
use Rattle.lb_model.specs.Validity.{IsOpeningRow}
use Rattle.lb_model.specs.declared.member.MemberConfig.{MemberConfig}
use Rattle.lb_model.specs.declared.view.MemberRow.{MemberRow}
use Rattle.lb_model.proofs.validity.are_opening_rows.Given as goal

abbrev pub invariant-loop-i : goal.invariant-loop-i
invariant-loop-i l =
    (m : ℕ) (c : MemberConfig) (r : MemberRow) → m < l.i → slice_get l.opening.config.members m ≡ Some c
    → slice_get l.opening.rows m ≡ Some r → IsOpeningRow l.opening m c r
