use Rattle.std.proofs.Common.{◌≡◌, ◌<◌, ◌%◌, ℕ, List, length, sym, ◌∙◌, ap, subst}
use Rattle.std.specs.Prelude.{All, slice_index_or}
use Rattle.lb_model.specs.Multiple.{multiple_of}
use Rattle.lb_model.specs.Ranges.{factors_in}
use Rattle.lb_model.specs.declared.member.MemberConfig.{MemberConfig}
use Rattle.lb_model.specs.declared.view.MemberRow.{MemberRow}
use Rattle.lb_book.specs.Shown.{AreOpened}
use Rattle.lb_book.proofs.OpenedLaws.{all_factors_above, row_factors_above, row_factors_divide}
use Rattle.lb_book.proofs.beginning.opening_present.Goals as goal

pub common_of-requires-clause-some : goal.common_of-requires-clause-some
common_of-requires-clause-some c =
    subst (λ (ms : List MemberConfig). All (λ f. 0 < f) (factors_in ms)) (sym c.as_slice-members.ensures) (all_factors_above c.args.opening.now)

pub opening_rows-requires-clause-some : goal.opening_rows-requires-clause-some
opening_rows-requires-clause-some c =
    subst (λ (rows : List MemberRow). (m : ℕ) (d : MemberRow) → m < length rows → 0 < (slice_index_or rows m d).factor)
    (sym c.as_slice.ensures) (row_factors_above c.args.opening.now c.requires)

pub opening_rows-requires-clause-divides : goal.opening_rows-requires-clause-divides
opening_rows-requires-clause-divides c =
    let common_is : c.in_ok-common.common ≡ multiple_of (factors_in c.args.opening.now.config.members) =
    c.in_ok-common.ensures ∙ ap (λ (ms : List MemberConfig). multiple_of (factors_in ms)) c.as_slice-members.ensures in
    subst (λ (common : ℕ). (m : ℕ) (d : MemberRow) → m < length c.as_slice.result.now → common % (slice_index_or c.as_slice.result.now m d).factor ≡ 0)
    (sym common_is)
    (subst (λ (rows : List MemberRow). (m : ℕ) (d : MemberRow) → m < length rows
    → multiple_of (factors_in c.args.opening.now.config.members) % (slice_index_or rows m d).factor ≡ 0)
    (sym c.as_slice.ensures) (row_factors_divide c.args.opening.now c.requires))

pub returns-clause-rows : goal.returns-clause-rows
returns-clause-rows c =
    let common_is : c.in_ok-common.common ≡ multiple_of (factors_in c.args.opening.now.config.members) =
    c.in_ok-common.ensures ∙ ap (λ (ms : List MemberConfig). multiple_of (factors_in ms)) c.as_slice-members.ensures in
    let are : AreOpened c.in_ok-common.common c.args.opening.now.config.members c.args.opening.now.rows
    (length c.args.opening.now.config.members) c.in_ok-rows.rows.items =
    rw (c.as_slice-members.ensures, c.as_slice.ensures) at c.in_ok-rows.ensures in
    subst (λ (common : ℕ). AreOpened common c.args.opening.now.config.members c.args.opening.now.rows
    (length c.args.opening.now.config.members) c.in_ok-rows.rows.items) common_is are
