use Rattle.std.proofs.Common.{◌<◌, ◌^◌, ℕ, List, length, reverse, get_or, sym, subst, ◌∙◌}
use Rattle.lb_model.specs.Journal.{each, members}
use Rattle.lb_model.specs.Multiple.{multiple_of}
use Rattle.lb_model.specs.Present.{ArePresentRows}
use Rattle.lb_model.specs.Ranges.{IsInRange}
use Rattle.lb_model.specs.declared.member.MemberConfig.{MemberConfig}
use Rattle.lb_model.specs.declared.view.MemberRow.{MemberRow}
use Rattle.lb_rules.specs.declared.standing.Standing.{Standing}
use Rattle.lb_book.specs.Ending.{IsSettled, ending_member}
use Rattle.lb_book.specs.Shown.{AreShown}
use Rattle.lb_book.proofs.EndingLaws.{is_ending}
use Rattle.lb_book.proofs.OpenedLaws.{rows_present}
use Rattle.lb_book.proofs.ending.ending.Goals as goal

pub ending_config-requires-clause-ranges : goal.ending_config-requires-clause-ranges
ending_config-requires-clause-ranges c =
    subst (λ (rows : List Standing). (m : ℕ) (c' : MemberConfig) (d : Standing) → m < length rows
    → IsInRange (length rows) m (ending_member (get_or c.args.opening.now.config.members m c') (get_or rows m d)))
    (sym c.as_slice-rows.ensures.value) c.requires.ranges

pub ending_config-requires-clause-narrow : goal.ending_config-requires-clause-narrow
ending_config-requires-clause-narrow c =
    subst (λ (rows : List Standing). (d : Standing) → multiple_of (each (length rows) (λ m. (get_or rows m d).factor)) < 2 ^ 32)
    (sym c.as_slice-rows.ensures.value) c.requires.narrow

pub returns : goal.returns
returns c = λ v legal present.
    let are : AreShown c.args.opening.now.config.members c.args.present.now.rows.items (length c.args.opening.now.config.members) c.in_ok-shown.shown.items =
    rw (c.as_slice-members.ensures, c.as_slice-rows.ensures.value) at c.in_ok-shown.ensures in
    let settled : IsSettled c.args.opening.now.config c.args.present.now.rows.items c.in_ok-ending_config.field-0 =
    subst (λ (rows : List Standing). IsSettled c.args.opening.now.config rows c.in_ok-ending_config.field-0) c.as_slice-rows.ensures.value
    c.in_ok-ending_config.ensures in
    is_ending v c.args.opening.now (reverse c.args.entries.now) c.args.present.now c.in_ok-ending_config.field-0 c.from_vec.result c.from_vec-2.result
    c.next_after.result present settled
    (subst (λ (rows : List MemberRow). ArePresentRows v c.args.opening.now (reverse c.args.entries.now) (members c.args.opening.now) rows)
    (sym c.from_vec.ensures)
    (rows_present v c.args.opening.now (reverse c.args.entries.now) c.args.present.now present c.in_ok-shown.shown.items are))
    (c.from_vec-2.ensures ∙ c.in_ok-out.ensures v legal) c.next_after.ensures.value
