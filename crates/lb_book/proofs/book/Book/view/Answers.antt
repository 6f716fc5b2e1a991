use Rattle.std.proofs.Common.{List, length, reverse, sym, subst, arith}
use Rattle.lb_model.specs.Journal.{members}
use Rattle.lb_model.specs.Present.{ArePresentRows}
use Rattle.lb_model.specs.Rows.{HaveRedirectsWithin}
use Rattle.lb_model.specs.declared.view.MemberRow.{MemberRow}
use Rattle.lb_rules.specs.RuleNumbers.{rules_number}
use Rattle.lb_book.specs.Shown.{AreShown}
use Rattle.lb_book.specs.Journal.{IsSound, Journal}
use Rattle.lb_book.proofs.BoundLaws.{chose_well, view_bounded}
use Rattle.lb_book.proofs.KeptLaws.{next_is}
use Rattle.lb_book.proofs.OpenedLaws.{rows_present, redirects_shown, view_present}
use Rattle.lb_book.proofs.WeightLaws.{view_level}
use Rattle.lb_book.proofs.book.Book.view.Goals as goal

pub invariant_of-result : goal.invariant_of-result
invariant_of-result c =
    let are : AreShown c.self.inside.opening.config.members c.self.inside.present.rows.items
    (length c.self.inside.opening.config.members) c.in_ok-rows.rows.items =
    rw (c.as_slice-members.ensures, c.as_slice.ensures.value) at c.in_ok-rows.ensures in
    record {
      redirects = subst (λ (rows : List MemberRow). HaveRedirectsWithin rows) (sym c.from_vec.ensures)
          (redirects_shown (rules_number c.self.inside.rules) c.self.inside.opening (reverse c.self.inside.entries.items)
          c.self.inside.present c.self.invariant.present c.in_ok-rows.rows.items are);
    }

pub returns-clause-present : goal.returns-clause-present
returns-clause-present c =
    let are : AreShown c.self.inside.opening.config.members c.self.inside.present.rows.items
    (length c.self.inside.opening.config.members) c.in_ok-rows.rows.items =
    rw (c.as_slice-members.ensures, c.as_slice.ensures.value) at c.in_ok-rows.ensures in
    view_present _ _ c.self.view_is
    (omega (arith, c.len.ensures, c.self.inside.entries.ok.0, next_is c.self.inside.opening c.self.inside.entries.items))
    c.self.invariant.present.moment
    (subst (λ (rows : List MemberRow). ArePresentRows (rules_number c.self.inside.rules) c.self.inside.opening
    (reverse c.self.inside.entries.items) (members c.self.inside.opening) rows) (sym c.from_vec.ensures)
    (rows_present (rules_number c.self.inside.rules) c.self.inside.opening (reverse c.self.inside.entries.items)
    c.self.inside.present c.self.invariant.present c.in_ok-rows.rows.items are))

pub returns-clause-bounded : goal.returns-clause-bounded
returns-clause-bounded c =
    view_bounded c.args.self.now _ (subst (λ (b : Journal). IsSound b) c.self.view_is c.self.invariant.legal) (returns-clause-present c)

pub returns-clause-choices : goal.returns-clause-choices
returns-clause-choices c = chose_well c.args.self.now (subst (λ (b : Journal). IsSound b) c.self.view_is c.self.invariant.legal)

pub returns-in_err-rows-clause-choices : goal.returns-in_err-rows-clause-choices
returns-in_err-rows-clause-choices c = chose_well c.args.self.now (subst (λ (b : Journal). IsSound b) c.self.view_is c.self.invariant.legal)

pub returns-clause-weights : goal.returns-clause-weights
returns-clause-weights c =
    view_level c.args.self.now _ (subst (λ (b : Journal). IsSound b) c.self.view_is c.self.invariant.legal) (returns-clause-present c)
