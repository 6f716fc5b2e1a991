-- The view of a sound Book is within its bounds, and its entries chose well.
use Rattle.std.proofs.Common.{◌≡◌, ℕ, ◌<◌, ◌≤◌, List, [], ◌∷◌, ◌++◌, length, Some, sym, ◌∙◌, subst, arith}
use Rattle.std.specs.Prelude.{slice_get}
use Rattle.std.proofs.lemmas.Option.{slice_get_within}
use Rattle.lb_model.specs.Choice.{IsPick}
use Rattle.lb_model.specs.Journal.{members}
use Rattle.lb_model.specs.Legal.{IsAnswered, IsLegalPast}
use Rattle.lb_model.specs.Present.{IsPresent, IsPresentRow}
use Rattle.lb_model.specs.Settings.{pool_of}
use Rattle.lb_model.proofs.BoundFacts.{busy_within, trial_out}
use Rattle.lb_model.proofs.ChoiceLaws.{may_be_chosen}
use Rattle.lb_model.specs.declared.journal.Answer.{Answer}
use Rattle.lb_model.specs.declared.journal.Answer.TheVariants as answer
use Rattle.lb_model.specs.declared.journal.Call.{Call}
use Rattle.lb_model.specs.declared.journal.Call.TheVariants as call
use Rattle.lb_model.specs.declared.journal.Entry.{Entry}
use Rattle.lb_model.specs.declared.opening.Opening.{Opening}
use Rattle.lb_model.specs.declared.view.MemberRow.{MemberRow}
use Rattle.lb_model.specs.declared.view.View.{View}
use Rattle.lb_book.specs.Bounds.{ChoseWell, IsBounded}
use Rattle.lb_book.specs.Journal.{IsSound, Journal, past_of}

-- A row of a view is that of a member.
pub row_member : (v : ℕ) (o : Opening) (p : List Entry) (view : View) (m : ℕ) (row : MemberRow) → IsPresent v o p view
    → slice_get view.rows m ≡ Some row → m < members o
row_member v o p view m row present found =
    let within : m < length view.rows = slice_get_within view.rows m row found in
    omega (arith, within, present.rows.count)

pub view_bounded : (b : Journal) (view : View) → IsSound b → IsPresent b.rules b.opening (past_of b) view → IsBounded b view
view_bounded b view sound present m row found =
    let shown : IsPresentRow b.rules b.opening (past_of b) m row = present.rows.row m row found in
    let within : m < members b.opening = row_member b.rules b.opening (past_of b) view m row present found in
    record {
      busy = subst (λ (n : ℕ). n ≤ pool_of b.opening m) (sym shown.busy) (busy_within b.rules b.opening (past_of b) m sound within);
      trial = λ t is. trial_out b.rules b.opening (past_of b) m t sound within (sym shown.state ∙ is);
    }

legal_before : (v : ℕ) (o : Opening) (later : List Entry) (p : List Entry) → IsLegalPast v o (later ++ p) → IsLegalPast v o p
legal_before v o [] p legal = legal
legal_before v o (e ∷ later) p legal = legal_before v o later p legal.1

pub chose_well : (b : Journal) → IsSound b → ChoseWell b
chose_well b sound later e before ask m t how probe past asked answered =
    let all : IsLegalPast b.rules b.opening (later ++ e ∷ before) =
    subst (λ (p : List Entry). IsLegalPast b.rules b.opening p) past sound in
    let legal : IsLegalPast b.rules b.opening (e ∷ before) = legal_before b.rules b.opening later (e ∷ before) all in
    let is : IsAnswered b.rules b.opening before e (call.Select ask) =
    subst (λ (c : Call). IsAnswered b.rules b.opening before e c) asked legal.0.answered in
    let pick : IsPick b.rules b.opening before ask (answer.Chosen m t how probe) =
    subst (λ (a : Answer). IsPick b.rules b.opening before ask a) answered is.0 in
    may_be_chosen b.rules b.opening before ask m how pick.0
