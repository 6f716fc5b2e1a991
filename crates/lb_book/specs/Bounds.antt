-- Facts of every Book beside its definition: bounds of pools and trials, and the members that its entries chose.
use Rattle.std.specs.Prelude.{◌≡◌, ℕ, ◌≤◌, ◌==◌, ◌&&◌, Bool, true, List, ◌∷◌, ◌++◌, Some, slice_get}
use Rattle.std.specs.List.{list_any}
use Rattle.lb_model.specs.Laws.{MayBeChosen}
use Rattle.lb_model.specs.Settings.{pool_of}
use Rattle.lb_model.specs.States.{state_of}
use Rattle.lb_model.specs.Tickets.{out}
use Rattle.lb_model.specs.declared.ask.Ask.{Ask}
use Rattle.lb_model.specs.declared.journal.Answer.TheVariants as answer
use Rattle.lb_model.specs.declared.journal.Call.TheVariants as call
use Rattle.lb_model.specs.declared.journal.Entry.{Entry}
use Rattle.lb_model.specs.declared.journal.How.{How}
use Rattle.lb_model.specs.declared.state.MemberState.TheVariants as state
use Rattle.lb_model.specs.declared.view.MemberRow.{MemberRow}
use Rattle.lb_model.specs.declared.view.View.{View}
use Rattle.lb_book.specs.Journal.{Journal, past_of}

-- Member m has no more tickets out than its pool, and the ticket of its trial is out on it.
pub record IsBoundedRow (b : Journal) (m : ℕ) (row : MemberRow) : Type 0 where
  pub busy : row.busy ≤ pool_of b.opening m
  pub trial : (t : ℕ) → row.state ≡ state.Probe t → list_any (λ x. (x.0 == t) && (x.1 == m)) (out b.opening (past_of b)) ≡ true

-- Each member's row is bounded so.
abbrev pub IsBounded : Journal → View → Type 0
IsBounded b view = (m : ℕ) (row : MemberRow) → slice_get view.rows m ≡ Some row → IsBoundedRow b m row

-- A kept entry that chose a member, by what its state was: none in Probe, and one in Error only where none was usable.
abbrev pub ChoseWell : Journal → Type 0
ChoseWell b =
    (later : List Entry) (e : Entry) (before : List Entry) (ask : Ask) (m t : ℕ) (how : How) (probe : Bool)
    → past_of b ≡ later ++ e ∷ before → e.call ≡ call.Select ask → e.answer ≡ answer.Chosen m t how probe
    → MayBeChosen b.rules b.opening before ask (state_of b.rules b.opening before m)
