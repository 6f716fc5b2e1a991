-- The law of weights: when the loads of a balancer stay level, and how level they are.
use Rattle.std.specs.Prelude.{◌≡◌, ℕ, ◌+◌, ◌<◌, ◌≤◌, true, List, [], ◌∷◌, Some, slice_get}
use Rattle.std.specs.Bool.{OnFalse}
use Rattle.lb_model.specs.Choice.{is_usable}
use Rattle.lb_model.specs.Journal.{members}
use Rattle.lb_model.specs.Loads.{base_of, is_cut}
use Rattle.lb_model.specs.Settings.{distance_of, unit_of}
use Rattle.lb_model.specs.States.{is_balanced}
use Rattle.lb_model.specs.declared.ask.Ask.{Ask}
use Rattle.lb_model.specs.declared.journal.Call.{Call}
use Rattle.lb_model.specs.declared.journal.Call.TheVariants as call
use Rattle.lb_model.specs.declared.journal.Entry.{Entry}
use Rattle.lb_model.specs.declared.member.Method.TheVariants as method
use Rattle.lb_model.specs.declared.opening.Opening.{Opening}
use Rattle.lb_model.specs.declared.view.MemberRow.{MemberRow}
use Rattle.lb_model.specs.declared.view.View.{View}
use Rattle.lb_book.specs.Journal.{Journal, past_of}

-- An ask after p finds all members usable and equally near, and the answer of its entry is a balanced choice.
pub record IsEvenAsk (v : ℕ) (o : Opening) (p : List Entry) (e : Entry) (ask : Ask) : Type 0 where
  pub usable : (m : ℕ) → m < members o → is_usable v o p ask m ≡ true
  pub near : (i j : ℕ) → i < members o → j < members o → distance_of o p i ≡ distance_of o p j
  pub balanced : is_balanced e.answer ≡ true

abbrev pub IsEvenEntry : ℕ → Opening → List Entry → Entry → Call → Type 0
IsEvenEntry v o p e (call.Select ask) = IsEvenAsk v o p e ask
IsEvenEntry v o p e (call.Return t w) = Unit {0}
IsEvenEntry v o p e call.Maintain = Unit {0}
IsEvenEntry v o p e (call.Admin c) = Unit {0}

-- Each ask of the present epoch is so.
abbrev pub AreEven : ℕ → Opening → List Entry → Type 0
AreEven v o [] = Unit {0}
AreEven v o (e ∷ p) = OnFalse (is_cut e.call) (IsEvenEntry v o p e e.call × AreEven v o p)

-- By method Request the present epoch began with equal loads, and each of its asks was shared evenly.
pub record IsEvenEpoch (v : ℕ) (o : Opening) (p : List Entry) : Type 0 where
  pub method : o.config.method ≡ method.Request
  pub level : (i j : ℕ) → i < members o → j < members o → base_of v o p i ≡ base_of v o p j
  pub asks : AreEven v o p

-- A member's load is above no other's by more than one choice of it adds.
abbrev pub AreLevel : Journal → View → Type 0
AreLevel b view =
    (i j : ℕ) (row other : MemberRow) → slice_get view.rows i ≡ Some row → slice_get view.rows j ≡ Some other
    → row.load ≤ other.load + unit_of b.opening (past_of b) i
