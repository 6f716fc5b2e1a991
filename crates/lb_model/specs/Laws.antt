-- The laws that `laws` proves: the meaning of the definitions, said without them where that can be.
use Rattle.std.specs.Prelude.{◌≡◌, ℕ, ◌/◌, ◌^◌, ◌<◌, ◌≤◌, Bool, true, false, List, ◌∷◌, ◌⊎◌, Some}
use Rattle.lb_model.specs.Choice.{is_revivable, is_usable, place_of, serves}
use Rattle.lb_model.specs.Journal.{members}
use Rattle.lb_model.specs.Loads.{halvings_at, load_of}
use Rattle.lb_model.specs.Settings.{distance_of, redirect_of}
use Rattle.lb_model.specs.StateRows.{is_over}
use Rattle.lb_model.specs.States.{state_of}
use Rattle.lb_model.specs.Tickets.{is_on, is_out}
use Rattle.lb_model.specs.declared.ask.Ask.{Ask}
use Rattle.lb_model.specs.declared.journal.Entry.{Entry}
use Rattle.lb_model.specs.declared.journal.How.{How}
use Rattle.lb_model.specs.declared.journal.How.TheVariants as how
use Rattle.lb_model.specs.declared.opening.Opening.{Opening}
use Rattle.lb_model.specs.declared.state.MemberState.{MemberState}
use Rattle.lb_model.specs.declared.state.MemberState.TheVariants as state

-- Member j's pair of distance and load isn't smaller than that of m, and where they are equal, m has the earlier place.
pub record IsNoLess (v : ℕ) (o : Opening) (p : List Entry) (m j : ℕ) : Type 0 where
  pub nearer : distance_of o p m ≤ distance_of o p j
  pub lighter : distance_of o p j ≡ distance_of o p m → load_of v o p m ≤ load_of v o p j
  pub earlier : distance_of o p j ≡ distance_of o p m → load_of v o p j ≡ load_of v o p m → place_of o p m ≤ place_of o p j

-- Member m passes the test, and no member that passes it has a smaller pair.
pub record IsLeastOf (v : ℕ) (o : Opening) (p : List Entry) (test : ℕ → Bool) (m : ℕ) : Type 0 where
  pub member : m < members o
  pub passes : test m ≡ true
  pub least : (j : ℕ) → j < members o → test j ≡ true → IsNoLess v o p m j

-- No member passes the test.
abbrev pub HasNone : Opening → (ℕ → Bool) → Type 0
HasNone o test = (j : ℕ) → j < members o → test j ≡ false

-- A balanced choice: the least of the usable members, or of the revivable ones where, under rules 2, none is usable.
abbrev pub IsBalancedChoice : ℕ → Opening → List Entry → Ask → ℕ → Type 0
IsBalancedChoice v o p ask m =
    IsLeastOf v o p (λ j. is_usable v o p ask j) m
    ⊎ (HasNone o (λ j. is_usable v o p ask j) × (v ≡ 2) × IsLeastOf v o p (λ j. is_revivable v o p ask j) m)

-- The session's member serves.
pub record IsStickyChoice (v : ℕ) (o : Opening) (p : List Entry) (ask : Ask) (m : ℕ) : Type 0 where
  pub sticky : o.config.sticky ≡ true
  pub routed : ask.routed ≡ Some m
  pub serving : serves v o p ask m ≡ true

-- The session's member doesn't serve, and m is its redirect, which does.
pub record IsRedirectChoice (v : ℕ) (o : Opening) (p : List Entry) (ask : Ask) (m j : ℕ) : Type 0 where
  pub sticky : o.config.sticky ≡ true
  pub routed : ask.routed ≡ Some j
  pub not_serving : serves v o p ask j ≡ false
  pub redirect : redirect_of o p j ≡ Some m
  pub serving : serves v o p ask m ≡ true

abbrev pub IsGoodChoice : ℕ → Opening → List Entry → Ask → How → ℕ → Type 0
IsGoodChoice v o p ask how.Sticky m = IsStickyChoice v o p ask m
IsGoodChoice v o p ask how.Redirect m = (j : ℕ) × IsRedirectChoice v o p ask m j
IsGoodChoice v o p ask how.Balanced m = IsBalancedChoice v o p ask m

-- After a maintenance the loads are the halved ones; a member whose error is over has the greatest of them.
pub record HalvesLoads (v : ℕ) (o : Opening) (p : List Entry) (e : Entry) : Type 0 where
  pub kept : (m : ℕ) → is_over e.at o.config.recover (state_of v o p m) ≡ false
      → load_of v o (e ∷ p) m ≡ load_of v o p m / 2 ^ halvings_at o p e.at
  pub lifted : (m j : ℕ) → is_over e.at o.config.recover (state_of v o p m) ≡ true → j < members o
      → load_of v o p j / 2 ^ halvings_at o p e.at ≤ load_of v o (e ∷ p) m
  pub lifted_to : (m : ℕ) → is_over e.at o.config.recover (state_of v o p m) ≡ true
      → (j : ℕ) × (j < members o) × (load_of v o (e ∷ p) m ≡ load_of v o p j / 2 ^ halvings_at o p e.at)

-- A member that a Select chose was Ok or in Recover, or in Error where, under rules 2, no member was usable.
abbrev pub MayBeChosen : ℕ → Opening → List Entry → Ask → MemberState → Type 0
MayBeChosen v o p ask state.Ok = Unit {0}
MayBeChosen v o p ask (state.Error at) = HasNone o (λ j. is_usable v o p ask j) × (v ≡ 2)
MayBeChosen v o p ask state.Recover = Unit {0}
MayBeChosen v o p ask (state.Probe t) = ⊥

-- The ticket that the entry e makes is out on member m from there on, and wasn't before.
pub record BeginsTicket (o : Opening) (p : List Entry) (e : Entry) (m : ℕ) : Type 0 where
  pub before : is_out o p e.seq ≡ false
  pub after : is_out o (e ∷ p) e.seq ≡ true
  pub member : is_on o (e ∷ p) e.seq m ≡ true
