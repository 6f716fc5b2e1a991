-- The choice: which member an ask gets after a history.
use Rattle.std.specs.Prelude.{◌≡◌, ℕ, ◌+◌, ◌<◌, ◌==◌, ◌&&◌, ◌||◌, nat_lt, Bool, true, false, List, Option, Some, None, is_some, is_none, if◌then◌else◌}
use Rattle.lb_model.specs.Free.{is_in, is_free_by, is_usable_by, serves_by, is_revivable_by}
use Rattle.lb_model.specs.Journal.{members, any_of, last_chosen, next_of}
use Rattle.lb_model.specs.Loads.{load_of}
use Rattle.lb_model.specs.Settings.{distance_of, pool_of, redirect_of}
use Rattle.lb_model.specs.States.{counted_of, state_of}
use Rattle.lb_model.specs.Tickets.{busy_of}
use Rattle.lb_model.specs.declared.ask.Ask.{Ask}
use Rattle.lb_model.specs.declared.journal.Answer.{Answer}
use Rattle.lb_model.specs.declared.journal.Answer.TheVariants as answer
use Rattle.lb_model.specs.declared.journal.Entry.{Entry}
use Rattle.lb_model.specs.declared.journal.How.{How}
use Rattle.lb_model.specs.declared.journal.How.TheVariants as how
use Rattle.lb_model.specs.declared.opening.Opening.{Opening}
use Rattle.lb_model.specs.declared.state.MemberState.{MemberState}
use Rattle.lb_model.specs.declared.state.MemberState.TheVariants as state

-- The tests of a member, for an ask after p.
abbrev pub is_free : (v : ℕ) → Opening → List Entry → Ask → (m : ℕ) → Bool
is_free v o p ask m = is_free_by (state_of v o p m) (is_in ask.tried m) (busy_of o p m) (pool_of o m)

abbrev pub is_usable : (v : ℕ) → Opening → List Entry → Ask → (m : ℕ) → Bool
is_usable v o p ask m =
    is_usable_by (state_of v o p m) (counted_of o p ask m) (is_in ask.tried m) (busy_of o p m) (pool_of o m)

abbrev pub serves : (v : ℕ) → Opening → List Entry → Ask → (m : ℕ) → Bool
serves v o p ask m =
    serves_by (state_of v o p m) (counted_of o p ask m) (is_in ask.tried m) (busy_of o p m) (pool_of o m)

abbrev pub is_revivable : (v : ℕ) → Opening → List Entry → Ask → (m : ℕ) → Bool
is_revivable v o p ask m =
    is_revivable_by (state_of v o p m) (counted_of o p ask m) (is_in ask.tried m) (busy_of o p m) (pool_of o m)

-- The member that the ask is routed to: only a sticky balancer looks at it, and only where there is one.
abbrev pub member_within : (n : ℕ) → Option ℕ → Option ℕ
member_within n None = None
member_within n (Some m) = if nat_lt m n then Some m else None

abbrev pub routed_member : Opening → Ask → Option ℕ
routed_member o ask = if o.config.sticky then member_within (members o) ask.routed else None

-- Step 1: that member where it serves, else its redirect where that serves.
abbrev pub redirected : (serving : ℕ → Bool) → Option ℕ → Option (ℕ × How)
redirected serving None = None
redirected serving (Some r) = if serving r then Some (r, how.Redirect) else None

abbrev pub routed : (serving : ℕ → Bool) (redirect : ℕ → Option ℕ) → Option ℕ → Option (ℕ × How)
routed serving redirect None = None
routed serving redirect (Some m) = if serving m then Some (m, how.Sticky) else redirected serving (redirect m)

-- The members as a choice looks at them: how many there are, and of each whether it serves the ask, is usable for it or
-- may be revived, its redirect, its distance, its load and its state.
pub record Seen : Type 0 where
  pub count : ℕ
  pub serves : ℕ → Bool
  pub usable : ℕ → Bool
  pub revivable : ℕ → Bool
  pub redirect : ℕ → Option ℕ
  pub distance : ℕ → ℕ
  pub load : ℕ → ℕ
  pub state : ℕ → MemberState

-- Step 1, where the ask is routed to the member `home`.
abbrev pub routed_in : Seen → (home : Option ℕ) → Option (ℕ × How)
routed_in s home = routed s.serves s.redirect home

-- Step 1 refuses: force is on, and neither the session's member nor its redirect serves.
abbrev pub is_forced_in : Seen → (home : Option ℕ) → (force : Bool) → Bool
is_forced_in s home force = force && (is_some home && is_none (routed_in s home))

-- Step 1 gives no answer.
pub record IsOpenIn (s : Seen) (home : Option ℕ) (force : Bool) : Type 0 where
  pub not_routed : routed_in s home ≡ None
  pub not_forced : is_forced_in s home force ≡ false

abbrev pub any_usable_in : Seen → Bool
any_usable_in s = any_of s.count s.usable

-- Steps 2 and 3: the usable members; where there is none, under rules 2, the revivable ones.
abbrev pub is_candidate_in : (v : ℕ) → Seen → (m : ℕ) → Bool
is_candidate_in v s m = if any_usable_in s then s.usable m else (v == 2) && s.revivable m

-- The place of member m of n in the cyclic order that begins with the member `begin`.
abbrev pub place_from : (n begin m : ℕ) → ℕ
place_from n begin m = if nat_lt m begin then m + n else m

-- The order begins after the member that was chosen last, with member 0 where there is none.
abbrev pub begin_after : Option ℕ → ℕ
begin_after None = 0
begin_after (Some m) = m + 1

abbrev pub place_in : Seen → (last : Option ℕ) → ℕ → ℕ
place_in s last m = place_from s.count (begin_after last) m

-- The smaller distance comes first; of equal ones the smaller load; of equal ones the earlier place.
abbrev pub is_before_by : (distance load place distance' load' place' : ℕ) → Bool
is_before_by d l t d' l' t' = nat_lt d d' || ((d == d') && (nat_lt l l' || ((l == l') && nat_lt t t')))

abbrev pub is_before_in : Seen → (last : Option ℕ) → (j m : ℕ) → Bool
is_before_in s last j m =
    is_before_by (s.distance j) (s.load j) (place_in s last j) (s.distance m) (s.load m) (place_in s last m)

-- Member m, of the first n, passes the test, and none that passes it comes before m.
pub record IsFirstOf (n : ℕ) (test : ℕ → Bool) (before : ℕ → ℕ → Bool) (m : ℕ) : Type 0 where
  pub within : m < n
  pub passes : test m ≡ true
  pub first : (j : ℕ) → j < n → test j ≡ true → before j m ≡ false

-- Member m is the least of the candidates.
abbrev pub IsLeastIn : (v : ℕ) → Seen → (last : Option ℕ) → (m : ℕ) → Type 0
IsLeastIn v s last m = IsFirstOf s.count (λ j. is_candidate_in v s j) (λ j k. is_before_in s last j k) m

-- How member m may be chosen.
abbrev pub IsChosenIn : (v : ℕ) → Seen → (home : Option ℕ) → (force : Bool) → (last : Option ℕ) → How → ℕ → Type 0
IsChosenIn v s home force last how.Sticky m = routed_in s home ≡ Some (m, how.Sticky)
IsChosenIn v s home force last how.Redirect m = routed_in s home ≡ Some (m, how.Redirect)
IsChosenIn v s home force last how.Balanced m = IsOpenIn s home force × IsLeastIn v s last m

-- A choice begins a trial exactly where the member's state was Recover or Error.
abbrev pub begins_trial : MemberState → Bool
begins_trial state.Ok = false
begins_trial (state.Error at) = true
begins_trial state.Recover = true
begins_trial (state.Probe t) = false

-- The answer that an ask gets under rules v and the number `next`, where `last` was chosen last.
abbrev pub IsPickIn : (v : ℕ) → Seen → (home : Option ℕ) → (force : Bool) → (last : Option ℕ) → (next : ℕ) → Answer → Type 0
IsPickIn v s home force last next (answer.Chosen m t how probe) =
    IsChosenIn v s home force last how m × (t ≡ next) × (probe ≡ begins_trial (s.state m))
IsPickIn v s home force last next answer.NoMember = IsOpenIn s home force × (any_of s.count (λ j. is_candidate_in v s j) ≡ false)
IsPickIn v s home force last next answer.Forced = is_forced_in s home force ≡ true
IsPickIn v s home force last next answer.Done = ⊥

-- The members as a journal shows them after p.
abbrev pub seen : (v : ℕ) → Opening → List Entry → Ask → Seen
seen v o p ask = record {
  count = members o;
  serves = λ m. serves v o p ask m;
  usable = λ m. is_usable v o p ask m;
  revivable = λ m. is_revivable v o p ask m;
  redirect = λ m. redirect_of o p m;
  distance = λ m. distance_of o p m;
  load = λ m. load_of v o p m;
  state = λ m. state_of v o p m;
}

-- The choice after p, and its parts.
abbrev pub routed_choice : (v : ℕ) → Opening → List Entry → Ask → Option (ℕ × How)
routed_choice v o p ask = routed_in (seen v o p ask) (routed_member o ask)

abbrev pub is_forced : (v : ℕ) → Opening → List Entry → Ask → Bool
is_forced v o p ask = is_forced_in (seen v o p ask) (routed_member o ask) o.config.force

abbrev pub IsOpen : (v : ℕ) → Opening → List Entry → Ask → Type 0
IsOpen v o p ask = IsOpenIn (seen v o p ask) (routed_member o ask) o.config.force

abbrev pub any_usable : (v : ℕ) → Opening → List Entry → Ask → Bool
any_usable v o p ask = any_usable_in (seen v o p ask)

abbrev pub is_candidate : (v : ℕ) → Opening → List Entry → Ask → (m : ℕ) → Bool
is_candidate v o p ask m = is_candidate_in v (seen v o p ask) m

abbrev pub place_of : Opening → List Entry → ℕ → ℕ
place_of o p m = place_from (members o) (begin_after (last_chosen o p)) m

abbrev pub is_before : (v : ℕ) → Opening → List Entry → ℕ → ℕ → Bool
is_before v o p j m =
    is_before_by (distance_of o p j) (load_of v o p j) (place_of o p j)
    (distance_of o p m) (load_of v o p m) (place_of o p m)

abbrev pub IsLeast : (v : ℕ) → Opening → List Entry → Ask → (m : ℕ) → Type 0
IsLeast v o p ask m = IsLeastIn v (seen v o p ask) (last_chosen o p) m

abbrev pub IsChosen : (v : ℕ) → Opening → List Entry → Ask → How → ℕ → Type 0
IsChosen v o p ask how m = IsChosenIn v (seen v o p ask) (routed_member o ask) o.config.force (last_chosen o p) how m

abbrev pub IsPick : (v : ℕ) → Opening → List Entry → Ask → Answer → Type 0
IsPick v o p ask a = IsPickIn v (seen v o p ask) (routed_member o ask) o.config.force (last_chosen o p) (next_of o p) a
