-- Which members may be chosen: the tests on a member's state, its activation, its pool and the ask.
use Rattle.std.specs.Prelude.{ℕ, ◌==◌, ◌&&◌, nat_lt, Bool, true, false, not, if◌then◌else◌}
use Rattle.std.specs.Int.{bit_at}
use Rattle.lb_model.specs.declared.member.Activation.{Activation}
use Rattle.lb_model.specs.declared.member.Activation.TheVariants as activation
use Rattle.lb_model.specs.declared.state.MemberState.{MemberState}
use Rattle.lb_model.specs.declared.state.MemberState.TheVariants as state

-- Whether member m is in a set of an ask.
abbrev pub is_in : (set m : ℕ) → Bool
is_in set m = bit_at set m == 1

-- The activation that counts for a member, where the ask's mount disables or stops it.
abbrev pub counts_as : Activation → (disabled stopped : Bool) → Activation
counts_as activation.Active disabled stopped =
    (if stopped then activation.Stopped else (if disabled then activation.Disabled else activation.Active))
counts_as activation.Disabled disabled stopped = (if stopped then activation.Stopped else activation.Disabled)
counts_as activation.Stopped disabled stopped = activation.Stopped

abbrev pub is_active : Activation → Bool
is_active activation.Active = true
is_active activation.Disabled = false
is_active activation.Stopped = false

abbrev pub is_stopped : Activation → Bool
is_stopped activation.Active = false
is_stopped activation.Disabled = false
is_stopped activation.Stopped = true

-- A state in which a member may be chosen: Ok, or Recover for a trial.
abbrev pub is_ready : MemberState → Bool
is_ready state.Ok = true
is_ready (state.Error at) = false
is_ready state.Recover = true
is_ready (state.Probe t) = false

abbrev pub is_error : MemberState → Bool
is_error state.Ok = false
is_error (state.Error at) = true
is_error state.Recover = false
is_error (state.Probe t) = false

-- It wasn't tried, and its pool has room.
abbrev pub has_room : (tried : Bool) (busy pool : ℕ) → Bool
has_room tried busy pool = not tried && nat_lt busy pool

abbrev pub is_free_by : MemberState → (tried : Bool) (busy pool : ℕ) → Bool
is_free_by s tried busy pool = is_ready s && has_room tried busy pool

abbrev pub is_usable_by : MemberState → (counted : Activation) (tried : Bool) (busy pool : ℕ) → Bool
is_usable_by s counted tried busy pool = is_free_by s tried busy pool && is_active counted

abbrev pub serves_by : MemberState → (counted : Activation) (tried : Bool) (busy pool : ℕ) → Bool
serves_by s counted tried busy pool = is_free_by s tried busy pool && not (is_stopped counted)

abbrev pub is_revivable_by : MemberState → (counted : Activation) (tried : Bool) (busy pool : ℕ) → Bool
is_revivable_by s counted tried busy pool = (is_error s && has_room tried busy pool) && is_active counted
