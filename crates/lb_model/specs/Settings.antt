-- The configuration after a history: the opening's, with the updates made in their order.
use Rattle.std.specs.Prelude.{ℕ, ◌==◌, ◌/◌, List, [], ◌∷◌, Option, Some, None, slice_get, unwrap_or, if◌then◌else◌}
use Rattle.lb_model.specs.Journal.{members, each}
use Rattle.lb_model.specs.Multiple.{multiple_of}
use Rattle.lb_model.specs.declared.change.Change.{Change}
use Rattle.lb_model.specs.declared.change.Command.{Command}
use Rattle.lb_model.specs.declared.change.Command.TheVariants as command
use Rattle.lb_model.specs.declared.change.Redirect.{Redirect}
use Rattle.lb_model.specs.declared.change.Redirect.TheVariants as redirect
use Rattle.lb_model.specs.declared.journal.Call.{Call}
use Rattle.lb_model.specs.declared.journal.Call.TheVariants as call
use Rattle.lb_model.specs.declared.journal.Entry.{Entry}
use Rattle.lb_model.specs.declared.member.Activation.{Activation}
use Rattle.lb_model.specs.declared.member.Activation.TheVariants as activation
use Rattle.lb_model.specs.declared.member.MemberConfig.{MemberConfig}
use Rattle.lb_model.specs.declared.opening.Opening.{Opening}

-- The values of a member that an update may change.
pub record Setting : Type 0 where
  pub factor : ℕ
  pub distance : ℕ
  pub activation : Activation
  pub redirect : Option ℕ

-- A member's setting in the configuration; one that doesn't exist is stopped.
abbrev pub setting_in : Option MemberConfig → Setting
setting_in (Some m) = record { factor = m.factor; distance = m.distance; activation = m.activation; redirect = m.redirect }
setting_in None = record { factor = 0; distance = 0; activation = activation.Stopped; redirect = None }

abbrev pub redirect_after : Redirect → (former : Option ℕ) → Option ℕ
redirect_after redirect.Keep former = former
redirect_after redirect.None former = None
redirect_after (redirect.To t) former = Some t

-- The values that a change gives, and the former ones where it gives none.
abbrev pub setting_after : Change → Setting → Setting
setting_after change s = record {
  factor = unwrap_or change.factor s.factor;
  distance = unwrap_or change.distance s.distance;
  activation = unwrap_or change.activation s.activation;
  redirect = redirect_after change.redirect s.redirect;
}

-- The setting of member m after a command.
abbrev pub commanded : (m : ℕ) → Command → Setting → Setting
commanded m (command.Update j change) s = if j == m then setting_after change s else s
commanded m (command.Reset j) s = s
commanded m (command.Recover j) s = s

abbrev pub called : (m : ℕ) → Call → Setting → Setting
called m (call.Select ask) s = s
called m (call.Return t w) s = s
called m call.Maintain s = s
called m (call.Admin c) s = commanded m c s

-- The setting of member m after a history.
abbrev pub setting_of : Opening → List Entry → (m : ℕ) → Setting
setting_of o [] m = setting_in (slice_get o.config.members m)
setting_of o (e ∷ p) m = called m e.call (setting_of o p m)

abbrev pub factor_of : Opening → List Entry → (m : ℕ) → ℕ
factor_of o p m = (setting_of o p m).factor

abbrev pub distance_of : Opening → List Entry → (m : ℕ) → ℕ
distance_of o p m = (setting_of o p m).distance

abbrev pub activation_of : Opening → List Entry → (m : ℕ) → Activation
activation_of o p m = (setting_of o p m).activation

abbrev pub redirect_of : Opening → List Entry → (m : ℕ) → Option ℕ
redirect_of o p m = (setting_of o p m).redirect

-- The name and the pool size of member m, which nothing changes.
abbrev pub name_in : Option MemberConfig → List ℕ
name_in (Some m) = m.name
name_in None = []

abbrev pub name_of : Opening → ℕ → List ℕ
name_of o m = name_in (slice_get o.config.members m)

abbrev pub pool_in : Option MemberConfig → ℕ
pool_in (Some m) = m.pool
pool_in None = 0

abbrev pub pool_of : Opening → ℕ → ℕ
pool_of o m = pool_in (slice_get o.config.members m)

-- L, the least common multiple of the members' factors.
abbrev pub common_of : Opening → List Entry → ℕ
common_of o p = multiple_of (each (members o) (λ m. factor_of o p m))

-- L as it is after a further call.
abbrev pub common_after : Opening → List Entry → Call → ℕ
common_after o p c = multiple_of (each (members o) (λ m. (called m c (setting_of o p m)).factor))

-- The unit of member m, which one choice of it adds to its load.
abbrev pub unit_of : Opening → List Entry → (m : ℕ) → ℕ
unit_of o p m = common_of o p / factor_of o p m
