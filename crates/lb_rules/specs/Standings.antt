-- The tests of a member, on its row.
use Rattle.std.specs.Prelude.{ℕ, Bool}
use Rattle.lb_model.specs.Free.{is_in, counts_as, is_usable_by, serves_by, is_revivable_by}
use Rattle.lb_model.specs.declared.ask.Ask.{Ask}
use Rattle.lb_model.specs.declared.member.Activation.{Activation}
use Rattle.lb_rules.specs.declared.standing.Standing.{Standing}
use Rattle.lb_rules.specs.declared.among.Among.{Among}

-- The activation that counts for the member, for this ask.
abbrev pub counted_row : Ask → ℕ → Standing → Activation
counted_row ask m row = counts_as row.activation (is_in ask.disabled m) (is_in ask.stopped m)

abbrev pub serves_row : Ask → ℕ → Standing → Bool
serves_row ask m row = serves_by row.state (counted_row ask m row) (is_in ask.tried m) row.busy row.pool

-- It is of those among which the least is taken.
abbrev pub passes : Among → Ask → ℕ → Standing → Bool
passes Among.Usable ask m row = is_usable_by row.state (counted_row ask m row) (is_in ask.tried m) row.busy row.pool
passes Among.Revivable ask m row =
    is_revivable_by row.state (counted_row ask m row) (is_in ask.tried m) row.busy row.pool
