-- The load of each member: what the last cut entry left it, and what the epoch since then gave it.
use Rattle.std.specs.Prelude.{ℕ, suc, zero, ◌+◌, ◌-◌, ◌*◌, ◌/◌, ◌^◌, ◌==◌, max, Bool, true, false, List, [], ◌∷◌, Option, Some, None, slice_get, is_some, if◌then◌else◌}
use Rattle.lb_model.specs.Journal.{members, chose, maintained_of}
use Rattle.lb_model.specs.Settings.{unit_of}
use Rattle.lb_model.specs.StateRows.{is_over}
use Rattle.lb_model.specs.States.{state_of}
use Rattle.lb_model.specs.Tickets.{busy_of, is_on}
use Rattle.lb_model.specs.declared.change.Command.{Command}
use Rattle.lb_model.specs.declared.change.Command.TheVariants as command
use Rattle.lb_model.specs.declared.journal.Call.{Call}
use Rattle.lb_model.specs.declared.journal.Call.TheVariants as call
use Rattle.lb_model.specs.declared.journal.Entry.{Entry}
use Rattle.lb_model.specs.declared.member.Method.{Method}
use Rattle.lb_model.specs.declared.member.Method.TheVariants as method
use Rattle.lb_model.specs.declared.opening.Opening.{Opening}
use Rattle.lb_model.specs.declared.view.MemberRow.{MemberRow}

-- Whether a call begins a new epoch: a Maintain, a Reset, or an Update that gives a factor.
abbrev pub is_cut_command : Command → Bool
is_cut_command (command.Update j change) = is_some change.factor
is_cut_command (command.Reset j) = true
is_cut_command (command.Recover j) = false

abbrev pub is_cut : Call → Bool
is_cut (call.Select ask) = false
is_cut (call.Return t w) = false
is_cut call.Maintain = true
is_cut (call.Admin c) = is_cut_command c

-- The present epoch: the entries since the last cut entry, newest first.
abbrev pub epoch : List Entry → List Entry
epoch [] = []
epoch (e ∷ p) = if is_cut e.call then [] else e ∷ epoch p

-- How many units a choice gives to the chosen member: by Session only where it is for a new session.
abbrev pub units_chosen : Method → (fresh : Bool) → ℕ
units_chosen method.Request fresh = 1
units_chosen method.Session fresh = if fresh then 1 else 0
units_chosen method.Traffic fresh = 0
units_chosen method.Busyness fresh = 0

-- How many units a Return with these bytes gives to the ticket's member.
abbrev pub units_returned : Method → (bytes : ℕ) → ℕ
units_returned method.Request bytes = 0
units_returned method.Session bytes = 0
units_returned method.Traffic bytes = bytes
units_returned method.Busyness bytes = 0

-- How many units the entry e after p gave to member m.
abbrev pub units_by : Opening → List Entry → Entry → Call → (m : ℕ) → ℕ
units_by o p e (call.Select ask) m = if chose m e.answer then units_chosen o.config.method ask.fresh else 0
units_by o p e (call.Return t w) m = if is_on o p t m then units_returned o.config.method w.bytes else 0
units_by o p e call.Maintain m = 0
units_by o p e (call.Admin c) m = 0

-- How many units the present epoch gave to member m.
abbrev pub units_of : Opening → List Entry → (m : ℕ) → ℕ
units_of o [] m = 0
units_of o (e ∷ p) m = if is_cut e.call then 0 else units_of o p m + units_by o p e e.call m

abbrev pub gain_of : Opening → List Entry → (m : ℕ) → ℕ
gain_of o p m = unit_of o p m * units_of o p m

-- How often a maintenance at this moment halves.
abbrev pub halvings_at : Opening → List Entry → (at : ℕ) → ℕ
halvings_at o p at = (at - maintained_of o p) / o.config.maintain

abbrev pub halved : (load times : ℕ) → ℕ
halved load times = load / 2 ^ times

-- The greatest of the values of f at 0 to n - 1, 0 where there is none.
abbrev pub greatest : ℕ → (ℕ → ℕ) → ℕ
greatest zero f = 0
greatest (suc n) f = max (greatest n f) (f n)

-- The loads that a command leaves, by those before it.
abbrev pub commanded_load : Command → (loads : ℕ → ℕ) (m : ℕ) → ℕ
commanded_load (command.Update j change) loads m = loads m
commanded_load (command.Reset j) loads m = if j == m then 0 else loads m
commanded_load (command.Recover j) loads m = loads m

-- The loads that a cut entry leaves, by those before it.
abbrev pub carried : (v : ℕ) → Opening → List Entry → Entry → Call → (loads : ℕ → ℕ) (m : ℕ) → ℕ
carried v o p e (call.Select ask) loads m = loads m
carried v o p e (call.Return t w) loads m = loads m
carried v o p e call.Maintain loads m =
    (if is_over e.at o.config.recover (state_of v o p m)
    then greatest (members o) (λ j. halved (loads j) (halvings_at o p e.at))
    else halved (loads m) (halvings_at o p e.at))
carried v o p e (call.Admin c) loads m = commanded_load c loads m

abbrev pub load_in : Option MemberRow → ℕ
load_in (Some r) = r.load
load_in None = 0

-- The load that the last cut entry left to member m, or the opening where there is none.
abbrev pub base_of : (v : ℕ) → Opening → List Entry → (m : ℕ) → ℕ
base_of v o [] m = load_in (slice_get o.rows m)
base_of v o (e ∷ p) m =
    (if is_cut e.call then carried v o p e e.call (λ j. base_of v o p j + gain_of o p j) m else base_of v o p m)

-- The load by the method: for Busyness nothing is kept, and it is what runs now.
abbrev pub load_by : Method → (running kept : ℕ) → ℕ
load_by method.Request running kept = kept
load_by method.Session running kept = kept
load_by method.Traffic running kept = kept
load_by method.Busyness running kept = running

-- The load of member m after a history.
abbrev pub load_of : (v : ℕ) → Opening → List Entry → (m : ℕ) → ℕ
load_of v o p m = load_by o.config.method (busy_of o p m * unit_of o p m) (base_of v o p m + gain_of o p m)
