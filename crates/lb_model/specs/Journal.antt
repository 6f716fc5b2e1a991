-- The place that a journal has come to: its next number, its moment, the member chosen last, the last maintenance.
-- Everywhere `p` is the past: the entries of a journal, newest first.
use Rattle.std.specs.Prelude.{ℕ, suc, zero, ◌+◌, ◌==◌, Bool, true, false, List, [], ◌∷◌, ◌++◌, length, Option, Some, None, ◌||◌, if◌then◌else◌}
use Rattle.lb_model.specs.declared.journal.Call.{Call}
use Rattle.lb_model.specs.declared.journal.Call.TheVariants as call
use Rattle.lb_model.specs.declared.journal.Answer.{Answer}
use Rattle.lb_model.specs.declared.journal.Answer.TheVariants as answer
use Rattle.lb_model.specs.declared.journal.Entry.{Entry}
use Rattle.lb_model.specs.declared.opening.Opening.{Opening}

-- The members of the balancer are 0 to this number, without it.
abbrev pub members : Opening → ℕ
members o = length o.config.members

-- The number of the entry that comes next.
abbrev pub next_of : Opening → List Entry → ℕ
next_of o p = o.next + length p

-- The moment that the journal has reached.
abbrev pub moment_of : Opening → List Entry → ℕ
moment_of o [] = o.at
moment_of o (e ∷ p) = e.at

-- The member that an answer chose.
abbrev pub chosen_in : Answer → Option ℕ
chosen_in (answer.Chosen m t how probe) = Some m
chosen_in answer.NoMember = None
chosen_in answer.Forced = None
chosen_in answer.Done = None

-- Whether an answer chose member m.
abbrev pub chose : (m : ℕ) → Answer → Bool
chose m (answer.Chosen j t how probe) = j == m
chose m answer.NoMember = false
chose m answer.Forced = false
chose m answer.Done = false

-- The newer of two choices.
abbrev pub newest_chosen : (new former : Option ℕ) → Option ℕ
newest_chosen None former = former
newest_chosen (Some m) former = Some m

-- The member that was chosen last, by any Select.
abbrev pub last_chosen : Opening → List Entry → Option ℕ
last_chosen o [] = o.chosen
last_chosen o (e ∷ p) = newest_chosen (chosen_in e.answer) (last_chosen o p)

abbrev pub is_maintain : Call → Bool
is_maintain (call.Select ask) = false
is_maintain (call.Return t w) = false
is_maintain call.Maintain = true
is_maintain (call.Admin command) = false

-- The moment of the last maintenance.
abbrev pub maintained_of : Opening → List Entry → ℕ
maintained_of o [] = o.maintained
maintained_of o (e ∷ p) = if is_maintain e.call then e.at else maintained_of o p

-- The values of f at 0 to n - 1, in order.
abbrev pub each : {A : Type 0} → (n : ℕ) (f : ℕ → A) → List A
each zero f = []
each (suc n) f = each n f ++ f n ∷ []

-- Whether one of the first n numbers passes the test.
abbrev pub any_of : (n : ℕ) (test : ℕ → Bool) → Bool
any_of zero test = false
any_of (suc n) test = any_of n test || test n
