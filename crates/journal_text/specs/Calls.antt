-- The words of a call and of an answer.
use Rattle.std.specs.Prelude.{ℕ, List, [], ◌∷◌, ◌==◌, codes, decimal, if◌then◌else◌}
use Rattle.lb_model.specs.declared.ask.Ask.{Ask}
use Rattle.lb_model.specs.declared.change.Change.{Change}
use Rattle.lb_model.specs.declared.change.Command.{Command}
use Rattle.lb_model.specs.declared.change.Command.TheVariants as command
use Rattle.lb_model.specs.declared.journal.Answer.{Answer}
use Rattle.lb_model.specs.declared.journal.Answer.TheVariants as answer
use Rattle.lb_model.specs.declared.journal.Call.{Call}
use Rattle.lb_model.specs.declared.journal.Call.TheVariants as call
use Rattle.lb_model.specs.declared.journal.Outcome.{Outcome}
use Rattle.journal_text.specs.Words.{activation_change, flag, how_word, kind_word, optional, redirect_change}

-- ROUTED FRESH TRIED, and under rules 2 DISABLED STOPPED
abbrev pub term_words : (rules : ℕ) → Ask → List (List ℕ)
term_words rules ask = if rules == 1 then [] else decimal ask.disabled ∷ decimal ask.stopped ∷ []

abbrev pub ask_words : (rules : ℕ) → Ask → List (List ℕ)
ask_words rules ask = optional ask.routed ∷ flag ask.fresh ∷ decimal ask.tried ∷ term_words rules ask

-- TICKET KIND BYTES
abbrev pub return_words : (ticket : ℕ) → Outcome → List (List ℕ)
return_words ticket outcome = decimal ticket ∷ kind_word outcome.kind ∷ decimal outcome.bytes ∷ []

-- ACTIVATION FACTOR DISTANCE REDIRECT
abbrev pub change_words : Change → List (List ℕ)
change_words change =
    activation_change change.activation ∷ optional change.factor ∷ optional change.distance ∷ redirect_change change.redirect ∷ []

abbrev pub command_words : Command → List (List ℕ)
command_words (command.Update member change) = codes "update" ∷ decimal member ∷ change_words change
command_words (command.Reset member) = codes "reset" ∷ decimal member ∷ []
command_words (command.Recover member) = codes "recover" ∷ decimal member ∷ []

abbrev pub call_words : (rules : ℕ) → Call → List (List ℕ)
call_words rules (call.Select ask) = codes "select" ∷ ask_words rules ask
call_words rules (call.Return ticket outcome) = codes "return" ∷ return_words ticket outcome
call_words rules call.Maintain = codes "maintain" ∷ []
call_words rules (call.Admin c) = command_words c

-- the ticket of a choice isn't written: it is the entry's number
abbrev pub answer_words : Answer → List (List ℕ)
answer_words (answer.Chosen member ticket how probe) = codes "chosen" ∷ decimal member ∷ how_word how ∷ flag probe ∷ []
answer_words answer.NoMember = codes "none" ∷ []
answer_words answer.Forced = codes "forced" ∷ []
answer_words answer.Done = codes "done" ∷ []
