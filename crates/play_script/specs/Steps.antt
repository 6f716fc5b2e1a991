-- The lines after the balancer's own: each asks its Book for something, or moves the clock.
use Rattle.std.specs.Prelude.{ℕ, ◌≤◌, Bool, true, false, List, [], ◌∷◌, Option, Some, None, codes, if◌then◌else◌, option_map}
use Rattle.std.specs.Str.{bytes_eq}
use Rattle.jk_io.specs.Decimals.{decimal_of}
use Rattle.lb_model.specs.Limits.{most_bytes}
use Rattle.lb_model.specs.declared.ask.Ask.{Ask}
use Rattle.lb_model.specs.declared.change.Change.{Change}
use Rattle.lb_model.specs.declared.member.Activation.{Activation}
use Rattle.lb_model.specs.declared.change.Command.{Command}
use Rattle.lb_model.specs.declared.change.Command.TheVariants as command
use Rattle.lb_model.specs.declared.journal.Kind.{Kind}
use Rattle.lb_model.specs.declared.journal.Kind.TheVariants as kind
use Rattle.lb_model.specs.declared.journal.Call.{Call}
use Rattle.lb_model.specs.declared.journal.Call.TheVariants as call
use Rattle.play_script.specs.declared.verb.Verb.{Verb}
use Rattle.play_script.specs.declared.verb.Verb.TheVariants as verb
use Rattle.play_script.specs.declared.step.Step.{Step}
use Rattle.play_script.specs.declared.step.Step.TheVariants as step
use Rattle.play_script.specs.Parts.{parts_of}
use Rattle.play_script.specs.Names.{index_of}
use Rattle.play_script.specs.Verbs.{verb_of}
use Rattle.play_script.specs.Values.{◌>>=◌, byte_count, end, only, value_of, past}
use Rattle.play_script.specs.Fields.{activation_in, number_in, redirect_in}

-- an ask with no member tried, disabled or stopped
abbrev pub ask_of : Bool → Option ℕ → Ask
ask_of fresh routed = record { routed = routed; fresh = fresh; tried = 0; disabled = 0; stopped = 0 }

-- `old`: a session that was there before; `route=NAME`: one of that member
abbrev pub old_ask : List (List ℕ) → List ℕ → Option Ask
old_ask names word =
    if bytes_eq word (codes "old") then Some (ask_of false None)
    else option_map (λ m. ask_of false (Some m)) (value_of (codes "route=") (word ∷ []) >>= index_of names)

abbrev pub select_of : List (List ℕ) → List (List ℕ) → Option Ask
select_of names [] = Some (ask_of true None)
select_of names (word ∷ []) = old_ask names word
select_of names (word ∷ next ∷ more) = None

-- no bytes where none are given
abbrev pub bytes_in : List (List ℕ) → Option ℕ
bytes_in [] = Some 0
bytes_in (word ∷ []) = byte_count word
bytes_in (word ∷ next ∷ more) = None

abbrev pub return_of : Kind → List (List ℕ) → Option Call
return_of k [] = None
return_of k (word ∷ words) =
    decimal_of word >>= λ ticket. option_map (λ bytes. call.Return ticket (record { kind = k; bytes = bytes })) (bytes_in words)

-- the later fields of a change: distance, redirect
unfoldable pub change_after : List (List ℕ) → Option Activation → Option ℕ → List (List ℕ) → Option Change
change_after names activation factor words =
    number_in (codes "distance=") words >>= λ distance.
    redirect_in names (past (codes "distance=") words) >>= λ redirect.
    end (past (codes "redirect=") (past (codes "distance=") words)) >>= λ _.
    Some (record { activation = activation; factor = factor; distance = distance; redirect = redirect })

-- the fields of a change in their order: activation, factor, distance, redirect
abbrev pub change_of : List (List ℕ) → List (List ℕ) → Option Change
change_of names words =
    activation_in words >>= λ activation.
    number_in (codes "factor=") (past (codes "activation=") words) >>= λ factor.
    change_after names activation factor (past (codes "factor=") (past (codes "activation=") words))

abbrev pub update_of : List (List ℕ) → List (List ℕ) → Option Command
update_of names [] = None
update_of names (name ∷ words) =
    index_of names name >>= λ member. option_map (command.Update member) (change_of names words)

-- the member that is the only word
abbrev pub member_named : List (List ℕ) → List (List ℕ) → Option ℕ
member_named names words = only words >>= index_of names

abbrev pub step_by : List (List ℕ) → Verb → List (List ℕ) → Option Step
step_by names verb.Lb words = None
step_by names verb.Member words = None
step_by names verb.At words = option_map step.At (only words >>= decimal_of)
step_by names verb.Select words = option_map (λ ask. step.Ask (call.Select ask)) (select_of names words)
step_by names verb.Done words = option_map step.Ask (return_of kind.Done words)
step_by names verb.Failed words = option_map step.Ask (return_of kind.Failed words)
step_by names verb.Gone words = option_map step.Ask (return_of kind.Gone words)
step_by names verb.Maintain words = option_map (λ _. step.Ask call.Maintain) (end words)
step_by names verb.Update words = option_map (λ c. step.Ask (call.Admin c)) (update_of names words)
step_by names verb.Reset words = option_map (λ m. step.Ask (call.Admin (command.Reset m))) (member_named names words)
step_by names verb.Recover words = option_map (λ m. step.Ask (call.Admin (command.Recover m))) (member_named names words)
step_by names verb.Show words = option_map (λ _. step.Show) (end words)

abbrev pub step_from : List (List ℕ) → List (List ℕ) → Option Step
step_from names [] = None
step_from names (word ∷ words) = verb_of word >>= λ v. step_by names v words

-- what a line says after the balancer's own lines, where its members have these names; None: a bad line
abbrev pub step_of : List (List ℕ) → List ℕ → Option Step
step_of names line = step_from names (parts_of 32 line)

-- A Return moves at most 2^44 bytes.
abbrev pub HasSmallBytes : Call → Type 0
HasSmallBytes (call.Select ask) = Unit {0}
HasSmallBytes (call.Return ticket outcome) = outcome.bytes ≤ most_bytes
HasSmallBytes call.Maintain = Unit {0}
HasSmallBytes (call.Admin c) = Unit {0}

abbrev pub IsSmall : Step → Type 0
IsSmall (step.At moment) = Unit {0}
IsSmall (step.Ask asked) = HasSmallBytes asked
IsSmall step.Show = Unit {0}
