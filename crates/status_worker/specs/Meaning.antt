-- The command that a status worker's query means, or that it means none.
use Rattle.std.specs.Prelude.{ℕ, List, [], Option, Some, None, codes, if◌then◌else◌, unwrap_or}
use Rattle.std.specs.Option.{option_map}
use Rattle.std.specs.Str.{bytes_eq}
use Rattle.status_worker.specs.declared.command.StatusCommand.{StatusCommand}
use Rattle.status_worker.specs.declared.command.StatusCommand.TheVariants as command
use Rattle.status_worker.specs.declared.field.Field.{Field}
use Rattle.status_worker.specs.declared.texts.Texts.{Texts}
use Rattle.status_worker.specs.declared.verb.Verb.{Verb}
use Rattle.status_worker.specs.declared.verb.Verb.TheVariants as verb
use Rattle.status_worker.specs.Fields.{fields_of}
use Rattle.status_worker.specs.Names.{are_lone, texts_of}
use Rattle.status_worker.specs.Values.{◌>>=◌, change_of}

-- the commands by their names
abbrev pub verb_named : List ℕ → Option Verb
verb_named text =
    if bytes_eq text (codes "list") then Some verb.List
    else (if bytes_eq text (codes "update") then Some verb.Update
    else (if bytes_eq text (codes "reset") then Some verb.Reset
    else (if bytes_eq text (codes "recover") then Some verb.Recover
    else None)))

-- a query that names no command asks for the page
abbrev pub verb_of : Option (List ℕ) → Option Verb
verb_of None = Some verb.List
verb_of (Some text) = verb_named text

-- the page of all balancers, or of one; a change of a member; a reset of a member, or of all; a trial of a member
abbrev pub command_by : Verb → Texts → Option StatusCommand
command_by verb.List t = Some (command.List t.worker)
command_by verb.Update t = t.worker >>= λ w. t.member >>= λ sw. option_map (command.Update w sw) (change_of t.change)
command_by verb.Reset t = option_map (λ w. command.Reset w t.member) t.worker
command_by verb.Recover t = t.worker >>= λ w. option_map (command.Recover w) t.member

-- what the values ask for; none where the command is unknown, a value is missing, or one can't be read
abbrev pub command_of : Texts → Option StatusCommand
command_of t = verb_of t.command >>= λ v. command_by v t

-- what the fields ask for; none also where a known name stands twice
abbrev pub command_in : List Field → Option StatusCommand
command_in fields = if are_lone fields then command_of (texts_of fields) else None

-- the command that a query means; none where it means none. No query at all is an empty one.
abbrev pub meaning_of : Option (List ℕ) → Option StatusCommand
meaning_of query = fields_of (unwrap_or query []) >>= command_in
