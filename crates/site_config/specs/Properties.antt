-- The first pass over a workers.properties: its lines, each with its key and value, or the first line that is refused.
use Rattle.std.specs.Prelude.{ℕ, ◌+◌, Bool, true, false, List, [], ◌∷◌, ◌++◌, Option, Some, None, Result, Ok, Err, if◌then◌else◌, ◌==◌, ◌||◌, length, slice_index}
use Rattle.std.specs.Option.{option_to_list, is_some}
use Rattle.std.specs.List.{list_all}
use Rattle.std.specs.Str.{bytes_eq}
use Rattle.jk_io.specs.Decimals.{trimmed}
use Rattle.site_config.specs.declared.property.Property.{Property}
use Rattle.site_config.specs.declared.property.Fault.{Fault}
use Rattle.site_config.specs.declared.property.Fault.TheVariants as fault
use Rattle.site_config.specs.declared.directive.Directive.{Directive}
use Rattle.site_config.specs.declared.directive.Directive.TheVariants as directive
use Rattle.site_config.specs.declared.error.PropsReason.TheVariants as reason
use Rattle.site_config.specs.Cut.{cut_at}
use Rattle.site_config.specs.Lines.{lines, without_mark}
use Rattle.site_config.specs.Names.{is_name, words}
use Rattle.site_config.specs.Directives.{directive_of, worker_part, list_key, maintain_key}
use Rattle.site_config.specs.Meanings.{given_value, period_of}
use Rattle.site_config.specs.Values.{target_of}
use Rattle.site_config.specs.declared.error.PropsRefusal.{PropsRefusal}
use Rattle.site_config.specs.Refusals.{refusal}
use Rattle.site_config.specs.declared.value.Value.{Value}

-- each word of a list is a name
abbrev pub are_names : List ℕ → Bool
are_names text = list_all is_name (words text)

abbrev pub name_fault : Bool → Option Fault
name_fault good = if good then None else Some fault.Name

abbrev pub period_fault : Bool → Option Fault
period_fault good = if good then None else Some fault.Period

abbrev pub value_fault : Directive → Bool → Option Fault
value_fault d good = if good then None else Some (fault.Value d)

-- a reference is `worker.` and a name
abbrev pub reference_fault : Option (List ℕ) → Option Fault
reference_fault None = Some (fault.Value directive.Reference)
reference_fault (Some name) = name_fault (is_name name)

-- what is wrong with a directive's value, which means this to it; one that isn't built has none
abbrev pub directive_fault : Option Directive → Option Value → List ℕ → Option Fault
directive_fault None meaning value = None
directive_fault (Some directive.Reference) meaning value = reference_fault (target_of value)
directive_fault (Some directive.BalanceWorkers) meaning value = name_fault (are_names value)
directive_fault (Some d) meaning value = value_fault d (is_some meaning)

-- a key of no worker: the list of workers, the time between maintenances, or one that is ignored
abbrev pub other_fault : List ℕ → List ℕ → Option Fault
other_fault key value = if bytes_eq key list_key then name_fault (are_names value) else (if bytes_eq key maintain_key then period_fault (is_some (period_of value)) else None)

-- a bad name goes before a bad value
abbrev pub fault_at : Option (List ℕ × List ℕ) → List ℕ → List ℕ → Option Fault
fault_at None key value = other_fault key value
fault_at (Some parts) key value = if is_name parts.0 then directive_fault (directive_of parts.1) (given_value (directive_of parts.1) value) value else Some fault.Name

abbrev pub fault_of : List ℕ → List ℕ → Option Fault
fault_of key value = fault_at (worker_part key) key value

-- the refusal of a line with this fault; bad values are refused only where values count
abbrev pub judged : Bool → Property → Option Fault → Result (Option Property) PropsRefusal
judged values p None = Ok (Some p)
judged values p (Some fault.Name) = Err (refusal p.line reason.BadName)
judged true p (Some fault.Period) = Err (refusal p.line reason.BadPeriod)
judged true p (Some (fault.Value d)) = Err (refusal p.line (reason.BadValue d))
judged false p (Some f) = Ok (Some p)

-- a line split at its first '='
abbrev pub property_of : Bool → ℕ → Option (List ℕ × List ℕ) → Result (Option Property) PropsRefusal
property_of values line None = Err (refusal line reason.NoEquals)
property_of values line (Some parts) =
    let p : Property = record { line = line; key = trimmed parts.0; value = trimmed parts.1 } in
    judged values p (fault_of p.key p.value)

-- a blank line, or a comment, which begins with '#'
abbrev pub is_silent : List ℕ → Bool
is_silent text = (length text == 0) || (slice_index text 0 == 35)

-- what a line without its outer blanks says
abbrev pub said : Bool → ℕ → List ℕ → Result (Option Property) PropsRefusal
said values line text = if is_silent text then Ok None else property_of values line (cut_at 61 text)

-- properties in front of those that are read
abbrev pub with_properties : List Property → Result (List Property) PropsRefusal → Result (List Property) PropsRefusal
with_properties front (Ok properties) = Ok (front ++ properties)
with_properties front (Err refused) = Err refused

abbrev pub before_rest : Result (Option Property) PropsRefusal → Result (List Property) PropsRefusal → Result (List Property) PropsRefusal
before_rest (Err refused) rest = Err refused
before_rest (Ok p) rest = with_properties (option_to_list p) rest

-- the lines from this number on
abbrev pub read_lines : Bool → ℕ → List (List ℕ) → Result (List Property) PropsRefusal
read_lines values line [] = Ok []
read_lines values line (l ∷ ls) = before_rest (said values line (trimmed l)) (read_lines values (line + 1) ls)

-- the properties of a text, whose byte-order mark is no part of it, or its first refusal
abbrev pub read_text : Bool → List ℕ → Result (List Property) PropsRefusal
read_text values text = read_lines values 1 (lines (without_mark text))
