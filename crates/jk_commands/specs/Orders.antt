-- Which orders ask for workers, and which are a command at all.
use Rattle.std.specs.Prelude.{◌≡◌, ℕ, Bool, true, false, ◌||◌, List, Option, Some, None, Result, Ok, Err, IfOk}
use Rattle.jk_cli.specs.declared.order.Order.{Order}
use Rattle.jk_cli.specs.declared.order.Order.TheVariants as order
use Rattle.jk_cli.specs.declared.order.WordsError.{WordsError}
use Rattle.jk_cli.specs.declared.order.WordsError.TheVariants as refused
use Rattle.plain_commands.specs.Plain.{is_plain, readings}
use Rattle.site_reports.specs.Readings.{has_file}

-- `serve`, `container` and `drill`.
abbrev pub is_served : Order → Bool
is_served (order.Serve o) = true
is_served (order.Container route address threads clients) = true
is_served (order.Drill seed threads requests text passes) = true
is_served other = false

-- `So` holds of what was read of the words, where it asks for workers or threads.
abbrev pub IfServed : Result Order WordsError → (So : Order → Type 0) → Type 0
IfServed asked So = IfOk asked (λ o. is_served o ≡ true → So o)

-- `So` holds of it where it asks for none.
abbrev pub IfPlain : Result Order WordsError → (So : Order → Type 0) → Type 0
IfPlain asked So = IfOk asked (λ o. is_served o ≡ false → So o)

-- a command that `run_jkd` does: all but `demo`, which runs some of them
abbrev pub is_command : Order → Bool
is_command o = is_served o || is_plain o

-- The words are no command that is done here: they are none, or they are `demo`.
abbrev pub IsNoCommand : Result Order WordsError → Type 0
IsNoCommand (Ok o) = is_command o ≡ false
IsNoCommand (Err refused.Bad) = Unit {0}
IsNoCommand (Err refused.NoMemory) = ⊥

-- a command that reads files
abbrev pub reads_files : Order → Bool
reads_files (order.Serve o) = true
reads_files other = has_file (readings other)

-- the names of the files of the site that an order serves
abbrev pub site_names : Order → Option (List ℕ × List ℕ)
site_names (order.Serve o) = Some (o.workers, o.map)
site_names other = None
