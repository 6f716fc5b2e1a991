-- The commands: their names, and the options that each takes.
use Rattle.std.specs.Prelude.{ℕ, Bool, true, false, ◌||◌, List, Option, Some, None, codes, if◌then◌else◌}
use Rattle.std.specs.Str.{bytes_eq}
use Rattle.jk_cli.specs.declared.order.Order.{Order}
use Rattle.jk_cli.specs.declared.order.Order.TheVariants as order
use Rattle.jk_cli.specs.declared.name.CommandName.{CommandName}
use Rattle.jk_cli.specs.declared.name.CommandName.TheVariants as name
use Rattle.jk_cli.specs.Parts.{Part, Place, Given, Verbose, Stray}

-- the command that a word names
abbrev pub name_of : List ℕ → Option CommandName
name_of word =
    if bytes_eq word (codes "play") then Some name.Play
    else (if bytes_eq word (codes "dry") then Some name.Dry
    else (if bytes_eq word (codes "config") then Some name.Config
    else (if bytes_eq word (codes "match") then Some name.Match
    else (if bytes_eq word (codes "check") then Some name.Check
    else (if bytes_eq word (codes "log") then Some name.Log
    else (if bytes_eq word (codes "follow") then Some name.Follow
    else (if bytes_eq word (codes "drill") then Some name.Drill
    else (if bytes_eq word (codes "serve") then Some name.Serve
    else (if bytes_eq word (codes "container") then Some name.Container
    else (if bytes_eq word (codes "stop") then Some name.Stop
    else (if bytes_eq word (codes "demo") then Some name.Demo
    else None)))))))))))

-- the options that a command takes
abbrev pub takes : CommandName → List ℕ → Bool
takes name.Serve option =
    bytes_eq option (codes "clients") || bytes_eq option (codes "journal") || bytes_eq option (codes "watch")
    || bytes_eq option (codes "idle") || bytes_eq option (codes "log") || bytes_eq option (codes "format")
    || bytes_eq option (codes "control") || bytes_eq option (codes "cut") || bytes_eq option (codes "head")
    || bytes_eq option (codes "keep") || bytes_eq option (codes "rate") || bytes_eq option (codes "waiting")
    || bytes_eq option (codes "grace")
takes name.Container option = bytes_eq option (codes "clients")
takes command option = false

-- `-v` stands after `match` alone
abbrev pub is_match : CommandName → Bool
is_match name.Match = true
is_match command = false

-- a part that may stand after a command: a word, an option that it takes, or a flag
abbrev pub may_stand : CommandName → Part → Bool
may_stand command (Place word) = true
may_stand command (Given option value) = takes command option
may_stand command Verbose = is_match command
may_stand command Stray = false

-- the command of an order
abbrev pub command_in : Order → CommandName
command_in order.Play = name.Play
command_in (order.Dry request reply site) = name.Dry
command_in (order.Config workers map) = name.Config
command_in (order.Match workers map verbose) = name.Match
command_in order.Check = name.Check
command_in (order.Log format request reply workers map) = name.Log
command_in order.Follow = name.Follow
command_in (order.Drill seed threads requests text passes) = name.Drill
command_in (order.Serve o) = name.Serve
command_in (order.Container route address threads clients) = name.Container
command_in (order.Stop path) = name.Stop
command_in (order.Demo address) = name.Demo
