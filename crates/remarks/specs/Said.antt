-- The remarks on a command that ended, by its status, the site that it judged and what it read.
use Rattle.std.specs.Prelude.{◌≡◌, ℕ, ◌-◌, Bool, true, false, List, [], ◌∷◌, ◌++◌, Option, Some, None, codes, drop, length, slice_get, nat_lt, if◌then◌else◌}
use Rattle.std.specs.Option.{option_copied}
use Rattle.jk_cli.specs.declared.name.CommandName.{CommandName}
use Rattle.jk_cli.specs.declared.name.CommandName.TheVariants as name
use Rattle.remarks.specs.declared.ended.Ended.{Ended}
use Rattle.remarks.specs.declared.input_seen.InputSeen.{InputSeen}
use Rattle.remarks.specs.declared.read_file.ReadFile.{ReadFile}
use Rattle.remarks.specs.declared.site.SitePlace.{SitePlace}
use Rattle.remarks.specs.declared.read_file.ReadOutcome.{ReadOutcome}
use Rattle.remarks.specs.declared.read_file.ReadOutcome.TheVariants as outcome
use Rattle.site_reports.specs.declared.found.SiteFound.{SiteFound}
use Rattle.remarks.specs.Remarks.{remarks_of}

-- the name of the file that was read first
abbrev pub first_name : List ReadFile → List ℕ
first_name [] = []
first_name (read ∷ reads) = read.name

-- the remarks on what was found of a site whose workers.properties was read first, and its map, if any, after it
abbrev pub SaysFound : (effects : Bool) → SiteFound → List ReadFile → (said : List ℕ) → Type 0
SaysFound effects f [] said = said ≡ []
SaysFound effects f (read ∷ reads) said = said ≡ remarks_of effects read.name (first_name reads) f

-- where a command's WORKERS stands among its files, and whether what has no effect is told
abbrev pub site_place : Option CommandName → Option SitePlace
site_place (Some name.Config) = Some (record { place = 0; effects = true })
site_place (Some name.Match) = Some (record { place = 0; effects = false })
site_place (Some name.Serve) = Some (record { place = 0; effects = false })
site_place (Some name.Dry) = Some (record { place = 2; effects = false })
site_place (Some name.Log) = Some (record { place = 2; effects = false })
site_place command = None

abbrev pub SaysPlaced : Option SitePlace → Option SiteFound → List ReadFile → (said : List ℕ) → Type 0
SaysPlaced None f reads said = said ≡ []
SaysPlaced (Some at) None reads said = said ≡ []
SaysPlaced (Some at) (Some f) reads said = SaysFound at.effects f (drop at.place reads) said

-- the last read
abbrev pub last_read : List ReadFile → Option ReadFile
last_read reads = slice_get reads (length reads - 1)

abbrev pub name_if : (ReadOutcome → Bool) → Option ReadFile → Option (List ℕ)
name_if passes None = None
name_if passes (Some read) = if passes read.outcome then Some read.name else None

-- the file was read whole, is too long, or can't be read
abbrev pub is_whole : ReadOutcome → Bool
is_whole outcome.Whole = true
is_whole other = false

abbrev pub is_long : ReadOutcome → Bool
is_long outcome.TooLong = true
is_long other = false

abbrev pub is_unread : ReadOutcome → Bool
is_unread outcome.Unread = true
is_unread other = false

-- the file that is too long, if the last one is
abbrev pub long_name : List ReadFile → Option (List ℕ)
long_name reads = name_if is_long (last_read reads)

-- the file whose read failed, if the last one did
abbrev pub unread_name : List ReadFile → Option (List ℕ)
unread_name reads = name_if is_unread (last_read reads)

abbrev pub too_long_text : List ℕ → List ℕ
too_long_text name = codes "jkd: " ++ name ++ codes " is too long: it has more than 67108864 bytes\n"

-- of an input that is too long, or of the site's files
abbrev pub SaysInput : Bool → Option SitePlace → Option SiteFound → List ReadFile → (said : List ℕ) → Type 0
SaysInput true at f reads said = said ≡ too_long_text (codes "standard input")
SaysInput false at f reads said = SaysPlaced at f reads said

abbrev pub SaysLong : Option (List ℕ) → InputSeen → Option SitePlace → Option SiteFound → List ReadFile → (said : List ℕ) → Type 0
SaysLong (Some name) input at f reads said = said ≡ too_long_text name
SaysLong None input at f reads said = SaysInput (nat_lt 67108864 input.bytes) at f reads said

-- why a command refused what it read
abbrev pub SaysRefused : Ended → (said : List ℕ) → Type 0
SaysRefused ended said =
    SaysLong (long_name ended.reads.now) ended.input (site_place ended.command) (option_copied ended.site) ended.reads.now said

abbrev pub SaysEffectsAt : Option SitePlace → Option SiteFound → List ReadFile → (said : List ℕ) → Type 0
SaysEffectsAt None f reads said = said ≡ []
SaysEffectsAt (Some at) f reads said = SaysPlaced (if at.effects then Some at else None) f reads said

-- what of a command's files has no effect
abbrev pub SaysEffects : Option CommandName → Option SiteFound → List ReadFile → (said : List ℕ) → Type 0
SaysEffects command f reads said = SaysEffectsAt (site_place command) f reads said

-- a text that ends its line
abbrev pub IsLine : (said : List ℕ) → Type 0
IsLine said = (text : List ℕ) × (said ≡ text ++ codes "\n")

-- a front is asked to end
abbrev pub asks_stop : Option CommandName → Bool
asks_stop (Some name.Stop) = true
asks_stop command = false

-- the socket of a front that was asked to end, and answered
abbrev pub unended_name : Option CommandName → List ReadFile → Option (List ℕ)
unended_name command reads = if asks_stop command then name_if is_whole (last_read reads) else None

-- of a front that answered otherwise than that it ended, or of what can't be read
abbrev pub fault_text : (front : Option (List ℕ)) → (unread : List ℕ) → List ℕ
fault_text (Some name) unread = codes "jkd: " ++ name ++ codes " didn't answer that its front ended\n"
fault_text None unread = unread

-- what can't be read
abbrev pub unread_text : Option (List ℕ) → (failed : Bool) → (reason : List ℕ) → List ℕ
unread_text (Some name) failed reason = codes "jkd: can't read " ++ name ++ codes ": " ++ reason ++ codes "\n"
unread_text None true reason = codes "jkd: can't read standard input\n"
unread_text None false reason = []

-- what failed, of a command that ended with status 4
abbrev pub fault_of : Ended → List ℕ
fault_of ended =
    fault_text (unended_name ended.command ended.reads.now) (unread_text (unread_name ended.reads.now) ended.input.failed ended.reason.now)
