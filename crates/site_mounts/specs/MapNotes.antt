-- Notes on a uriworkermap.properties: what follows a rule's worker and has no effect, each with its line.
use Rattle.std.specs.Prelude.{ℕ, ◌+◌, Bool, true, false, List, [], ◌∷◌, ◌++◌, Option, Some, None, Result, Ok, Err, if◌then◌else◌, ◌||◌, ◌&&◌}
use Rattle.std.specs.List.{flat_map, list_all}
use Rattle.std.specs.Str.{bytes_eq}
use Rattle.jk_io.specs.Decimals.{trimmed}
use Rattle.site_config.specs.Cut.{cut_at, is_separator}
use Rattle.site_config.specs.Lines.{lines, without_mark}
use Rattle.site_config.specs.Properties.{is_silent}
use Rattle.site_config.specs.declared.config.Config.{Config}
use Rattle.site_config.specs.declared.config.Named.{Named}
use Rattle.site_config.specs.declared.config.Named.TheVariants as named
use Rattle.site_mounts.specs.declared.error.MapRefusal.{MapRefusal}
use Rattle.site_mounts.specs.declared.map_note.MapNote.{MapNote}
use Rattle.site_mounts.specs.declared.map_note.NoPartEffect.{NoPartEffect}
use Rattle.site_mounts.specs.declared.map_note.NoPartEffect.TheVariants as why
use Rattle.site_mounts.specs.Lines.{known}
use Rattle.site_mounts.specs.Parts.{disabled, parts_of, pieces_of, reply_timeout, sticky_ignore, stopped}
use Rattle.site_mounts.specs.Sides.{Left, left_of}

abbrev pub note : ℕ → NoPartEffect → MapNote
note line reason = record { line = line; why = reason }

-- a name of a part that lists members
abbrev pub is_list_name : List ℕ → Bool
is_list_name name = bytes_eq name disabled || bytes_eq name stopped

-- a name of a part that has an effect
abbrev pub is_part_name : List ℕ → Bool
is_part_name name = bytes_eq name sticky_ignore || (is_list_name name || bytes_eq name reply_timeout)

-- the part is a list of members, and lists nobody
abbrev pub lists_nobody : List ℕ × List ℕ → Bool
lists_nobody part = is_list_name part.0 && list_all is_separator part.1

-- on a part, a name and its value, at a balancer
abbrev pub part_notes : ℕ → List ℕ × List ℕ → List MapNote
part_notes line part =
    if lists_nobody part then note line (why.ListsNobody part.0) ∷ []
    else (if is_part_name part.0 then [] else note line (why.Unsupported part.0) ∷ [])

-- on the parts at this worker; at a status worker none has an effect
abbrev pub worker_notes : ℕ → Named → List (List ℕ × List ℕ) → List MapNote
worker_notes line (named.Balancer i) parts = flat_map (part_notes line) parts
worker_notes line (named.Status i) [] = []
worker_notes line (named.Status i) (part ∷ parts) = note line why.StatusWorker ∷ []

abbrev pub parts_notes : ℕ → Named → Option (List (List ℕ × List ℕ)) → List MapNote
parts_notes line worker None = []
parts_notes line worker (Some parts) = worker_notes line worker parts

-- on the pieces after a mount's worker; a line whose worker isn't listed, or with a piece that is no part, is refused
abbrev pub mount_notes : ℕ → List (List ℕ) → Result Named MapRefusal → List MapNote
mount_notes line texts (Err refused) = []
mount_notes line texts (Ok worker) = parts_notes line worker (parts_of texts)

-- on the pieces after an exclusion's worker
abbrev pub exclusion_notes : ℕ → List (List ℕ) → List MapNote
exclusion_notes line [] = []
exclusion_notes line (text ∷ texts) = note line why.Exclusion ∷ []

-- on a rule's right side, in the pieces between its `;`
abbrev pub role_notes : Config → ℕ → (exclusion : Bool) → List (List ℕ) → List MapNote
role_notes config line exclusion [] = []
role_notes config line true (name ∷ texts) = exclusion_notes line texts
role_notes config line false (name ∷ texts) = mount_notes line texts (known config line (trimmed name))

-- nobody expects an effect of a rule that is turned off
abbrev pub side_notes : Config → ℕ → Left → (right : List ℕ) → List MapNote
side_notes config line side right = if side.off then [] else role_notes config line side.exclusion (pieces_of right)

-- on a line split at its first `=`
abbrev pub rule_notes : Config → ℕ → Option (List ℕ × List ℕ) → List MapNote
rule_notes config line None = []
rule_notes config line (Some sides) = side_notes config line (left_of (trimmed sides.0)) sides.1

-- on a line without its outer blanks
abbrev pub line_notes : Config → ℕ → List ℕ → List MapNote
line_notes config line text = if is_silent text then [] else rule_notes config line (cut_at 61 text)

-- on the lines from this number on
abbrev pub notes_from : Config → ℕ → List (List ℕ) → List MapNote
notes_from config line [] = []
notes_from config line (l ∷ ls) = line_notes config line (trimmed l) ++ notes_from config (line + 1) ls

-- on a text that is accepted
abbrev pub map_notes : Config → (text : List ℕ) → List MapNote
map_notes config text = notes_from config 1 (lines (without_mark text))
