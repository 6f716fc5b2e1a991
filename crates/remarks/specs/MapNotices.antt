-- The words on what of a uriworkermap.properties has no effect, and on a map without a rule.
use Rattle.std.specs.Prelude.{ℕ, List, [], ◌++◌, codes, if◌then◌else◌}
use Rattle.std.specs.Bool.{nat_eq}
use Rattle.std.specs.List.{flat_map}
use Rattle.remarks.specs.Explained.{said_of}
use Rattle.site_mounts.specs.Mounts.{line_count}
use Rattle.site_mounts.specs.declared.map_note.MapNote.{MapNote}
use Rattle.site_mounts.specs.declared.map_note.NoPartEffect.{NoPartEffect}
use Rattle.site_mounts.specs.declared.map_note.NoPartEffect.TheVariants as why
use Rattle.site_mounts.specs.declared.rule.Rule.{Rule}

abbrev pub why_words : NoPartEffect → List ℕ
why_words why.Exclusion = codes "what follows the ; has no effect on an exclusion"
why_words why.StatusWorker = codes "what follows the ; has no effect on a worker of type status"
why_words (why.ListsNobody name) = name ++ codes " names no member and has no effect"
why_words (why.Unsupported name) = name ++ codes " is not supported in a rule and has no effect"

-- the notice of a note
abbrev pub map_notice : (file : List ℕ) → MapNote → List ℕ
map_notice file note = said_of file note.line (why_words note.why)

abbrev pub map_notices : (file : List ℕ) → List MapNote → List ℕ
map_notices file notes = flat_map (map_notice file) notes

-- what is said of a map of which no line has a rule
abbrev pub empty_words : (file : List ℕ) → List Rule → List ℕ
empty_words file rules = if nat_eq (line_count rules) 0 then file ++ codes " has no rule, so each request gets 404\n" else []
