-- The remarks on a site's files that a person reads on standard error: each line that is refused as it stands, with its
-- mistake, and of files that are accepted, where it is asked for, what has no effect, and that a map has no rule. A file is its
-- name and its text.
use Rattle.std.specs.Prelude.{◌≤◌, ℕ, Bool, true, false, List, [], ◌++◌, length}
use Rattle.site_config.specs.declared.error.PropsRefusal.{PropsRefusal}
use Rattle.site_mounts.specs.declared.map_note.MapNote.{MapNote}
use Rattle.site_mounts.specs.declared.rule.Rule.{Rule}
use Rattle.site_reports.specs.declared.found.SiteFound.{SiteFound}
use Rattle.site_reports.specs.declared.found.SiteFound.TheVariants as found
use Rattle.site_reports.specs.declared.no_effect.WorkersNote.{WorkersNote}
use Rattle.remarks.specs.declared.site_file.SiteFile.{SiteFile}
use Rattle.remarks.specs.Explained.{explained_workers}
use Rattle.remarks.specs.MapNotices.{empty_words, map_notices}
use Rattle.remarks.specs.Notices.{notices}
use Rattle.remarks.specs.Refused.{is_refused_by_line, refused_lines, wrong_line, wrong_rule}

-- of an accepted workers.properties with these notes
abbrev pub workers_remarks : (effects : Bool) → (file : List ℕ) → List WorkersNote → List ℕ
workers_remarks true file notes = notices file notes
workers_remarks false file notes = []

-- of a map with these notes and rules: what of it has no effect, and what it means where it has no rule
abbrev pub effect_words : (file : List ℕ) → List MapNote → List Rule → List ℕ
effect_words file notes rules = map_notices file notes ++ empty_words file rules

abbrev pub rules_remarks : (effects : Bool) → (file : List ℕ) → List MapNote → List Rule → List ℕ
rules_remarks true file notes rules = effect_words file notes rules
rules_remarks false file notes rules = []

-- what is wrong with the workers together, told where no line is refused by itself
abbrev pub together : (by_line : Bool) → (workers : List ℕ × List ℕ) → PropsRefusal → List ℕ
together true workers r = []
together false workers r = explained_workers workers.0 workers.1 r

-- of a workers.properties that is refused: each line that is refused by itself, or else what is wrong with the workers together
abbrev pub workers_refusals : (workers : List ℕ × List ℕ) → PropsRefusal → List ℕ
workers_refusals workers r =
    refused_lines wrong_line workers.0 workers.1 ++ together (is_refused_by_line wrong_line workers.1) workers r

-- of files with these names, which a command judged: why the first refused one is refused, and what in accepted ones has no
-- effect, by the notes on them
abbrev pub remarks_of : (effects : Bool) → (workers map : List ℕ) → SiteFound → List ℕ
remarks_of effects workers map (found.Workers w) = workers_remarks effects workers w.notes
remarks_of effects workers map (found.Site s) = workers_remarks effects workers s.workers.notes ++ rules_remarks effects map s.notes s.rules
remarks_of effects workers map (found.WorkersRefused r) = workers_refusals (workers, r.text) r.refusal
remarks_of effects workers map (found.MapRefused r) =
    workers_remarks effects workers r.workers.notes ++ refused_lines (wrong_rule r.workers.config) map r.text

-- the text is one that a command takes: at most 67,108,864 bytes
abbrev pub IsShortFile : SiteFile → Type 0
IsShortFile file = length file.text.now ≤ 67108864
