-- The words on lines of a workers.properties of which a site of mod_jk would expect an effect, and which have none, or another one.
use Rattle.std.specs.Prelude.{ℕ, List, ◌++◌, codes}
use Rattle.std.specs.List.{flat_map}
use Rattle.site_config.specs.declared.values.WorkerKind.{WorkerKind}
use Rattle.site_config.specs.declared.values.WorkerKind.TheVariants as kind
use Rattle.site_reports.specs.declared.no_effect.NoEffect.{NoEffect}
use Rattle.site_reports.specs.declared.no_effect.NoEffect.TheVariants as why
use Rattle.site_reports.specs.declared.no_effect.WorkersNote.{WorkersNote}
use Rattle.remarks.specs.Explained.{said_of}

abbrev pub type_words : WorkerKind → List ℕ
type_words kind.Ajp13 = codes " has no effect on a worker of type ajp13"
type_words kind.Lb = codes " has no effect on a worker of type lb"
type_words kind.Status = codes " has no effect on a worker of type status"

-- what is said of a key that has no effect for this
abbrev pub reason_words : NoEffect → List ℕ
reason_words why.Unsupported = codes " is not supported and has no effect"
reason_words why.NoDirective = codes " names no directive and has no effect"
reason_words why.NoWorker = codes " does not begin with worker. and has no effect"
reason_words (why.OtherType at) = type_words at
reason_words why.Users = codes " is not supported, so this worker answers each request with 403"
reason_words why.Again = codes " has no effect, since a later line gives it again"
reason_words why.Redirect = codes " names no other member of its balancer and has no effect"
reason_words why.NoHost = codes " is empty, so that no link to it can be dialled"
reason_words why.Variable = codes " has a value with $(, which is taken as it stands"
reason_words why.Hash = codes " has a value with #, which is taken as it stands"

-- the notice of a note
abbrev pub notice : (file : List ℕ) → WorkersNote → List ℕ
notice file note = said_of file note.line (note.key ++ reason_words note.why)

abbrev pub notices : (file : List ℕ) → List WorkersNote → List ℕ
notices file notes = flat_map (notice file) notes
