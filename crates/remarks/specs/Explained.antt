-- The words on a refused line: its mistake, and the line as it stands.
use Rattle.std.specs.Prelude.{ℕ, ◌-◌, List, [], ◌++◌, codes, decimal, slice_get, unwrap_or}
use Rattle.site_config.specs.Lines.{lines, without_mark}
use Rattle.site_config.specs.declared.error.PropsReason.{PropsReason}
use Rattle.site_config.specs.declared.error.PropsReason.TheVariants as reason
use Rattle.site_config.specs.declared.error.PropsRefusal.{PropsRefusal}
use Rattle.site_mounts.specs.declared.error.MapReason.{MapReason}
use Rattle.site_mounts.specs.declared.error.MapReason.TheVariants as map
use Rattle.remarks.specs.Wanted.{wanted_by}

-- what is said of a line of a file
abbrev pub said_of : (file : List ℕ) → ℕ → List ℕ → List ℕ
said_of file line text = file ++ codes ", line " ++ decimal line ++ codes ": " ++ text ++ codes "\n"

-- what is wrong with a line of a workers.properties
abbrev pub workers_words : PropsReason → List ℕ
workers_words reason.NoEquals = codes "the line must be KEY=VALUE, or a comment, which begins with #: "
workers_words reason.BadName = codes "a worker's name must have letters, digits, - and _ alone: "
workers_words reason.UnknownWorker = codes "a worker in this list has no line worker.NAME.DIRECTIVE=VALUE: "
workers_words (reason.BadValue d) = wanted_by d
workers_words reason.BadPeriod = codes "the value must be a number from 1 to 86400: "
workers_words reason.TooManyBalancers = codes "there must be at most 1024 balancers: "
workers_words reason.NoAjp13 = codes "each worker in this list must be of type ajp13: "
workers_words reason.NoMembers = codes "a worker of type lb must have members in balance_workers: "
workers_words reason.TooManyMembers = codes "a worker of type lb must have at most 64 members: "
workers_words reason.TooWide = codes "the lbfactors of the members must have a common multiple below 4294967296: "
workers_words reason.BadReference = codes "a reference must lead to a worker that has directives, and in no circle: "

-- what is wrong with a line of a uriworkermap.properties
abbrev pub map_words : MapReason → List ℕ
map_words map.BadPattern = codes "the line must be /PATH=WORKER with at most one |, or a comment, which begins with #: "
map_words map.UnknownWorker = codes "the worker must stand in worker.list: "
map_words map.BadExtension = codes "after the worker must come ;NAME=VALUE, for sticky_ignore a truth value, for disabled and stopped members of it, for reply_timeout milliseconds from 0 to 86400000: "

-- a line of a text, from 1
abbrev pub line_at : List ℕ → ℕ → List ℕ
line_at text line = unwrap_or (slice_get (lines (without_mark text)) (line - 1)) []

-- words, and then a line of a text
abbrev pub told_of : (file text words : List ℕ) → ℕ → List ℕ
told_of file text words line = said_of file line (words ++ line_at text line)

-- what is wrong with the workers together, at the line that tells it
abbrev pub explained_workers : (file text : List ℕ) → PropsRefusal → List ℕ
explained_workers file text r = told_of file text (workers_words r.reason) r.line
