-- The output of `config` for a configuration: the listed workers in order, each balancer with its members, the time
-- between two maintenances, and the keys that have no effect.
use Rattle.std.specs.Prelude.{ℕ, List, [], ◌++◌, Option, Some, None, codes, decimal, slice_get, if◌then◌else◌}
use Rattle.std.specs.List.{flat_map, zip}
use Rattle.site_config.specs.Directives.{behind_worker}
use Rattle.site_config.specs.declared.balancer.Lb.{Lb}
use Rattle.site_config.specs.declared.config.Config.{Config}
use Rattle.site_config.specs.declared.config.Status.{Status}
use Rattle.site_config.specs.declared.config.Named.{Named}
use Rattle.site_config.specs.declared.config.Named.TheVariants as named
use Rattle.site_reports.specs.MemberLines.{member_text, names_of}
use Rattle.site_reports.specs.Words.{method_letter, flag}

abbrev pub member_lines : Lb → List ℕ
member_lines lb = flat_map (member_text (names_of lb.book.members)) (zip lb.book.members lb.ends)

-- the rules of an lb worker
abbrev pub lb_words : Lb → List ℕ
lb_words lb =
    codes " lb " ++ method_letter lb.book.method ++ codes " sticky " ++ flag lb.book.sticky ++ codes " force " ++ flag lb.book.force
    ++ codes " recover " ++ decimal lb.book.recover ++ codes " cookie " ++ lb.cookie ++ codes " path " ++ lb.path ++ codes "\n"

-- an lb worker's rules, and of a worker that is listed itself its type alone
abbrev pub kind_words : Lb → List ℕ
kind_words lb = if lb.book.direct then codes " ajp13\n" else lb_words lb

abbrev pub balancer_lines : Lb → List ℕ
balancer_lines lb = codes "worker " ++ lb.name ++ kind_words lb ++ member_lines lb

abbrev pub status_line : Status → List ℕ
status_line s = codes "worker " ++ s.name ++ codes " status read_only " ++ flag s.read_only ++ codes "\n"

abbrev pub balancer_at : Option Lb → List ℕ
balancer_at None = []
balancer_at (Some lb) = balancer_lines lb

abbrev pub status_at : Option Status → List ℕ
status_at None = []
status_at (Some s) = status_line s

-- the lines of a listed worker
abbrev pub worker_lines : List Lb → List Status → Named → List ℕ
worker_lines lbs statuses (named.Balancer place) = balancer_at (slice_get lbs place)
worker_lines lbs statuses (named.Status place) = status_at (slice_get statuses place)

abbrev pub listed_lines : List Lb → List Status → List ℕ × Named → List ℕ
listed_lines lbs statuses entry = worker_lines lbs statuses entry.1

-- a key of a worker that has no effect, with its line; other keys aren't shown
abbrev pub shown_key : (behind : Option (List ℕ)) → ℕ → List ℕ → List ℕ
shown_key None line key = []
shown_key (Some rest) line key = codes "ignored " ++ decimal line ++ codes " " ++ key ++ codes "\n"

abbrev pub ignored_line : ℕ × List ℕ → List ℕ
ignored_line entry = shown_key (behind_worker entry.1) entry.0 entry.1

abbrev pub ignored_at : Option (ℕ × List ℕ) → List ℕ
ignored_at None = []
ignored_at (Some entry) = ignored_line entry

abbrev pub config_text : Config → List ℕ
config_text c =
    flat_map (listed_lines c.lbs c.statuses) c.listed
    ++ codes "maintain " ++ decimal c.maintain ++ codes "\n"
    ++ flat_map ignored_line c.ignored
