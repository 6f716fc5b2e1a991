-- The output of `match`: each line is a raw path, maybe with a query, and is answered with the worker at which its clean path
-- is mounted, and, where that is asked for, with the line of the map that decides about it.
use Rattle.std.specs.Prelude.{ℕ, Bool, List, [], ◌++◌, Option, Some, None, codes, decimal, slice_get, if◌then◌else◌}
use Rattle.std.specs.List.{flat_map}
use Rattle.http_front.specs.Path.{clean_of}
use Rattle.site_config.specs.Cut.{cut_at}
use Rattle.site_config.specs.declared.balancer.Lb.{Lb}
use Rattle.site_config.specs.declared.config.Config.{Config}
use Rattle.site_config.specs.declared.config.Status.{Status}
use Rattle.site_config.specs.declared.config.Named.{Named}
use Rattle.site_config.specs.declared.config.Named.TheVariants as named
use Rattle.site_mounts.specs.declared.rule.Rule.{Rule}
use Rattle.site_mounts.specs.Mounts.{deciding_line, mount}
use Rattle.site_reports.specs.PathLines.{path_lines}

abbrev pub lb_name : Option Lb → List ℕ
lb_name None = codes "-"
lb_name (Some lb) = lb.name

abbrev pub status_name : Option Status → List ℕ
status_name None = codes "-"
status_name (Some s) = s.name

-- the name of a worker, `-` for none
abbrev pub worker_name : Config → Option Named → List ℕ
worker_name c None = codes "-"
worker_name c (Some (named.Balancer place)) = lb_name (slice_get c.lbs place)
worker_name c (Some (named.Status place)) = status_name (slice_get c.statuses place)

-- the worker of a clean path, and 400 where the path can't be cleaned
abbrev pub answer_of : Config → List Rule → Option (List ℕ) → List ℕ
answer_of c rules None = codes "400"
answer_of c rules (Some path) = worker_name c (mount rules path)

-- what stands before the first `?`
abbrev pub before_query : List ℕ → Option (List ℕ × List ℕ) → List ℕ
before_query raw None = raw
before_query raw (Some sides) = sides.0

abbrev pub path_in : List ℕ → List ℕ
path_in raw = before_query raw (cut_at 63 raw)

-- the line of the map that decides
abbrev pub line_words : Option ℕ → List ℕ
line_words None = []
line_words (Some line) = codes " line " ++ decimal line

abbrev pub deciding_words : List Rule → Option (List ℕ) → List ℕ
deciding_words rules None = []
deciding_words rules (Some path) = line_words (deciding_line rules path)

abbrev pub answer_line : Config → List Rule → (verbose : Bool) → (raw : List ℕ) → Option (List ℕ) → List ℕ
answer_line c rules verbose raw path =
    raw ++ codes " " ++ answer_of c rules path ++ (if verbose then deciding_words rules path else []) ++ codes "\n"

abbrev pub match_line : Config → List Rule → (verbose : Bool) → List ℕ → List ℕ
match_line c rules verbose raw = answer_line c rules verbose raw (clean_of (path_in raw))

abbrev pub match_text : Config → List Rule → (verbose : Bool) → List ℕ → List ℕ
match_text c rules verbose paths = flat_map (match_line c rules verbose) (path_lines paths)
