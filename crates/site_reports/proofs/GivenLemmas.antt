-- A line whose key gives a worker a directive: whether the last such line alone counts, and why it has no effect.
use Rattle.std.proofs.Common.{◌≡◌, ℕ, List, Option, refl}
use Rattle.site_config.specs.declared.directive.Directive.{Directive}
use Rattle.site_config.specs.Subjects.{GivesWorker}
use Rattle.site_config.specs.declared.values.WorkerKind.{WorkerKind}
use Rattle.site_config.specs.Directives.{worker_part}
use Rattle.site_reports.specs.Again.{is_single, is_single_directive}
use Rattle.site_reports.specs.Notes.{SiteKinds, directive_at, given_at, key_at, kind_among, value_with}

-- whether the last such line alone counts
pub single_given : (key name : List ℕ) (d : Option Directive) → GivesWorker key name d → is_single_directive d ≡ is_single key
single_given key name d h = rw (h.1, h.2) refl

-- why its key has no effect, and its value
pub key_given : (kinds : List (List ℕ × WorkerKind)) (key name : List ℕ) (d : Option Directive) → GivesWorker key name d → directive_at d (kind_among name kinds) ≡ key_at kinds key
key_given kinds key name d h = rw (h.1, h.2) refl

pub value_given : (kinds : SiteKinds) (key name text : List ℕ) (d : Option Directive) → GivesWorker key name d → given_at kinds name d text ≡ value_with kinds (worker_part key) text
value_given kinds key name text d h = rw (h.1, h.2) refl
