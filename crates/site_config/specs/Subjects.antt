-- Of what a key speaks.
use Rattle.std.specs.Prelude.{◌≡◌, ◌==◌, Bool, true, false, List, ℕ, Option, Some, None}
use Rattle.std.specs.Option.{option_map}
use Rattle.std.specs.Str.{bytes_eq}
use Rattle.site_config.specs.Directives.{directive_of, list_key, maintain_key, slot_of, worker_part}
use Rattle.site_config.specs.declared.directive.Directive.{Directive}
use Rattle.site_config.specs.declared.subject.Subject.{Subject}
use Rattle.site_config.specs.declared.subject.Subject.TheVariants as subject

-- the worker to which a key gives a directive, and the directive, if it is one that is built
abbrev pub with_directive : List ℕ × List ℕ → List ℕ × Option Directive
with_directive parts = (parts.0, directive_of parts.1)

abbrev pub worker_given : List ℕ → Option (List ℕ × Option Directive)
worker_given key = option_map with_directive (worker_part key)

-- the same of a subject
abbrev pub worker_in : Subject → Option (List ℕ × Option Directive)
worker_in (subject.Worker name d) = Some (name.now, d)
worker_in s = None

abbrev pub is_list : Subject → Bool
is_list subject.List = true
is_list s = false

abbrev pub is_maintain : Subject → Bool
is_maintain subject.Maintain = true
is_maintain s = false

-- a directive that is built is this one
abbrev pub is_directive : Directive → Option Directive → Bool
is_directive d None = false
is_directive d (Some given) = slot_of given == slot_of d

abbrev pub is_of : Directive → Subject → Bool
is_of d (subject.Worker name given) = is_directive d given
is_of d s = false

-- the key speaks of this
pub record IsSubject (key : List ℕ) (s : Subject) : Type 0 where
  pub list : is_list s ≡ bytes_eq key list_key
  pub maintain : is_maintain s ≡ bytes_eq key maintain_key
  pub worker : worker_in s ≡ worker_given key

-- the key gives this worker a directive: this one, if it is one that is built
abbrev pub GivesWorker : List ℕ → (name : List ℕ) → Option Directive → Type 0
GivesWorker key name d = (text : List ℕ) × (worker_part key ≡ Some (name, text)) × (directive_of text ≡ d)
