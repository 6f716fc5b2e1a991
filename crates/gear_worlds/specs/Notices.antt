-- The line that says where clients are waited for: `jkd: listening on ADDRESS with N threads`, and of a connector
-- `; workers` and the names of its workers, each after a blank.
use Rattle.std.specs.Prelude.{ℕ, ◌==◌, List, [], ◌∷◌, ◌++◌, Option, Some, None, codes, decimal, if◌then◌else◌}
use Rattle.std.specs.List.{flat_map}
use Rattle.site_config.specs.declared.config.Named.{Named}

-- a number of threads, in words
abbrev pub threads_text : ℕ → List ℕ
threads_text threads = decimal threads ++ (if threads == 1 then codes " thread" else codes " threads")

abbrev pub names_text : List (List ℕ × Named) → List ℕ
names_text listed = flat_map (λ entry. 32 ∷ entry.0) listed

abbrev pub workers_text : Option (List (List ℕ × Named)) → List ℕ
workers_text None = []
workers_text (Some listed) = codes "; workers" ++ names_text listed

abbrev pub notice_text : (address : List ℕ) → (threads : ℕ) → Option (List (List ℕ × Named)) → List ℕ
notice_text address threads listed = codes "jkd: listening on " ++ address ++ codes " with " ++ threads_text threads ++ workers_text listed
