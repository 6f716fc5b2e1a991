-- The file into which a segment of a journal goes, DIR/NAME-FIRST.jkj, and that of a worker's log, DIR/worker-N.log.
use Rattle.std.specs.Prelude.{◌≡◌, ℕ, ◌-◌, List, [], ◌∷◌, ◌++◌, Option, Some, None, length, replicate, codes, decimal}
use Rattle.lb_model.specs.declared.segment.Segment.{Segment}
use Rattle.journal_text.specs.Names.{name_word}
use Rattle.journal_text.specs.SegmentText.{segment_text}
use Rattle.gear_worlds.specs.declared.journal_files.SegmentFile.{SegmentFile}

-- a segment's first number, filled with zeros to 15 digits
abbrev pub first_word : ℕ → List ℕ
first_word first = replicate (15 - length (decimal first)) 48 ++ decimal first

-- the balancer's name as it stands in the journal's text, and the number
abbrev pub file_name : (name : List ℕ) → (first : ℕ) → List ℕ
file_name name first = name_word name ++ (45 ∷ []) ++ first_word first ++ codes ".jkj"

abbrev pub file_path : (dir name : List ℕ) → (first : ℕ) → List ℕ
file_path dir name first = dir ++ (47 ∷ []) ++ file_name name first

-- the file of a segment, where its balancer has a name
abbrev pub IsFileOf : (dir : List ℕ) → (name : Option (List ℕ)) → Segment → Option SegmentFile → Type 0
IsFileOf dir (Some name) segment (Some file) = (file.path ≡ file_path dir name segment.opening.next) × (file.text ≡ segment_text name segment)
IsFileOf dir None segment None = Unit {0}
IsFileOf dir (Some name) segment None = ⊥
IsFileOf dir None segment (Some file) = ⊥

abbrev pub worker_file : (dir : List ℕ) → (number : ℕ) → List ℕ
worker_file dir number = dir ++ codes "/worker-" ++ decimal number ++ codes ".log"
