-- Files that are made new, and the one into which a shelf puts a segment.
use Rattle.std.specs.Prelude.{◌≡◌, ℕ, List, [], ◌∷◌, Option, Result, Any, IfSome, IsErr, IsOk, IsSomeAnd, slice_get}
use Rattle.jk_io.specs.Told.{appended}
use Rattle.journal_text.specs.SegmentText.{segment_text}
use Rattle.lb_model.specs.declared.segment.Segment.{Segment}
use Rattle.gear_worlds.specs.Files.{file_path}

pub record MadeFile : Type 0 where
  pub path : List ℕ
  pub text : List ℕ

-- a file was made at this path, where there was none, with this text, and those that were made before stay as they are
pub record MakesFile (path text : List ℕ) (before after : Option (List MadeFile)) : Type 0 where
  pub fresh : IfSome before (λ files. Any (λ file. file.path ≡ path) files → ⊥)
  pub added : after ≡ appended before (record { path = path; text = text } ∷ [])

-- A segment of the balancer at this place was to be kept in a directory, where the balancers have these names. If it is kept, just its
-- own file was made; else none was.
pub record FilesSegment {T E : Type 0} (dir : List ℕ) (names : List (List ℕ)) (lb : ℕ) (segment : Segment) (before after : Option (List MadeFile)) (result : Result T E) : Type 0 where
  pub kept : IsOk result → IsSomeAnd (slice_get names lb)
      (λ name. MakesFile (file_path dir name segment.opening.next) (segment_text name segment) before after)
  pub lost : IsErr result → after ≡ before
