-- The search for a head's end: the bytes that were skipped and searched while more are still to come.
use Rattle.std.specs.Prelude.{ℕ, ◌≡◌, ◌+◌, ◌≤◌, ◌<◌, List, ◌++◌, length, take, drop, Some, None, Result, Ok, Err, ⊤}
use Rattle.std.specs.Option.{option_map}
use Rattle.http_front.specs.Cut.{Cuts, blank_len, head_len}
use Rattle.http_front.specs.Request.{AreEmptyLines, EndsInHead, IsOverlong}
use Rattle.http_front.specs.declared.cut.Search.{Search}
use Rattle.http_front.specs.declared.cut.Search.TheVariants.{Ends, Open}
use Rattle.http_front.specs.declared.reading.Look.{Look}
use Rattle.http_front.specs.declared.reading.Look.TheVariants.{Whole, Part}
use Rattle.http_front.specs.declared.reading.Found.{Found}
use Rattle.http_front.specs.declared.reading.Found.TheVariants as found
use Rattle.http_front.specs.declared.answers.HeadError.{HeadError}
use Rattle.http_front.specs.declared.answers.HeadError.TheVariants as error
use Rattle.http_front.specs.declared.answers.Form.TheVariants.{TooBig}

-- the first at bytes are empty lines, whatever comes after bytes
abbrev pub Skipped : List ℕ → ℕ → Type 0
Skipped bytes at = (more : List ℕ) → blank_len (bytes ++ more) ≡ at + blank_len (drop at bytes ++ more)

-- no head's empty line begins after one of the first at bytes, whatever comes after front
abbrev pub Searched : List ℕ → ℕ → Type 0
Searched front at = (more : List ℕ) → head_len (front ++ more) ≡ option_map (λ n. at + n) (head_len (drop at front ++ more))

-- the head has its end in front, or the search goes on at this place
abbrev pub IsSearchOf : List ℕ → Search → Type 0
IsSearchOf front (Ends n) = (n ≤ length front) × ((more : List ℕ) → head_len (front ++ more) ≡ Some n)
IsSearchOf front (Open at) = (at ≤ length front) × (head_len front ≡ None) × Searched front at

-- this many bytes are empty lines, and this many after them were searched
pub record IsSearched (bytes : List ℕ) (blank searched : ℕ) : Type 0 where
  pub within : blank + searched ≤ length bytes
  pub skipped : Skipped bytes blank
  pub none : Searched (drop blank bytes) searched

-- a head of len bytes stands after blank bytes of empty lines
pub record IsWholeHead (bytes : List ℕ) (blank len : ℕ) : Type 0 where
  pub within : blank + len ≤ length bytes
  pub cut : Cuts bytes (take blank bytes) (take len (drop blank bytes)) (drop len (drop blank bytes))

-- no head has its end in bytes
pub record IsPartOfHead (bytes : List ℕ) (blank searched : ℕ) : Type 0 where
  pub seen : IsSearched bytes blank searched
  pub empty : blank_len bytes ≡ blank
  pub open_end : head_len (drop blank bytes) ≡ None

-- what a look at the bytes says
abbrev pub IsLook : List ℕ → Look → Type 0
IsLook bytes (Whole blank len) = IsWholeHead bytes blank len
IsLook bytes (Part blank searched) = IsPartOfHead bytes blank searched

-- why no more of a head is read after these bytes
abbrev pub IsStop : List ℕ → HeadError → Type 0
IsStop bytes (error.Refused status form) = (status ≡ 431) × (form ≡ TooBig) × (length bytes ≡ 16384)
IsStop bytes error.Truncated = ⊥
IsStop bytes error.Fault = length bytes < 16384
IsStop bytes error.NoMemory = ⊤

-- what the bytes that were read say
abbrev pub IsFoundHead : List ℕ → Result Found HeadError → Type 0
IsFoundHead bytes (Ok (found.Head blank len)) = IsWholeHead bytes blank len
IsFoundHead bytes (Ok found.End) = AreEmptyLines bytes
IsFoundHead bytes (Err (error.Refused status form)) = (status ≡ 431) × (form ≡ TooBig) × IsOverlong bytes
IsFoundHead bytes (Err error.Truncated) = EndsInHead bytes
IsFoundHead bytes (Err error.Fault) = ⊤
IsFoundHead bytes (Err error.NoMemory) = ⊤

-- the client's bytes have ended
abbrev pub HasEnded : Result Found HeadError → Type 0
HasEnded (Ok (found.Head blank len)) = ⊥
HasEnded (Ok found.End) = ⊤
HasEnded (Err (error.Refused status form)) = ⊥
HasEnded (Err error.Truncated) = ⊤
HasEnded (Err error.Fault) = ⊥
HasEnded (Err error.NoMemory) = ⊥
