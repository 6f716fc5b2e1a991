-- The body that a client's bytes have: which of them are its own, and which data they bring. Read this first.
use Rattle.std.specs.Prelude.{ℕ, zero, suc, ◌≡◌, Bool, ◌||◌, nat_le, List, [], ◌∷◌, ◌++◌, length, drop, Option, Some, None, if◌then◌else◌}
use Rattle.std.specs.Option.{option_map}
use Rattle.jk_io.specs.Told.{prepended}
use Rattle.http_front.specs.Places.{step, data_left, is_whole, is_bad}
use Rattle.http_front.specs.declared.place.Place.{Place}

-- the data that bytes bring: whole, or to where they end, or to a bad chunk line
pub record Data : Type 0 where
  pub bytes : List ℕ
  pub whole : Bool
  pub bad : Bool

-- the body is over, or has broken off
abbrev pub is_over : Place → Bool
is_over place = is_whole place || is_bad place

-- a byte is one of data where data is left
abbrev pub given_of : ℕ → ℕ → List ℕ
given_of zero b = []
given_of (suc left) b = b ∷ []

-- the byte that this place gives to the data
abbrev pub given : Place → ℕ → List ℕ
given place b = given_of (data_left place) b

-- data after other data
abbrev pub behind : List ℕ → Data → Data
behind front data' = record { bytes = front ++ data'.bytes; whole = data'.whole; bad = data'.bad }

-- no more data
abbrev pub ended_at : Place → Data
ended_at place = record { bytes = []; whole = is_whole place; bad = is_bad place }

-- the data that bytes bring from this place on
abbrev pub data_from : List ℕ → Place → Data
data_from [] place = ended_at place
data_from (b ∷ bytes) place = if is_over place then ended_at place else behind (given place b) (data_from bytes (step place b))

-- the place after bytes that are all the body's own
abbrev pub place_behind : List ℕ → Place → Option Place
place_behind [] place = Some place
place_behind (b ∷ bytes) place = if is_over place then None else place_behind bytes (step place b)

-- the bytes that are used are the body's own, and bring this data
pub record Uses (before now : Option (List ℕ)) (start place : Place) (data' : List ℕ) : Type 0 where
  pub gone : List ℕ
  pub used : before ≡ prepended gone now
  pub own : place_behind gone start ≡ Some place
  pub brings : (data_from gone start).bytes ≡ data'

-- the data of the bytes that are told
abbrev pub data_of : Place → Option (List ℕ) → Option Data
data_of place None = None
data_of place (Some bytes) = Some (data_from bytes place)

-- n bytes of data are there, or all of a whole body
abbrev pub reaches : ℕ → Data → Bool
reaches n d = nat_le n (length d.bytes) || d.whole

-- the data after the first n bytes of data
abbrev pub dropped : ℕ → Option Data → Option Data
dropped n told = option_map (λ d. record { bytes = drop n d.bytes; whole = d.whole; bad = d.bad }) told
