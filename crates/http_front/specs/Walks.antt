-- How far a walk over a body came, and why no further.
use Rattle.std.specs.Prelude.{ℕ, ◌≡◌, ◌≤◌, ◌<◌, ◌+◌, Bool, false, true, ◌&&◌, ◌||◌, ◌==◌, nat_le, min, List, ◌++◌, length, take, Option}
use Rattle.jk_io.specs.Told.{prepended, IsEmpty}
use Rattle.http_front.specs.Unread.{unread}
use Rattle.http_front.specs.Body.{Uses, is_over}
use Rattle.http_front.specs.Places.{is_whole, is_limited}
use Rattle.http_front.specs.declared.fault.BodyFault.{BodyFault}
use Rattle.http_front.specs.declared.fault.BodyFault.TheVariants as fault
use Rattle.http_front.specs.declared.place.Place.{Place}
use Rattle.http_front.specs.declared.place.Place.TheVariants as at

-- the data of a chunked body reached its limit
abbrev pub is_reached : Place → ℕ → ℕ → Bool
is_reached place most taken = is_limited place && nat_le most taken

-- a count of data stays at the last value of a u64
abbrev pub counted : ℕ → ℕ → ℕ
counted taken more = min (taken + more) 18446744073709551615

-- with this data more a chunked body stays below its limit
abbrev pub IsUnder : ℕ → ℕ → Place → List ℕ → Type 0
IsUnder most taken start data' = is_limited start ≡ true → taken + length data' < most

-- before the bytes ended, a bad chunk line stood or a read failed, the limit was not reached
abbrev pub StaysUnder : ℕ → ℕ → Place → List ℕ → BodyFault → Type 0
StaysUnder most taken start data' fault.Truncated = IsUnder most taken start data'
StaysUnder most taken start data' fault.BadChunk = IsUnder most taken start data'
StaysUnder most taken start data' fault.TooLong = Unit {0}
StaysUnder most taken start data' fault.Fault = IsUnder most taken start data'
StaysUnder most taken start data' fault.NoMemory = Unit {0}

-- what a walk met after the data that it used
abbrev pub Meets : ℕ → ℕ → Option (List ℕ) → Place → List ℕ → BodyFault → Type 0
Meets most taken now place data' fault.Truncated = (is_over place ≡ false) × IsEmpty now
Meets most taken now place data' fault.BadChunk = place ≡ at.Bad
Meets most taken now place data' fault.TooLong = is_reached place most (counted taken (length data')) ≡ true
Meets most taken now place data' fault.Fault = is_over place ≡ false
Meets most taken now place data' fault.NoMemory = Unit {0}

-- fewer than the wanted n bytes of data were there, but that the limit may be reached by all of them
abbrev pub IsBelow : ℕ → List ℕ → BodyFault → Type 0
IsBelow n data' fault.TooLong = length data' ≤ n
IsBelow n data' fault.Truncated = length data' < n
IsBelow n data' fault.BadChunk = length data' < n
IsBelow n data' fault.Fault = length data' < n
IsBelow n data' fault.NoMemory = length data' ≤ n

-- n bytes were dropped, those of the inbox first
pub record IsDropped (n : ℕ) (inbox inbox_now : List ℕ) (incoming incoming_now : Option (List ℕ)) : Type 0 where
  pub gone : List ℕ
  pub count : length gone ≡ n
  pub used : unread inbox incoming ≡ prepended gone (unread inbox_now incoming_now)
  pub inside : 0 < length inbox → inbox ≡ gone ++ inbox_now

-- n bytes were dropped, and put after the first count of the piece
pub record IsPut (n count : ℕ) (piece piece_now inbox inbox_now : List ℕ) (incoming incoming_now : Option (List ℕ)) : Type 0 where
  pub dropped : IsDropped n inbox inbox_now incoming incoming_now
  pub put : take (count + n) piece_now ≡ take count piece ++ dropped.gone

-- the walk came to a fault
pub record Breaks (most taken : ℕ) (before now : Option (List ℕ)) (start : Place) (why : BodyFault) : Type 0 where
  pub place : Place
  pub data' : List ℕ
  pub uses : Uses before now start place data'
  pub meets : Meets most taken now place data' why
  pub stays : StaysUnder most taken start data' why

-- the walk for n bytes of data came to a fault
pub record Fails (most taken n : ℕ) (before now : Option (List ℕ)) (start : Place) (why : BodyFault) : Type 0 where
  pub breaks : Breaks most taken before now start why
  pub below : IsBelow n breaks.data' why

-- the walk used n bytes of data, or all of a whole body
pub record Walks (most taken n : ℕ) (before now : Option (List ℕ)) (start place : Place) (data' : List ℕ) : Type 0 where
  pub uses : Uses before now start place data'
  pub within : length data' ≤ n
  pub all : (length data' == n || is_whole place) ≡ true
  pub under : is_reached place most (counted taken (length data')) ≡ false
  pub limit : IsUnder most taken start data'

-- the walk used the whole body
pub record Passes (most taken : ℕ) (before now : Option (List ℕ)) (start place : Place) (sum : ℕ) : Type 0 where
  pub data' : List ℕ
  pub uses : Uses before now start place data'
  pub whole : is_whole place ≡ true
  pub counts : sum ≡ counted taken (length data')
  pub under : is_reached place most sum ≡ false
  pub below : IsUnder most taken start data'
  pub limit : is_limited start ≡ true → sum < most
