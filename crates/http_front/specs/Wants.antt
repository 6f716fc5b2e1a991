-- The data that a call wants of a body, and the bytes that decide its answer.
use Rattle.std.specs.Prelude.{ℕ, ◌+◌, Bool, ◌&&◌, ◌||◌, nat_le, List, length, take}
use Rattle.http_front.specs.Body.{Data, data_from, reaches}
use Rattle.http_front.specs.Places.{is_limited}
use Rattle.http_front.specs.declared.place.Place.{Place}

-- the next n bytes of data, or the rest of the body
pub data Want : Type 0 where
  Next : ℕ → Want
  Rest : Want

-- the data is enough for it
abbrev pub is_met : Want → Data → Bool
is_met (Next n) d = reaches n d
is_met Rest d = d.whole

-- what it wants of the data
abbrev pub wanted : Want → List ℕ → List ℕ
wanted (Next n) bytes = take n bytes
wanted Rest bytes = bytes

-- what is wanted brings a chunked body to its limit
abbrev pub is_too_long : Want → Place → ℕ → ℕ → Data → Bool
is_too_long want place most taken d = is_limited place && nat_le most (taken + length (wanted want d.bytes))

-- the data decides: it is enough, it ends at a bad chunk line, or it reaches the limit
abbrev pub is_settled : Want → Place → ℕ → ℕ → Data → Bool
is_settled want place most taken d = is_met want d || (d.bad || is_too_long want place most taken d)

-- bytes that decide what a call answers, so that none after them is needed
abbrev pub settles : Want → Place → ℕ → ℕ → List ℕ → Bool
settles want place most taken bytes = is_settled want place most taken (data_from bytes place)
