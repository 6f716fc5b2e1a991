-- The calls on a body by their two moments, each of the body, the inbox, and what the client tells.
use Rattle.std.specs.Prelude.{ℕ, ◌≡◌, ◌≤◌, ◌<◌, ◌+◌, Bool, true, false, List, length, take, Option, Some, None, IfSome, IsTrue}
use Rattle.jk_io.specs.Moments.{Moment}
use Rattle.jk_io.specs.Told.{prepended, Rose}
use Rattle.http_front.specs.Unread.{unread}
use Rattle.http_front.specs.Body.{Data, Uses, reaches, dropped}
use Rattle.http_front.specs.Faults.{IsNoFailure}
use Rattle.http_front.specs.Places.{is_whole, is_limited}
use Rattle.http_front.specs.State.{place_of, taken_of, most_of, failed_of, data_left_of}
use Rattle.http_front.specs.Wants.{Want, is_met, wanted, settles}
use Rattle.http_front.specs.Walks.{IsUnder, counted, is_reached}
use Rattle.http_front.specs.declared.body.BodyIn.{BodyIn}
use Rattle.http_front.specs.declared.fault.BodyFault.{BodyFault}
use Rattle.http_front.specs.declared.fault.BodyFault.TheVariants as faults

-- a body, the client's bytes that were read and not used, and what the client tells
pub record BodyMoment : Type 0 where
  pub body : BodyIn
  pub inbox : List ℕ
  pub client : Moment

abbrev pub body_at : BodyIn → List ℕ → Moment → BodyMoment
body_at body inbox client = record { body = body; inbox = inbox; client = client }

-- the client's bytes that are not used
abbrev pub unread_at : BodyMoment → Option (List ℕ)
unread_at m = unread m.inbox m.client.incoming

-- the data that is left, where the client's bytes are told
abbrev pub data_at : BodyMoment → Option Data
data_at m = data_left_of m.body (unread_at m)

-- the bytes decide what a call answers
abbrev pub decides : Want → BodyIn → List ℕ → Bool
decides want body bytes = settles want (place_of body) (most_of body) (taken_of body) bytes

-- with this data more a chunked body stays below its limit
abbrev pub StaysBelow : BodyIn → List ℕ → Type 0
StaysBelow body data' = IsUnder (most_of body) (taken_of body) (place_of body) data'

-- the bytes that were used are the body's own and bring this data, and nothing failed
pub record BringsData (before after : BodyMoment) (data' : List ℕ) : Type 0 where
  pub uses : Uses (unread_at before) (unread_at after) (place_of before.body) (place_of after.body) data'
  pub taken : taken_of after.body ≡ counted (taken_of before.body) (length data')
  pub below : StaysBelow before.body data'
  pub going : failed_of before.body ≡ None
  pub goes_on : failed_of after.body ≡ None
  pub most : most_of after.body ≡ most_of before.body
  pub sent : after.client.sent ≡ before.client.sent
  pub steady : after.client.faults ≡ before.client.faults

-- the piece is the next n bytes of data, or all that are left
pub record TakesPiece (before after : BodyMoment) (n : ℕ) (piece : List ℕ) : Type 0 where
  pub on : BringsData before after piece
  pub next : IfSome (data_at before) (λ d. (piece ≡ take n d.bytes) × IsTrue (reaches n d))
  pub within : length piece ≤ n
  pub left : data_at after ≡ dropped n (data_at before)
  pub under : is_reached (place_of after.body) (most_of before.body) (taken_of after.body) ≡ false

-- the rest of the body was read, and its data dropped
pub record PassesRest (before after : BodyMoment) : Type 0 where
  pub data' : List ℕ
  pub on : BringsData before after data'
  pub over : is_whole (place_of after.body) ≡ true
  pub left : IfSome (data_at before) (λ d. (d.whole ≡ true) × (taken_of after.body ≡ counted (taken_of before.body) (length d.bytes)))
  pub limit : is_limited (place_of before.body) ≡ true → taken_of after.body < most_of before.body

-- the call came to this fault: the bytes that it used are gone, and the body stands where it stood
pub record MeetsFault (before after : BodyMoment) (want : Want) (why : BodyFault) : Type 0 where
  pub failed : failed_of after.body ≡ Some why
  -- the first fault is answered again, and nothing changes
  pub again : IfSome (failed_of before.body) (λ first. (why ≡ first) × (after ≡ before))
  pub gone : List ℕ
  pub used : unread_at before ≡ prepended gone (unread_at after)
  pub truncated : why ≡ faults.Truncated → failed_of before.body ≡ None
      → IfSome (data_at before) (λ d. (is_met want d ≡ false) × (d.bad ≡ false) × StaysBelow before.body d.bytes)
  pub bad : why ≡ faults.BadChunk → failed_of before.body ≡ None
      → IfSome (data_at before) (λ d. (is_met want d ≡ false) × (d.bad ≡ true) × StaysBelow before.body d.bytes)
  pub too_long : why ≡ faults.TooLong → failed_of before.body ≡ None → (is_limited (place_of before.body) ≡ true)
      × IfSome (data_at before) (λ d. most_of before.body ≤ taken_of before.body + length (wanted want d.bytes))
  -- a read failed, and it was needed: the bytes that had come by then didn't decide
  pub fault : why ≡ faults.Fault → failed_of before.body ≡ None → Rose before.client.faults after.client.faults
  pub awaited : why ≡ faults.Fault → failed_of before.body ≡ None → decides want before.body gone ≡ false
  pub steady : IsNoFailure why → after.client.faults ≡ before.client.faults
  pub no_fewer : before.client.faults ≤ after.client.faults
  pub taken : taken_of after.body ≡ taken_of before.body
  pub place : place_of after.body ≡ place_of before.body
  pub most : most_of after.body ≡ most_of before.body
  pub sent : after.client.sent ≡ before.client.sent
