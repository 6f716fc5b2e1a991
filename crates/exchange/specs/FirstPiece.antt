-- The first piece of a body, taken before a member is chosen.
use Rattle.std.specs.Prelude.{◌≡◌, ℕ, ◌≤◌, false, List, length, take, IfSome, IsTrue}
use Rattle.jk_io.specs.Told.{Rose}
use Rattle.jk_io.specs.declared.traits.streams.Meanings.{Ghosts}
use Rattle.http_front.specs.Unread.{unread}
use Rattle.http_front.specs.Body.{dropped, reaches}
use Rattle.ajp_talk.specs.Moments.{BodyAt, TakesOfBody, data_at}
use Rattle.http_front.specs.declared.body.BodyIn.{BodyIn}
use Rattle.http_front.specs.declared.fault.BodyFault.{BodyFault}
use Rattle.http_front.specs.declared.fault.BodyFault.TheVariants as fault
use Rattle.exchange.specs.declared.ending.ExchangeEnd.{ExchangeEnd}
use Rattle.exchange.specs.declared.ending.ExchangeEnd.TheVariants as exchange_end

-- the client's bytes, as a body that is to be taken: `body_left C.Meanings body inbox client`
abbrev pub body_left : {C X : Type 0} → Ghosts C X → BodyIn → List ℕ → C → BodyAt
body_left told body inbox client = record { body = body; unread = unread inbox (told.incoming client) }

-- The first bytes of the data were taken: as many as were asked for, or all that a whole body has.
pub record TakesFirst (len : ℕ) (s n : BodyAt) (first : List ℕ) : Type 0 where
  pub piece : IfSome (data_at s) (λ d. (first ≡ take len d.bytes) × IsTrue (reaches len d))
  pub short : length first ≤ len
  pub left : data_at n ≡ dropped len (data_at s)
  pub takes : TakesOfBody s n first

-- Why it couldn't be taken.
abbrev pub IsFirstFailure : (len : ℕ) → BodyAt → (faults faults_now : ℕ) → ExchangeEnd → Type 0
IsFirstFailure len s faults faults_now (exchange_end.Done member told) = ⊥
IsFirstFailure len s faults faults_now (exchange_end.Own status) = ⊥
IsFirstFailure len s faults faults_now (exchange_end.Cut member told) = ⊥
IsFirstFailure len s faults faults_now exchange_end.ClientFault = Rose faults faults_now
IsFirstFailure len s faults faults_now exchange_end.Truncated = IfSome (data_at s) (λ d. (reaches len d ≡ false) × (d.bad ≡ false))
IsFirstFailure len s faults faults_now (exchange_end.Stray ticket returned_at) = ⊥
IsFirstFailure len s faults faults_now exchange_end.NoMemory = Unit {0}

-- How an exchange ends where the first piece can't be had. A body by length has neither a bad line nor a limit.
abbrev pub end_by : BodyFault → ExchangeEnd
end_by fault.Truncated = exchange_end.Truncated
end_by fault.BadChunk = exchange_end.Truncated
end_by fault.TooLong = exchange_end.Truncated
end_by fault.Fault = exchange_end.ClientFault
end_by fault.NoMemory = exchange_end.NoMemory
