-- One exchange whole: from a request to what its client has. Read this first.
use Rattle.std.specs.Prelude.{◌≡◌, ℕ, ◌≤◌, ◌⊎◌, Bool, false, true, List, Option, Some, None, IfSome}
use Rattle.jk_io.specs.Moments.{Moment}
use Rattle.jk_io.specs.Told.{appended, PutsFront, Rose}
use Rattle.jk_io.specs.declared.reaching.Talk.{Talk}
use Rattle.lb_model.specs.declared.refusal.Stray.{Stray}
use Rattle.ajp_talk.specs.Moments.{BodyAt, IsUsed}
use Rattle.ajp_talk.specs.declared.ending.Cause.{Cause}
use Rattle.ajp_reply.specs.declared.stage.Stage.{Stage}
use Rattle.ajp_talk.specs.declared.ending.TalkEnd.TheVariants as ends
use Rattle.ajp_talk.specs.declared.ending.Told.{Told}
use Rattle.forwarding.specs.FirstPiece.{first_len}
use Rattle.http_out.specs.Own.{own_bytes, own_of}
use Rattle.exchange.specs.Deliveries.{PutsShort}
use Rattle.exchange.specs.Ends.{status_for}
use Rattle.exchange.specs.FirstPiece.{IsFirstFailure, TakesFirst}
use Rattle.exchange.specs.Requests.{Errand, allows, own_kind}
use Rattle.exchange.specs.Rounds.{FindsNone, HasEnded, HaveGoneOn, IsForced, IsFull, IsRound, IsUnchosen, Round, Scene, WantsMemory, is_later, tried_in}
use Rattle.exchange.specs.declared.ending.ExchangeEnd.{ExchangeEnd}
use Rattle.exchange.specs.declared.ending.ExchangeEnd.TheVariants as exchange_end
use Rattle.exchange.specs.declared.ending.Ran.TheVariants as ran_is

-- The last talk of the round failed, and the member's options forbid another try.
pub record IsGivenUp (q : Errand) (r : Round) (cause : Cause) (told : Option Told) : Type 0 where
  pub stage : Stage
  pub moved : ℕ
  pub ended : HasEnded r (ends.Failed stage cause told moved)
  pub forbidden : allows r.endpoint q.head stage ≡ false

-- The last talk of the round found the body bad.
pub record MetBadBody (r : Round) (status : ℕ) (told : Option Told) : Type 0 where
  pub passed : Bool
  pub moved : ℕ
  pub ended : HasEnded r (ends.BadBody status told passed moved)

-- In the last talk of the round the client was gone: its bytes ended, or it failed.
pub record LostClient (r : Round) (truncated : Bool) : Type 0 where
  pub keep : Bool
  pub moved : ℕ
  pub ended : HasEnded r (ends.ClientGone truncated keep moved)

-- The last talk of the round brought a whole reply.
pub record HasReply (r : Round) (told : Told) : Type 0 where
  pub reuse : Bool
  pub moved : ℕ
  pub ended : HasEnded r (ends.Done told reuse moved)

-- Why an own answer follows a round of which no byte was passed: 413 where the member takes no packet of that size, 503
-- and 502 where the talk failed and no other try is allowed, 400 and 413 where the body is bad.
abbrev pub IsOwnAfter : Errand → Round → (status : ℕ) → Type 0
IsOwnAfter q r status =
    ((r.ran ≡ ran_is.TooLarge) × (status ≡ 413))
    ⊎ (((cause : Cause) × IsGivenUp q r cause None × (status ≡ status_for cause))
    ⊎ MetBadBody r status None)

-- The last round, after the others, whose lease came back.
abbrev pub IsLast : Errand → (first : List ℕ) → List Round → Scene → Scene → Round → Type 0
IsLast q first past s n r = IsRound q first (tried_in past) (is_later past) s n r None

-- Why an own answer is given: 503 where no member may be chosen, 500 where a session's own doesn't serve and where the
-- journal is full, or what the last round came to.
abbrev pub IsOwnCause : Errand → (first : List ℕ) → List Round → Scene → Scene → (status : ℕ) → Type 0
IsOwnCause q first past s n status =
    ((status ≡ 503) × IsUnchosen q s n (FindsNone q (tried_in past)))
    ⊎ (((status ≡ 500) × IsUnchosen q s n (IsForced q (tried_in past)))
    ⊎ (((status ≡ 500) × IsUnchosen q s n (IsFull q))
    ⊎ ((r : Round) × IsLast q first past s n r × IsOwnAfter q r status)))

-- the answer with this status was written whole and went out, no call failed, and nothing else was done
pub record WritesOwn (q : Errand) (s n : Scene) (status : ℕ) : Type 0 where
  pub written : IfSome (own_of status) (λ own. n.around.client.sent ≡ appended s.around.client.sent (own_bytes own (own_kind q)))
  pub steady : n.around.client.faults ≡ s.around.client.faults
  pub rest : n ≡ record s { around = record s.around { client = n.around.client } }

-- a front of it was written, and nothing else was done
pub record BreaksOwn (q : Errand) (s n : Scene) (status : ℕ) : Type 0 where
  pub written : IfSome (own_of status) (λ own. PutsFront s.around.client.sent n.around.client.sent (own_bytes own (own_kind q)))
  pub no_fewer : s.around.client.faults ≤ n.around.client.faults
  pub rest : n ≡ record s { around = record s.around { client = n.around.client } }

-- memory was wanted before all of it was written, no call failed, and nothing else was done
pub record WantsOwn (q : Errand) (s n : Scene) (status : ℕ) : Type 0 where
  pub written : IfSome (own_of status) (λ own. PutsShort s.around.client.sent n.around.client.sent (own_bytes own (own_kind q)))
  pub steady : n.around.client.faults ≡ s.around.client.faults
  pub rest : n ≡ record s { around = record s.around { client = n.around.client } }

-- How it ended: the rounds before the last are `past`, the last one went from `s` to `m`, and `n` is the end.
abbrev pub EndsIn : Errand → (first : List ℕ) → List Round → (s m n : Scene) → ExchangeEnd → Type 0
EndsIn q first past s m n (exchange_end.Done member told) =
    (r : Round) × IsLast q first past s m r × (r.member ≡ member) × HasReply r told × (n ≡ m)
EndsIn q first past s m n (exchange_end.Own status) = IsOwnCause q first past s m status × WritesOwn q m n status
EndsIn q first past s m n (exchange_end.Cut member told) =
    (r : Round) × IsLast q first past s m r × (r.member ≡ member) × (n ≡ m)
    × (((cause : Cause) × IsGivenUp q r cause (Some told)) ⊎ ((status : ℕ) × MetBadBody r status (Some told)))
EndsIn q first past s m n exchange_end.ClientFault =
    ((r : Round) × IsLast q first past s m r × LostClient r false × (n ≡ m))
    ⊎ ((status : ℕ) × IsOwnCause q first past s m status × BreaksOwn q m n status × Rose m.around.client.faults n.around.client.faults)
EndsIn q first past s m n exchange_end.Truncated = (r : Round) × IsLast q first past s m r × LostClient r true × (n ≡ m)
EndsIn q first past s m n (exchange_end.Stray ticket returned_at) =
    (r : Round) × (stray : Stray) × IsRound q first (tried_in past) (is_later past) s m r (Some stray)
    × (ticket ≡ stray.ticket) × (returned_at ≡ stray.returned_at) × (n ≡ m)
EndsIn q first past s m n exchange_end.NoMemory =
    (IsUnchosen q s m (WantsMemory q) × (n ≡ m))
    ⊎ (((r : Round) × (bytes : ℕ) × IsLast q first past s m r × (r.ran ≡ ran_is.Wanted bytes) × (n ≡ m))
    ⊎ ((status : ℕ) × IsOwnCause q first past s m status × WantsOwn q m n status))

-- Rounds were gone through, each allowed by the one before it, and the last one ended the exchange.
pub record GoesThrough (q : Errand) (first : List ℕ) (s n : Scene) (end : ExchangeEnd) : Type 0 where
  pub past : List Round
  pub asked : Scene
  pub ruled : Scene
  pub gone_on : HaveGoneOn q first s past asked
  pub ends_in : EndsIn q first past asked ruled n end

-- With this client and this body, and nothing else changed.
abbrev pub begun_with : Scene → Moment → BodyAt → Scene
begun_with s client body = record s { around = record s.around { client = client; body = body } }

-- The first piece was taken of the body, nothing was written, and no call of the client failed; then rounds were gone through.
pub record HasRounds (q : Errand) (s n : Scene) (end : ExchangeEnd) : Type 0 where
  pub first : List ℕ
  pub client : Moment
  pub body : BodyAt
  pub took : TakesFirst (first_len q.head.plan q.balancer.ends) s.around.body body first
  pub unwritten : client.sent ≡ s.around.client.sent
  pub steady : client.faults ≡ s.around.client.faults
  pub through : GoesThrough q first (begun_with s client body) n end

-- An end that neither a failed call of the client nor a stray made. Truncated is one: the bytes ended. So is want of memory.
abbrev pub IsCalmExchange : ExchangeEnd → Type 0
IsCalmExchange (exchange_end.Done member told) = Unit {0}
IsCalmExchange (exchange_end.Own status) = Unit {0}
IsCalmExchange (exchange_end.Cut member told) = Unit {0}
IsCalmExchange exchange_end.ClientFault = ⊥
IsCalmExchange exchange_end.Truncated = Unit {0}
IsCalmExchange (exchange_end.Stray ticket returned_at) = ⊥
IsCalmExchange exchange_end.NoMemory = Unit {0}

-- Before a first round: the first piece couldn't be taken, or memory was wanted. Neither desk nor clock nor reach was asked.
pub record HasNoRound (q : Errand) (s n : Scene) (end : ExchangeEnd) : Type 0 where
  pub why : IsFirstFailure (first_len q.head.plan q.balancer.ends) s.around.body s.around.client.faults n.around.client.faults end
  pub desk : n.desk ≡ s.desk
  pub clock : n.clock ≡ s.clock
  pub talks : n.around.talks ≡ s.around.talks
  pub faults : n.around.faults ≡ s.around.faults
  pub written : n.around.client.sent ≡ s.around.client.sent
  pub steady : IsCalmExchange end → n.around.client.faults ≡ s.around.client.faults
  pub used : IsUsed s.around.body n.around.body

-- An exchange, by its end.
abbrev pub IsExchange : Errand → Scene → Scene → ExchangeEnd → Type 0
IsExchange q s n end = HasNoRound q s n end ⊎ HasRounds q s n end

-- the client's bytes were used from the front
abbrev pub UsesFront : Errand → Scene → Scene → ExchangeEnd → Type 0
UsesFront q s n end = IsUsed s.around.body n.around.body

-- the talks that the reach noted were added after the others
abbrev pub NotesTalks : Errand → Scene → Scene → ExchangeEnd → Type 0
NotesTalks q s n end = (noted : List Talk) × (n.around.talks ≡ appended s.around.talks noted)

-- after a calm end the client's count of faults stands
abbrev pub StaysCalm : Errand → Scene → Scene → ExchangeEnd → Type 0
StaysCalm q s n end = IsCalmExchange end → n.around.client.faults ≡ s.around.client.faults

-- P of each exchange of this errand that ends so: of where it began, and where it ended.
abbrev pub InEachExchange : Errand → ExchangeEnd → (Errand → Scene → Scene → ExchangeEnd → Type 0) → Type 0
InEachExchange q end P = (s n : Scene) → IsExchange q s n end → P q s n end
