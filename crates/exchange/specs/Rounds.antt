-- One round of an exchange: the desk is asked for a member, talks are held on it, and its lease is handed back.
use Rattle.std.specs.Prelude.{◌≡◌, ℕ, ◌+◌, ◌≤◌, ◌^◌, Bool, true, false, List, [], ◌∷◌, ◌++◌, length, slice_get, Option, Some, None}
use Rattle.std.specs.List.{All}
use Rattle.jk_io.specs.Answers.{Answers}
use Rattle.jk_io.specs.declared.traits.streams.Meanings.{Ghosts}
use Rattle.jk_io.specs.declared.reaching.Beside.{Beside}
use Rattle.lb_model.specs.declared.journal.Call.{Call}
use Rattle.lb_model.specs.declared.journal.Call.TheVariants as call
use Rattle.lb_model.specs.declared.journal.Outcome.{Outcome}
use Rattle.lb_model.specs.declared.member.MemberConfig.{MemberConfig}
use Rattle.lb_model.specs.declared.refusal.FullMark.{FullMark}
use Rattle.lb_model.specs.declared.refusal.RoomError.TheVariants as room
use Rattle.lb_model.specs.declared.refusal.Stray.{Stray}
use Rattle.lb_book.specs.Returned.{HaveReturned}
use Rattle.lb_book.specs.ToldBooks.{AreSound}
use Rattle.lb_book.specs.Desks.{Chooses, DeskState, LeaseNote, MeetsStray, RefusesChoice, TakesBack}
use Rattle.lb_book.specs.declared.receipt.Receipt.{Receipt}
use Rattle.lb_book.specs.declared.desk.Choice.TheVariants as choice
use Rattle.ajp_talk.specs.declared.ending.Cause.{Cause}
use Rattle.ajp_reply.specs.declared.stage.Stage.{Stage}
use Rattle.ajp_talk.specs.declared.ending.TalkEnd.{TalkEnd}
use Rattle.ajp_talk.specs.declared.ending.TalkEnd.TheVariants as ends
use Rattle.ajp_talk.specs.declared.ending.Told.{Told}
use Rattle.http_front.specs.declared.body.BodyIn.{BodyIn}
use Rattle.site_config.specs.declared.endpoint.Endpoint.{Endpoint}
use Rattle.exchange.specs.Ends.{outcome_for}
use Rattle.exchange.specs.OneTalk.{Around, around}
use Rattle.exchange.specs.Requests.{Errand, allows, ask_for}
use Rattle.exchange.specs.Talks.{HasRun}
use Rattle.exchange.specs.declared.ending.Ran.{Ran}
use Rattle.exchange.specs.declared.ending.Ran.TheVariants as ran_is

-- The moment between two rounds: the desk, the clock's answers to come, and the moment between two talks.
pub record Scene : Type 0 where
  pub desk : DeskState
  pub clock : Option (List ℕ)
  pub around : Around

-- The same, by what the types tell: `scene B.state K.answers R.Meanings C.Meanings`.
abbrev pub scene : {B K R C X : Type 0} → (B → DeskState) → (K → Option (List ℕ)) → Ghosts R Beside → Ghosts C X
    → B → K → R → C → BodyIn → List ℕ → Scene
scene state answers told_of_reach told_of_client desk clock reach client body inbox = record {
  desk = state desk;
  clock = answers clock;
  around = around told_of_reach told_of_client reach client body inbox;
}

-- A round. The moments are those at which the desk was asked and got the lease back.
pub record Round : Type 0 where
  pub member : ℕ
  pub ticket : ℕ
  pub chosen_at : ℕ
  pub returned_at : ℕ
  pub config : MemberConfig
  pub endpoint : Endpoint
  pub ran : Ran

abbrev pub lease_of : Errand → Round → LeaseNote
lease_of q r = record { lb = q.lb; member = r.member; ticket = r.ticket }

abbrev pub same_lease : LeaseNote → LeaseNote
same_lease lease = lease

abbrev pub same_mark : FullMark → FullMark
same_mark mark = mark

-- the ticket came back, or was a stray
abbrev pub IsBack : DeskState → DeskState → (session at : ℕ) → LeaseNote → Outcome → Option Stray → Type 0
IsBack old new session at lease outcome None = TakesBack old new session at lease outcome
IsBack old new session at lease outcome (Some stray) = MeetsStray old new lease stray

-- The desk chose the member, which wasn't tried; talks were held on it; its lease was handed back once. The desk then
-- holds the tickets that it held before.
pub record IsRound (q : Errand) (first : List ℕ) (tried : ℕ) (fresh : Bool) (s n : Scene) (r : Round) (stray : Option Stray) : Type 0 where
  pub desk : DeskState
  pub clock : Option (List ℕ)
  pub configured : slice_get q.balancer.book.members r.member ≡ Some r.config
  pub reached : slice_get q.balancer.ends r.member ≡ Some r.endpoint
  pub asked_at : Answers s.clock r.chosen_at clock
  pub chose : Chooses same_lease s.desk desk q.lb q.session r.chosen_at (ask_for q tried) (choice.Chosen r.member (lease_of q r))
  pub talked : HasRun q first r.member r.config r.endpoint fresh s.around n.around r.ran
  pub handed_at : Answers clock r.returned_at n.clock
  pub back : IsBack desk n.desk q.session r.returned_at (lease_of q r) (outcome_for r.endpoint r.ran) stray
  pub fulls : n.desk.fulls ≡ desk.fulls
  pub held : n.desk.held ≡ s.desk.held

-- Why no member was chosen: none may be, or the session's own doesn't serve, or the journal has no number left, or
-- memory was wanted.
abbrev pub FindsNone : Errand → (tried : ℕ) → DeskState → DeskState → (at : ℕ) → Type 0
FindsNone q tried old new at = Chooses same_lease old new q.lb q.session at (ask_for q tried) choice.NoMember

abbrev pub IsForced : Errand → (tried : ℕ) → DeskState → DeskState → (at : ℕ) → Type 0
IsForced q tried old new at = Chooses same_lease old new q.lb q.session at (ask_for q tried) choice.Forced

abbrev pub IsFull : Errand → DeskState → DeskState → (at : ℕ) → Type 0
IsFull q old new at = (mark : FullMark) × RefusesChoice same_mark old new q.lb q.session at (room.Full mark)

abbrev pub WantsMemory : Errand → DeskState → DeskState → (at : ℕ) → Type 0
WantsMemory q old new at = RefusesChoice same_mark old new q.lb q.session at room.NoMemory

-- The desk was asked at the clock's next answer, and for this reason chose no member: nothing else was done.
pub record IsUnchosen (q : Errand) (s n : Scene) (Why : DeskState → DeskState → ℕ → Type 0) : Type 0 where
  pub at : ℕ
  pub asked_at : Answers s.clock at n.clock
  pub why : Why s.desk n.desk at
  pub held : n.desk.held ≡ s.desk.held
  pub around : n.around ≡ s.around

-- the last talk of the round ended so
abbrev pub HasEnded : Round → TalkEnd → Type 0
HasEnded r end = (bytes : ℕ) × (r.ran ≡ ran_is.Ended end bytes)

-- The last talk failed, and the member's options allow another try.
pub record MayGoOn (q : Errand) (r : Round) : Type 0 where
  pub stage : Stage
  pub cause : Cause
  pub told : Option Told
  pub moved : ℕ
  pub ended : HasEnded r (ends.Failed stage cause told moved)
  pub allowed : allows r.endpoint q.head stage ≡ true

-- the members of these rounds, as a set
abbrev pub tried_in : List Round → ℕ
tried_in [] = 0
tried_in (r ∷ past) = tried_in past + 2 ^ r.member

abbrev pub is_later : List Round → Bool
is_later [] = false
is_later (r ∷ past) = true

-- These rounds were gone through, the newest first, and after each another try was allowed.
abbrev pub HaveGoneOn : Errand → (first : List ℕ) → Scene → List Round → Scene → Type 0
HaveGoneOn q first s [] n = n ≡ s
HaveGoneOn q first s (r ∷ past) n =
    (mid : Scene) × HaveGoneOn q first s past mid × IsRound q first (tried_in past) (is_later past) mid n r None
    × MayGoOn q r

-- a call that an exchange makes of a desk, or a Maintain that was due before it
abbrev pub IsAskOrReturn : Call → Type 0
IsAskOrReturn (call.Select ask) = Unit {0}
IsAskOrReturn (call.Return ticket outcome) = Unit {0}
IsAskOrReturn call.Maintain = Unit {0}
IsAskOrReturn (call.Admin command) = ⊥

-- a receipt of such a call, of this session and balancer
pub record IsReceiptOf (lb session : ℕ) (r : Receipt) : Type 0 where
  pub balancer : r.lb ≡ lb
  pub caller : r.entry.session ≡ session
  pub kind : IsAskOrReturn r.entry.call

-- A desk after calls of an exchange: what never changes of it, its counts, which never fall, and the receipts that it gained.
-- No command was too wide, since none is asked for. Told Books stay sound. Unless a stray was met, each ticket that was given
-- out came back.
pub record IsDeskAfter (lb session : ℕ) (old new : DeskState) : Type 0 where
  pub caller : new.caller ≡ old.caller
  pub sizes : new.sizes ≡ old.sizes
  pub parts : new.parts ≡ old.parts
  pub strays : old.strays ≤ new.strays
  pub fulls : old.fulls ≤ new.fulls
  pub wides : new.wides ≡ old.wides
  pub met : (stray : Stray) → old.met ≡ Some stray → new.met ≡ Some stray
  pub sound : AreSound old.sizes old.books → AreSound new.sizes new.books
  pub gained : List Receipt
  pub receipts : new.receipts ≡ old.receipts ++ gained
  pub added : new.added ≡ old.added + length gained
  pub own : All (IsReceiptOf lb session) gained
  pub returned : new.met ≡ None → HaveReturned gained
