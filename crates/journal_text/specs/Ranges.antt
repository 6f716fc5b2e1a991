-- The values that a line can hold: each is one of its field's type, and an entry is one that a segment keeps.
use Rattle.std.specs.Prelude.{◌≡◌, ℕ, ◌^◌, ◌<◌, ◌≤◌, ◌==◌, All, List, Option, Some, None}
use Rattle.std.specs.Bool.{MatchBool}
use Rattle.lb_model.specs.Legal.{KnowsTerms}
use Rattle.lb_model.specs.Limits.{most_bytes}
use Rattle.lb_model.specs.Segments.{AreRules}
use Rattle.lb_model.specs.declared.ask.Ask.{Ask}
use Rattle.lb_model.specs.declared.change.Change.{Change}
use Rattle.lb_model.specs.declared.change.Command.{Command}
use Rattle.lb_model.specs.declared.change.Command.TheVariants as command
use Rattle.lb_model.specs.declared.change.Redirect.{Redirect}
use Rattle.lb_model.specs.declared.change.Redirect.TheVariants as redirect
use Rattle.lb_model.specs.declared.journal.Answer.{Answer}
use Rattle.lb_model.specs.declared.journal.Answer.TheVariants as answer
use Rattle.lb_model.specs.declared.journal.Call.{Call}
use Rattle.lb_model.specs.declared.journal.Call.TheVariants as call
use Rattle.lb_model.specs.declared.journal.Entry.{Entry}
use Rattle.lb_model.specs.declared.state.MemberState.{MemberState}
use Rattle.lb_model.specs.declared.state.MemberState.TheVariants as state
use Rattle.journal_text.specs.declared.line.BalancerValues.{BalancerValues}
use Rattle.journal_text.specs.declared.line.Beginning.{Beginning}
use Rattle.journal_text.specs.declared.line.Line.{Line}
use Rattle.journal_text.specs.declared.line.Line.TheVariants as line
use Rattle.journal_text.specs.declared.line.MemberValues.{MemberValues}

abbrev pub IsLong : ℕ → Type 0
IsLong n = n < 2 ^ 64

abbrev pub IsShortNumber : ℕ → Type 0
IsShortNumber n = n < 2 ^ 32

abbrev pub IsShortIfAny : Option ℕ → Type 0
IsShortIfAny None = Unit {0}
IsShortIfAny (Some n) = IsShortNumber n

abbrev pub AreBytes : List ℕ → Type 0
AreBytes name = All (λ byte. byte < 256) name

abbrev pub FitsState : MemberState → Type 0
FitsState state.Ok = Unit {0}
FitsState (state.Error at) = IsLong at
FitsState state.Recover = Unit {0}
FitsState (state.Probe ticket) = IsLong ticket

-- the asks of rules 1 know no mount terms
abbrev pub FitsTerms : (rules : ℕ) → Ask → Type 0
FitsTerms rules ask = MatchBool (rules == 1) ((ask.disabled ≡ 0) × (ask.stopped ≡ 0)) (IsLong ask.disabled × IsLong ask.stopped)

pub record FitsAsk (rules : ℕ) (ask : Ask) : Type 0 where
  pub routed : IsShortIfAny ask.routed
  pub tried : IsLong ask.tried
  pub terms : FitsTerms rules ask

abbrev pub FitsRedirect : Redirect → Type 0
FitsRedirect redirect.Keep = Unit {0}
FitsRedirect redirect.None = Unit {0}
FitsRedirect (redirect.To member) = IsShortNumber member

pub record FitsChange (change : Change) : Type 0 where
  pub factor : IsShortIfAny change.factor
  pub distance : IsShortIfAny change.distance
  pub redirect : FitsRedirect change.redirect

abbrev pub FitsCommand : Command → Type 0
FitsCommand (command.Update member change) = IsShortNumber member × FitsChange change
FitsCommand (command.Reset member) = IsShortNumber member
FitsCommand (command.Recover member) = IsShortNumber member

abbrev pub FitsCall : (rules : ℕ) → Call → Type 0
FitsCall rules (call.Select ask) = FitsAsk rules ask
FitsCall rules (call.Return ticket outcome) = IsLong ticket × (outcome.bytes ≤ most_bytes)
FitsCall rules call.Maintain = Unit {0}
FitsCall rules (call.Admin c) = FitsCommand c

-- the ticket of a choice is the entry's number
abbrev pub FitsAnswer : (seq : ℕ) → Answer → Type 0
FitsAnswer seq (answer.Chosen member ticket how probe) = IsShortNumber member × (ticket ≡ seq)
FitsAnswer seq answer.NoMember = Unit {0}
FitsAnswer seq answer.Forced = Unit {0}
FitsAnswer seq answer.Done = Unit {0}

pub record FitsEntry (rules : ℕ) (e : Entry) : Type 0 where
  pub seq : IsLong e.seq
  pub session : IsShortNumber e.session
  pub at : IsLong e.at
  pub asked : FitsCall rules e.call
  pub answered : FitsAnswer e.seq e.answer

pub record FitsBalancer (b : BalancerValues) : Type 0 where
  pub maintain : IsLong b.maintain
  pub recover : IsLong b.recover
  pub members : IsShortNumber b.members

pub record FitsMember (m : MemberValues) : Type 0 where
  pub factor : IsShortNumber m.factor
  pub distance : IsShortNumber m.distance
  pub redirect : IsShortIfAny m.redirect
  pub pool : IsShortNumber m.pool
  pub state : FitsState m.state
  pub load : m.load < 2 ^ 128

pub record FitsBeginning (b : Beginning) : Type 0 where
  pub next : IsLong b.next
  pub at : IsLong b.at
  pub maintained : IsLong b.maintained
  pub chosen : IsShortIfAny b.chosen

-- the line can stand in a segment of these rules
abbrev pub FitsLine : (rules : ℕ) → Line → Type 0
FitsLine rules (line.Rules version) = (1 ≤ version) × (version ≤ 2)
FitsLine rules (line.Balancer name values) = AreBytes name × FitsBalancer values
FitsLine rules (line.Member name route values) = AreBytes name × AreBytes route × FitsMember values
FitsLine rules (line.Lease ticket member) = IsLong ticket × IsShortNumber member
FitsLine rules (line.From beginning) = FitsBeginning beginning
FitsLine rules (line.Entry entry) = FitsEntry rules entry
FitsLine rules (line.End count) = IsLong count

-- the ticket of a choice is the entry's number
abbrev pub HasTicket : (seq : ℕ) → Answer → Type 0
HasTicket seq (answer.Chosen member ticket how probe) = ticket ≡ seq
HasTicket seq answer.NoMember = Unit {0}
HasTicket seq answer.Forced = Unit {0}
HasTicket seq answer.Done = Unit {0}

-- a Return moves at most 2^44 bytes, and under rules 1 an ask knows no mount terms
abbrev pub IsKeptCall : (rules : ℕ) → Call → Type 0
IsKeptCall rules (call.Select ask) = KnowsTerms rules ask
IsKeptCall rules (call.Return ticket outcome) = outcome.bytes ≤ most_bytes
IsKeptCall rules call.Maintain = Unit {0}
IsKeptCall rules (call.Admin c) = Unit {0}

-- what a segment keeps of a line: rules are 1 or 2, and an entry is one of the segment's rules
abbrev pub IsKeptLine : (rules : ℕ) → Line → Type 0
IsKeptLine rules (line.Rules version) = AreRules version
IsKeptLine rules (line.Entry e) = HasTicket e.seq e.answer × IsKeptCall rules e.call
IsKeptLine rules other = Unit {0}
