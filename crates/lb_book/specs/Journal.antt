-- A Book as contracts see it: its rules, opening and entries, and the state after each call.
use Rattle.std.specs.Prelude.{◌≡◌, ℕ, ◌+◌, ◌<◌, ◌≤◌, max, List, [], ◌∷◌, ◌++◌, length, map, reverse, None, Result, Ok, Err}
use Rattle.lb_model.specs.Journal.{next_of, moment_of}
use Rattle.lb_model.specs.Limits.{modern_rules, most_numbers}
use Rattle.lb_model.specs.Tickets.{out}
use Rattle.lb_model.specs.Legal.{IsLegal}
use Rattle.lb_model.specs.declared.member.MemberConfig.{MemberConfig}
use Rattle.lb_model.specs.declared.config.LbConfig.{LbConfig}
use Rattle.lb_model.specs.declared.state.MemberState.TheVariants as State
use Rattle.lb_model.specs.declared.journal.Call.{Call}
use Rattle.lb_model.specs.declared.journal.Entry.{Entry}
use Rattle.lb_model.specs.declared.view.MemberRow.{MemberRow}
use Rattle.lb_model.specs.declared.opening.Opening.{Opening}
use Rattle.lb_model.specs.declared.segment.Segment.{Segment}
use Rattle.lb_model.specs.declared.refusal.FullMark.{FullMark}
use Rattle.lb_model.specs.declared.refusal.RoomError.{RoomError}
use Rattle.lb_model.specs.declared.refusal.RoomError.TheVariants as Room

-- A Book: its rules, the opening, the kept entries, oldest first, and how many it ever added.
pub record Journal : Type 0 where
  pub rules : ℕ
  pub opening : Opening
  pub entries : List Entry
  pub added : ℕ

-- The kept entries, newest first.
abbrev pub past_of : Journal → List Entry
past_of b = reverse b.entries

-- The number of the entry that comes next, and the count of the tickets that are out.
abbrev pub next_number : Journal → ℕ
next_number b = next_of b.opening (past_of b)

abbrev pub tickets_out : Journal → ℕ
tickets_out b = length (out b.opening (past_of b))

-- The kept entries, replayed from the opening by the rules, give each recorded answer.
abbrev pub IsSound : Journal → Type 0
IsSound b = IsLegal b.rules b.opening b.entries

-- The segment of a Book: its rules, its opening and the kept entries.
pub record IsSegmentOf (b : Journal) (s : Segment) : Type 0 where
  pub rules : s.rules ≡ b.rules
  pub opening : s.opening ≡ b.opening
  pub entries : s.entries ≡ b.entries

-- The call of a session at a moment added e, and nothing else. The entry's moment is never before the last one.
pub record AddsEntry (old new : Journal) (session at : ℕ) (call : Call) (e : Entry) : Type 0 where
  pub number : e.seq ≡ next_number old
  pub caller : e.session ≡ session
  pub moment : e.at ≡ max at (moment_of old.opening (past_of old))
  pub asked : e.call ≡ call
  pub grown : new ≡ record old { entries = old.entries ++ e ∷ []; added = old.added + 1 }
  pub newest : past_of new ≡ e ∷ past_of old

-- A refusal's mark has these numbers.
abbrev pub IsMarked : (next out : ℕ) → FullMark → Type 0
IsMarked next out mark = (mark.next ≡ next) × (mark.out ≡ out)

-- A refusal for want of numbers comes exactly where `more` beside those of the tickets out are too many.
abbrev pub IsFullUnless : {T : Type 0} → (next out more : ℕ) → Result T (RoomError FullMark) → Type 0
IsFullUnless next out more (Ok value) = next + out + more ≤ most_numbers
IsFullUnless next out more (Err (Room.Full mark)) = (most_numbers < next + out + more) × IsMarked next out mark
IsFullUnless next out more (Err Room.NoMemory) = next + out + more ≤ most_numbers

-- A member's row at the start.
abbrev pub start_row : MemberConfig → MemberRow
start_row c = record {
  name = c.name;
  state = State.Ok;
  load = 0;
  busy = 0;
  activation = c.activation;
  factor = c.factor;
  distance = c.distance;
  redirect = c.redirect;
}

-- A Book of rules 2 that starts at a moment with a number: every member is Ok, without load or tickets.
pub record IsStart (b : Journal) (config : LbConfig) (at first : ℕ) : Type 0 where
  pub rules : b.rules ≡ modern_rules
  pub empty : b.entries ≡ []
  pub added : b.added ≡ 0
  pub configured : b.opening.config ≡ config
  pub rows : b.opening.rows ≡ map start_row config.members
  pub none_out : b.opening.out ≡ []
  pub next : b.opening.next ≡ first
  pub moment : b.opening.at ≡ at
  pub maintained : b.opening.maintained ≡ at
  pub chosen : b.opening.chosen ≡ None
