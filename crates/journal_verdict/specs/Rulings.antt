-- The ruling on an entry of a journal: it follows from those before it, or what it has and ought to have.
use Rattle.std.specs.Prelude.{◌≡◌, ℕ, zero, suc, ◌+◌, ◌^◌, ◌<◌, ◌≤◌, true, false, List, length, reverse, take, slice_get, Some}
use Rattle.lb_book.specs.Commanded.{IsKnown}
use Rattle.lb_model.specs.Journal.{maintained_of, members, moment_of, next_of}
use Rattle.lb_model.specs.Legal.{HasValues, IsDoable, IsLegal, IsNext, taken_by}
use Rattle.lb_model.specs.Limits.{most_numbers}
use Rattle.lb_model.specs.Settings.{common_after}
use Rattle.lb_model.specs.Tickets.{is_out, out}
use Rattle.lb_model.specs.declared.change.Command.{Command}
use Rattle.lb_model.specs.declared.journal.Call.{Call}
use Rattle.lb_model.specs.declared.journal.Call.TheVariants as call
use Rattle.lb_model.specs.declared.journal.Entry.{Entry}
use Rattle.lb_model.specs.declared.opening.Opening.{Opening}
use Rattle.journal_verdict.specs.declared.ruling.Ruling.{Ruling}
use Rattle.journal_verdict.specs.declared.ruling.Ruling.TheVariants as ruling

-- Why a command can't be done: 1 no such member, 2 a value out of its range, 3 too wide a multiple; each after those before it.
abbrev pub IsRefusal : Opening → List Entry → Command → (code : ℕ) → Type 0
IsRefusal o p c zero = ⊥
IsRefusal o p c (suc zero) = ¬ IsKnown (members o) c
IsRefusal o p c (suc (suc zero)) = IsKnown (members o) c × ¬ HasValues c
IsRefusal o p c (suc (suc (suc zero))) = IsKnown (members o) c × HasValues c × (2 ^ 32 ≤ common_after o p (call.Admin c))
IsRefusal o p c (suc (suc (suc (suc n)))) = ⊥

-- The call may be answered, if there is a number for its entry.
abbrev pub IsAllowed : Opening → List Entry → (at : ℕ) → Call → Type 0
IsAllowed o p at (call.Select ask) = Unit {0}
IsAllowed o p at (call.Return ticket outcome) = is_out o p ticket ≡ true
IsAllowed o p at call.Maintain = maintained_of o p + o.config.maintain ≤ at
IsAllowed o p at (call.Admin c) = IsDoable o p c

-- Why the call of an entry has no legal answer; that there is no number for it is said last.
abbrev pub HasNoLegalAnswer : Opening → List Entry → Entry → Call → Ruling → Type 0
HasNoLegalAnswer o p e (call.Return ticket outcome) ruling.Stray = is_out o p ticket ≡ false
HasNoLegalAnswer o p e call.Maintain ruling.NotDue = e.at < maintained_of o p + o.config.maintain
HasNoLegalAnswer o p e (call.Admin c) (ruling.Refused code) = IsRefusal o p c code
HasNoLegalAnswer o p e asked ruling.Full = IsAllowed o p e.at asked × (most_numbers < e.seq + length (out o p) + taken_by asked)
HasNoLegalAnswer o p e asked other = ⊥

-- The ruling on an entry whose number and moment are right: the one legal answer, or why there is none.
abbrev pub RulesAfter : (v : ℕ) → Opening → List Entry → Entry → Ruling → Type 0
RulesAfter v o p e (ruling.Answer a) = IsNext v o p (record e { answer = a })
RulesAfter v o p e other = HasNoLegalAnswer o p e e.call other

-- The difference between what an entry has and what it ought to have: its number, then its moment, then its answer.
abbrev pub Differs : (v : ℕ) → Opening → List Entry → Entry → (kept ruled : Ruling) → Type 0
Differs v o p e (ruling.Seq kept) ruled = (kept ≡ e.seq) × (ruled ≡ ruling.Seq (next_of o p)) × ¬ (e.seq ≡ next_of o p)
Differs v o p e (ruling.Moment kept) ruled =
    (kept ≡ e.at) × (ruled ≡ ruling.Moment (moment_of o p)) × (e.seq ≡ next_of o p) × (e.at < moment_of o p)
Differs v o p e (ruling.Answer kept) ruled =
    (kept ≡ e.answer) × (e.seq ≡ next_of o p) × (moment_of o p ≤ e.at) × RulesAfter v o p e ruled × ¬ (ruled ≡ ruling.Answer kept)
Differs v o p e other ruled = ⊥

-- The entry at this place is the first that doesn't follow from those before it.
pub record IsFirstWrong (v : ℕ) (o : Opening) (entries : List Entry) (place : ℕ) (kept ruled : Ruling) : Type 0 where
  pub entry : Entry
  pub found : slice_get entries place ≡ Some entry
  pub before : IsLegal v o (take place entries)
  pub differs : Differs v o (reverse (take place entries)) entry kept ruled
