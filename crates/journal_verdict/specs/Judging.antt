-- The Book that replays a journal, at an entry: it goes on by the entry, or the entry differs.
use Rattle.std.specs.Prelude.{◌≡◌, ◌≤◌, List, [], ◌∷◌, ◌++◌, Option, Some, None}
use Rattle.lb_book.specs.Journal.{Journal, next_number, past_of}
use Rattle.lb_model.specs.Journal.{moment_of}
use Rattle.lb_model.specs.Legal.{IsLegal, IsNext}
use Rattle.lb_model.specs.Segments.{IsKeptEntry}
use Rattle.lb_model.specs.declared.journal.Entry.{Entry}
use Rattle.journal_verdict.specs.Rulings.{Differs, IsFirstWrong, RulesAfter}
use Rattle.journal_verdict.specs.declared.ruling.Ruling.{Ruling}
use Rattle.journal_verdict.specs.declared.ruling.Ruling.TheVariants as ruling
use Rattle.journal_verdict.specs.declared.ruling.Wrong.{Wrong}

-- An entry that a segment can keep has the Book's next number and no moment before its last one.
pub record IsInTurn (b : Journal) (e : Entry) : Type 0 where
  pub number : e.seq ≡ next_number b
  pub moment : moment_of b.opening (past_of b) ≤ e.at
  pub kept : IsKeptEntry b.rules e

-- The Book went on by just this entry.
pub record BookGoesOn (old new : Journal) (e : Entry) : Type 0 where
  pub rules : new.rules ≡ old.rules
  pub opening : new.opening ≡ old.opening
  pub entries : new.entries ≡ old.entries ++ e ∷ []
  pub newest : past_of new ≡ e ∷ past_of old

-- The ruling on an entry; with an answer the Book went on by it.
abbrev pub RulesOn : Entry → (old new : Journal) → Ruling → Type 0
RulesOn e old new (ruling.Answer a) =
    RulesAfter old.rules old.opening (past_of old) e (ruling.Answer a) × BookGoesOn old new (record e { answer = a })
RulesOn e old new other = RulesAfter old.rules old.opening (past_of old) e other

-- The entry follows, and the Book went on by it; or it differs.
abbrev pub FollowsEntry : Entry → (old new : Journal) → Option (Ruling × Ruling) → Type 0
FollowsEntry e old new None = IsNext old.rules old.opening (past_of old) e × BookGoesOn old new e
FollowsEntry e old new (Some wrong) = Differs old.rules old.opening (past_of old) e wrong.0 wrong.1

-- The Book went on by just these entries, from where it had none.
pub record Replays (old new : Journal) (kept : List Entry) : Type 0 where
  pub rules : new.rules ≡ old.rules
  pub opening : new.opening ≡ old.opening
  pub entries : new.entries ≡ kept

-- The judgement on a list of entries: nothing where the Book went on by each of them, else the first that differs.
abbrev pub JudgesEntries : (old new : Journal) → List Entry → Option Wrong → Type 0
JudgesEntries old new es None = IsLegal old.rules old.opening es × Replays old new es
JudgesEntries old new es (Some w) = IsFirstWrong old.rules old.opening es w.at w.kept w.ruled
