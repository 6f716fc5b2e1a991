-- The rows after a Select: the chosen member's, the revived ones, and the others as they were.
use Rattle.std.specs.Prelude.{◌≡◌, ℕ, ◌+◌, ◌<◌, ◌≤◌, Bool, List, length, slice_index_or, if◌then◌else◌}
use Rattle.lb_model.specs.Journal.{chose}
use Rattle.lb_model.specs.declared.ask.Ask.{Ask}
use Rattle.lb_model.specs.declared.member.Method.{Method}
use Rattle.lb_model.specs.declared.journal.Answer.{Answer}
use Rattle.lb_rules.specs.declared.choice.SelectAnswer.{SelectAnswer}
use Rattle.lb_rules.specs.declared.standing.Standing.{Standing}
use Rattle.lb_rules.specs.declared.among.Among.TheVariants as Among
use Rattle.lb_rules.specs.Standings.{passes}
use Rattle.lb_book.specs.Steps.{revived_row, chosen_row}

-- Row m after a revival of all that may be revived.
abbrev pub row_revived : Ask → ℕ → Standing → Standing
row_revived ask m row = (if passes Among.Revivable ask m row then revived_row row else row)

-- The first n rows but `except` were revived, and the others are as before.
pub record AreOthersRevived (ask : Ask) (except n : ℕ) (old new : List Standing) : Type 0 where
  pub whole : length new ≡ length old
  pub below : (m : ℕ) (d : Standing) → m < n → (m ≡ except → ⊥) → slice_index_or new m d ≡ row_revived ask m (slice_index_or old m d)
  pub same : (d : Standing) → slice_index_or new except d ≡ slice_index_or old except d
  pub above : (m : ℕ) (d : Standing) → n ≤ m → slice_index_or new m d ≡ slice_index_or old m d

-- Row m after a Select with this number and answer, which may revive.
abbrev pub row_selected : Method → (seq : ℕ) → Ask → Answer → (revives : Bool) → (m : ℕ) → Standing → Standing
row_selected method seq ask answer revives m row =
    (if chose m answer then chosen_row method seq ask.fresh row else (if revives then row_revived ask m row else row))

-- All rows after a Select.
abbrev pub AreSelected : Method → (seq : ℕ) → Ask → SelectAnswer → (old new : List Standing) → Type 0
AreSelected method seq ask c old new =
    (m : ℕ) (d : Standing) → m < length old
    → slice_index_or new m d ≡ row_selected method seq ask c.answer c.revives m (slice_index_or old m d)

-- How many tickets are out after an answer.
abbrev pub tickets_after : Answer → ℕ → ℕ
tickets_after (Answer.Chosen m t how probe) before = before + 1
tickets_after Answer.NoMember before = before
tickets_after Answer.Forced before = before
tickets_after Answer.Done before = before
