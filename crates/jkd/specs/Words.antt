-- What the words do by themselves: the text that they ask for is printed, or they can't be read.
use Rattle.std.specs.Prelude.{◌≡◌, ℕ, true, ◌⊎◌, List, is_some}
use Rattle.jk_io.specs.Told.{appended, PutsFront, Rose}
use Rattle.jk_io.specs.declared.traits.streams.Meanings.{Ghosts}
use Rattle.plain_commands.specs.AskedTexts.{asked_by}
use Rattle.jkd.specs.declared.arguments.ArgumentsError.{ArgumentsError}
use Rattle.jkd.specs.declared.arguments.ArgumentsError.TheVariants as unread

-- A text was written to an output, by what is told of it, which gives 0; or a front of it: a write failed, which gives 5, or memory
-- was wanted and none failed, which gives 6.
abbrev pub PrintsText : {O X : Type 0} → Ghosts O X → (before after : O) → (text : List ℕ) → (status : ℕ) → Type 0
PrintsText told before after text status =
    ((told.sent after ≡ appended (told.sent before) text) × (status ≡ 0))
    ⊎ (PutsFront (told.sent before) (told.sent after) text × (status ≡ 5) × Rose (told.faults before) (told.faults after))
    ⊎ (PutsFront (told.sent before) (told.sent after) text × (status ≡ 6) × (told.faults after ≡ told.faults before))

-- The words ask for a text, and one was printed; or memory was wanted for it, and nothing was.
abbrev pub PrintsAsked : {O X : Type 0} → Ghosts O X → (words : List (List ℕ)) → (before after : O) → (status : ℕ) → Type 0
PrintsAsked told words before after status =
    ((is_some (asked_by words) ≡ true) × ((text : List ℕ) × PrintsText told before after text status))
    ⊎ ((status ≡ 6) × (told.sent after ≡ told.sent before) × (told.faults after ≡ told.faults before))

-- the status of words that can't be read
abbrev pub status_of_unread : ArgumentsError → ℕ
status_of_unread unread.NotText = 2
status_of_unread unread.NoMemory = 6

-- the statuses of words that ask for a text, or that can't be read
abbrev pub IsDoneByWords : ℕ → Type 0
IsDoneByWords status = (status ≡ 0) ⊎ (status ≡ 2) ⊎ (status ≡ 5) ⊎ (status ≡ 6)
