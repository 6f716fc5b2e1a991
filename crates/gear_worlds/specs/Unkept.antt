-- How many entries of a balancer may be in no file, and when a hold of its journal may begin.
use Rattle.std.specs.Prelude.{◌≡◌, ℕ, ◌+◌, ◌≤◌, ◌⊎◌}
use Rattle.gear_worlds.specs.declared.unkept.Unkept.{Unkept}

-- Each hold cuts first a journal that has come to `cut_at`, and then adds two at most. So a journal that no hold is at has one
-- more than `cut_at` at most, and with what the next hold may add it has three more.
abbrev pub most_resting : (cut_at : ℕ) → ℕ
most_resting cut_at = cut_at + 1

abbrev pub most_unkept : (cut_at : ℕ) → ℕ
most_unkept cut_at = cut_at + 3

-- A hold that may add so many may begin where there is room for them, or where no other is under way: then each part that was
-- cut is written, and where there is no room it finds a journal that it cuts.
abbrev pub MayBegin : Unkept → (entries cut_at : ℕ) → Type 0
MayBegin unkept entries cut_at = (unkept.entries + entries ≤ most_resting cut_at) ⊎ (unkept.holds ≡ 0)

-- Where no hold is under way, what isn't in files is one journal.
abbrev pub RestsShort : Unkept → (cut_at : ℕ) → Type 0
RestsShort unkept cut_at = unkept.holds ≡ 0 → unkept.entries ≤ most_resting cut_at
