-- Where a ticket was made.
use Rattle.std.specs.Prelude.{◌≡◌, ℕ, ◌+◌, ◌-◌, ◌<◌, ◌≤◌, List, length, Option, Some, None, slice_get, slice_index_or, slice_set, option_and_then}
use Rattle.lb_model.specs.Journal.{chosen_in}
use Rattle.lb_model.specs.declared.journal.Entry.{Entry}
use Rattle.lb_model.specs.declared.opening.Opening.{Opening}
use Rattle.lb_rules.specs.declared.tickets.Spot.{Spot}

-- The member that the entry at a place chose.
abbrev pub chosen_at : List Entry → ℕ → Option ℕ
chosen_at h place = option_and_then (λ e. chosen_in e.answer) (slice_get h place)

-- Later tickets are greater.
abbrev pub AreRising : List (ℕ × ℕ) → Type 0
AreRising xs = (i j : ℕ) (d : ℕ × ℕ) → i < j → j < length xs → (slice_index_or xs i d).0 < (slice_index_or xs j d).0

-- The ticket was made on member m at this spot of the history h.
abbrev pub IsSpot : Opening → (h : List Entry) → (ticket m : ℕ) → Spot → Type 0
IsSpot o h ticket m (Spot.Entry place) = (chosen_at h place ≡ Some m) × (ticket ≡ o.next + place)
IsSpot o h ticket m (Spot.Opening place) = slice_get o.out place ≡ Some (ticket, m)

-- The ticket was made at no spot.
pub record IsNoSpot (o : Opening) (h : List Entry) (ticket : ℕ) : Type 0 where
  pub own : o.next ≤ ticket → chosen_at h (ticket - o.next) ≡ None
  pub older : ticket < o.next → (i : ℕ) (d : ℕ × ℕ) → i < length o.out → (slice_index_or o.out i d).0 ≡ ticket → ⊥

-- Where the ticket of a spot came back, by the tables.
abbrev pub returned_in : (kept early : List (Option ℕ)) → Spot → Option ℕ
returned_in kept early (Spot.Entry place) = slice_index_or kept place None
returned_in kept early (Spot.Opening place) = slice_index_or early place None

-- The tables after the ticket of a spot came back with this number.
abbrev pub kept_noted : Spot → (number : ℕ) → List (Option ℕ) → List (Option ℕ)
kept_noted (Spot.Entry place) number kept = slice_set kept place (Some number)
kept_noted (Spot.Opening place) number kept = kept

abbrev pub early_noted : Spot → (number : ℕ) → List (Option ℕ) → List (Option ℕ)
early_noted (Spot.Entry place) number early = early
early_noted (Spot.Opening place) number early = slice_set early place (Some number)

-- The spot is a place of the tables.
abbrev pub IsPlaced : Spot → (kept early : List (Option ℕ)) → Type 0
IsPlaced (Spot.Entry place) kept early = place < length kept
IsPlaced (Spot.Opening place) kept early = place < length early
