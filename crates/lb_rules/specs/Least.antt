-- The least of the rows that pass.
use Rattle.std.specs.Prelude.{◌≡◌, ℕ, ◌<◌, Bool, true, false, List, length, Option, None, Some, slice_index_or}
use Rattle.lb_model.specs.declared.ask.Ask.{Ask}
use Rattle.lb_rules.specs.declared.standing.Standing.{Standing}
use Rattle.lb_rules.specs.declared.among.Among.{Among}
use Rattle.lb_rules.specs.Standings.{passes}
use Rattle.lb_model.specs.Choice.{is_before_by, place_from}

-- row a, at place i of n, goes before row b, at place j
abbrev pub row_before : (n begin : ℕ) (i : ℕ) (a : Standing) (j : ℕ) (b : Standing) → Bool
row_before n begin i a j b = is_before_by a.distance a.load (place_from n begin i) b.distance b.load (place_from n begin j)

-- row i goes before the best so far, or there is none yet
abbrev pub improves : List Standing → (begin i : ℕ) → Standing → Option ℕ → Bool
improves rows begin i d None = true
improves rows begin i d (Some b) =
    row_before (length rows) begin i (slice_index_or rows i d) b (slice_index_or rows b d)

-- of the first n rows, row m passes and none that passes goes before it
pub record IsLeastRow (among : Among) (rows : List Standing) (ask : Ask) (begin n m : ℕ) : Type 0 where
  pub within : m < n
  pub passing : (d : Standing) → passes among ask m (slice_index_or rows m d) ≡ true
  pub least : (j : ℕ) (d : Standing) → j < n → passes among ask j (slice_index_or rows j d) ≡ true
      → row_before (length rows) begin j (slice_index_or rows j d) m (slice_index_or rows m d) ≡ false

-- none of the first n rows passes
abbrev pub HasNoRow : Among → List Standing → Ask → ℕ → Type 0
HasNoRow among rows ask n = (j : ℕ) (d : Standing) → j < n → passes among ask j (slice_index_or rows j d) ≡ false

abbrev pub IsLeastOf : Among → List Standing → Ask → (begin n : ℕ) → Option ℕ → Type 0
IsLeastOf among rows ask begin n None = HasNoRow among rows ask n
IsLeastOf among rows ask begin n (Some m) = IsLeastRow among rows ask begin n m

-- The least of those that may be revived, where rules 2 look for one.
abbrev pub IsRevivalOf : (v : ℕ) → List Standing → Ask → (begin : ℕ) → Option ℕ → Type 0
IsRevivalOf v rows ask begin None = v ≡ 2 → HasNoRow Among.Revivable rows ask (length rows)
IsRevivalOf v rows ask begin (Some m) = (v ≡ 2) × IsLeastRow Among.Revivable rows ask begin (length rows) m
