-- The answers of a clock, where those to come are told as a list: the last one stands for all later ones, and
-- where there is none at all the clock answers 0.
use Rattle.std.specs.Prelude.{◌≡◌, ℕ, List, [], ◌∷◌, Option, IfSome}
use Rattle.std.specs.Option.{option_map}

abbrev pub next_answer : List ℕ → ℕ
next_answer [] = 0
next_answer (n ∷ later) = n

abbrev pub answers_after : List ℕ → List ℕ
answers_after [] = []
answers_after (n ∷ []) = n ∷ []
answers_after (n ∷ (m ∷ later)) = m ∷ later

-- the clock answered n
pub record Answers (before : Option (List ℕ)) (n : ℕ) (after : Option (List ℕ)) : Type 0 where
  pub answer : IfSome before (λ answers. n ≡ next_answer answers)
  pub left : after ≡ option_map answers_after before

-- the clock gave these answers, the newest first
abbrev pub Answered : Option (List ℕ) → List ℕ → Option (List ℕ) → Type 0
Answered before [] after = after ≡ before
Answered before (n ∷ past) after = (mid : Option (List ℕ)) × Answered before past mid × Answers mid n after
