-- A text that is cut at the first place of a byte.
use Rattle.std.proofs.Common.{ℕ, ◌+◌, ◌<◌, ◌≤◌, ◌≡◌, Bool, true, false, not, cond, ltb, eqb, List, [], ◌∷◌, length, get_or, take, drop, Option, None, Some, inl, inr, refl, ◌==◌, arith}
use Rattle.std.specs.List.{slice_split, onto_first, position, position_or_len}
use Rattle.play_script.specs.Parts.{parts_of}
use Rattle.play_script.specs.Values.{end}
use Rattle.std.proofs.lemmas.Bool.{cases_lt, lt-ltb, not-true, cond-true}
use Rattle.std.proofs.lemmas.List.Splits.{slice_split_none, slice_split_first, length-slice_split}
use Rattle.std.proofs.lemmas.List.Sums.{prefix_len_passes, position_or_len_is, count_by-le-length}
use Rattle.std.proofs.lemmas.List.Elements.{All-from_get_or}
use Rattle.std.proofs.lemmas.List.Quantifiers.{position-Some}

-- the parts of a text are one or more
some_onto : (x : ℕ) (parts : List (List ℕ)) → end (onto_first x parts) ≡ None
some_onto x [] = refl
some_onto x (part ∷ parts) = refl

some_first : (p : ℕ → Bool) (text : List ℕ) → end (slice_split p text) ≡ None
some_first p [] = refl
some_first p (x ∷ xs) = elim (p x) as (λ b. end (cond b ([] ∷ slice_split p xs) (onto_first x (slice_split p xs))) ≡ None) [ true ↦ refl | false ↦ some_onto x (slice_split p xs) ]

module _ (p : ℕ → Bool) (text : List ℕ) where
  -- where no place of the text passes, the text is the one part
  pub slice_split_whole : position p text ≡ None → slice_split p text ≡ text ∷ []
  slice_split_whole none =
      elim (cases_lt (position_or_len p text) (length text)) [
        | inl below ↦ absurd (let found : position p text ≡ Some (position_or_len p text) = cond-true _ _ _ (lt-ltb _ _ below) in cc)
        | inr past ↦ slice_split_none p text (All-from_get_or (λ b. p b ≡ false) text 0 (λ i here.
            not-true _ (prefix_len_passes (λ b. not (p b)) text i 0 (omega arith))))
      ]

  -- else the first part ends at the first such place
  pub slice_split_cut : (at : ℕ) → position p text ≡ Some at → slice_split p text ≡ take at text ∷ slice_split p (drop (at + 1) text)
  slice_split_cut at found =
      let first = position-Some p text at 0 found in
      let is_at : position_or_len p text ≡ at = position_or_len_is p text at 0 (omega arith) first.2 (λ _. first.1) in
      let split : slice_split p text ≡ take (position_or_len p text) text ∷ slice_split p (drop (position_or_len p text + 1) text) = slice_split_first p text 0 (omega arith) in
      rw is_at at split

-- a text has a part
pub parts_some : (byte : ℕ) (text : List ℕ) → end (parts_of byte text) ≡ None
parts_some byte text = some_first (λ b. b == byte) text

-- a text has one part more than places of the byte
pub parts_few : (byte : ℕ) (text : List ℕ) → length (parts_of byte text) ≤ length text + 1
parts_few byte text = omega (arith, length-slice_split (λ b. b == byte) text, count_by-le-length (λ b. b == byte) text)
