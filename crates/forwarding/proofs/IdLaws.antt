-- How ids add up, part by part and place by place.
use Rattle.std.proofs.Common.{◌≡◌, ℕ, ◌+◌, ◌-◌, ◌<◌, ◌≤◌, Bool, true, false, List, [], ◌∷◌, ◌++◌, length, take, drop, Option, Some, None, refl, sym, ◌∙◌, ap, append_assoc, append-nil, inl, inr, arith, add-one, drop-cons, length-drop}
use Rattle.std.specs.Prelude.{◌==◌, position, nat_lt, option_to_list}
use Rattle.std.specs.List.{position_or_len, slice_split, filter_map, cons_option, before_first, after_first}
use Rattle.std.proofs.lemmas.Bool.{cases_Bool, ltb-true, ltb-false}
use Rattle.std.proofs.lemmas.List.Sums.{fails_before_first}
use Rattle.std.proofs.lemmas.List.Splits.{slice_split_first, slice_split_none}
use Rattle.forwarding.specs.Ids.{cut_at, cookie_id, cookie_ids, id_here, path_ids}

is_byte : ℕ → ℕ → Bool
is_byte byte b = b == byte

pairs-same : (p q : List ℕ × List ℕ) → Some p ≡ Some q → p ≡ q
pairs-same p q e = cc

-- a cut gives the first part and the parts of the rest
module _ (byte : ℕ) (text a b : List ℕ) where
  cut-parts : cut_at byte text ≡ Some (a, b)
      → (slice_split (λ x. x == byte) text ≡ a ∷ slice_split (λ x. x == byte) b) × (length b < length text)
  cut-parts e =
      elim (cases_Bool (nat_lt (position_or_len (λ x. x == byte) text) (length text)))
      as (λ _. (slice_split (λ x. x == byte) text ≡ a ∷ slice_split (λ x. x == byte) b) × (length b < length text)) [
        | inl within ↦
            let same : Some (before_first (λ x. x == byte) text, after_first (λ x. x == byte) text) ≡ Some (a, b) = rw within at e in
            let pair = pairs-same _ _ same in
            let front : before_first (λ x. x == byte) text ≡ a = ap (λ (p : List ℕ × List ℕ). p.0) pair in
            let back : after_first (λ x. x == byte) text ≡ b = ap (λ (p : List ℕ × List ℕ). p.1) pair in
            let inside = ltb-true _ _ within in (
              rw (← front, ← back) (slice_split_first (λ x. x == byte) text 0 inside),
              rw (← back) (simp length-drop (omega arith)),
            )
        | inr behind ↦ let none : None ≡ Some (a, b) = rw behind at e in absurd (cc)
      ]

-- where there is no cut, the text is the one part
no_cut-parts : (byte : ℕ) (text : List ℕ) → cut_at byte text ≡ None → slice_split (λ x. x == byte) text ≡ text ∷ []
no_cut-parts byte text e =
    elim (cases_Bool (nat_lt (position_or_len (λ x. x == byte) text) (length text))) as (λ _. slice_split (λ x. x == byte) text ≡ text ∷ []) [
      | inl within ↦ let some : Some (before_first (λ x. x == byte) text, after_first (λ x. x == byte) text) ≡ None = rw within at e in absurd (cc)
      | inr behind ↦
          let all : length text ≤ position_or_len (λ x. x == byte) text = ltb-false _ _ behind in
          slice_split_none (λ x. x == byte) text (λ k d l. fails_before_first (λ x. x == byte) text k d (omega arith))
    ]

-- the first part of a Cookie line, then the rest
pub cookie_ids-cut : (name line a b : List ℕ) (ids : List (List ℕ)) → cut_at 59 line ≡ Some (a, b)
    → (ids ++ option_to_list (cookie_id name a)) ++ cookie_ids name b ≡ ids ++ cookie_ids name line
cookie_ids-cut name line a b ids e = rw (cut-parts 59 line a b e).0 (joined (cookie_id name a) ids (cookie_ids name b))
  where
    joined : (o : Option (List ℕ)) (ids rest : List (List ℕ)) → (ids ++ option_to_list o) ++ rest ≡ ids ++ cons_option o rest
    joined None ids rest = rw append-nil refl
    joined (Some x) ids rest = append_assoc ids (x ∷ []) rest

pub cut-shorter : (byte : ℕ) (text a b : List ℕ) → cut_at byte text ≡ Some (a, b) → length b < length text
cut-shorter byte text a b e = (cut-parts byte text a b e).1

-- the one part of a Cookie line without `;`
pub cookie_ids-whole : (name line : List ℕ) → cut_at 59 line ≡ None → cookie_ids name line ≡ option_to_list (cookie_id name line)
cookie_ids-whole name line e = rw (no_cut-parts 59 line e) (single (cookie_id name line))
  where
    single : (o : Option (List ℕ)) → cons_option o [] ≡ option_to_list o
    single None = refl
    single (Some x) = refl

-- the ids from a place of a path on
pub path_ids-step : (mark path : List ℕ) (at : ℕ) → at < length path
    → path_ids mark (drop at path) ≡ id_here mark (drop at path) ++ path_ids mark (drop (at + 1) path)
path_ids-step mark path at h = rw (add-one, drop-cons path at 0 h) refl
