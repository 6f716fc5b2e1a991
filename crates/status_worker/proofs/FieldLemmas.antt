-- The parts of a query, one after the other.
use Rattle.std.proofs.Common.{ℕ, ◌+◌, ◌<◌, ◌≡◌, Bool, true, false, not, List, [], ◌∷◌, ◌++◌, length, take, drop, Option, None, Some, inl, inr, refl, sym, ap, ◌∙◌, ◌==◌, arith, nat_lt, append_assoc, append-nil}
use Rattle.std.specs.List.{slice_split, position, position_or_len}
use Rattle.std.specs.Option.{option_map}
use Rattle.std.proofs.lemmas.Bool.{cases_lt, lt-ltb, not-true, cond-true}
use Rattle.std.proofs.lemmas.List.Splits.{slice_split_none, slice_split_first}
use Rattle.std.proofs.lemmas.List.Sums.{prefix_len_passes, position_or_len_is}
use Rattle.std.proofs.lemmas.List.Elements.{All-from_get_or}
use Rattle.std.proofs.lemmas.List.Quantifiers.{position-Some}
use Rattle.std.proofs.lemmas.Option.{some_pair_parts}
use Rattle.status_worker.specs.declared.field.Field.{Field}
use Rattle.status_worker.specs.Fields.{around, cut_at, field_of, in_front, fields_in, parts_of, behind}

module _ (p : ℕ → Bool) (text : List ℕ) where
  -- where no place of the text passes, the text is the one part
  split_whole : position p text ≡ None → slice_split p text ≡ text ∷ []
  split_whole none =
      elim (cases_lt (position_or_len p text) (length text)) [
        | inl below ↦ absurd (let found : position p text ≡ Some (position_or_len p text) = cond-true _ _ _ (lt-ltb _ _ below) in cc)
        | inr past ↦ slice_split_none p text (All-from_get_or (λ b. p b ≡ false) text 0 (λ i here.
            not-true _ (prefix_len_passes (λ b. not (p b)) text i 0 (omega arith))))
      ]

  -- else the first part ends at the first such place
  split_cut : (at : ℕ) → position p text ≡ Some at → slice_split p text ≡ take at text ∷ slice_split p (drop (at + 1) text)
  split_cut at found =
      let first = position-Some p text at 0 found in
      let is_at : position_or_len p text ≡ at = position_or_len_is p text at 0 (omega arith) first.2 (λ _. first.1) in
      let split : slice_split p text ≡ take (position_or_len p text) text ∷ slice_split p (drop (position_or_len p text + 1) text) = slice_split_first p text 0 (omega arith) in
      rw is_at at split

-- a text without `&` is one part
pub parts_whole : (text : List ℕ) → None ≡ cut_at 38 text → parts_of text ≡ text ∷ []
parts_whole text none = whole (position (λ b. b == 38) text) refl none
  where
    whole : (o : Option ℕ) → position (λ b. b == 38) text ≡ o → None ≡ option_map (around text) o → parts_of text ≡ text ∷ []
    whole None is none = split_whole (λ b. b == 38) text is
    whole (Some at) is none = cc

-- else its first part ends at its first `&`
pub parts_cut : (text part others : List ℕ) → ◌≡◌ {A = Option (List ℕ × List ℕ)} (Some (part, others)) (cut_at 38 text) → parts_of text ≡ part ∷ parts_of others
parts_cut text part others found = first (position (λ b. b == 38) text) refl found
  where
    first : (o : Option ℕ) → position (λ b. b == 38) text ≡ o → ◌≡◌ {A = Option (List ℕ × List ℕ)} (Some (part, others)) (option_map (around text) o) → parts_of text ≡ part ∷ parts_of others
    first None is found = cc
    first (Some at) is found =
        let same = some_pair_parts part (take at text) others (drop (at + 1) text) found in
        rw (same.0, same.1) (split_cut (λ b. b == 38) text at is)

-- a part that isn't empty has a field, or can't be read
pub fields_in-part : (part : List ℕ) (parts : List (List ℕ)) → 0 < length part → fields_in (part ∷ parts) ≡ in_front (field_of part) (fields_in parts)
fields_in-part part parts some =
    let there : nat_lt 0 (length part) ≡ true = lt-ltb 0 (length part) some in
    rw there refl

fields_in-cons : (b : ℕ) (bs : List ℕ) (parts : List (List ℕ)) → fields_in ((b ∷ bs) ∷ parts) ≡ in_front (field_of (b ∷ bs)) (fields_in parts)
fields_in-cons b bs parts = fields_in-part (b ∷ bs) parts (omega arith)

-- a part that can't be read leaves none readable
pub fields_in_none : (part : List ℕ) (parts : List (List ℕ)) → fields_in (part ∷ []) ≡ None → fields_in (part ∷ parts) ≡ None
fields_in_none [] parts none = cc
fields_in_none (b ∷ bs) parts none = fields_in-cons b bs parts ∙ unread (field_of (b ∷ bs)) (fields_in parts) (sym (fields_in-cons b bs []) ∙ none)
  where
    unread : (o : Option Field) (xs : Option (List Field)) → in_front o (Some []) ≡ None → in_front o xs ≡ None
    unread None xs none = refl
    unread (Some f) xs none = cc

-- the fields so far, with those of one part, and then with those of the others
pub fields_in_some : (before after : List Field) (part : List ℕ) (parts : List (List ℕ)) → behind before (fields_in (part ∷ [])) ≡ Some after → behind before (fields_in (part ∷ parts)) ≡ behind after (fields_in parts)
fields_in_some before after [] parts some =
    let same : after ≡ before = grind (arith, append-nil) in
    rw same refl
fields_in_some before after (b ∷ bs) parts some =
    ap (behind before) (fields_in-cons b bs parts) ∙ joined (field_of (b ∷ bs)) (fields_in parts) (ap (behind before) (sym (fields_in-cons b bs [])) ∙ some)
  where
    joined : (o : Option Field) (xs : Option (List Field)) → behind before (in_front o (Some [])) ≡ Some after → behind before (in_front o xs) ≡ behind after xs
    joined None xs some = cc
    joined (Some f) None some = refl
    joined (Some f) (Some xs) some =
        let is : after ≡ before ++ f ∷ [] = cc in
        rw (is, append_assoc before (f ∷ []) xs) refl
