-- Words without blanks or line ends, joined by single spaces, are cut into the same words again; and lines likewise.
use Rattle.std.proofs.Common.{◌≡◌, ℕ, ◌<◌, true, false, eqb, nat_le, ◌==◌, List, [], ◌∷◌, ◌++◌, refl, ap, ◌∙◌, append-nil, arith, rules}
use Rattle.std.specs.List.{list_all, slice_split, onto_first}
use Rattle.std.proofs.lemmas.Bool.{and_parts, and_from, cond-true, cond-false, ne_eqb, leb-true}
use Rattle.std.proofs.lemmas.List.Folds.{list_all-append}
use Rattle.play_script.specs.Parts.{parts_of}
use Rattle.journal_text.specs.Lines.{joined}

-- no byte of it is a space, a line end or a control
abbrev pub IsGraphic : List ℕ → Type 0
IsGraphic word = list_all (λ byte. nat_le 33 byte) word ≡ true

abbrev pub AreGraphic : List (List ℕ) → Type 0
AreGraphic [] = Unit {0}
AreGraphic (word ∷ words) = IsGraphic word × AreGraphic words

pub graphic_append : (xs ys : List ℕ) → IsGraphic xs → IsGraphic ys → IsGraphic (xs ++ ys)
graphic_append xs ys h k = list_all-append (λ byte. nat_le 33 byte) xs ys ∙ and_from _ _ h k

pub are_graphic_append : (xs ys : List (List ℕ)) → AreGraphic xs → AreGraphic ys → AreGraphic (xs ++ ys)
are_graphic_append [] ys h k = k
are_graphic_append (x ∷ xs) ys h k = (h.0, are_graphic_append xs ys h.1 k)

-- a text without the byte c, which ends at c, is the first part
pub split_at : (c : ℕ) (word rest : List ℕ) → c < 33 → IsGraphic word
    → slice_split (λ b. b == c) (word ++ c ∷ rest) ≡ word ∷ slice_split (λ b. b == c) rest
split_at c [] rest low h = cond-true (eqb c c) _ _ (search rules)
split_at c (b ∷ word) rest low h =
    let parts = and_parts (nat_le 33 b) (list_all (λ byte. nat_le 33 byte) word) h in
    let other : eqb b c ≡ false = ne_eqb b c (λ same. omega (arith, leb-true 33 b parts.0, same)) in
    cond-false (eqb b c) _ _ other ∙ ap (onto_first b) (split_at c word rest low parts.1)

pub split_none : (c : ℕ) (word : List ℕ) → c < 33 → IsGraphic word → slice_split (λ b. b == c) word ≡ word ∷ []
split_none c [] low h = refl
split_none c (b ∷ word) low h =
    let parts = and_parts (nat_le 33 b) (list_all (λ byte. nat_le 33 byte) word) h in
    let other : eqb b c ≡ false = ne_eqb b c (λ same. omega (arith, leb-true 33 b parts.0, same)) in
    cond-false (eqb b c) _ _ other ∙ ap (onto_first b) (split_none c word low parts.1)

pub joined_split : (word : List ℕ) (words : List (List ℕ)) → IsGraphic word → AreGraphic words
    → parts_of 32 (joined (word ∷ words)) ≡ word ∷ words
joined_split word [] h k = ap (parts_of 32) (append-nil word) ∙ split_none 32 word (omega arith) h
joined_split word (next ∷ words) h k =
    split_at 32 word (joined (next ∷ words)) (omega arith) h ∙ ap (λ ws. word ∷ ws) (joined_split next words k.0 k.1)
