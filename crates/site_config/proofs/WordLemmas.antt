-- The words of a list, one after another.
use Rattle.std.proofs.Common.{◌≡◌, ℕ, Bool, true, false, List, [], ◌∷◌, length, Option, Some, None, refl, cond, nat_lt, ◌++◌}
use Rattle.std.specs.Option.{option_map}
use Rattle.std.specs.List.{slice_split}
use Rattle.site_config.specs.Cut.{cut, onto_name, is_separator}
use Rattle.site_config.specs.Names.{words, word_first}

-- the parts that a cut after the first byte makes
abbrev pub SplitsSo : (ℕ → Bool) → List ℕ → Option (List ℕ × List ℕ) → Type 0
SplitsSo p text None = slice_split p text ≡ text ∷ []
SplitsSo p text (Some parts) = slice_split p text ≡ parts.0 ∷ slice_split p parts.1

one_more : (p : ℕ → Bool) (b : ℕ) (bs : List ℕ) (o : Option (List ℕ × List ℕ)) → p b ≡ false → SplitsSo p bs o → SplitsSo p (b ∷ bs) (option_map (onto_name b) o)
one_more p b bs None nay h = rw (nay, h) refl
one_more p b bs (Some parts) nay h = rw (nay, h) refl

pub split_cut : (p : ℕ → Bool) (text : List ℕ) → SplitsSo p text (cut p text)
split_cut p [] = refl
split_cut p (b ∷ bs) = by_test (split_cut p bs) (p b) refl
  where
    by_test : SplitsSo p bs (cut p bs) → (t : Bool) → p b ≡ t → SplitsSo p (b ∷ bs) (cond t (Some ([], bs)) (option_map (onto_name b) (cut p bs)))
    by_test rest true yea = rw yea refl
    by_test rest false nay = one_more p b bs (cut p bs) nay rest

pub words_cut : (text front back : List ℕ) → cut is_separator text ≡ Some (front, back) → words text ≡ word_first front (words back)
words_cut text front back e =
    let h : SplitsSo is_separator text (cut is_separator text) = split_cut is_separator text in
    let h' : slice_split is_separator text ≡ front ∷ slice_split is_separator back = rw e at h in
    rw h' refl

pub words_one : (text : List ℕ) → cut is_separator text ≡ None → words text ≡ word_first text []
words_one text e =
    let h : SplitsSo is_separator text (cut is_separator text) = split_cut is_separator text in
    let h' : slice_split is_separator text ≡ text ∷ [] = rw e at h in
    rw h' refl

-- a word in front of others is that word alone, and the others
pub word_first-append : (w : List ℕ) (ws : List (List ℕ)) → word_first w [] ++ ws ≡ word_first w ws
word_first-append w ws = by_test (nat_lt 0 (length w))
  where
    by_test : (t : Bool) → cond t (w ∷ []) [] ++ ws ≡ cond t (w ∷ ws) ws
    by_test true = refl
    by_test false = refl

-- the first word, and then the words after it
pub words_split : (text front back : List ℕ) → cut is_separator text ≡ Some (front, back) → words text ≡ word_first front [] ++ words back
words_split text front back e = rw (word_first-append, words_cut text front back e) refl
