-- The first attribute that stores a method.
use Rattle.std.proofs.Common.{◌≡◌, ℕ, zero, suc, ◌+◌, ◌<◌, ◌≤◌, Bool, true, false, cond, eqb, List, [], ◌∷◌, ◌++◌, length, get_or, take, drop, Option, Some, None, is_some, refl, sym, ap, subst, ◌∙◌, arith, add-one, option_map, ◌⊎◌, inl, inr}
use Rattle.std.specs.List.{AllByRecursion, remove}
use Rattle.std.proofs.lemmas.List.{get_or_default}
use Rattle.ajp_request.specs.declared.attribute.Attribute.{Attribute}
use Rattle.ajp_request.specs.declared.attribute.Attribute.TheVariants.{Plain, Named, KeySize}
use Rattle.std.proofs.lemmas.Bool.{eqb-true}
use Rattle.ajp_wire.proofs.ReadingLaws.{chosen}
use Rattle.ajp_request.specs.Spelling.{stored_method, Stores}
use Rattle.ajp_request.specs.Reading.{stored_in, without}

abbrev some : {A : Type 0} → A → Option A
some x = Some x

some_is : (x y : List ℕ) → some x ≡ some y → x ≡ y
some_is x y e = cc

found_is : (x y : List ℕ × List Attribute) → some x ≡ some y → x ≡ y
found_is x y e = cc

-- none of these stores one
abbrev pub StoreNone : List Attribute → Type 0
StoreNone attributes = AllByRecursion (λ attribute. stored_method attribute ≡ None) attributes

none_from_test : (o : Option (List ℕ)) → is_some o ≡ false → o ≡ None
none_from_test None e = refl
none_from_test (Some x) e = absurd cc

one_more : (xs : List Attribute) (i : ℕ) (x : Attribute) → i < length xs → x ≡ get_or xs i x → stored_method x ≡ None → StoreNone (take i xs) → StoreNone (take (suc i) xs)
one_more [] i x lt read none passed = absurd (omega arith)
one_more (y ∷ ys) zero x lt read none passed = (ap stored_method (sym read) ∙ none, tt)
one_more (y ∷ ys) (suc i) x lt read none passed = (passed.0, one_more ys i x (omega arith) read none passed.1)

pub passes : (xs : List Attribute) (i : ℕ) (x : Attribute) → i < length xs → x ≡ get_or xs i x → is_some (stored_method x) ≡ false → StoreNone (take i xs) → StoreNone (take (i + 1) xs)
passes xs i x lt read test passed = rw (add-one i) (one_more xs i x lt read (none_from_test (stored_method x) test) passed)

some_from_test : (b : Bool) (method : List ℕ) → is_some (cond b (Some method) None) ≡ true → cond b (Some method) None ≡ Some method
some_from_test true method e = refl
some_from_test false method e = absurd cc

stored_at : (xs : List Attribute) (i : ℕ) (x : Attribute) (method : List ℕ) → i < length xs → x ≡ get_or xs i x → stored_method x ≡ Some method → StoreNone (take i xs) → stored_in xs ≡ Some (method, remove xs i)
stored_at [] i x method lt read stored passed = absurd (omega arith)
stored_at (y ∷ ys) zero x method lt read stored passed = let here : stored_method y ≡ Some method = ap stored_method (sym read) ∙ stored in rw here refl
stored_at (y ∷ ys) (suc i) x method lt read stored passed = rw (passed.0, stored_at ys i x method (omega arith) read stored passed.1) refl

pub is_found : (xs : List Attribute) (i : ℕ) (seen taken : Attribute) (code : ℕ) (method : List ℕ) → i < length xs → seen ≡ get_or xs i seen → is_some (stored_method seen) ≡ true → taken ≡ get_or xs i taken → taken ≡ Plain code method
    → StoreNone (take i xs) → stored_in xs ≡ Some (method, remove xs i)
is_found xs i seen taken code method lt seen_is test taken_is plain passed =
    let same : seen ≡ Plain code method = seen_is ∙ get_or_default xs i seen taken lt ∙ sym taken_is ∙ plain in
    let tested : is_some (stored_method (Plain code method)) ≡ true = subst (λ x. is_some (stored_method x) ≡ true) same test in
    stored_at xs i seen method lt seen_is (ap stored_method same ∙ some_from_test (eqb code 13) method tested) passed

pub is_nowhere : (xs : List Attribute) (i : ℕ) → length xs ≤ i → StoreNone (take i xs) → stored_in xs ≡ None
is_nowhere [] i le passed = refl
is_nowhere (x ∷ xs) zero le passed = absurd (omega arith)
is_nowhere (x ∷ xs) (suc i) le passed = rw (passed.0, is_nowhere xs i (omega arith) passed.1) refl

-- ---- which attribute stores the method, by the list and by its parts

plain_from_stored : (attribute : Attribute) (method : List ℕ) → stored_method attribute ≡ Some method → attribute ≡ Plain 13 method
plain_from_stored (Plain code text) method e =
    elim (chosen (eqb code 13) (Some text) None (Some method) e) [
      | inl w ↦
          let same_text : text ≡ method = some_is text method w.1 in
          rw (eqb-true code 13 w.0, same_text) refl
      | inr w ↦ absurd cc
    ]
plain_from_stored (Named name value) method e = absurd cc
plain_from_stored (KeySize size) method e = absurd cc

behind_the_first : (x : Attribute) (xs : List Attribute) (found : Option (List ℕ × List Attribute)) (method : List ℕ) (attributes : List Attribute) → stored_method x ≡ None → stored_in xs ≡ found
    → ((m : List ℕ) (others : List Attribute) → found ≡ Some (m, others) → Stores xs m others) → without None x xs found ≡ Some (method, attributes) → Stores (x ∷ xs) method attributes
behind_the_first x xs None method attributes none is later e = absurd cc
behind_the_first x xs (Some y) method attributes none is later e =
    let s = later y.0 y.1 refl in
    let whole : Stores (x ∷ xs) y.0 (x ∷ y.1) = record {
      before = x ∷ s.before;
      after = s.after;
      first = (none, s.first);
      there = ap (λ (r : List Attribute). x ∷ r) s.there;
      others = ap (λ (r : List Attribute). x ∷ r) s.others;
    } in
    subst (λ (z : List ℕ × List Attribute). Stores (x ∷ xs) z.0 z.1) (found_is (y.0, x ∷ y.1) (method, attributes) e) whole

stored_step : (x : Attribute) (xs : List Attribute) (here : Option (List ℕ)) (method : List ℕ) (attributes : List Attribute) → stored_method x ≡ here → ((m : List ℕ) (others : List Attribute) → stored_in xs ≡ Some (m, others) → Stores xs m others)
    → without here x xs (stored_in xs) ≡ Some (method, attributes) → Stores (x ∷ xs) method attributes
stored_step x xs None method attributes is later e = behind_the_first x xs (stored_in xs) method attributes is refl later e
stored_step x xs (Some m) method attributes is later e =
    let whole : Stores (x ∷ xs) m xs = record { before = []; after = xs; first = tt; there = ap (λ (y : Attribute). y ∷ xs) (plain_from_stored x m is); others = refl } in
    subst (λ (z : List ℕ × List Attribute). Stores (x ∷ xs) z.0 z.1) (found_is (m, xs) (method, attributes) e) whole

pub stored_takes : (written : List Attribute) (method : List ℕ) (attributes : List Attribute) → stored_in written ≡ Some (method, attributes) → Stores written method attributes
stored_takes [] method attributes e = absurd cc
stored_takes (x ∷ xs) method attributes e = stored_step x xs (stored_method x) method attributes refl (stored_takes xs) e

stored_behind : (before after : List Attribute) (method : List ℕ) → StoreNone before → stored_in (before ++ Plain 13 method ∷ after) ≡ Some (method, before ++ after)
stored_behind [] after method none = refl
stored_behind (x ∷ before) after method none = rw (none.0, stored_behind before after method none.1) refl

pub stored_again : (written : List Attribute) (method : List ℕ) (attributes : List Attribute) → Stores written method attributes → stored_in written ≡ Some (method, attributes)
stored_again written method attributes s = ap stored_in s.there ∙ stored_behind s.before s.after method s.first ∙ ap (λ (r : List Attribute). Some (method, r)) (sym s.others)
