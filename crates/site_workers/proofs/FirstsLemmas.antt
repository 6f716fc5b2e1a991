-- Names, each where it stands first.
use Rattle.std.proofs.Common.{◌≡◌, ℕ, ◌+◌, ◌<◌, Bool, true, false, ◌||◌, List, [], ◌∷◌, ◌++◌, length, take, get_or, refl, sym, ◌∙◌, ap, subst, cond}
use Rattle.std.proofs.lemmas.Bool.{false≢true, false_from_ne_true}
use Rattle.std.proofs.lemmas.List.{map-append, append-nil}
use Rattle.std.proofs.lemmas.Slice.Eq.{bytes_eq-Decides}
use Rattle.std.specs.Str.{bytes_eq}
use Rattle.std.proofs.Math.Bool.{or-false}
use Rattle.std.specs.Option.{is_some}
use Rattle.site_workers.specs.declared.listing.Listing as declared
use Rattle.site_workers.specs.Lists.{Listing, is_named, drop_name, firsts}
use Rattle.site_workers.specs.Listings.{as_listing, as_listings}
use Rattle.site_workers.specs.Numbers.{number_of}
use Rattle.site_workers.proofs.BuiltLemmas.{listings_more}
use Rattle.site_workers.proofs.TableLemmas.{known_snoc}

-- dropping a name that isn't there
drop_name-append : (name : List ℕ) (xs ys : List Listing) → drop_name name (xs ++ ys) ≡ drop_name name xs ++ drop_name name ys
drop_name-append name [] ys = refl
drop_name-append name (x ∷ xs) ys = by_test (bytes_eq x.name name) (drop_name-append name xs ys)
  where
    by_test : (t : Bool) → drop_name name (xs ++ ys) ≡ drop_name name xs ++ drop_name name ys → cond t (drop_name name (xs ++ ys)) (x ∷ drop_name name (xs ++ ys)) ≡ cond t (drop_name name xs) (x ∷ drop_name name xs) ++ drop_name name ys
    by_test true rest = rest
    by_test false rest = ap (λ (zs : List Listing). x ∷ zs) rest

-- the first places of a list that goes on are those of its front, and some of what follows
pub firsts-append : (xs ys : List Listing) → (more : List Listing) × (firsts (xs ++ ys) ≡ firsts xs ++ more)
firsts-append [] ys = (firsts ys, refl)
firsts-append (x ∷ xs) ys =
    let rest = firsts-append xs ys in
    (drop_name x.name rest.0, ap (λ (zs : List Listing). x ∷ zs) (ap (drop_name x.name) rest.1 ∙ drop_name-append x.name (firsts xs) rest.0))

same_name : (a b : List ℕ) → bytes_eq a b ≡ true → a ≡ b
same_name a b e = (bytes_eq-Decides a b).0 e

-- a name that another one's drop leaves
named_dropped : (name other : List ℕ) (xs : List Listing) → bytes_eq other name ≡ false → is_named name (drop_name other xs) ≡ is_named name xs
named_dropped name other [] e = refl
named_dropped name other (x ∷ xs) e = by_test (bytes_eq x.name other) refl (named_dropped name other xs e)
  where
    by_test : (t : Bool) → bytes_eq x.name other ≡ t → is_named name (drop_name other xs) ≡ is_named name xs → is_named name (cond t (drop_name other xs) (x ∷ drop_name other xs)) ≡ cond (bytes_eq x.name name) true (is_named name xs)
    by_test true same rest =
        let one : x.name ≡ other = same_name x.name other same in
        let nay : bytes_eq x.name name ≡ false = rw one e in
        rw nay rest
    by_test false apart rest = ap (cond (bytes_eq x.name name) true) rest

-- the first places have the names of the list
pub named_firsts : (name : List ℕ) (xs : List Listing) → is_named name (firsts xs) ≡ is_named name xs
named_firsts name [] = refl
named_firsts name (x ∷ xs) = by_test (bytes_eq x.name name) refl (named_firsts name xs)
  where
    by_test : (t : Bool) → bytes_eq x.name name ≡ t → is_named name (firsts xs) ≡ is_named name xs → cond t true (is_named name (drop_name x.name (firsts xs))) ≡ cond t true (is_named name xs)
    by_test true e rest = refl
    by_test false e rest = named_dropped name x.name (firsts xs) e ∙ rest

drop_none : (name : List ℕ) (xs : List Listing) (l : Listing) → bytes_eq l.name name ≡ true → drop_name name (xs ++ l ∷ []) ≡ drop_name name xs
drop_none name xs l e = drop_name-append name xs (l ∷ []) ∙ rw e (append-nil (drop_name name xs))

drop_other : (name : List ℕ) (xs : List Listing) (l : Listing) → bytes_eq l.name name ≡ false → drop_name name (xs ++ l ∷ []) ≡ drop_name name xs ++ l ∷ []
drop_other name xs l e = drop_name-append name xs (l ∷ []) ∙ rw e refl

flip : (a b : List ℕ) → bytes_eq a b ≡ true → bytes_eq b a ≡ true
flip a b e = (bytes_eq-Decides b a).1 (sym (same_name a b e))

-- one name more: it counts unless it is there
pub firsts-snoc : (xs : List Listing) (l : Listing) → firsts (xs ++ l ∷ []) ≡ cond (is_named l.name xs) (firsts xs) (firsts xs ++ l ∷ [])
firsts-snoc [] l = refl
firsts-snoc (x ∷ xs) l = by_test (bytes_eq x.name l.name) refl (is_named l.name xs) refl (firsts-snoc xs l)
  where
    by_test : (t : Bool) → bytes_eq x.name l.name ≡ t → (u : Bool) → is_named l.name xs ≡ u → firsts (xs ++ l ∷ []) ≡ cond (is_named l.name xs) (firsts xs) (firsts xs ++ l ∷ []) → x ∷ drop_name x.name (firsts (xs ++ l ∷ [])) ≡ cond (cond t true (is_named l.name xs)) (x ∷ drop_name x.name (firsts xs)) ((x ∷ drop_name x.name (firsts xs)) ++ l ∷ [])
    by_test true e true n rest = rw (rest, n) refl
    by_test true e false n rest = rw (rest, n) (ap (λ (zs : List Listing). x ∷ zs) (drop_none x.name (firsts xs) l (flip x.name l.name e)))
    by_test false e true n rest = rw (rest, n) refl
    by_test false e false n rest = rw (rest, n) (ap (λ (zs : List Listing). x ∷ zs) (drop_other x.name (firsts xs) l (apart e)))
      where
        apart : bytes_eq x.name l.name ≡ false → bytes_eq l.name x.name ≡ false
        apart e = false_from_ne_true _ (λ same. false≢true (sym e ∙ flip l.name x.name same))

pub named-snoc : (name : List ℕ) (xs : List Listing) (l : Listing) → is_named name (xs ++ l ∷ []) ≡ (is_named name xs || bytes_eq l.name name)
named-snoc name [] l = by_test (bytes_eq l.name name)
  where
    by_test : (t : Bool) → cond t true false ≡ (false || t)
    by_test true = refl
    by_test false = refl
named-snoc name (x ∷ xs) l = by_test (bytes_eq x.name name) (named-snoc name xs l)
  where
    by_test : (t : Bool) → is_named name (xs ++ l ∷ []) ≡ (is_named name xs || bytes_eq l.name name) → cond t true (is_named name (xs ++ l ∷ [])) ≡ (cond t true (is_named name xs) || bytes_eq l.name name)
    by_test true rest = refl
    by_test false rest = rest

-- the names that were seen are those of the list
abbrev pub AreSeen : List (List ℕ) → List Listing → Type 0
AreSeen seen ls = (name : List ℕ) → is_some (number_of name seen) ≡ is_named name ls

-- a name that wasn't seen counts
pub firsts_new : (ls : List declared.Listing) (i : ℕ) (d : declared.Listing) (out : List declared.Listing) (seen : List (List ℕ)) → i < length ls → as_listings out ≡ firsts (as_listings (take i ls)) → AreSeen seen (as_listings (take i ls)) → is_some (number_of (get_or ls i d).name.now seen) ≡ false → (as_listings (out ++ get_or ls i d ∷ []) ≡ firsts (as_listings (take (i + 1) ls))) × AreSeen (seen ++ (get_or ls i d).name.now ∷ []) (as_listings (take (i + 1) ls))
firsts_new ls i d out seen h so_far are none =
    let l = as_listing (get_or ls i d) in
    let xs = as_listings (take i ls) in
    let more : as_listings (take (i + 1) ls) ≡ xs ++ l ∷ [] = listings_more ls i d h in
    let unnamed : is_named l.name xs ≡ false = sym (are l.name) ∙ none in
    (rw (map-append, so_far, more, firsts-snoc xs l, unnamed) refl, λ name. rw (known_snoc name seen l.name, more, named-snoc name xs l, are name) refl)

-- a further name that is there already
absorbed : (one name : List ℕ) (xs : List Listing) → is_named one xs ≡ true → is_named name xs ≡ (is_named name xs || bytes_eq one name)
absorbed one name xs named = by_test (bytes_eq one name) refl
  where
    by_test : (t : Bool) → bytes_eq one name ≡ t → is_named name xs ≡ (is_named name xs || t)
    by_test false e = sym (or-false (is_named name xs))
    by_test true e =
        let yes : is_named name xs ≡ true = subst (λ (n : List ℕ). is_named n xs ≡ true) (same_name one name e) named in
        rw yes refl

-- a name that was seen changes nothing
pub firsts_again : (ls : List declared.Listing) (i : ℕ) (d : declared.Listing) (out : List declared.Listing) (seen : List (List ℕ)) → i < length ls → as_listings out ≡ firsts (as_listings (take i ls)) → AreSeen seen (as_listings (take i ls)) → is_some (number_of (get_or ls i d).name.now seen) ≡ true → (as_listings out ≡ firsts (as_listings (take (i + 1) ls))) × AreSeen seen (as_listings (take (i + 1) ls))
firsts_again ls i d out seen h so_far are there =
    let l = as_listing (get_or ls i d) in
    let xs = as_listings (take i ls) in
    let more : as_listings (take (i + 1) ls) ≡ xs ++ l ∷ [] = listings_more ls i d h in
    let named : is_named l.name xs ≡ true = sym (are l.name) ∙ there in
    (rw (more, firsts-snoc xs l, named) so_far, λ name. rw (more, named-snoc name xs l) (are name ∙ absorbed l.name name xs named))
