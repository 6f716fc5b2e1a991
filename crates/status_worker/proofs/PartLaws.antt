-- Which parts of a query count: one that can't be read, one that repeats a name, one of another name, and in which order.
use Rattle.std.proofs.Common.{ℕ, ◌+◌, ◌<◌, ◌≡◌, true, false, cond, List, [], ◌∷◌, ◌++◌, length, Option, Some, None, refl, sym, ap, ◌∙◌, ⊎_elim, arith}
use Rattle.std.specs.List.{count_by, find}
use Rattle.std.proofs.lemmas.Bool.{cases_Bool, cond-true, cond-false, leb-true}
use Rattle.std.proofs.lemmas.List.Sums.{sum_by-append, sum_by-cons}
use Rattle.status_worker.specs.declared.field.Field.{Field}
use Rattle.status_worker.specs.declared.name.Name.{Name}
use Rattle.status_worker.specs.declared.name.Name.TheVariants as name
use Rattle.status_worker.specs.Fields.{field_of, in_front, fields_in, parts_of}
use Rattle.status_worker.specs.Meaning.{command_in, command_of, meaning_of}
use Rattle.status_worker.specs.Names.{has_name, is_lone, are_lone, texts_of}
use Rattle.status_worker.specs.Values.{◌>>=◌}
use Rattle.status_worker.proofs.PageCommandLaws.{and_true}
use Rattle.status_worker.proofs.FieldLemmas.{fields_in-part}

-- ---- a part that can't be read

unread_in : (front back : List (List ℕ)) (part : List ℕ) → 0 < length part → field_of part ≡ None → fields_in (front ++ part ∷ back) ≡ None
unread_in [] back part some none = fields_in-part part back some ∙ ap (λ o. in_front o (fields_in back)) none
unread_in ([] ∷ front) back part some none = unread_in front back part some none
unread_in ((b ∷ bs) ∷ front) back part some none =
    fields_in-part (b ∷ bs) (front ++ part ∷ back) (omega arith)
    ∙ ap (in_front (field_of (b ∷ bs))) (unread_in front back part some none)
    ∙ nothing (field_of (b ∷ bs))
  where
    nothing : (o : Option Field) → in_front o None ≡ None
    nothing None = refl
    nothing (Some f) = refl

pub unread_bad : (query part : List ℕ) (front back : List (List ℕ)) → parts_of query ≡ front ++ part ∷ back → 0 < length part → field_of part ≡ None → meaning_of (Some query) ≡ None
unread_bad query part front back is some none =
    ap (λ parts. fields_in parts >>= command_in) is ∙ ap (λ o. o >>= command_in) (unread_in front back part some none)

-- ---- a name that stands twice

-- each known name is lone where all are
lone_of : (fields : List Field) (n : Name) → are_lone fields ≡ true → is_lone fields n ≡ true
lone_of fields n lone =
    let command = and_true _ _ lone in
    let worker = and_true _ _ command.1 in
    let member = and_true _ _ worker.1 in
    let activation = and_true _ _ member.1 in
    let factor = and_true _ _ activation.1 in
    let distance = and_true _ _ factor.1 in
    let redirect = and_true _ _ distance.1 in
    elim n as (λ n. is_lone fields n ≡ true) [
      | name.Command ↦ command.0
      | name.Worker ↦ worker.0
      | name.Member ↦ member.0
      | name.Activation ↦ activation.0
      | name.Factor ↦ factor.0
      | name.Distance ↦ distance.0
      | name.Redirect ↦ redirect.0
    ]

pub repeated_bad : (fields : List Field) (n : Name) → 1 < count_by (has_name n) fields → command_in fields ≡ None
repeated_bad fields n twice =
    ⊎_elim
    (λ lone. absurd (let once = leb-true (count_by (has_name n) fields) 1 (lone_of fields n lone) in omega arith))
    (λ not_lone. cond-false (are_lone fields) (command_of (texts_of fields)) None not_lone)
    (cases_Bool (are_lone fields))

-- ---- what the names' values are alone counts

-- two lists of fields that have each known name as often, and give it the same value, mean the same
same_meaning : (fields others : List Field) → ((n : Name) → count_by (has_name n) fields ≡ count_by (has_name n) others) → (are_lone fields ≡ true → (n : Name) → find (has_name n) fields ≡ find (has_name n) others) → command_in fields ≡ command_in others
same_meaning fields others counts found =
    ⊎_elim
    (λ lone.
    let texts : texts_of fields ≡ texts_of others =
    rw (
      found lone name.Command,
      found lone name.Worker,
      found lone name.Member,
      found lone name.Activation,
      found lone name.Factor,
      found lone name.Distance,
      found lone name.Redirect,
    )
    refl in
    cond-true (are_lone fields) (command_of (texts_of fields)) None lone ∙ ap command_of texts ∙ sym (cond-true (are_lone others) (command_of (texts_of others)) None (sym lones ∙ lone)))
    (λ no. cond-false (are_lone fields) (command_of (texts_of fields)) None no ∙ sym (cond-false (are_lone others) (command_of (texts_of others)) None (sym lones ∙ no)))
    (cases_Bool (are_lone fields))
  where
    lones : are_lone fields ≡ are_lone others
    lones =
        rw (
          counts name.Command,
          counts name.Worker,
          counts name.Member,
          counts name.Activation,
          counts name.Factor,
          counts name.Distance,
          counts name.Redirect,
        )
        refl

count_by-middle : (n : Name) (front back : List Field) (f : Field) → count_by (has_name n) (front ++ f ∷ back) ≡ count_by (has_name n) front + (cond (has_name n f) 1 0 + count_by (has_name n) back)
count_by-middle n front back f =
    sum_by-append (λ x. cond (has_name n x) 1 0) front (f ∷ back) ∙ ap (λ k. count_by (has_name n) front + k) (sum_by-cons (λ x. cond (has_name n x) 1 0) f back)

find-append : (n : Name) (front back more : List Field) → find (has_name n) back ≡ find (has_name n) more → find (has_name n) (front ++ back) ≡ find (has_name n) (front ++ more)
find-append n [] back more same = same
find-append n (f ∷ front) back more same = ap (λ o. cond (has_name n f) (Some f) o) (find-append n front back more same)

pub unknown_ignored : (front back : List Field) (f : Field) → ((n : Name) → has_name n f ≡ false) → command_in (front ++ f ∷ back) ≡ command_in (front ++ back)
unknown_ignored front back f other =
    same_meaning (front ++ f ∷ back) (front ++ back)
    (λ n. count_by-middle n front back f ∙ rw (other n) (sym (sum_by-append (λ x. cond (has_name n x) 1 0) front back ∙ omega arith)))
    (λ lone n. find-append n front (f ∷ back) back (cond-false (has_name n f) (Some f) (find (has_name n) back) (other n)))

pub order_ignored : (front back : List Field) (f g : Field) → command_in (front ++ f ∷ g ∷ back) ≡ command_in (front ++ g ∷ f ∷ back)
order_ignored front back f g =
    same_meaning (front ++ f ∷ g ∷ back) (front ++ g ∷ f ∷ back)
    (λ n.
    let one = count_by-middle n front (g ∷ back) f in
    let two = count_by-middle n front (f ∷ back) g in
    let left = sum_by-cons (λ x. cond (has_name n x) 1 0) g back in
    let right = sum_by-cons (λ x. cond (has_name n x) 1 0) f back in
    omega (arith, one, two, left, right))
    (λ lone n. find-append n front (f ∷ g ∷ back) (g ∷ f ∷ back) (swapped n (once n lone)))
  where
    -- not both have the name
    once : (n : Name) → are_lone (front ++ f ∷ g ∷ back) ≡ true → has_name n f ≡ true → has_name n g ≡ true → ⊥
    once n lone has also =
        let few = leb-true (count_by (has_name n) (front ++ f ∷ g ∷ back)) 1 (lone_of (front ++ f ∷ g ∷ back) n lone) in
        let all = count_by-middle n front (g ∷ back) f in
        let rest = sum_by-cons (λ x. cond (has_name n x) 1 0) g back in
        let two : cond (has_name n f) 1 0 + cond (has_name n g) 1 0 ≡ 2 = rw (has, also) refl in
        omega (arith, few, all, rest, two)

    swapped : (n : Name) → (has_name n f ≡ true → has_name n g ≡ true → ⊥) → find (has_name n) (f ∷ g ∷ back) ≡ find (has_name n) (g ∷ f ∷ back)
    swapped n not_both =
        ⊎_elim
        (λ has. ⊎_elim (λ also. absurd (not_both has also)) (λ no.
        cond-true (has_name n f) (Some f) (find (has_name n) (g ∷ back)) has
        ∙ sym (cond-false (has_name n g) (Some g) (find (has_name n) (f ∷ back)) no ∙ cond-true (has_name n f) (Some f) (find (has_name n) back) has)) (cases_Bool (has_name n g)))
        (λ lacks.
        cond-false (has_name n f) (Some f) (find (has_name n) (g ∷ back)) lacks
        ∙ ap (λ o. cond (has_name n g) (Some g) o) (sym (cond-false (has_name n f) (Some f) (find (has_name n) back) lacks)))
        (cases_Bool (has_name n f))
