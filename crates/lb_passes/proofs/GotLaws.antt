-- The passes of a desk after a call on one of them, and the tickets that they still have.
use Rattle.std.proofs.Common.{◌≡◌, ℕ, zero, suc, ◌<◌, Bool, true, false, List, [], ◌∷◌, ◌++◌, length, get_or, set, reverse, Result, Ok, Err, refl, sym, ap, ◌∙◌, subst, inl, inr, arith}
use Rattle.std.specs.Prelude.{◌||◌, IfOk, slice_index}
use Rattle.std.proofs.lemmas.Bool.{cases_Bool}
use Rattle.std.proofs.lemmas.List.{append-nil, length-map}
use Rattle.std.proofs.lemmas.List.Folds.{list_any-append}
use mathlib.Core.Option.{some, some-injective, some-ne-none}
use native.Mathlib.Decide.{ℕ_discrete}
use lib.ListN.{get_elem?}
use Rattle.atomic_table.proofs.Lists.{at_index, set_else, set_here}
use Rattle.jk_io.specs.declared.failures.NoMemory.{NoMemory}
use Rattle.lb_model.specs.Journal.{members}
use Rattle.lb_model.specs.Present.{IsPresent}
use Rattle.lb_model.specs.Tickets.{is_returned}
use Rattle.lb_model.specs.declared.journal.Entry.{Entry}
use Rattle.lb_model.specs.declared.view.View.{View}
use Rattle.lb_book.specs.Desks.{holds, is_pair, without_last}
use Rattle.lb_book.specs.declared.receipt.Receipt.{Receipt}
use Rattle.lb_book.proofs.PlainLaws.{pair_is, without, without-none}
use Rattle.lb_book.specs.Histories.{IsHistory, has_made, own_of}
use Rattle.lb_passes.specs.declared.pass_view.Origin.{Origin}
use Rattle.lb_passes.specs.declared.pass_view.PassView.{PassView}
use Rattle.lb_book.proofs.HistoryLaws.{whole_present}
use Rattle.lb_book.proofs.OwnLaws.{made_longer, own-append, own-same, returned-append}
use Rattle.lb_passes.specs.Holds.{Looks, TakesTurn, entries_in, gained_in, own_in}
use Rattle.lb_passes.specs.PassDesks.{AreGot, IsGot, IsPassDesk, PassDeskState, SeesAt, SeesMore, ShowsSeen, StayPasses, StaysPass, sizes_in, view_of}
use Rattle.lb_passes.proofs.GainLaws.{gained_is}
use Rattle.lb_passes.specs.declared.pass.Pass.{Pass}
use Rattle.lb_passes.specs.declared.pass_book.PassBook.{PassBook}

pub within_sizes : (passes : List Pass) (lb : ℕ) → lb < length (sizes_in passes) → lb < length passes
within_sizes passes lb lt = omega (arith, lt, length-map passes (λ (p : Pass). members (view_of p).origin.opening))

pub size_at : (passes : List Pass) (lb : ℕ) (p : Pass) → get_elem? passes lb ≡ some p → slice_index (sizes_in passes) lb ≡ members (view_of p).origin.opening
size_at [] lb p at = absurd (some-ne-none p (sym at))
size_at (x ∷ xs) zero p at = ap (λ (y : Pass). members (view_of y).origin.opening) (some-injective x p at)
size_at (x ∷ xs) (suc lb) p at = size_at xs lb p at

pub sizes_set : (passes : List Pass) (lb : ℕ) (p q : Pass) → get_elem? passes lb ≡ some p → (view_of q).origin ≡ (view_of p).origin
    → sizes_in (set passes lb q) ≡ sizes_in passes
sizes_set [] lb p q at same = refl
sizes_set (x ∷ xs) zero p q at same =
    ap (λ (n : ℕ). n ∷ sizes_in xs) (ap (λ (o : Origin). members o.opening) same ∙ sym (ap (λ (y : Pass). members (view_of y).origin.opening) (some-injective x p at)))
sizes_set (x ∷ xs) (suc lb) p q at same = ap (λ (ns : List ℕ). members (view_of x).origin.opening ∷ ns) (sizes_set xs lb p q at same)

pub within_at : {A : Type 0} (xs : List A) (k : ℕ) (x : A) → get_elem? xs k ≡ some x → k < length xs
within_at [] k x at = absurd (some-ne-none x (sym at))
within_at (y ∷ ys) zero x at = omega arith
within_at (y ∷ ys) (suc k) x at = let lt : k < length ys = within_at ys k x at in omega arith

length_set : {A : Type 0} (xs : List A) (k : ℕ) (x : A) → length (set xs k x) ≡ length xs
length_set [] k x = refl
length_set (y ∷ ys) zero x = refl
length_set (y ∷ ys) (suc k) x = ap suc (length_set ys k x)

pub desk_set : (books : List PassBook) (passes : List Pass) (number lb : ℕ) (held held' : List (ℕ × ℕ)) (p q : Pass) → IsPassDesk books passes number held
    → get_elem? passes lb ≡ some p → q.seat.table_id ≡ p.seat.table_id → q.number ≡ p.number → AreGot (set passes lb q) held'
    → IsPassDesk books (set passes lb q) number held'
desk_set books passes number lb held held' p q is at of same got = record {
  many = length_set passes lb q ∙ is.many;
  of = λ j b r found there.
      elim (ℕ_discrete j lb) [
        | yes here ↦
            let r_is : q ≡ r = some-injective q r (sym (set_here passes lb q (within_at passes lb p at)) ∙ subst (λ (k : ℕ). get_elem? (set passes lb q) k ≡ some r) here there) in
            sym (ap (λ (x : Pass). x.seat.table_id) r_is) ∙ of ∙ is.of lb b p (subst (λ (k : ℕ). get_elem? books k ≡ some b) here found) at
        | no other ↦ is.of j b r found (sym (set_else passes lb j q other) ∙ there)
      ];
  numbers = λ j r there.
      elim (ℕ_discrete j lb) [
        | yes here ↦
            let r_is : q ≡ r = some-injective q r (sym (set_here passes lb q (within_at passes lb p at)) ∙ subst (λ (k : ℕ). get_elem? (set passes lb q) k ≡ some r) here there) in
            sym (ap (λ (x : Pass). x.number) r_is) ∙ same ∙ is.numbers lb p at
        | no other ↦ is.numbers j r (sym (set_else passes lb j q other) ∙ there)
      ];
  got = got;
}

-- Passes stay in their places where one call was done with one of them.
stay_all : (passes : List Pass) → StayPasses passes passes
stay_all [] = tt
stay_all (p ∷ passes) = (record { of = refl; number = refl; origin = refl; given = refl }, stay_all passes)

pub stay_set : (passes : List Pass) (lb : ℕ) (p q : Pass) → get_elem? passes lb ≡ some p → q.seat.table_id ≡ p.seat.table_id → q.number ≡ p.number
    → (view_of q).origin ≡ (view_of p).origin → (view_of q).given ≡ (view_of p).given → StayPasses passes (set passes lb q)
stay_set [] lb p q at of number origin given = tt
stay_set (x ∷ xs) zero p q at of number origin given =
    (subst (λ (y : Pass). StaysPass y q) (sym (some-injective x p at)) (record { of = of; number = number; origin = origin; given = given }), stay_all xs)
stay_set (x ∷ xs) (suc lb) p q at of number origin given =
    (record { of = refl; number = refl; origin = refl; given = refl }, stay_set xs lb p q at of number origin given)

-- A turn, as the desk tells of it.
pub sees_more : (v w : PassView) (b : _) (gained : List Receipt) → TakesTurn v w b gained → SeesMore v w (entries_in gained)
sees_more v w b gained turn =
    let new : List Entry = entries_in gained in
    let begins : turn.log ≡ v.seen ++ turn.begins.rest = turn.begins.is in
    record {
      origin = ap (λ (x : PassView). x.origin) turn.after;
      number = ap (λ (x : PassView). x.number) turn.after;
      between = turn.begins.rest;
      seen = ap (λ (x : PassView). x.seen) turn.after ∙ ap (λ (xs : List Entry). xs ++ new) begins;
      own = ap own_in turn.after;
      standing = record {
        history =
            subst (λ (x : Origin). IsHistory x.opening w.seen) (sym (ap (λ (x : PassView). x.origin) turn.after))
            (subst (λ (xs : List Entry). IsHistory v.origin.opening xs) (sym (ap (λ (x : PassView). x.seen) turn.after)) turn.history);
        begins = record { rest = []; is = sym (append-nil w.seen) };
        own =
            ap own_in turn.after
            ∙ ap (λ (xs : List Entry). xs ++ new) turn.own
            ∙ ap (λ (xs : List Entry). own_of v.number turn.log ++ xs) (sym (own-same v.number new turn.mine))
            ∙ sym (own-append v.number turn.log new)
            ∙ ap (λ (x : PassView). own_of x.number x.seen) (sym turn.after);
      };
    }

pub sees_set : (old new : PassDeskState) (lb : ℕ) (p q : Pass) → get_elem? old.passes lb ≡ some p → new.passes ≡ set old.passes lb q
    → SeesMore (view_of p) (view_of q) (entries_in (gained_in old.desk.receipts new.desk.receipts)) → SeesAt old new lb
sees_set old new lb p q at is sees = record {
  within = within_at old.passes lb p at;
  others = λ j other. ap (λ (xs : List Pass). get_elem? xs j) is ∙ set_else old.passes lb j q other;
  sees = λ r found.
      let same : p ≡ r = some-injective p r (sym at ∙ found) in (
        q,
        ap (λ (xs : List Pass). get_elem? xs lb) is ∙ set_here old.passes lb q (within_at old.passes lb p at),
        subst (λ (x : Pass). SeesMore (view_of x) (view_of q) (entries_in (gained_in old.desk.receipts new.desk.receipts))) same sees,
      );
}

pub shows_set : (new : PassDeskState) (passes : List Pass) (lb : ℕ) (p q : Pass) (r : Result View NoMemory) → get_elem? passes lb ≡ some p → new.passes ≡ set passes lb q
    → Looks (view_of p) (view_of q) r → IfOk r (λ view. ShowsSeen new lb view)
shows_set new passes lb p q (Ok view) at is looks =
    let turn = looks.turn in
    let seen : (view_of q).seen ≡ turn.log = ap (λ (x : PassView). x.seen) turn.after ∙ append-nil turn.log in
    let origin : (view_of q).origin ≡ (view_of p).origin = ap (λ (x : PassView). x.origin) turn.after in
    record {
      pass = q;
      at = ap (λ (xs : List Pass). get_elem? xs lb) is ∙ set_here passes lb q (within_at passes lb p at);
      present =
          subst (λ (x : Origin). IsPresent 2 x.opening (reverse (view_of q).seen) view) (sym origin)
          (subst (λ (xs : List Entry). IsPresent 2 (view_of p).origin.opening (reverse xs) view) (sym seen)
          (whole_present (view_of p).origin.opening turn.log looks.book view turn.stands.whole turn.stands.sound looks.present));
    }
shows_set new passes lb p q (Err e) at is looks = tt

-- Tickets that are still had.
pub got_found : (passes : List Pass) (held : List (ℕ × ℕ)) (pair : ℕ × ℕ) → holds held pair ≡ true → AreGot passes held → IsGot passes pair
got_found passes [] pair is are = absurd cc
got_found passes (x ∷ xs) pair is are =
    elim (cases_Bool (is_pair pair x)) [
      | inl this ↦ subst (λ (y : ℕ × ℕ). IsGot passes y) (sym (pair_is pair x this)) are.0
      | inr other ↦ got_found passes xs pair (sym (ap (λ (b : Bool). b || holds xs pair) other) ∙ is) are.2
    ]

pub got_all : (passes passes' : List Pass) (held : List (ℕ × ℕ)) → ((x : ℕ × ℕ) → IsGot passes x → IsGot passes' x) → AreGot passes held → AreGot passes' held
got_all passes passes' [] keep are = tt
got_all passes passes' (x ∷ xs) keep are = (keep x are.0, are.1, got_all passes passes' xs keep are.2)

holds_cases : (x y : ℕ × ℕ) (xs : List (ℕ × ℕ)) → holds (x ∷ xs) y ≡ false → (is_pair y x ≡ false) × (holds xs y ≡ false)
holds_cases x y xs free =
    elim (cases_Bool (is_pair y x)) [
      | inl this ↦ let yes_it : holds (x ∷ xs) y ≡ true = ap (λ (b : Bool). b || holds xs y) this in absurd cc
      | inr other ↦ (other, sym (ap (λ (b : Bool). b || holds xs y) other) ∙ free)
    ]

holds_without : (held : List (ℕ × ℕ)) (p q : ℕ × ℕ) → holds held q ≡ false → holds (without held p) q ≡ false
holds_without [] p q free = refl
holds_without (x ∷ xs) p q free =
    let parts = holds_cases x q xs free in
    let rest : holds (without xs p) q ≡ false = holds_without xs p q parts.1 in
    elim (cases_Bool (is_pair p x)) [
      | inl this ↦ rw this rest
      | inr other ↦ rw other (ap (λ (b : Bool). b || holds (without xs p) q) parts.0 ∙ rest)
    ]

pub got_without : (passes passes' : List Pass) (held : List (ℕ × ℕ)) (pair : ℕ × ℕ) → ((x : ℕ × ℕ) → is_pair pair x ≡ false → IsGot passes x → IsGot passes' x)
    → AreGot passes held → AreGot passes' (without held pair)
got_without passes passes' [] pair keep are = tt
got_without passes passes' (x ∷ xs) pair keep are =
    let rest : AreGot passes' (without xs pair) = got_without passes passes' xs pair keep are.2 in
    elim (cases_Bool (is_pair pair x)) [
      | inl this ↦ rw this rest
      | inr other ↦ rw other (keep x other are.0, holds_without xs pair x are.1, rest)
    ]

pub got_last : (passes : List Pass) (held : List (ℕ × ℕ)) (p : ℕ × ℕ) → AreGot passes held → without held p ≡ without_last held p
got_last passes [] p are = refl
got_last passes (x ∷ xs) p are =
    elim (cases_Bool (is_pair p x)) [
      | inl this ↦
          let free : holds xs p ≡ false = subst (λ (y : ℕ × ℕ). holds xs y ≡ false) (sym (pair_is p x this)) are.1 in
          rw (this, free) (without-none xs p free)
      | inr other ↦ rw other (ap (λ (ys : List (ℕ × ℕ)). x ∷ ys) (got_last passes xs p are.2))
    ]

holds_more : (xs : List (ℕ × ℕ)) (p y : ℕ × ℕ) → holds xs y ≡ false → is_pair y p ≡ false → holds (xs ++ p ∷ []) y ≡ false
holds_more xs p y free other =
    list_any-append (λ (z : ℕ × ℕ). is_pair y z) xs (p ∷ []) ∙ ap (λ (b : Bool). b || (is_pair y p || false)) free ∙ ap (λ (b : Bool). b || false) other

pair_turned : (a b : ℕ × ℕ) → is_pair a b ≡ false → is_pair b a ≡ false
pair_turned a b other =
    elim (cases_Bool (is_pair b a)) [
      | inl this ↦
          let same : b ≡ a = pair_is b a this in
          let again : is_pair a b ≡ true = subst (λ (x : ℕ × ℕ). is_pair x b ≡ true) same (subst (λ (x : ℕ × ℕ). is_pair b x ≡ true) (sym same) this) in
          absurd cc
      | inr not_it ↦ not_it
    ]

pub got_more : (passes : List Pass) (held : List (ℕ × ℕ)) (p : ℕ × ℕ) → AreGot passes held → holds held p ≡ false → IsGot passes p → AreGot passes (held ++ p ∷ [])
got_more passes [] p are free got = (got, refl, tt)
got_more passes (x ∷ xs) p are free got =
    let parts = holds_cases x p xs free in
    (are.0, holds_more xs p x are.1 (pair_turned p x parts.0), got_more passes xs p are.2 parts.1 got)

-- After a turn that gave back none of these.
pub got_turn : (passes : List Pass) (lb : ℕ) (p q : Pass) (b : _) (gained : List Receipt) (x : ℕ × ℕ) → get_elem? passes lb ≡ some p
    → TakesTurn (view_of p) (view_of q) b gained → (x.0 ≡ lb → is_returned x.1 (entries_in gained) ≡ false) → IsGot passes x → IsGot (set passes lb q) x
got_turn passes lb p q b gained x at turn none got =
    elim (ℕ_discrete x.0 lb) [
      | yes here ↦
          let same : got.pass ≡ p = some-injective got.pass p (sym (subst (λ (k : ℕ). get_elem? passes k ≡ some got.pass) here got.found) ∙ at) in
          let own : own_in (view_of q) ≡ own_in (view_of p) ++ entries_in gained = ap own_in turn.after in
          let made : has_made x.1 (own_in (view_of p)) ≡ true = subst (λ (y : Pass). has_made x.1 (own_in (view_of y)) ≡ true) same got.made in
          let still : is_returned x.1 (own_in (view_of p)) ≡ false = subst (λ (y : Pass). is_returned x.1 (own_in (view_of y)) ≡ false) same got.still in
          record {
            pass = q;
            found = subst (λ (k : ℕ). get_elem? (set passes lb q) k ≡ some q) (sym here) (set_here passes lb q (within_at passes lb p at));
            made = ap (λ (es : List Entry). has_made x.1 es) own ∙ made_longer x.1 (own_in (view_of p)) (entries_in gained) made;
            still =
                ap (λ (es : List Entry). is_returned x.1 es) own ∙ returned-append x.1 (own_in (view_of p)) (entries_in gained)
                ∙ ap (λ (c : Bool). c || is_returned x.1 (entries_in gained)) still ∙ none here;
          }
      | no other ↦ record { pass = got.pass; found = set_else passes lb x.0 q other ∙ got.found; made = got.made; still = got.still }
    ]

-- Where a call looks.
pub at_place : (passes : List Pass) (lb : ℕ) (p : Pass) → lb < length (sizes_in passes) → p ≡ get_or passes lb p → get_elem? passes lb ≡ some p
at_place passes lb p lt is = at_index passes lb p (within_sizes passes lb lt) is

pub of_place : (books : List PassBook) (passes : List Pass) (number lb : ℕ) (held : List (ℕ × ℕ)) (b : PassBook) (p : Pass) → IsPassDesk books passes number held
    → lb < length (sizes_in passes) → b ≡ get_or books lb b → p ≡ get_or passes lb p → p.seat.table_id ≡ (get_or books lb b).table.shared.table_id
of_place books passes number lb held b p is lt b_is p_is =
    let within : lb < length books = omega (arith, within_sizes passes lb lt, is.many) in
    is.of lb b p (at_index books lb b within b_is) (at_place passes lb p lt p_is) ∙ ap (λ (x : PassBook). x.table.shared.table_id) b_is

pub gained_none : (r : List Receipt) → entries_in (gained_in r r) ≡ []
gained_none r = ap entries_in (gained_is r r [] (sym (append-nil r)))
