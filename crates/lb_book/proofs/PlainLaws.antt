-- A hold of one Book by a desk of one thread: its Books, receipts and tickets afterwards.
use Rattle.std.proofs.Common.{◌≡◌, ℕ, zero, suc, ◌+◌, ◌<◌, ◌≤◌, ◌⊎◌, true, false, not, List, [], ◌∷◌, ◌++◌, length, Some, refl, sym, ap, ◌∙◌, subst, inl, inr, arith}
use Rattle.std.specs.Prelude.{◌==◌, filter, slice_get, slice_set, slice_index}
use Rattle.std.specs.List.{All}
use Rattle.std.proofs.lemmas.Bool.{and_parts, cases_Bool, cases_lt, eq-eqb, eqb-true}
use Rattle.std.proofs.lemmas.List.{append-nil, append_assoc, length-append}
use Rattle.std.proofs.lemmas.List.Elements.{All-append, All-from_recursion, All-nil}
use Rattle.std.proofs.lemmas.List.Folds.{list_any-append}
use Rattle.std.proofs.lemmas.Option.{get_or_from_slice_get, slice_get_within}
use Rattle.std.proofs.Math.Seq.{map-set_same}
use Rattle.lb_model.specs.Journal.{members}
use Rattle.lb_model.specs.Tickets.{gives_back, is_out}
use Rattle.lb_model.specs.Choice.{IsPick}
use Rattle.lb_model.specs.Legal.{IsLegalPast, IsNext}
use Rattle.lb_model.proofs.ChoiceFacts.{chosen_roomy}
use Rattle.lb_model.proofs.OutFacts.{chosen_member}
use Rattle.lb_model.proofs.TicketLaws.{not_out_before, out_after, stays_out}
use Rattle.lb_model.specs.declared.ask.Ask.{Ask}
use Rattle.lb_model.specs.declared.change.Command.{Command}
use Rattle.lb_model.specs.declared.journal.Answer.{Answer}
use Rattle.lb_model.specs.declared.journal.Answer.TheVariants as answer
use Rattle.lb_model.specs.declared.journal.Call.{Call}
use Rattle.lb_model.specs.declared.journal.Call.TheVariants as call
use Rattle.lb_model.specs.declared.journal.Outcome.{Outcome}
use Rattle.lb_model.specs.declared.journal.Entry.{Entry}
use Rattle.lb_model.specs.declared.opening.Opening.{Opening}
use Rattle.lb_model.specs.declared.refusal.AdminError.{AdminError}
use Rattle.lb_model.specs.declared.refusal.FullMark.{FullMark}
use Rattle.lb_model.specs.declared.refusal.RoomError.{RoomError}
use Rattle.lb_book.specs.Due.{due_moment, entry_moment}
use Rattle.lb_book.specs.Journal.{AddsEntry, IsSound, Journal, past_of}
use Rattle.lb_book.specs.Desks.{Gains, GainsDue, GainsLast, IsDue, IsMaintained, IsOwn, holds, is_pair, without_last}
use Rattle.lb_book.specs.PlainDesks.{AreHeld, AreLegal, AreModern, BookGains, BookGainsDue, BookGainsLast, IsOutAt, IsPlain, Picks, plain_state}
use Rattle.lb_book.specs.ToldBooks.{AreNextAt, Follows, IsFound, grown_by, sizes_of}
use Rattle.lb_book.specs.PlainLeases.{pairs_in}
use Rattle.lb_book.specs.declared.receipt.Receipt.{Receipt}
use Rattle.lb_book.proofs.DeskLaws.{is_pair-same}
use Rattle.lb_book.proofs.ToldLaws.{get-set, get-set_other, grown-nil, grown-twice, next_more, set-found, some_is, sound_grown, where_told}

differs : (i j : ℕ) → (i == j) ≡ false → i ≡ j → ⊥
differs i j other same =
    let this : (i == j) ≡ true = eq-eqb i j same in
    absurd cc

-- Pairs.
pub pair_is : (a b : ℕ × ℕ) → is_pair a b ≡ true → a ≡ b
pair_is a b is =
    let both : ((a.0 == b.0) ≡ true) × ((a.1 == b.1) ≡ true) = and_parts (a.0 == b.0) (a.1 == b.1) is in
    let first : a.0 ≡ b.0 = eqb-true a.0 b.0 both.0 in
    let second : a.1 ≡ b.1 = eqb-true a.1 b.1 both.1 in
    ap (λ (k : ℕ). (k, a.1)) first ∙ ap (λ (k : ℕ). (b.0, k)) second

pub pair_differs : (a b : ℕ × ℕ) → is_pair a b ≡ false → is_pair b a ≡ false
pair_differs a b other =
    elim (cases_Bool (is_pair b a)) [
      | inl this ↦
          let same : is_pair a b ≡ true = subst (λ (x : ℕ × ℕ). is_pair x b ≡ true) (pair_is b a this) (is_pair-same b) in
          absurd cc
      | inr no_pair ↦ no_pair
    ]

-- The Books of a desk, of which one was held.
pub modern-hold : (books : List Journal) (lb : ℕ) (old new : Journal) → AreModern books → slice_get books lb ≡ Some old
    → new.rules ≡ old.rules → AreModern (slice_set books lb new)
modern-hold books lb old new modern at rules k b found =
    elim (cases_Bool (lb == k)) [
      | inl this ↦
          let here : slice_get (slice_set books lb new) k ≡ Some new =
          subst (λ (j : ℕ). slice_get (slice_set books lb new) j ≡ Some new) (eqb-true lb k this)
          (get-set books lb new (slice_get_within books lb old at)) in
          ap (λ (x : Journal). x.rules) (some_is b new (sym found ∙ here)) ∙ rules ∙ modern lb old at
      | inr other ↦ modern k b (sym (get-set_other books lb k new (differs lb k other)) ∙ found)
    ]

pub legal-hold : (books : List Journal) (lb : ℕ) (old new : Journal) → AreLegal books → slice_get books lb ≡ Some old
    → IsSound new → AreLegal (slice_set books lb new)
legal-hold books lb old new legal at sound k b found =
    elim (cases_Bool (lb == k)) [
      | inl this ↦
          let here : slice_get (slice_set books lb new) k ≡ Some new =
          subst (λ (j : ℕ). slice_get (slice_set books lb new) j ≡ Some new) (eqb-true lb k this)
          (get-set books lb new (slice_get_within books lb old at)) in
          subst (λ (x : Journal). IsSound x) (some_is new b (sym here ∙ found)) sound
      | inr other ↦ legal k b (sym (get-set_other books lb k new (differs lb k other)) ∙ found)
    ]

pub sizes-hold : (books : List Journal) (lb : ℕ) (old new : Journal) → slice_get books lb ≡ Some old → new.opening ≡ old.opening
    → sizes_of (slice_set books lb new) ≡ sizes_of books
sizes-hold books lb old new at opening =
    map-set_same (λ (b : Journal). members b.opening) books lb new old
    (ap (λ (o : Opening). members o) (opening ∙ sym (ap (λ (b : Journal). b.opening) (get_or_from_slice_get books lb old old at))))

pub size-at : (books : List Journal) (lb : ℕ) (old : Journal) → slice_get books lb ≡ Some old
    → slice_index (sizes_of books) lb ≡ members old.opening
size-at [] lb old at = absurd cc
size-at (b ∷ books) zero old at = ap (λ (x : Journal). members x.opening) (some_is b old at)
size-at (b ∷ books) (suc lb) old at = size-at books lb old at

-- A hold's gains are added to the desk's.
pub gains-hold : (books : List Journal) (lb : ℕ) (old new : Journal) (before now : List Receipt) (held held' : List (ℕ × ℕ))
    (session at : ℕ) (gained : List Receipt) (s f w s' f' w' : ℕ) → slice_get books lb ≡ Some old → now ≡ before ++ gained
    → All (IsOwn lb session at) gained → new ≡ grown_by old gained
    → Gains (plain_state books before held s f w) (plain_state (slice_set books lb new) now held' s' f' w') lb session at gained
gains-hold books lb old new before now held held' session at gained s f w s' f' w' here receipts own grown = record {
  receipts = receipts;
  own = own;
  added = ap (λ (xs : List Receipt). length xs) receipts ∙ length-append before gained;
  books = λ b found.
      let same : b ≡ old = some_is b old (sym found ∙ here) in
      let step : new ≡ grown_by b gained = subst (λ (x : Journal). new ≡ grown_by x gained) (sym same) grown in
      ap (λ (x : Journal). Some (slice_set books lb x)) step;
}

-- The Book that was held is the journal that was found.
pub found-hold : (books : List Journal) (lb : ℕ) (old : Journal) → AreModern books → AreLegal books → slice_get books lb ≡ Some old
    → IsFound (sizes_of books) (Some books) lb old
found-hold books lb old modern legal here = record {
  sound = legal lb old here;
  rules = modern lb old here;
  size = sym (size-at books lb old here);
  told = λ b found. some_is b old (sym found ∙ here);
}

pub follows-hold : (books : List Journal) (lb at : ℕ) (old : Journal) (gained : List Receipt) → AreModern books → AreLegal books
    → slice_get books lb ≡ Some old → AreNextAt old at gained → Follows (sizes_of books) (Some books) lb at gained
follows-hold books lb at old gained modern legal here next = record {
  book = old;
  found = found-hold books lb old modern legal here;
  next = next;
}

-- Nothing was added, for want of memory.
pub due_none : (books : List Journal) (before now : List Receipt) (held held' : List (ℕ × ℕ)) (lb session at : ℕ) (f w f' w' : ℕ)
    (wanting : Type 0) (account : Journal → List Receipt → Type 0) → now ≡ before → wanting
    → GainsDue (plain_state books before held 0 f w) (plain_state books now held' 0 f' w') lb session at wanting account
due_none books before now held held' lb session at f w f' w' wanting account same wants = record {
  due = [];
  is_due = tt;
  gains = record {
    receipts = same ∙ sym (append-nil before);
    own = All-nil (IsOwn lb session at);
    added = let no_more : length before + 0 ≡ length before = omega arith in ap (λ (xs : List Receipt). length xs) same ∙ sym no_more;
    books = λ b found. ap (λ (xs : List Journal). Some xs)
        (sym (set-found books lb b found) ∙ ap (λ (x : Journal). slice_set books lb x) (grown-nil b));
  };
  why = inr (refl, wants);
}

pub due-hold : (books : List Journal) (lb : ℕ) (old new : Journal) (before now : List Receipt) (held held' : List (ℕ × ℕ))
    (session at : ℕ) (f w f' w' : ℕ) (wanting : Type 0) (account : Journal → List Receipt → Type 0) → AreModern books → AreLegal books
    → slice_get books lb ≡ Some old → BookGainsDue old new before now lb session at (account old)
    → GainsDue (plain_state books before held 0 f w) (plain_state (slice_set books lb new) now held' 0 f' w') lb session at wanting account
unfolding follows-hold
due-hold books lb old new before now held held' session at f w f' w' wanting account modern legal here due = record {
  due = due.due;
  is_due = due.is_due;
  gains = gains-hold books lb old new before now held held' session at due.due 0 f w 0 f' w' here due.gains.receipts due.gains.own due.gains.grown;
  why = inl (follows-hold books lb at old due.due modern legal here due.gains.next, due.account);
}

pub last-hold : (books : List Journal) (lb : ℕ) (old new : Journal) (before now : List Receipt) (held held' : List (ℕ × ℕ))
    (session at : ℕ) (f w f' w' : ℕ) (r : Receipt) → AreModern books → AreLegal books → slice_get books lb ≡ Some old
    → BookGainsLast old new before now lb session at r
    → GainsLast (plain_state books before held 0 f w) (plain_state (slice_set books lb new) now held' 0 f' w') lb session at r
unfolding follows-hold
last-hold books lb old new before now held held' session at f w f' w' r modern legal here last = record {
  due = last.due;
  is_due = last.is_due;
  gains = gains-hold books lb old new before now held held' session at (last.due ++ r ∷ []) 0 f w 0 f' w' here last.gains.receipts last.gains.own last.gains.grown;
  follows = follows-hold books lb at old (last.due ++ r ∷ []) modern legal here last.gains.next;
  maintained = last.done;
}

-- Two calls of one hold.
gains_more : (a b c : Journal) (r0 r1 r2 : List Receipt) (lb session at : ℕ) (g h : List Receipt) → BookGains a b r0 r1 lb session at g
    → BookGains b c r1 r2 lb session at h → BookGains a c r0 r2 lb session at (g ++ h)
gains_more a b c r0 r1 r2 lb session at g h first second = record {
  receipts = second.receipts ∙ ap (λ (xs : List Receipt). xs ++ h) first.receipts ∙ append_assoc r0 g h;
  own = All-append (IsOwn lb session at) g h first.own second.own;
  grown = second.grown ∙ ap (λ (x : Journal). grown_by x h) first.grown ∙ grown-twice a g h;
  next = next_more a at g h first.next (subst (λ (x : Journal). AreNextAt x at h) first.grown second.next);
  stay = λ t is. second.stay t (first.stay t is);
}

pub own_one : (lb session at : ℕ) (r : Receipt) → IsOwn lb session at r → All (IsOwn lb session at) (r ∷ [])
own_one lb session at r own = All-from_recursion (IsOwn lb session at) (r ∷ []) (own, tt)

-- The tickets that a call doesn't return stay out.
pub stay-called : (old new : Journal) (session at : ℕ) (c : Call) (e : Entry) (t : ℕ) → AddsEntry old new session at c e
    → is_out old.opening (past_of old) t ≡ true → gives_back t c ≡ false → is_out new.opening (past_of new) t ≡ true
stay-called old new session at c e t adds is other =
    let kept : is_out old.opening (e ∷ past_of old) t ≡ true =
    stays_out old.opening (past_of old) e t is (ap (λ (x : Call). gives_back t x) adds.asked ∙ other) in
    subst (λ (o : Opening). is_out o (past_of new) t ≡ true) (sym (ap (λ (b : Journal). b.opening) adds.grown))
    (subst (λ (p : List Entry). is_out old.opening p t ≡ true) (sym adds.newest) kept)

gains_one : (old new : Journal) (before now : List Receipt) (lb session at : ℕ) (c : Call) (e : Entry) → AddsEntry old new session at c e
    → IsNext old.rules old.opening (past_of old) e → now ≡ before ++ record { lb = lb; given = at; entry = e } ∷ [] → ((t : ℕ) → gives_back t c ≡ false)
    → BookGains old new before now lb session at (record { lb = lb; given = at; entry = e } ∷ [])
gains_one old new before now lb session at c e adds next noted none = record {
  receipts = noted;
  own = own_one lb session at (record { lb = lb; given = at; entry = e }) (record { balancer = refl; given = refl; caller = adds.caller });
  grown = adds.grown;
  next = (record { next = next; moment = adds.moment }, tt);
  stay = λ t is. stay-called old new session at c e t adds is (none t);
}

pub gains_last : (old mid new : Journal) (before between now : List Receipt) (lb session at : ℕ) (c : Call) (e : Entry)
    → BookGainsDue old mid before between lb session at (IsMaintained old at) → AddsEntry mid new session at c e
    → IsNext mid.rules mid.opening (past_of mid) e
    → now ≡ between ++ record { lb = lb; given = at; entry = e } ∷ [] → ((t : ℕ) → gives_back t c ≡ false)
    → BookGainsLast old new before now lb session at (record { lb = lb; given = at; entry = e })
gains_last old mid new before between now lb session at c e due adds next noted none = record {
  due = due.due;
  is_due = due.is_due;
  gains = gains_more old mid new before between now lb session at due.due (record { lb = lb; given = at; entry = e } ∷ []) due.gains
      (gains_one mid new between now lb session at c e adds next noted none);
  done = due.account;
}

-- Held tickets.
out-hold : (books : List Journal) (lb : ℕ) (old new : Journal) (x : ℕ × ℕ) → slice_get books lb ≡ Some old
    → (x.0 ≡ lb → is_out old.opening (past_of old) x.1 ≡ true → is_out new.opening (past_of new) x.1 ≡ true)
    → IsOutAt books x → IsOutAt (slice_set books lb new) x
out-hold books lb old new x here stay is =
    elim (cases_Bool (lb == x.0)) [
      | inl this ↦
          let same : lb ≡ x.0 = eqb-true lb x.0 this in
          let old_is : is.book ≡ old =
          some_is is.book old (sym is.found ∙ subst (λ (k : ℕ). slice_get books k ≡ Some old) same here) in
          record {
            book = new;
            found = subst (λ (k : ℕ). slice_get (slice_set books lb new) k ≡ Some new) same (get-set books lb new (slice_get_within books lb old here));
            is_out = stay (sym same) (subst (λ (b : Journal). is_out b.opening (past_of b) x.1 ≡ true) old_is is.is_out);
          }
      | inr other ↦ record {
        book = is.book;
        found = get-set_other books lb x.0 new (differs lb x.0 other) ∙ is.found;
        is_out = is.is_out;
      }
    ]

pub held-hold : (books : List Journal) (lb : ℕ) (old new : Journal) (held : List (ℕ × ℕ)) → slice_get books lb ≡ Some old
    → ((t : ℕ) → is_out old.opening (past_of old) t ≡ true → is_out new.opening (past_of new) t ≡ true)
    → AreHeld books held → AreHeld (slice_set books lb new) held
held-hold books lb old new [] here stay are = tt
held-hold books lb old new (x ∷ xs) here stay are = (
  out-hold books lb old new x here (λ same is. stay x.1 is) are.0,
  are.1,
  held-hold books lb old new xs here stay are.2,
)

holds-cons : (x : ℕ × ℕ) (xs : List (ℕ × ℕ)) (p : ℕ × ℕ) → is_pair p x ≡ false → holds xs p ≡ false → holds (x ∷ xs) p ≡ false
holds-cons x xs p other rest = rw (other, rest) refl

-- A ticket that isn't out is not held.
pub not_held : (books : List Journal) (lb : ℕ) (old : Journal) (held : List (ℕ × ℕ)) (t : ℕ) → slice_get books lb ≡ Some old
    → is_out old.opening (past_of old) t ≡ false → AreHeld books held → holds held (lb, t) ≡ false
not_held books lb old [] t here free are = refl
not_held books lb old (x ∷ xs) t here free are =
    let rest : holds xs (lb, t) ≡ false = not_held books lb old xs t here free are.2 in
    elim (cases_Bool (is_pair (lb, t) x)) [
      | inl this ↦
          let same : (lb, t) ≡ x = pair_is (lb, t) x this in
          let is : IsOutAt books (lb, t) = subst (λ (y : ℕ × ℕ). IsOutAt books y) (sym same) are.0 in
          let old_is : is.book ≡ old = some_is is.book old (sym is.found ∙ here) in
          let yes_out : is_out old.opening (past_of old) t ≡ true =
          subst (λ (b : Journal). is_out b.opening (past_of b) t ≡ true) old_is is.is_out in
          absurd cc
      | inr other ↦ holds-cons x xs (lb, t) other rest
    ]

holds-more : (xs : List (ℕ × ℕ)) (p q : ℕ × ℕ) → holds xs q ≡ false → is_pair q p ≡ false → holds (xs ++ p ∷ []) q ≡ false
holds-more xs p q free other = list_any-append (is_pair q) xs (p ∷ []) ∙ rw (free, other) refl

holds_parts : (x : ℕ × ℕ) (xs : List (ℕ × ℕ)) (p : ℕ × ℕ) → holds (x ∷ xs) p ≡ false → (is_pair p x ≡ false) × (holds xs p ≡ false)
holds_parts x xs p free =
    elim (cases_Bool (is_pair p x)) [
      | inl this ↦ let yes_held : holds (x ∷ xs) p ≡ true = rw this refl in absurd cc
      | inr other ↦ (other, sym (rw other refl) ∙ free)
    ]

pub held-more : (books : List Journal) (held : List (ℕ × ℕ)) (p : ℕ × ℕ) → AreHeld books held → holds held p ≡ false → IsOutAt books p
    → AreHeld books (held ++ p ∷ [])
held-more books [] p are free is = (is, refl, tt)
held-more books (x ∷ xs) p are free is =
    let parts : (is_pair p x ≡ false) × (holds xs p ≡ false) = holds_parts x xs p free in
    (are.0, holds-more xs p x are.1 (pair_differs p x parts.0), held-more books xs p are.2 parts.1 is)

-- Without one pair.
abbrev pub without : List (ℕ × ℕ) → ℕ × ℕ → List (ℕ × ℕ)
without held p = filter (λ x. not (is_pair p x)) held

pub without-none : (held : List (ℕ × ℕ)) (p : ℕ × ℕ) → holds held p ≡ false → without held p ≡ held
without-none [] p free = refl
without-none (x ∷ xs) p free =
    let parts : (is_pair p x ≡ false) × (holds xs p ≡ false) = holds_parts x xs p free in
    rw (parts.0, without-none xs p parts.1) refl

-- Of distinct pairs each is the last of its kind.
pub without-last : (books : List Journal) (held : List (ℕ × ℕ)) (p : ℕ × ℕ) → AreHeld books held → without held p ≡ without_last held p
without-last books [] p are = refl
without-last books (x ∷ xs) p are =
    elim (cases_Bool (is_pair p x)) [
      | inl this ↦
          let free : holds xs p ≡ false = subst (λ (y : ℕ × ℕ). holds xs y ≡ false) (sym (pair_is p x this)) are.1 in
          rw (this, free) (without-none xs p free)
      | inr other ↦ rw other (ap (λ (ys : List (ℕ × ℕ)). x ∷ ys) (without-last books xs p are.2))
    ]

holds-without : (held : List (ℕ × ℕ)) (p q : ℕ × ℕ) → holds held q ≡ false → holds (without held p) q ≡ false
holds-without [] p q free = refl
holds-without (x ∷ xs) p q free =
    let parts : (is_pair q x ≡ false) × (holds xs q ≡ false) = holds_parts x xs q free in
    let rest : holds (without xs p) q ≡ false = holds-without xs p q parts.1 in
    elim (cases_Bool (is_pair p x)) [
      | inl this ↦ rw this rest
      | inr other ↦ rw other (holds-cons x (without xs p) q parts.0 rest)
    ]

without-le : (held : List (ℕ × ℕ)) (p : ℕ × ℕ) → length (without held p) ≤ length held
without-le [] p = omega arith
without-le (x ∷ xs) p =
    let fewer : length (without xs p) ≤ length xs = without-le xs p in
    elim (cases_Bool (is_pair p x)) [
      | inl this ↦ rw this (omega arith)
      | inr other ↦ rw other (omega arith)
    ]

pub without-length : (held : List (ℕ × ℕ)) (p : ℕ × ℕ) → holds held p ≡ true → length (without held p) + 1 ≤ length held
without-length [] p is = absurd cc
without-length (x ∷ xs) p is =
    elim (cases_Bool (is_pair p x)) [
      | inl this ↦
          let fewer : length (without xs p) ≤ length xs = without-le xs p in
          rw this (omega arith)
      | inr other ↦
          let rest : holds xs p ≡ true = sym (rw other refl) ∙ is in
          let less : length (without xs p) + 1 ≤ length xs = without-length xs p rest in
          rw other (omega arith)
    ]

pub ticket_differs : (lb t : ℕ) (x : ℕ × ℕ) → x.0 ≡ lb → is_pair (lb, t) x ≡ false → (x.1 == t) ≡ false
ticket_differs lb t x same other =
    elim (cases_Bool (x.1 == t)) [
      | inl this ↦
          let is : is_pair (lb, t) x ≡ true = rw (eq-eqb lb x.0 (sym same), eq-eqb t x.1 (sym (eqb-true x.1 t this))) refl in
          absurd cc
      | inr no_ticket ↦ no_ticket
    ]

-- After a Return of the ticket of pair p.
pub held-return : (books : List Journal) (lb : ℕ) (old new : Journal) (held : List (ℕ × ℕ)) (t : ℕ) → slice_get books lb ≡ Some old
    → ((u : ℕ) → (u == t) ≡ false → is_out old.opening (past_of old) u ≡ true → is_out new.opening (past_of new) u ≡ true)
    → AreHeld books held → AreHeld (slice_set books lb new) (without held (lb, t))
held-return books lb old new [] t here stay are = tt
held-return books lb old new (x ∷ xs) t here stay are =
    let rest : AreHeld (slice_set books lb new) (without xs (lb, t)) = held-return books lb old new xs t here stay are.2 in
    elim (cases_Bool (is_pair (lb, t) x)) [
      | inl this ↦ rw this rest
      | inr other ↦
          rw other (
            out-hold books lb old new x here
                (λ same is. stay x.1 (ticket_differs lb t x same other) is)
                are.0,
            holds-without xs (lb, t) x are.1,
            rest,
          )
    ]

pub found_at : (books : List Journal) (held : List (ℕ × ℕ)) (p : ℕ × ℕ) → holds held p ≡ true → AreHeld books held → IsOutAt books p
found_at books [] p is are = absurd cc
found_at books (x ∷ xs) p is are =
    elim (cases_Bool (is_pair p x)) [
      | inl this ↦ subst (λ (y : ℕ × ℕ). IsOutAt books y) (sym (pair_is p x this)) are.0
      | inr other ↦ found_at books xs p (sym (rw other refl) ∙ is) are.2
    ]

-- A Select's answer.
pub picks-after : (old mid new : Journal) (ask : Ask) (seq : ℕ) (a : Answer) → members mid.opening ≡ members old.opening
    → ((t : ℕ) → is_out old.opening (past_of old) t ≡ true → is_out mid.opening (past_of mid) t ≡ true)
    → Picks mid new ask seq a → Picks old new ask seq a
picks-after old mid new ask seq (answer.Chosen m t how probe) same stay picks = (
  picks.0,
  record {
    member = subst (λ (n : ℕ). m < n) same picks.1.member;
    untried = picks.1.untried;
    before = elim (cases_Bool (is_out old.opening (past_of old) seq)) [
      | inl is ↦ let still : is_out mid.opening (past_of mid) seq ≡ true = stay seq is in let gone : is_out mid.opening (past_of mid) seq ≡ false = picks.1.before in absurd cc
      | inr free ↦ free
    ];
    after = picks.1.after;
  },
)
picks-after old mid new ask seq answer.NoMember same stay picks = tt
picks-after old mid new ask seq answer.Forced same stay picks = tt
picks-after old mid new ask seq answer.Done same stay picks = absurd picks

picks_by : (old new : Journal) (session at : ℕ) (ask : Ask) (e : Entry) (a : Answer) → e.answer ≡ a
    → AddsEntry old new session at (call.Select ask) e → IsSound new → IsPick old.rules old.opening (past_of old) ask a
    → Picks old new ask e.seq a
picks_by old new session at ask e (answer.Chosen m t how probe) is adds sound pick =
    let legal : IsLegalPast old.rules old.opening (e ∷ past_of old) =
    subst (λ (p : List Entry). IsLegalPast old.rules old.opening p) adds.newest
    (subst (λ (o : Opening). IsLegalPast old.rules o (past_of new)) (ap (λ (b : Journal). b.opening) adds.grown)
    (subst (λ (v : ℕ). IsLegalPast v new.opening (past_of new)) (ap (λ (b : Journal). b.rules) adds.grown) sound)) in
    let after : is_out old.opening (e ∷ past_of old) e.seq ≡ true =
    out_after old.rules old.opening (past_of old) e m t how probe legal is in (
      pick.1 ∙ sym adds.number,
      record {
        member = chosen_member old.rules old.opening (past_of old) e m t how probe legal is;
        untried = (chosen_roomy old.rules old.opening (past_of old) ask how m pick.0).untried;
        before = not_out_before old.rules old.opening (past_of old) e legal;
        after = subst (λ (o : Opening). is_out o (past_of new) e.seq ≡ true) (sym (ap (λ (b : Journal). b.opening) adds.grown))
            (subst (λ (p : List Entry). is_out old.opening p e.seq ≡ true) (sym adds.newest) after);
      },
    )
picks_by old new session at ask e answer.NoMember is adds sound pick = tt
picks_by old new session at ask e answer.Forced is adds sound pick = tt
picks_by old new session at ask e answer.Done is adds sound pick = pick

-- A Select after a Maintain that was due.
pub picks_due : (old mid new : Journal) (before between : List Receipt) (lb session at : ℕ) (account : List Receipt → Type 0) (ask : Ask) (e : Entry)
    → BookGainsDue old mid before between lb session at account → AddsEntry mid new session at (call.Select ask) e → IsSound new
    → IsPick mid.rules mid.opening (past_of mid) ask e.answer → Picks old new ask e.seq e.answer
picks_due old mid new before between lb session at account ask e due adds sound pick =
    picks-after old mid new ask e.seq e.answer (ap (λ (b : Journal). members b.opening) due.gains.grown) due.gains.stay
    (picks_by mid new session at ask e e.answer refl adds sound pick)

-- A desk keeps its Books sound.
sound-gains : (books : List Journal) (lb : ℕ) (old new : Journal) (before now : List Receipt) (session at : ℕ) (gained : List Receipt)
    → AreLegal books → slice_get books lb ≡ Some old → BookGains old new before now lb session at gained → AreLegal (slice_set books lb new)
sound-gains books lb old new before now session at gained legal here gains =
    legal-hold books lb old new legal here
    (subst (λ (b : Journal). IsSound b) (sym gains.grown) (sound_grown old at gained (legal lb old here) gains.next))

due_length : (due : List Receipt) → IsDue due → length due ≤ 1
due_length [] is = omega arith
due_length (r ∷ []) is = omega arith
due_length (r ∷ s ∷ rest) is = absurd is

rules-grown : (old new : Journal) (g : List Receipt) → new ≡ grown_by old g → new.rules ≡ old.rules
rules-grown old new g grown = ap (λ (b : Journal). b.rules) grown

pub plain-none : (books : List Journal) (before now : List Receipt) (held held' : List (ℕ × ℕ)) (room room' : ℕ)
    → IsPlain books before held room → now ≡ before → held' ≡ held → room ≤ room' → IsPlain books now held' room'
plain-none books before now held held' room room' is receipts tickets more = record {
  modern = is.modern;
  legal = is.legal;
  held_out = subst (λ (xs : List (ℕ × ℕ)). AreHeld books xs) (sym tickets) is.held_out;
  roomy = rw (receipts, tickets) (omega (arith, is.roomy, more));
}

pub plain-due : (books : List Journal) (lb : ℕ) (old new : Journal) (before now : List Receipt) (held held' : List (ℕ × ℕ)) (session at room room' : ℕ) (account : List Receipt → Type 0)
    → IsPlain books before held room → slice_get books lb ≡ Some old → BookGainsDue old new before now lb session at account → held' ≡ held
    → length before + length held + 1 ≤ room' → IsPlain (slice_set books lb new) now held' room'
plain-due books lb old new before now held held' session at room room' account is here due tickets more = record {
  modern = modern-hold books lb old new is.modern here (rules-grown old new due.due due.gains.grown);
  legal = sound-gains books lb old new before now session at due.due is.legal here due.gains;
  held_out = subst (λ (xs : List (ℕ × ℕ)). AreHeld (slice_set books lb new) xs) (sym tickets)
      (held-hold books lb old new held here due.gains.stay is.held_out);
  roomy =
      let few : length due.due ≤ 1 = due_length due.due due.is_due in
      rw (due.gains.receipts, tickets) (omega (arith, length-append before due.due, few, more));
}

last_length : (due : List Receipt) (r : Receipt) → IsDue due → length (due ++ r ∷ []) ≤ 2
last_length due r is = omega (arith, length-append due (r ∷ []), due_length due is)

pub plain-last : (books : List Journal) (lb : ℕ) (old new : Journal) (before now : List Receipt) (held held' : List (ℕ × ℕ)) (session at room room' : ℕ) (r : Receipt)
    → IsPlain books before held room → slice_get books lb ≡ Some old → BookGainsLast old new before now lb session at r → held' ≡ held
    → length before + length held + 2 ≤ room' → IsPlain (slice_set books lb new) now held' room'
plain-last books lb old new before now held held' session at room room' r is here last tickets more = record {
  modern = modern-hold books lb old new is.modern here (rules-grown old new (last.due ++ r ∷ []) last.gains.grown);
  legal = sound-gains books lb old new before now session at (last.due ++ r ∷ []) is.legal here last.gains;
  held_out = subst (λ (xs : List (ℕ × ℕ)). AreHeld (slice_set books lb new) xs) (sym tickets)
      (held-hold books lb old new held here last.gains.stay is.held_out);
  roomy =
      let few : length (last.due ++ r ∷ []) ≤ 2 = last_length last.due r last.is_due in
      rw (last.gains.receipts, tickets) (omega (arith, length-append before (last.due ++ r ∷ []), few, more));
}

held-picked : (books : List Journal) (lb : ℕ) (old new : Journal) (held : List (ℕ × ℕ)) (ask : Ask) (seq : ℕ) (a : Answer)
    → slice_get books lb ≡ Some old → ((t : ℕ) → is_out old.opening (past_of old) t ≡ true → is_out new.opening (past_of new) t ≡ true)
    → Picks old new ask seq a → AreHeld books held → AreHeld (slice_set books lb new) (held ++ pairs_in lb a)
held-picked books lb old new held ask seq (answer.Chosen m t how probe) here stay picks are =
    let free : is_out old.opening (past_of old) t ≡ false = subst (λ (n : ℕ). is_out old.opening (past_of old) n ≡ false) (sym picks.0) picks.1.before in
    held-more (slice_set books lb new) held (lb, t) (held-hold books lb old new held here stay are)
    (not_held books lb old held t here free are)
    (record {
      book = new;
      found = get-set books lb new (slice_get_within books lb old here);
      is_out = subst (λ (n : ℕ). is_out new.opening (past_of new) n ≡ true) (sym picks.0) picks.1.after;
    })
held-picked books lb old new held ask seq answer.NoMember here stay picks are =
    subst (λ (xs : List (ℕ × ℕ)). AreHeld (slice_set books lb new) xs) (sym (append-nil held)) (held-hold books lb old new held here stay are)
held-picked books lb old new held ask seq answer.Forced here stay picks are =
    subst (λ (xs : List (ℕ × ℕ)). AreHeld (slice_set books lb new) xs) (sym (append-nil held)) (held-hold books lb old new held here stay are)
held-picked books lb old new held ask seq answer.Done here stay picks are = absurd picks

pairs_length : (lb : ℕ) (a : Answer) → length (pairs_in lb a) ≤ 1
pairs_length lb (answer.Chosen m t how probe) = omega arith
pairs_length lb answer.NoMember = omega arith
pairs_length lb answer.Forced = omega arith
pairs_length lb answer.Done = omega arith

pub plain-picked : (books : List Journal) (lb : ℕ) (old new : Journal) (before now : List Receipt) (held held' : List (ℕ × ℕ)) (session at room room' : ℕ) (r : Receipt) (ask : Ask) (seq : ℕ) (a : Answer)
    → IsPlain books before held room → slice_get books lb ≡ Some old → BookGainsLast old new before now lb session at r
    → Picks old new ask seq a → held' ≡ held ++ pairs_in lb a
    → length before + length held + 3 ≤ room' → IsPlain (slice_set books lb new) now held' room'
plain-picked books lb old new before now held held' session at room room' r ask seq a is here last picks tickets more = record {
  modern = modern-hold books lb old new is.modern here (rules-grown old new (last.due ++ r ∷ []) last.gains.grown);
  legal = sound-gains books lb old new before now session at (last.due ++ r ∷ []) is.legal here last.gains;
  held_out = subst (λ (xs : List (ℕ × ℕ)). AreHeld (slice_set books lb new) xs) (sym tickets)
      (held-picked books lb old new held ask seq a here last.gains.stay picks is.held_out);
  roomy =
      let few : length (last.due ++ r ∷ []) ≤ 2 = last_length last.due r last.is_due in
      let one : length (pairs_in lb a) ≤ 1 = pairs_length lb a in
      rw (last.gains.receipts, tickets)
      (omega (arith, length-append before (last.due ++ r ∷ []), length-append held (pairs_in lb a), few, one, more));
}

pub plain-return : (books : List Journal) (lb : ℕ) (old new : Journal) (before now : List Receipt) (held held' : List (ℕ × ℕ)) (session at room room' t : ℕ) (outcome : Outcome) (e : Entry)
    → IsPlain books before held room → slice_get books lb ≡ Some old → AddsEntry old new session at (call.Return t outcome) e → IsSound new
    → now ≡ before ++ record { lb = lb; given = at; entry = e } ∷ [] → holds held (lb, t) ≡ true → held' ≡ without held (lb, t)
    → room ≤ room' → IsPlain (slice_set books lb new) now held' room'
plain-return books lb old new before now held held' session at room room' t outcome e is here adds sound noted had tickets more = record {
  modern = modern-hold books lb old new is.modern here (ap (λ (b : Journal). b.rules) adds.grown);
  legal = legal-hold books lb old new is.legal here sound;
  held_out = subst (λ (xs : List (ℕ × ℕ)). AreHeld (slice_set books lb new) xs) (sym tickets)
      (held-return books lb old new held t here (λ u other out. stay-called old new session at (call.Return t outcome) e u adds out other) is.held_out);
  roomy =
      let fewer : length (without held (lb, t)) + 1 ≤ length held = without-length held (lb, t) had in
      rw (noted, tickets)
      (omega (arith, length-append before (record { lb = lb; given = at; entry = e } ∷ []), fewer, is.roomy, more));
}

-- A ticket that is held is out, in a Book that is there.
pub held_is_out : (books : List Journal) (lb : ℕ) (old : Journal) (held : List (ℕ × ℕ)) (t : ℕ) → slice_get books lb ≡ Some old
    → holds held (lb, t) ≡ true → AreHeld books held → is_out old.opening (past_of old) t ≡ true
held_is_out books lb old held t here had are =
    let is : IsOutAt books (lb, t) = found_at books held (lb, t) had are in
    subst (λ (b : Journal). is_out b.opening (past_of b) t ≡ true) (some_is is.book old (sym is.found ∙ here)) is.is_out

pub held_within : (books : List Journal) (lb : ℕ) (held : List (ℕ × ℕ)) (t : ℕ) → holds held (lb, t) ≡ true → AreHeld books held → lb < length books
held_within books lb held t had are =
    let is : IsOutAt books (lb, t) = found_at books held (lb, t) had are in
    slice_get_within books lb is.book is.found

only_modern : (b : Journal) (lb : ℕ) (c : Journal) → slice_get (b ∷ []) lb ≡ Some c → b.rules ≡ 2 → c.rules ≡ 2
only_modern b zero c found rules = ap (λ (x : Journal). x.rules) (sym (some_is b c found)) ∙ rules
only_modern b (suc lb) c found rules = absurd cc

-- A single Book of rules 2.
pub one_modern : (books : List Journal) (b : Journal) → books ≡ b ∷ [] → b.rules ≡ 2 → AreModern books
one_modern books b one rules lb c found =
    let here : slice_get (b ∷ []) lb ≡ Some c = subst (λ (xs : List Journal). slice_get xs lb ≡ Some c) one found in
    only_modern b lb c here rules
