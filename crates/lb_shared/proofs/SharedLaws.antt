-- A hold of the lock, told of the desk that has it.
use Rattle.std.proofs.Common.{◌≡◌, ℕ, zero, suc, ◌+◌, ◌^◌, ◌<◌, ◌≤◌, true, false, not, List, [], ◌∷◌, ◌++◌, length, take, drop, get_or, Option, Some, None, refl, sym, ap, ◌∙◌, subst, inl, inr, arith, append-nil}
use Rattle.std.specs.Prelude.{◌&&◌, IfErr, IfOk, IfSome, OnErr, OnOk, Result, Ok, Err, reverse, slice_get}
use Rattle.std.specs.List.{AllByRecursion as ByRecursion}
use Rattle.std.proofs.lemmas.Bool.{cases_Bool}
use Rattle.std.proofs.lemmas.List.{append-nil, drop_all, length-append, length-reverse}
use Rattle.std.proofs.lemmas.List.Elements.{All-append, All-from_recursion, All-nil, recursion_from_All}
use Rattle.lb_model.specs.declared.ask.Ask.{Ask}
use Rattle.lb_model.specs.declared.change.Command.{Command}
use Rattle.lb_model.specs.declared.journal.Call.TheVariants as call
use Rattle.lb_model.specs.declared.journal.Entry.{Entry}
use Rattle.lb_model.specs.declared.journal.Outcome.{Outcome}
use Rattle.lb_model.specs.declared.opening.Opening.{Opening}
use Rattle.lb_model.specs.declared.refusal.AdminError.{AdminError}
use Rattle.lb_model.specs.declared.refusal.AdminError.TheVariants as admin
use Rattle.lb_model.specs.declared.refusal.RoomError.{RoomError}
use Rattle.lb_model.specs.declared.refusal.RoomError.TheVariants as room
use Rattle.lb_model.specs.declared.refusal.Stray.{Stray}
use Rattle.lb_model.specs.declared.segment.Segment.{Segment}
use Rattle.lb_book.specs.Desks.{Chooses, Commands, DeskState, KeepsDesk, RefusesChoice, RefusesCommand, Gains, GainsDue, GainsLast, IsAskRefusal, IsChoice, IsCommandRefusal, IsDue, IsOwn, LeaseNote, Shows, TakesBack, holds, is_pair, without_last}
use Rattle.lb_book.specs.Journal.{Journal, next_number}
use Rattle.lb_book.specs.ToldBooks.{AreNextAt, AreSound, Follows}
use Rattle.lb_book.specs.declared.desk.Choice.{Choice}
use Rattle.lb_book.specs.declared.desk.Choice.TheVariants as choice
use Rattle.lb_book.specs.declared.receipt.Receipt.{Receipt}
use Rattle.lb_book.proofs.PlainLaws.{pair_is}
use Rattle.lb_book.proofs.ToldLaws.{some_is}
use Rattle.lb_shared.specs.Holds.{CutMeets, CutReturns, CutsFirst, HeldState, HoldChooses, HoldCommands, HoldGains, HoldDenies, HoldGainsDue, HoldGainsLast, HoldRefuses, IsHoldChoice, held}
use Rattle.lb_shared.specs.Notes.{MarkNote, ViewNote}
use Rattle.lb_shared.specs.Shelves.{CutsAt}
use Rattle.lb_shared.specs.Sites.{AreSited}
use Rattle.lb_shared.proofs.HoldLaws.{sited_found}
use Rattle.lb_shared.proofs.LockLaws.{after_cut, returned as returned_done}
use Rattle.lb_shared.specs.SharedDesks.{AreKnown, CountsFull, CountsRefusal, GoesOnFrom, IsShared, IsViewOf, pairs_of, shared_desk}

pub none_sound : (sizes : List ℕ) → AreSound sizes None
none_sound sizes = record {
  sound = λ lb b found. absurd cc;
  sized = λ told is. absurd cc;
}

-- The gains of a hold, told of the desk that had the lock.
pub gains_desk : (sizes : List ℕ) (parts : ℕ) (old new : HeldState) (held held' : List (ℕ × ℕ)) (s f w s' f' w' : ℕ) (m m' : Option Stray) (lb session at : ℕ) (gained : List Receipt)
    → HoldGains old new lb session at gained
    → Gains (shared_desk sizes parts old.receipts held old.amount s f w m) (shared_desk sizes parts new.receipts held' new.amount s' f' w' m') lb session at gained
gains_desk sizes parts old new held held' s f w s' f' w' m m' lb session at gained gains = record {
  receipts = gains.receipts;
  own = gains.own;
  added = gains.amount;
  books = refl;
}

follows_desk : (sizes firsts : List ℕ) (old new : HeldState) (lb session at : ℕ) (gained : List Receipt) → AreSited sizes firsts old.books → HoldGains old new lb session at gained
    → Follows sizes None lb at gained
follows_desk sizes firsts old new lb session at gained are gains = record {
  book = gains.book;
  found = sited_found sizes firsts old.books lb gains.book are gains.found;
  next = gains.next;
}

module _ (sizes firsts : List ℕ) (parts : ℕ) (old new : HeldState) (are : AreSited sizes firsts old.books) (held held' : List (ℕ × ℕ)) (s f w s' f' w' : ℕ) (m : Option Stray) (lb session at : ℕ) where
  pub last_desk : (last : Receipt) → HoldGainsLast old new lb session at last
      → GainsLast (shared_desk sizes parts old.receipts held old.amount s f w m) (shared_desk sizes parts new.receipts held' new.amount s' f' w' m) lb session at last
  unfolding follows_desk
  last_desk last gains = record {
    due = gains.due;
    is_due = gains.is_due;
    gains = gains_desk sizes parts old new held held' s f w s' f' w' m m lb session at (gains.due ++ last ∷ []) gains.gains;
    follows = follows_desk sizes firsts old new lb session at (gains.due ++ last ∷ []) are gains.gains;
    maintained = gains.maintained;
  }

  pub due_desk : (wanting : Type 0) (account : Journal → List Receipt → Type 0) → HoldGainsDue old new lb session at wanting account
      → GainsDue (shared_desk sizes parts old.receipts held old.amount s f w m) (shared_desk sizes parts new.receipts held' new.amount s' f' w' m) lb session at wanting account
  unfolding follows_desk
  due_desk wanting account gains = record {
    due = gains.due;
    is_due = gains.is_due;
    gains = gains_desk sizes parts old new held held' s f w s' f' w' m m lb session at gains.due gains.gains;
    why = elim gains.why [
      | inl told ↦ inl (follows_desk sizes firsts old new lb session at gains.due are gains.gains, told)
      | inr wants ↦ inr wants
    ];
  }

-- A choice, with the pair that is held for it.
choice_desk : (old new : DeskState) (lb : ℕ) (ask : Ask) (e : Entry) (c : Choice LeaseNote) → IsHoldChoice old.sizes lb ask e c
    → new.held ≡ old.held ++ pairs_of lb c → IsChoice (λ lease. lease) old new lb ask e c
choice_desk old new lb ask e (choice.Chosen m lease) is tickets = (
  is.0,
  is.1,
  is.2,
  is.3,
  tickets ∙ ap (λ (x : LeaseNote). old.held ++ (lb, x.ticket) ∷ []) is.3,
  is.4,
  is.5,
)
choice_desk old new lb ask e choice.NoMember is tickets = (is, tickets ∙ append-nil old.held)
choice_desk old new lb ask e choice.Forced is tickets = (is, tickets ∙ append-nil old.held)

pub chooses_desk : (sizes firsts : List ℕ) (parts : ℕ) (old new : HeldState) (held held' : List (ℕ × ℕ)) (s f w : ℕ) (m : Option Stray) (lb session at : ℕ) (ask : Ask) (c : Choice LeaseNote)
    → AreSited sizes firsts old.books → HoldChooses sizes old new lb session at ask c → held' ≡ held ++ pairs_of lb c
    → Chooses (λ lease. lease) (shared_desk sizes parts old.receipts held old.amount s f w m) (shared_desk sizes parts new.receipts held' new.amount s f w m) lb session at ask c
chooses_desk sizes firsts parts old new held held' s f w m lb session at ask c are chose tickets = record {
  last = chose.last;
  gains = last_desk sizes firsts parts old new are held held' s f w s f w m lb session at chose.last chose.gains;
  asked = chose.asked;
  answered = choice_desk (shared_desk sizes parts old.receipts held old.amount s f w m) (shared_desk sizes parts new.receipts held' new.amount s f w m)
      lb ask chose.last.entry c chose.answered tickets;
  full = refl;
  stray = refl;
  wide = refl;
  met = refl;
}

pub commands_desk : (sizes firsts : List ℕ) (parts : ℕ) (old new : HeldState) (held : List (ℕ × ℕ)) (s f w : ℕ) (m : Option Stray) (lb session at : ℕ) (command : Command)
    → AreSited sizes firsts old.books → HoldCommands sizes old new lb session at command
    → Commands (shared_desk sizes parts old.receipts held old.amount s f w m) (shared_desk sizes parts new.receipts held new.amount s f w m) lb session at command
commands_desk sizes firsts parts old new held s f w m lb session at command are done = record {
  last = done.last;
  gains = last_desk sizes firsts parts old new are held held s f w s f w m lb session at done.last done.gains;
  commanded = done.commanded;
  done = done.done;
  named = done.named;
  values = done.values;
  full = refl;
  wide = refl;
}

pub takes_back_desk : (sizes firsts : List ℕ) (parts : ℕ) (old new : HeldState) (held held' : List (ℕ × ℕ)) (s f w : ℕ) (m : Option Stray) (session at : ℕ) (lease : LeaseNote) (outcome : Outcome) (r : Receipt)
    → AreSited sizes firsts old.books → r.entry.call ≡ call.Return lease.ticket outcome → HoldGains old new lease.lb session at (r ∷ [])
    → TakesBack (shared_desk sizes parts old.receipts held old.amount s f w m) (shared_desk sizes parts new.receipts held' new.amount s f w m) session at lease outcome
takes_back_desk sizes firsts parts old new held held' s f w m session at lease outcome r are returned gains = record {
  last = r;
  gains = gains_desk sizes parts old new held held' s f w s f w m m lease.lb session at (r ∷ []) gains;
  follows = follows_desk sizes firsts old new lease.lb session at (r ∷ []) are gains;
  returned = returned;
  done = (returned_done gains.book r.entry lease.ticket outcome gains.next.0.next returned).1;
  stray = refl;
  met = refl;
}

-- The facts of a desk, with more receipts.
pub shared_more : (n : ℕ) (receipts receipts' : List Receipt) (held held' : List (ℕ × ℕ)) (parts parts' amount amount' forgotten room room' : ℕ) (gained : List Receipt)
    → IsShared n receipts held parts amount forgotten room → receipts' ≡ receipts ++ gained → amount' ≡ amount + length gained → amount' ≤ 2 ^ 58
    → parts' ≡ parts → AreKnown n held' → length receipts' + length held' ≤ room' → IsShared n receipts' held' parts' amount' forgotten room'
shared_more n receipts receipts' held held' parts parts' amount amount' forgotten room room' gained is more counted few same known roomy = record {
  part = let part : 0 < parts = is.part in omega arith;
  counted = let all : length receipts' ≡ length receipts + length gained = ap (λ (rs : List Receipt). length rs) more ∙ length-append receipts gained in
      let was : amount ≡ length receipts + forgotten = is.counted in
      omega arith;
  few = few;
  known = known;
  roomy = roomy;
}

pub known-more : (n : ℕ) (held : List (ℕ × ℕ)) (lb : ℕ) (c : Choice LeaseNote) → lb < n → AreKnown n held → AreKnown n (held ++ pairs_of lb c)
known-more n held lb (choice.Chosen m lease) within known =
    All-append (λ (x : ℕ × ℕ). x.0 < n) held ((lb, lease.ticket) ∷ []) known
    (All-from_recursion (λ (x : ℕ × ℕ). x.0 < n) ((lb, lease.ticket) ∷ []) (within, tt))
known-more n held lb choice.NoMember within known = subst (λ (xs : List (ℕ × ℕ)). AreKnown n xs) (sym (append-nil held)) known
known-more n held lb choice.Forced within known = subst (λ (xs : List (ℕ × ℕ)). AreKnown n xs) (sym (append-nil held)) known

pub pairs-length : (lb : ℕ) (c : Choice LeaseNote) → length (pairs_of lb c) ≤ 1
pairs-length lb (choice.Chosen m lease) = omega arith
pairs-length lb choice.NoMember = omega arith
pairs-length lb choice.Forced = omega arith

-- A pair that is held.
known_rec : (n : ℕ) (held : List (ℕ × ℕ)) (p : ℕ × ℕ) → ByRecursion (λ x. x.0 < n) held → holds held p ≡ true → p.0 < n
known_rec n [] p known is = absurd cc
known_rec n (x ∷ xs) p known is =
    elim (cases_Bool (is_pair p x)) [
      | inl this ↦ subst (λ (y : ℕ × ℕ). y.0 < n) (sym (pair_is p x this)) known.0
      | inr other ↦ known_rec n xs p known.1 (sym (rw other refl) ∙ is)
    ]

pub known_held : (n : ℕ) (held : List (ℕ × ℕ)) (p : ℕ × ℕ) → AreKnown n held → holds held p ≡ true → p.0 < n
known_held n held p known is = known_rec n held p (recursion_from_All (λ (x : ℕ × ℕ). x.0 < n) held known) is

pub held-some : (held : List (ℕ × ℕ)) (p : ℕ × ℕ) → holds held p ≡ true → 0 < length held
held-some [] p is = absurd cc
held-some (x ∷ xs) p is = omega arith

-- Without the last pair that is this.
pub without_last-less : (held : List (ℕ × ℕ)) (p : ℕ × ℕ) → length (without_last held p) ≤ length held
without_last-less [] p = omega arith
without_last-less (x ∷ xs) p =
    let rest : length (without_last xs p) ≤ length xs = without_last-less xs p in
    elim (cases_Bool (is_pair p x && not (holds xs p))) [
      | inl this ↦ rw this (omega arith)
      | inr other ↦ rw other (omega arith)
    ]

pub without_last-one : (held : List (ℕ × ℕ)) (p : ℕ × ℕ) → holds held p ≡ true → length (without_last held p) + 1 ≤ length held
without_last-one [] p is = absurd cc
without_last-one (x ∷ xs) p is =
    elim (cases_Bool (holds xs p)) [
      | inl later ↦
          let rest : length (without_last xs p) + 1 ≤ length xs = without_last-one xs p later in
          elim (cases_Bool (is_pair p x)) [
            | inl this ↦ rw (later, this) (omega arith)
            | inr other ↦ rw (later, other) (omega arith)
          ]
      | inr none ↦
          elim (cases_Bool (is_pair p x)) [
            | inl this ↦ rw (none, this) (omega arith)
            | inr other ↦ let is_false : holds (x ∷ xs) p ≡ false = rw (other, none) refl in absurd cc
          ]
    ]

without_rec : (n : ℕ) (held : List (ℕ × ℕ)) (p : ℕ × ℕ) → ByRecursion (λ x. x.0 < n) held → ByRecursion (λ x. x.0 < n) (without_last held p)
without_rec n [] p known = tt
without_rec n (x ∷ xs) p known =
    elim (cases_Bool (is_pair p x && not (holds xs p))) [
      | inl this ↦ rw this known.1
      | inr other ↦ rw other (known.0, without_rec n xs p known.1)
    ]

pub known-without : (n : ℕ) (held : List (ℕ × ℕ)) (p : ℕ × ℕ) → AreKnown n held → AreKnown n (without_last held p)
known-without n held p known =
    All-from_recursion (λ (x : ℕ × ℕ). x.0 < n) (without_last held p)
    (without_rec n held p (recursion_from_All (λ (x : ℕ × ℕ). x.0 < n) held known))

-- The place at which the last one stands.
pub held_at : (held : List (ℕ × ℕ)) (p d : ℕ × ℕ) (i : ℕ) → i < length held → is_pair p (get_or held i d) ≡ true → holds held p ≡ true
held_at [] p d i lt is = absurd (omega arith)
held_at (x ∷ xs) p d zero lt is = rw is refl
held_at (x ∷ xs) p d (suc i) lt is =
    let rest : holds xs p ≡ true = held_at xs p d i (omega arith) is in
    elim (cases_Bool (is_pair p x)) [
      | inl this ↦ rw this refl
      | inr other ↦ rw other rest
    ]

pub without_last-at : (held : List (ℕ × ℕ)) (p d : ℕ × ℕ) (i : ℕ) → i < length held → is_pair p (get_or held i d) ≡ true → holds (drop (suc i) held) p ≡ false
    → without_last held p ≡ take i held ++ drop (suc i) held
without_last-at [] p d i lt is none = absurd (omega arith)
without_last-at (x ∷ xs) p d zero lt is none = rw (none, is) refl
without_last-at (x ∷ xs) p d (suc i) lt is none =
    let later : holds xs p ≡ true = held_at xs p d i (omega arith) is in
    let rest : x ∷ without_last xs p ≡ x ∷ (take i xs ++ drop (suc i) xs) = ap (λ (ys : List (ℕ × ℕ)). x ∷ ys) (without_last-at xs p d i (omega arith) is none) in
    elim (cases_Bool (is_pair p x)) [
      | inl this ↦ rw (later, this) rest
      | inr other ↦ rw (later, other) rest
    ]

pub without_last-none : (held : List (ℕ × ℕ)) (p : ℕ × ℕ) → holds held p ≡ false → without_last held p ≡ held
without_last-none [] p none = refl
without_last-none (x ∷ xs) p none =
    elim (cases_Bool (is_pair p x)) [
      | inl this ↦ let yes_held : holds (x ∷ xs) p ≡ true = rw this refl in absurd cc
      | inr other ↦
          let rest : holds xs p ≡ false = sym (rw other refl) ∙ none in
          rw other (ap (λ (ys : List (ℕ × ℕ)). x ∷ ys) (without_last-none xs p rest))
    ]

pub holds_drop : (held : List (ℕ × ℕ)) (p d : ℕ × ℕ) (i : ℕ) → i < length held → is_pair p (get_or held i d) ≡ false → holds (drop (suc i) held) p ≡ false → holds (drop i held) p ≡ false
holds_drop [] p d i lt other none = absurd (omega arith)
holds_drop (x ∷ xs) p d zero lt other none = rw (other, none) refl
holds_drop (x ∷ xs) p d (suc i) lt other none = holds_drop xs p d i (omega arith) other none

-- The gains of a desk's hold, by its result.
abbrev pub Gained : (rs rs' : List Receipt) (a a' : ℕ) → Type 0
Gained rs rs' a a' = (gained : List Receipt) × (rs' ≡ rs ++ gained) × (a' ≡ a + length gained) × (length gained ≤ 2)

due_length : (due : List Receipt) → IsDue due → length due ≤ 1
due_length [] is = omega arith
due_length (r ∷ []) is = omega arith
due_length (r ∷ s ∷ rest) is = absurd is

gained_last : (old new : HeldState) (lb session at : ℕ) (last : Receipt) → HoldGainsLast old new lb session at last → Gained old.receipts new.receipts old.amount new.amount
gained_last old new lb session at last gains =
    let one : length gains.due ≤ 1 = due_length gains.due gains.is_due in
    let all : length (gains.due ++ last ∷ []) ≡ length gains.due + 1 = length-append gains.due (last ∷ []) in
    (gains.due ++ last ∷ [], gains.gains.receipts, gains.gains.amount, omega arith)

gained_due : (old new : HeldState) (lb session at : ℕ) (due : List Receipt) → IsDue due → HoldGains old new lb session at due → Gained old.receipts new.receipts old.amount new.amount
gained_due old new lb session at due is gains =
    let one : length due ≤ 1 = due_length due is in
    (due, gains.receipts, gains.amount, omega arith)

two_gained : (rs rs' : List Receipt) (a a' : ℕ) → Gained rs rs' a a' → length rs' ≤ length rs + 2
two_gained rs rs' a a' is =
    let all : length rs' ≡ length rs + length is.0 = ap (λ (xs : List Receipt). length xs) is.1 ∙ length-append rs is.0 in
    omega (arith, is.3)

-- The entry that comes first after a cut has the number that comes after the segment's.
first_gained : (rs : List Receipt) (x : Receipt) (rest : List Receipt) → slice_get (rs ++ x ∷ rest) (length rs) ≡ Some x
first_gained [] x rest = refl
first_gained (y ∷ rs) x rest = first_gained rs x rest

none_gained : (rs : List Receipt) (r : Receipt) → slice_get (rs ++ []) (length rs) ≡ Some r → ⊥
none_gained [] r is = absurd cc
none_gained (y ∷ rs) r is = none_gained rs r is

number_after : (rs gained : List Receipt) (b : Journal) (at n : ℕ) → AreNextAt b at gained → next_number b ≡ n
    → (r : Receipt) → slice_get (rs ++ gained) (length rs) ≡ Some r → r.entry.seq ≡ n
number_after rs [] b at n next is r found = absurd (none_gained rs r found)
number_after rs (x ∷ rest) b at n next is r found =
    let same : x ≡ r = some_is x r (sym (first_gained rs x rest) ∙ found) in
    sym (ap (λ (q : Receipt). q.entry.seq) same) ∙ (next.0.next.number ∙ is)

goes_on_from : (before mid : List Journal) (lb : ℕ) (cut : ℕ × Segment) (rs rs' gained : List Receipt) (b : Journal) (at : ℕ) → CutsAt before mid lb cut
    → slice_get mid lb ≡ Some b → AreNextAt b at gained → rs' ≡ rs ++ gained → GoesOnFrom cut.1 rs rs'
goes_on_from before mid lb cut rs rs' gained b at is found next receipts =
    let same : is.after ≡ b = some_is is.after b (sym (after_cut before mid lb cut is) ∙ found) in
    let turned : length (reverse is.book.entries) ≡ length is.book.entries = length-reverse is.book.entries in
    let opens : cut.1.opening.next ≡ is.book.opening.next = ap (λ (o : Opening). o.next) is.whole.opening in
    let counts : length cut.1.entries ≡ length is.book.entries = ap (λ (es : List Entry). length es) is.whole.entries in
    let last : next_number is.book ≡ cut.1.opening.next + length cut.1.entries = omega (arith, turned, opens, counts) in
    let number : next_number b ≡ cut.1.opening.next + length cut.1.entries = sym (ap (λ (x : Journal). next_number x) same) ∙ (is.is_cut.next ∙ last) in
    λ r there. number_after rs gained b at (cut.1.opening.next + length cut.1.entries) next number r
    (sym (ap (λ (xs : List Receipt). slice_get xs (length rs)) receipts) ∙ there)

goes_on_none : (cut : Option (ℕ × Segment)) (rs rs' : List Receipt) → rs' ≡ rs → IfSome cut (λ x. GoesOnFrom x.1 rs rs')
goes_on_none None rs rs' same = tt
goes_on_none (Some x) rs rs' same = λ r there.
    absurd (none_gained rs r (sym (ap (λ (xs : List Receipt). slice_get xs (length rs)) (same ∙ sym (append-nil rs))) ∙ there))

module _ (sizes firsts : List ℕ) (before after : List Journal) (cut : Option (ℕ × Segment)) (rs rs' : List Receipt) (a a' : ℕ) (lb session at : ℕ) where
  -- The choice and the command of the locked value.
  abbrev pub ChoseOk : Ask → Choice LeaseNote → Type 0
  ChoseOk ask c = (mid : List Journal) × CutsFirst before mid lb cut × AreSited sizes firsts mid × HoldChooses sizes (held mid rs a) (held after rs' a') lb session at ask c

  abbrev pub ChoseErr : RoomError MarkNote → Type 0
  ChoseErr e = (mid : List Journal) × CutsFirst before mid lb cut × AreSited sizes firsts mid × HoldDenies (held mid rs a) (held after rs' a') lb session at e

  abbrev pub DidOk : Command → Type 0
  DidOk command = (mid : List Journal) × CutsFirst before mid lb cut × AreSited sizes firsts mid × HoldCommands sizes (held mid rs a) (held after rs' a') lb session at command

  abbrev pub DidErr : Command → AdminError MarkNote → Type 0
  DidErr command e = (mid : List Journal) × CutsFirst before mid lb cut × AreSited sizes firsts mid × HoldRefuses (held mid rs a) (held after rs' a') lb session at command e

  pub gained_choose : (ask : Ask) (r : Result (Choice LeaseNote) (RoomError MarkNote)) → IfOk r (λ c. ChoseOk ask c) → IfErr r (λ e. ChoseErr e) → Gained rs rs' a a'
  gained_choose ask (Ok c) ok err = gained_last (held ok.0 rs a) (held after rs' a') lb session at ok.3.last ok.3.gains
  gained_choose ask (Err e) ok err = gained_due (held err.0 rs a) (held after rs' a') lb session at err.3.due err.3.is_due err.3.gains

  pub gained_command : {T : Type 0} (command : Command) (r : Result T (AdminError MarkNote)) → OnOk r (DidOk command) → IfErr r (λ e. DidErr command e) → Gained rs rs' a a'
  gained_command command (Ok c) ok err = gained_last (held ok.0 rs a) (held after rs' a') lb session at ok.3.last ok.3.gains
  gained_command command (Err e) ok err = gained_due (held err.0 rs a) (held after rs' a') lb session at err.3.due err.3.is_due err.3.gains

  -- At most two.
  pub two_chosen : (ask : Ask) (r : Result (Choice LeaseNote) (RoomError MarkNote)) → IfOk r (λ c. ChoseOk ask c) → IfErr r (λ e. ChoseErr e) → length rs' ≤ length rs + 2
  two_chosen ask r ok err = two_gained rs rs' a a' (gained_choose ask r ok err)

  pub two_commanded : {T : Type 0} (command : Command) (r : Result T (AdminError MarkNote)) → OnOk r (DidOk command) → IfErr r (λ e. DidErr command e) → length rs' ≤ length rs + 2
  two_commanded command r ok err = two_gained rs rs' a a' (gained_command command r ok err)

  cut_first : (mid : List Journal) (c : Option (ℕ × Segment)) → CutsFirst before mid lb c → IfSome c (λ x. x.0 ≡ lb)
  cut_first mid None is = tt
  cut_first mid (Some x) is = is.balancer

  pub cut_choose : (ask : Ask) (r : Result (Choice LeaseNote) (RoomError MarkNote)) → IfOk r (λ c. ChoseOk ask c) → IfErr r (λ e. ChoseErr e) → IfSome cut (λ x. x.0 ≡ lb)
  cut_choose ask (Ok c) ok err = cut_first ok.0 cut ok.1
  cut_choose ask (Err e) ok err = cut_first err.0 cut err.1

  pub cut_command : {T : Type 0} (command : Command) (r : Result T (AdminError MarkNote)) → OnOk r (DidOk command) → IfErr r (λ e. DidErr command e) → IfSome cut (λ x. x.0 ≡ lb)
  cut_command command (Ok c) ok err = cut_first ok.0 cut ok.1
  cut_command command (Err e) ok err = cut_first err.0 cut err.1

  next_first : (mid : List Journal) (c : Option (ℕ × Segment)) (gained : List Receipt) → CutsFirst before mid lb c
      → HoldGains (held mid rs a) (held after rs' a') lb session at gained → IfSome c (λ x. GoesOnFrom x.1 rs rs')
  next_first mid None gained is gains = tt
  next_first mid (Some x) gained is gains = goes_on_from before mid lb x rs rs' gained gains.book at is gains.found gains.next gains.receipts

  pub next_choose : (ask : Ask) (r : Result (Choice LeaseNote) (RoomError MarkNote)) → IfOk r (λ c. ChoseOk ask c) → IfErr r (λ e. ChoseErr e)
      → IfSome cut (λ x. GoesOnFrom x.1 rs rs')
  next_choose ask (Ok c) ok err = next_first ok.0 cut (ok.3.gains.due ++ ok.3.last ∷ []) ok.1 ok.3.gains.gains
  next_choose ask (Err e) ok err = next_first err.0 cut err.3.due err.1 err.3.gains

  pub next_command : {T : Type 0} (command : Command) (r : Result T (AdminError MarkNote)) → OnOk r (DidOk command) → IfErr r (λ e. DidErr command e)
      → IfSome cut (λ x. GoesOnFrom x.1 rs rs')
  next_command command (Ok c) ok err = next_first ok.0 cut (ok.3.gains.due ++ ok.3.last ∷ []) ok.1 ok.3.gains.gains
  next_command command (Err e) ok err = next_first err.0 cut err.3.due err.1 err.3.gains

  module _ (parts parts' : ℕ) (h h' : List (ℕ × ℕ)) where
    pub ok_choose : (ask : Ask) (r : Result (Choice LeaseNote) (RoomError MarkNote)) → parts' ≡ parts → IfOk r (λ c. ChoseOk ask c) → IfOk r (λ c. h' ≡ h ++ pairs_of lb c)
        → IfOk r (λ c. (s f w : ℕ) (m : Option Stray) → Chooses (λ lease. lease) (shared_desk sizes parts rs h a s f w m) (shared_desk sizes parts' rs' h' a' s f w m) lb session at ask c)
    ok_choose ask (Ok c) same ok tickets = λ s f w m.
        subst (λ (n : ℕ). Chooses (λ lease. lease) (shared_desk sizes parts rs h a s f w m) (shared_desk sizes n rs' h' a' s f w m) lb session at ask c) (sym same)
        (chooses_desk sizes firsts parts (held ok.0 rs a) (held after rs' a') h h' s f w m lb session at ask c ok.2 ok.3 tickets)
    ok_choose ask (Err e) same ok tickets = tt

    pub err_choose : (r : Result (Choice LeaseNote) (RoomError MarkNote)) → parts' ≡ parts → IfErr r (λ e. ChoseErr e)
        → IfErr r (λ e. (s f w f' w' : ℕ) (m : Option Stray) → GainsDue (shared_desk sizes parts rs h a s f w m) (shared_desk sizes parts' rs' h' a' s f' w' m) lb session at
        (e ≡ room.NoMemory) (IsAskRefusal (λ mark. mark.numbers) at e))
    err_choose (Ok c) same err = tt
    err_choose (Err e) same err = λ s f w f' w' m.
        subst (λ (n : ℕ). GainsDue (shared_desk sizes parts rs h a s f w m) (shared_desk sizes n rs' h' a' s f' w' m) lb session at (e ≡ room.NoMemory) (IsAskRefusal (λ mark. mark.numbers) at e)) (sym same)
        (due_desk sizes firsts parts (held err.0 rs a) (held after rs' a') err.2 h h' s f w s f' w' m lb session at (e ≡ room.NoMemory) (IsAskRefusal (λ mark. mark.numbers) at e) err.3)

    pub ok_command : {T : Type 0} (command : Command) (r : Result T (AdminError MarkNote)) → parts' ≡ parts → OnOk r (DidOk command)
        → OnOk r ((s f w : ℕ) (m : Option Stray) → Commands (shared_desk sizes parts rs h a s f w m) (shared_desk sizes parts' rs' h a' s f w m) lb session at command)
    ok_command command (Ok c) same ok = λ s f w m.
        subst (λ (n : ℕ). Commands (shared_desk sizes parts rs h a s f w m) (shared_desk sizes n rs' h a' s f w m) lb session at command) (sym same)
        (commands_desk sizes firsts parts (held ok.0 rs a) (held after rs' a') h s f w m lb session at command ok.2 ok.3)
    ok_command command (Err e) same ok = tt

    pub err_command : {T : Type 0} (command : Command) (r : Result T (AdminError MarkNote)) → parts' ≡ parts → IfErr r (λ e. DidErr command e)
        → IfErr r (λ e. (s f w f' w' : ℕ) (m : Option Stray) → GainsDue (shared_desk sizes parts rs h a s f w m) (shared_desk sizes parts' rs' h' a' s f' w' m) lb session at
        (e ≡ admin.NoMemory) (IsCommandRefusal (λ mark. mark.numbers) at command e))
    err_command command (Ok c) same err = tt
    err_command command (Err e) same err = λ s f w f' w' m.
        subst (λ (n : ℕ). GainsDue (shared_desk sizes parts rs h a s f w m) (shared_desk sizes n rs' h' a' s f' w' m) lb session at (e ≡ admin.NoMemory) (IsCommandRefusal (λ mark. mark.numbers) at command e)) (sym same)
        (due_desk sizes firsts parts (held err.0 rs a) (held after rs' a') err.2 h h' s f w s f' w' m lb session at (e ≡ admin.NoMemory) (IsCommandRefusal (λ mark. mark.numbers) at command e) err.3)

-- A desk's facts after a choice, and after a command.
pub kept_choose : (n lb : ℕ) (rs rs' : List Receipt) (h h' : List (ℕ × ℕ)) (parts parts' a a' room room' : ℕ) (r : Result (Choice LeaseNote) (RoomError MarkNote)) → lb < n
    → Gained rs rs' a a' → IfOk r (λ c. h' ≡ h ++ pairs_of lb c) → OnErr r (h' ≡ h) → a' ≤ 2 ^ 58 → parts' ≡ parts → length rs + length h + 3 ≤ room'
    → (f : ℕ) → IsShared n rs h parts a f room → IsShared n rs' h' parts' a' f room'
kept_choose n lb rs rs' h h' parts parts' a a' room room' (Ok c) within gained ok err few same roomy f is =
    let all : length rs' ≡ length rs + length gained.0 = ap (λ (xs : List Receipt). length xs) gained.1 ∙ length-append rs gained.0 in
    let tickets : length h' ≡ length h + length (pairs_of lb c) = ap (λ (xs : List (ℕ × ℕ)). length xs) ok ∙ length-append h (pairs_of lb c) in
    let one : length (pairs_of lb c) ≤ 1 = pairs-length lb c in
    let two : length gained.0 ≤ 2 = gained.3 in
    shared_more n rs rs' h h' parts parts' a a' f room room' gained.0 is gained.1 gained.2 few same
    (subst (λ (xs : List (ℕ × ℕ)). AreKnown n xs) (sym ok) (known-more n h lb c within is.known)) (omega arith)
kept_choose n lb rs rs' h h' parts parts' a a' room room' (Err e) within gained ok err few same roomy f is =
    let all : length rs' ≡ length rs + length gained.0 = ap (λ (xs : List Receipt). length xs) gained.1 ∙ length-append rs gained.0 in
    let tickets : length h' ≡ length h = ap (λ (xs : List (ℕ × ℕ)). length xs) err in
    let two : length gained.0 ≤ 2 = gained.3 in
    shared_more n rs rs' h h' parts parts' a a' f room room' gained.0 is gained.1 gained.2 few same
    (subst (λ (xs : List (ℕ × ℕ)). AreKnown n xs) (sym err) is.known) (omega arith)

pub kept_command : (n : ℕ) (rs rs' : List Receipt) (h : List (ℕ × ℕ)) (parts parts' a a' room room' : ℕ) → Gained rs rs' a a' → a' ≤ 2 ^ 58 → parts' ≡ parts
    → length rs + length h + 2 ≤ room' → (f : ℕ) → IsShared n rs h parts a f room → IsShared n rs' h parts' a' f room'
kept_command n rs rs' h parts parts' a a' room room' gained few same roomy f is =
    let all : length rs' ≡ length rs + length gained.0 = ap (λ (xs : List Receipt). length xs) gained.1 ∙ length-append rs gained.0 in
    let two : length gained.0 ≤ 2 = gained.3 in
    shared_more n rs rs' h h parts parts' a a' f room room' gained.0 is gained.1 gained.2 few same is.known (omega arith)

pub none_desk : (sizes : List ℕ) (parts : ℕ) (rs rs' : List Receipt) (h h' : List (ℕ × ℕ)) (a s f w f' w' : ℕ) (m : Option Stray) (lb session at : ℕ) (wanting : Type 0) (account : Journal → List Receipt → Type 0)
    → rs' ≡ rs → wanting → GainsDue (shared_desk sizes parts rs h a s f w m) (shared_desk sizes parts rs' h' a s f' w' m) lb session at wanting account
none_desk sizes parts rs rs' h h' a s f w f' w' m lb session at wanting account same wants = record {
  due = [];
  is_due = tt;
  gains = record {
    receipts = same ∙ sym (append-nil rs);
    own = All-nil (IsOwn lb session at);
    added = omega arith;
    books = refl;
  };
  why = inr (refl, wants);
}

-- A Return.
-- A Return's hold, which cut before it if due.
module _ (sizes firsts : List ℕ) (before after : List Journal) (cut : Option (ℕ × Segment)) (rs rs' : List Receipt) (a a' session at : ℕ) (lease : LeaseNote) (outcome : Outcome) where
  abbrev pub BackOk : Type 0
  BackOk = CutReturns sizes firsts cut (held before rs a) (held after rs' a') session at lease outcome

  abbrev pub BackErr : Type 0
  BackErr = CutMeets sizes firsts cut (held before rs a) (held after rs' a') lease.lb

  pub back_ok : {E : Type 0} (parts parts' : ℕ) (h h' : List (ℕ × ℕ)) (r : Result (Unit {0}) E) → parts' ≡ parts → OnOk r BackOk
      → OnOk r ((s f w : ℕ) (m : Option Stray) → TakesBack (shared_desk sizes parts rs h a s f w m) (shared_desk sizes parts' rs' h' a' s f w m) session at lease outcome)
  back_ok parts parts' h h' (Ok x) same ok = λ s f w m.
      subst (λ (n : ℕ). TakesBack (shared_desk sizes parts rs h a s f w m) (shared_desk sizes n rs' h' a' s f w m) session at lease outcome) (sym same)
      (takes_back_desk sizes firsts parts (held ok.0 rs a) (held after rs' a') h h' s f w m session at lease outcome ok.3.0 ok.2 ok.3.1 ok.3.2)
  back_ok parts parts' h h' (Err e) same ok = tt

  pub back_length : {E : Type 0} (r : Result (Unit {0}) E) → OnOk r BackOk → OnOk r (length rs' ≡ length rs + 1)
  back_length (Ok x) ok = ap (λ (xs : List Receipt). length xs) ok.3.2.receipts ∙ length-append rs (ok.3.0 ∷ [])
  back_length (Err e) ok = tt

  pub back_amount : {E : Type 0} (r : Result (Unit {0}) E) → OnOk r BackOk → OnOk r (a' ≡ a + 1)
  back_amount (Ok x) ok = ok.3.2.amount
  back_amount (Err e) ok = tt

  pub back_err : {E : Type 0} (r : Result (Unit {0}) E) → OnErr r BackErr → OnErr r ((rs' ≡ rs) × (a' ≡ a))
  back_err (Ok x) err = tt
  back_err (Err e) err = (ap (λ (x : HeldState). x.receipts) err.3, ap (λ (x : HeldState). x.amount) err.3)

  pub one_back : {E : Type 0} (r : Result (Unit {0}) E) → OnOk r BackOk → OnErr r BackErr → length rs' ≤ length rs + 1
  one_back (Ok x) ok err = omega (arith, ap (λ (xs : List Receipt). length xs) ok.3.2.receipts, length-append rs (ok.3.0 ∷ []))
  one_back (Err e) ok err = omega (arith, ap (λ (x : HeldState). length x.receipts) err.3)

  pub cut_back : {E : Type 0} (r : Result (Unit {0}) E) → OnOk r BackOk → OnErr r BackErr → IfSome cut (λ x. x.0 ≡ lease.lb)
  cut_back (Ok x) ok err = cut_first sizes firsts before after cut rs rs' a a' lease.lb session at ok.0 cut ok.1
  cut_back (Err e) ok err = cut_first sizes firsts before after cut rs rs' a a' lease.lb session at err.0 cut err.1

  pub next_back : {E : Type 0} (r : Result (Unit {0}) E) → OnOk r BackOk → OnErr r BackErr → IfSome cut (λ x. GoesOnFrom x.1 rs rs')
  next_back (Ok x) ok err = next_first sizes firsts before after cut rs rs' a a' lease.lb session at ok.0 cut (ok.3.0 ∷ []) ok.1 ok.3.2
  next_back (Err e) ok err = goes_on_none cut rs rs' (ap (λ (x : HeldState). x.receipts) err.3)

pub holds_all : (held : List (ℕ × ℕ)) (p : ℕ × ℕ) (n : ℕ) → length held ≤ n → holds (drop n held) p ≡ false
holds_all held p n all = rw (drop_all n held all) refl

-- A choice and a command with what they count.
module _ (sizes : List ℕ) (parts parts' : ℕ) (rs rs' : List Receipt) (h h' : List (ℕ × ℕ)) (a a' s f f' w w' : ℕ) (m : Option Stray) (lb session at : ℕ) where
  pub final_ok : (ask : Ask) (r : Result (Choice LeaseNote) (RoomError MarkNote)) → CountsFull f f' r
      → IfOk r (λ c. (s f w : ℕ) (m : Option Stray) → Chooses (λ lease. lease) (shared_desk sizes parts rs h a s f w m) (shared_desk sizes parts' rs' h' a' s f w m) lb session at ask c)
      → IfOk r (λ c. Chooses (λ lease. lease) (shared_desk sizes parts rs h a s f w m) (shared_desk sizes parts' rs' h' a' s f' w m) lb session at ask c)
  final_ok ask (Ok c) counts ok =
      subst (λ (n : ℕ). Chooses (λ lease. lease) (shared_desk sizes parts rs h a s f w m) (shared_desk sizes parts' rs' h' a' s n w m) lb session at ask c) (sym counts) (ok s f w m)
  final_ok ask (Err e) counts ok = tt

  pub final_err : (r : Result (Choice LeaseNote) (RoomError MarkNote)) → CountsFull f f' r → OnErr r (h' ≡ h)
      → IfErr r (λ e. (s f w f' w' : ℕ) (m : Option Stray) → GainsDue (shared_desk sizes parts rs h a s f w m) (shared_desk sizes parts' rs' h' a' s f' w' m) lb session at
      (e ≡ room.NoMemory) (IsAskRefusal (λ mark. mark.numbers) at e))
      → IfErr r (λ e. RefusesChoice (λ mark. mark.numbers) (shared_desk sizes parts rs h a s f w m) (shared_desk sizes parts' rs' h' a' s f' w m) lb session at e)
  final_err (Ok c) counts same err = tt
  final_err (Err (room.Full mark)) counts same err = record {
    gains = err s f w f' w m;
    held = same;
    full = λ mark' is. counts;
    wanted = λ is. absurd cc;
    stray = refl;
    wide = refl;
    met = refl;
  }
  final_err (Err room.NoMemory) counts same err = record {
    gains = err s f w f' w m;
    held = same;
    full = λ mark' is. absurd cc;
    wanted = λ is. counts;
    stray = refl;
    wide = refl;
    met = refl;
  }

  pub full_kept : parts' ≡ parts → f ≤ f'
      → KeepsDesk (shared_desk sizes parts rs h a s f w m) (shared_desk sizes parts' rs' h' a' s f' w m)
  full_kept same more = record {
    caller = refl;
    sizes = refl;
    parts = ap (λ (n : ℕ). Some n) same;
    strays = omega arith;
    fulls = more;
    wides = omega arith;
    met = λ stray is. is;
    sound_before = none_sound sizes;
    sound = none_sound sizes;
  }

  pub final_done : {T : Type 0} (command : Command) (r : Result T (AdminError MarkNote)) → CountsRefusal f f' w w' r
      → OnOk r ((s f w : ℕ) (m : Option Stray) → Commands (shared_desk sizes parts rs h a s f w m) (shared_desk sizes parts' rs' h' a' s f w m) lb session at command)
      → OnOk r (Commands (shared_desk sizes parts rs h a s f w m) (shared_desk sizes parts' rs' h' a' s f' w' m) lb session at command)
  final_done command (Ok c) counts ok =
      subst (λ (n : ℕ). Commands (shared_desk sizes parts rs h a s f w m) (shared_desk sizes parts' rs' h' a' s n w' m) lb session at command) (sym counts.0)
      (subst (λ (n : ℕ). Commands (shared_desk sizes parts rs h a s f w m) (shared_desk sizes parts' rs' h' a' s f n m) lb session at command) (sym counts.1) (ok s f w m))
  final_done command (Err e) counts ok = tt

  pub final_refused : {T : Type 0} (command : Command) (r : Result T (AdminError MarkNote)) → CountsRefusal f f' w w' r
      → IfErr r (λ e. (s f w f' w' : ℕ) (m : Option Stray) → GainsDue (shared_desk sizes parts rs h a s f w m) (shared_desk sizes parts' rs' h' a' s f' w' m) lb session at
      (e ≡ admin.NoMemory) (IsCommandRefusal (λ mark. mark.numbers) at command e))
      → IfErr r (λ e. RefusesCommand (λ mark. mark.numbers) (shared_desk sizes parts rs h a s f w m) (shared_desk sizes parts' rs' h' a' s f' w' m) lb session at command e)
  final_refused command (Ok c) counts err = tt
  final_refused command (Err admin.UnknownMember) counts err = record { gains = err s f w f' w' m; counted = counts }
  final_refused command (Err admin.BadValue) counts err = record { gains = err s f w f' w' m; counted = counts }
  final_refused command (Err (admin.TooWide mark)) counts err = record { gains = err s f w f' w' m; counted = counts }
  final_refused command (Err (admin.Full mark)) counts err = record { gains = err s f w f' w' m; counted = counts }
  final_refused command (Err admin.NoMemory) counts err = record { gains = err s f w f' w' m; counted = counts }

  pub refusal_kept : parts' ≡ parts → f ≤ f' → w ≤ w'
      → KeepsDesk (shared_desk sizes parts rs h a s f w m) (shared_desk sizes parts' rs' h' a' s f' w' m)
  refusal_kept same more more' = record {
    caller = refl;
    sizes = refl;
    parts = ap (λ (n : ℕ). Some n) same;
    strays = omega arith;
    fulls = more;
    wides = more';
    met = λ stray is. is;
    sound_before = none_sound sizes;
    sound = none_sound sizes;
  }

-- After a Return, and after a stray.
pub shared_back : (n : ℕ) (rs rs' : List Receipt) (h h' : List (ℕ × ℕ)) (p : ℕ × ℕ) (parts parts' a a' f room room' : ℕ) → IsShared n rs h parts a f room → holds h p ≡ true
    → length rs' ≡ length rs + 1 → a' ≡ a + 1 → a' ≤ 2 ^ 58 → parts' ≡ parts → h' ≡ without_last h p → room ≤ room' → IsShared n rs' h' parts' a' f room'
shared_back n rs rs' h h' p parts parts' a a' f room room' is had one counted few same without more =
    let less : length h' + 1 ≤ length h =
    subst (λ (xs : List (ℕ × ℕ)). length xs + 1 ≤ length h) (sym without) (without_last-one h p had) in
    record {
      part = let part : 0 < parts = is.part in omega arith;
      counted = let was : a ≡ length rs + f = is.counted in omega arith;
      few = few;
      known = subst (λ (xs : List (ℕ × ℕ)). AreKnown n xs) (sym without) (known-without n h p is.known);
      roomy = let roomy : length rs + length h ≤ room = is.roomy in omega arith;
    }

pub shared_stray : (n : ℕ) (rs rs' : List Receipt) (h h' : List (ℕ × ℕ)) (p : ℕ × ℕ) (parts parts' a a' f room room' : ℕ) → IsShared n rs h parts a f room
    → rs' ≡ rs → a' ≡ a → parts' ≡ parts → h' ≡ without_last h p → room ≤ room' → IsShared n rs' h' parts' a' f room'
shared_stray n rs rs' h h' p parts parts' a a' f room room' is same_receipts same_amount same without more =
    let less : length h' ≤ length h = subst (λ (xs : List (ℕ × ℕ)). length xs ≤ length h) (sym without) (without_last-less h p) in
    let all : length rs' ≡ length rs = ap (λ (xs : List Receipt). length xs) same_receipts in
    record {
      part = let part : 0 < parts = is.part in omega arith;
      counted = let was : a ≡ length rs + f = is.counted in omega arith;
      few = let few : a ≤ 2 ^ 58 = is.few in omega arith;
      known = subst (λ (xs : List (ℕ × ℕ)). AreKnown n xs) (sym without) (known-without n h p is.known);
      roomy = let roomy : length rs + length h ≤ room = is.roomy in omega arith;
    }

-- After either of the two.
pub shared_returned : {E : Type 0} (n : ℕ) (rs rs' : List Receipt) (h h' : List (ℕ × ℕ)) (p : ℕ × ℕ) (parts parts' a a' f room room' : ℕ) (r : Result (Unit {0}) E)
    → IsShared n rs h parts a f room → holds h p ≡ true → OnOk r (length rs' ≡ length rs + 1) → OnOk r (a' ≡ a + 1) → OnErr r ((rs' ≡ rs) × (a' ≡ a))
    → a' ≤ 2 ^ 58 → parts' ≡ parts → h' ≡ without_last h p → room ≤ room' → IsShared n rs' h' parts' a' f room'
shared_returned n rs rs' h h' p parts parts' a a' f room room' (Ok x) is had one counted none few same without more =
    shared_back n rs rs' h h' p parts parts' a a' f room room' is had one counted few same without more
shared_returned n rs rs' h h' p parts parts' a a' f room room' (Err e) is had one counted none few same without more =
    shared_stray n rs rs' h h' p parts parts' a a' f room room' is none.0 none.1 same without more

-- The view of a look.
pub shows_shared : {E : Type 0} (sizes : List ℕ) (parts : ℕ) (rs : List Receipt) (h : List (ℕ × ℕ)) (a s f w : ℕ) (m : Option Stray) (lb : ℕ) (r : Result ViewNote E)
    → IfOk r (IsViewOf sizes lb) → IfOk r (λ v. Shows (shared_desk sizes parts rs h a s f w m) lb v.view)
shows_shared sizes parts rs h a s f w m lb (Ok v) is = record {
  book = is.present.0;
  found = is.present.1;
  rows = is.rows;
  present = is.present.2;
  sound = none_sound sizes;
}
shows_shared sizes parts rs h a s f w m lb (Err e) is = tt
