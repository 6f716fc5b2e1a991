-- A history has no steps of others, where the desks together have as many entries as the Books added, and as many cuts as there were.
use Rattle.std.proofs.Common.{◌≡◌, ◌≢◌, ℕ, zero, suc, ◌+◌, ◌<◌, ◌≤◌, Bool, true, false, cond, List, [], ◌∷◌, length, map, refl, sym, ap, ◌∙◌, subst, arith, eq-eqb, ne_eqb, sum_by, lt_of_not-le}
use Rattle.std.specs.Prelude.{◌==◌, ◌++◌, Option, None, Some, slice_get}
use Rattle.std.specs.List.{All, Contains, filter}
use Rattle.std.proofs.lemmas.List.{length-map}
use Rattle.std.proofs.lemmas.List.Elements.{All-cons, All-head, All-nil, All-tail}
use Rattle.std.proofs.lemmas.List.Sums.{sum_by-cons}
use native.Mathlib.Decide.{ℕ_discrete}
use Rattle.lb_model.specs.declared.journal.Entry.{Entry}
use Rattle.lb_model.specs.declared.opening.Opening.{Opening}
use Rattle.lb_book.specs.Journal.{Journal}
use Rattle.lb_shared.specs.Histories.{AreDistinct, IsClosedAfter, SeatNote, Step, all_cuts, cut_count, cut_here, cuts_from, cuts_seen, entered, entries_of, log_in, marked, own_count, own_cuts, own_in}
use Rattle.lb_shared.specs.Sites.{added_in}
use Rattle.lb_closing.specs.OneHistory.{IsOneHistory}

-- How many items have this number, and how many have one of these.
abbrev with_number : {A : Type 0} → (A → ℕ) → (n : ℕ) → List A → ℕ
with_number f n log = length (filter (λ x. f x == n) log)

abbrev with_one : {A : Type 0} → (A → ℕ) → (ns : List ℕ) → List A → ℕ
with_one f ns log = sum_by (λ n. with_number f n log) ns

-- How often a number is one of these.
hits : (v : ℕ) → List ℕ → ℕ
hits v [] = 0
hits v (n ∷ ns) = cond (v == n) 1 0 + hits v ns

hits_none : (v : ℕ) → hits v [] ≡ 0
unfolding hits
hits_none v = refl

none_plus : (n : ℕ) → 0 + n ≡ n
none_plus n = omega arith

one_more : {A : Type 0} (f : A → ℕ) (n : ℕ) (x : A) (log : List A) → with_number f n (x ∷ log) ≡ cond (f x == n) 1 0 + with_number f n log
one_more f n x log = cases (f x == n)
  where
    cases : (b : Bool) → length (cond b (x ∷ filter (λ y. f y == n) log) (filter (λ y. f y == n) log)) ≡ cond b 1 0 + length (filter (λ y. f y == n) log)
    cases true = omega arith
    cases false = omega arith

ones_more : {A : Type 0} (f : A → ℕ) (ns : List ℕ) (x : A) (log : List A) → with_one f ns (x ∷ log) ≡ hits (f x) ns + with_one f ns log
unfolding hits
ones_more f [] x log = refl
ones_more f (n ∷ ns) x log =
    omega (
      arith,
      sum_by-cons (λ m. with_number f m (x ∷ log)) n ns,
      sum_by-cons (λ m. with_number f m log) n ns,
      one_more f n x log,
      ones_more f ns x log,
    )

ones_none : {A : Type 0} (f : A → ℕ) (ns : List ℕ) → with_one f ns [] ≡ 0
ones_none f [] = refl
ones_none f (n ∷ ns) = omega (arith, sum_by-cons (λ m. with_number f m []) n ns, ones_none f ns)

hit : (v n : ℕ) (ns : List ℕ) → v ≡ n → hits v (n ∷ ns) ≡ 1 + hits v ns
unfolding hits
hit v n ns same = ap (λ (b : Bool). cond b 1 0 + hits v ns) (eq-eqb v n same)

missed : (v n : ℕ) (ns : List ℕ) → v ≢ n → hits v (n ∷ ns) ≡ hits v ns
unfolding hits
missed v n ns other = ap (λ (b : Bool). cond b 1 0 + hits v ns) (ne_eqb v n other) ∙ none_plus (hits v ns)

never : (v : ℕ) (ns : List ℕ) → All (λ m. m ≢ v) ns → hits v ns ≡ 0
unfolding hits
never v [] others = refl
never v (n ∷ ns) others =
    missed v n ns (λ same. All-head (λ (m : ℕ). m ≢ v) n ns others (sym same))
    ∙ never v ns (All-tail (λ (m : ℕ). m ≢ v) n ns others)

-- A number is one of distinct ones at most once.
hit_once : (v : ℕ) (ns : List ℕ) → AreDistinct ns → hits v ns ≤ 1
hit_once v [] apart = omega (arith, hits_none v)
hit_once v (n ∷ ns) apart =
    elim (ℕ_discrete v n) [
      | yes same ↦ omega (arith, hit v n ns same, never v ns (subst (λ (k : ℕ). All (λ m. m ≢ k) ns) (sym same) apart.0))
      | no other ↦ omega (arith, missed v n ns other, hit_once v ns apart.1)
    ]

there : (n v : ℕ) (ns : List ℕ) → Contains ns v → Contains (n ∷ ns) v
there n v ns at = (suc at.0, omega (arith, at.1), at.2)

is_there : (v : ℕ) (ns : List ℕ) → 1 ≤ hits v ns → Contains ns v
is_there v [] some = absurd (omega (arith, some, hits_none v))
is_there v (n ∷ ns) some =
    elim (ℕ_discrete v n) [
      | yes same ↦ (0, omega arith, sym same)
      | no other ↦ there n v ns (is_there v ns (omega (arith, some, missed v n ns other)))
    ]

at_most_all : {A : Type 0} (f : A → ℕ) (ns : List ℕ) (log : List A) → AreDistinct ns → with_one f ns log ≤ length log
at_most_all f ns [] apart = omega (arith, ones_none f ns)
at_most_all f ns (x ∷ log) apart = omega (arith, ones_more f ns x log, hit_once (f x) ns apart, at_most_all f ns log apart)

-- Where as many as there are have one of these numbers, each has one.
all_have : {A : Type 0} (f : A → ℕ) (ns : List ℕ) (log : List A) → AreDistinct ns → with_one f ns log ≡ length log → All (λ x. Contains ns (f x)) log
all_have f ns [] apart all = All-nil _
all_have f ns (x ∷ log) apart all =
    let more = ones_more f ns x log in
    let once = hit_once (f x) ns apart in
    let most = at_most_all f ns log apart in
    All-cons (λ y. Contains ns (f y)) x log (is_there (f x) ns (omega (arith, all, more, once, most)))
    (all_have f ns log apart (omega (arith, all, more, once, most)))

-- ---- the balancers' numbers

up_from : (first count : ℕ) → List ℕ
up_from first zero = []
up_from first (suc count) = first ∷ up_from (suc first) count

below : (v first count : ℕ) → v < first → hits v (up_from first count) ≡ 0
unfolding hits up_from
below v first zero less = refl
below v first (suc count) less =
    missed v first (up_from (suc first) count) (λ same. omega (arith, same, less)) ∙ below v (suc first) count (omega (arith, less))

within : (v first count : ℕ) → first ≤ v → v < first + count → hits v (up_from first count) ≡ 1
unfolding up_from
within v first zero least less = absurd (omega (arith, least, less))
within v first (suc count) least less =
    elim (ℕ_discrete v first) [
      | yes same ↦ hit v first (up_from (suc first) count) same ∙ omega (arith, below v (suc first) count (omega (arith, same)))
      | no other ↦ missed v first (up_from (suc first) count) other ∙ within v (suc first) count (above v first least other) (omega (arith, less))
    ]
  where
    above : (n m : ℕ) → m ≤ n → n ≢ m → suc m ≤ n
    above n m least other = lt_of_not-le (λ less. other (omega (arith, least, less)))

-- Each of them has the number of a balancer.
all_known : {A : Type 0} (f : A → ℕ) (count : ℕ) (log : List A) → All (λ x. f x < count) log → with_one f (up_from 0 count) log ≡ length log
all_known f count [] known = ones_none f (up_from 0 count)
all_known f count (x ∷ log) known =
    omega (
      arith,
      ones_more f (up_from 0 count) x log,
      within (f x) 0 count (omega arith) (omega (arith, All-head (λ y. f y < count) x log known)),
      all_known f count log (All-tail (λ y. f y < count) x log known),
    )

-- The entries that the Books added, by the Books' numbers.
added_by : (log : List (ℕ × (ℕ × Entry))) (first : ℕ) (books : List Journal)
    → ((lb : ℕ) (b : Journal) → slice_get books lb ≡ Some b → b.added ≡ length (entries_of (first + lb) log))
    → added_in books ≡ with_one (λ (x : ℕ × (ℕ × Entry)). x.1.0) (up_from first (length books)) log
unfolding up_from
added_by log first [] each = refl
added_by log first (b ∷ books) each =
    omega (
      arith,
      sum_by-cons (λ (j : Journal). j.added) b books,
      sum_by-cons (λ n. with_number (λ (x : ℕ × (ℕ × Entry)). x.1.0) n log) first (up_from (suc first) (length books)),
      each 0 b refl,
      ap (λ (n : ℕ). length (entries_of n log)) (plus_none first),
      length-map (filter (λ (x : ℕ × (ℕ × Entry)). x.1.0 == first) log) (λ (x : ℕ × (ℕ × Entry)). x.1.1),
      added_by log (suc first) books (λ lb c at. each (suc lb) c at ∙ ap (λ (n : ℕ). length (entries_of n log)) (plus_one first lb)),
    )
  where
    plus_none : (n : ℕ) → n + 0 ≡ n
    plus_none n = omega arith

    plus_one : (n m : ℕ) → n + suc m ≡ suc n + m
    plus_one n m = omega arith

-- The own entries that the desks have seen, by the desks' numbers.
counted_by : (log : List (ℕ × (ℕ × Entry))) (seats : List SeatNote) → All (λ s. own_in s.number log ≡ own_in s.number s.seen) seats
    → sum_by (λ s. own_count s) seats ≡ with_one (λ (x : ℕ × (ℕ × Entry)). x.0) (map (λ s. s.number) seats) log
counted_by log [] own = refl
counted_by log (s ∷ seats) own =
    omega (
      arith,
      sum_by-cons (λ (t : SeatNote). own_count t) s seats,
      sum_by-cons (λ n. with_number (λ (x : ℕ × (ℕ × Entry)). x.0) n log) s.number (map (λ t. t.number) seats),
      ap (λ (es : List (ℕ × Entry)). length es) (All-head (λ (t : SeatNote). own_in t.number log ≡ own_in t.number t.seen) s seats own),
      length-map (filter (λ (x : ℕ × (ℕ × Entry)). x.0 == s.number) log) (λ (x : ℕ × (ℕ × Entry)). x.1),
      counted_by log seats (All-tail (λ (t : SeatNote). own_in t.number log ≡ own_in t.number t.seen) s seats own),
    )

-- The cuts of a desk, by its number.
own_here : (n m lb : ℕ) (before : List (ℕ × Step)) (e : Option Entry) (mine : List (ℕ × List (ℕ × Step))) (cuts : List (ℕ × ℕ))
    → length mine ≡ with_number (λ (x : ℕ × ℕ). x.0) n cuts
    → length (cut_here (m == n) lb before e ++ mine) ≡ with_number (λ (x : ℕ × ℕ). x.0) n (marked m lb e ++ cuts)
own_here n m lb before None mine cuts same = cases (m == n)
  where
    cases : (b : Bool) → length (cut_here b lb before None ++ mine) ≡ length (cond b ((m, lb) ∷ filter (λ (y : ℕ × ℕ). y.0 == n) cuts) (filter (λ (y : ℕ × ℕ). y.0 == n) cuts))
    cases true = omega (arith, same)
    cases false = same
own_here n m lb before (Some e) mine cuts same = cases (m == n)
  where
    cases : (b : Bool) → length (cut_here b lb before (Some e) ++ mine) ≡ with_number (λ (x : ℕ × ℕ). x.0) n cuts
    cases true = same
    cases false = same

own_cuts_by : (n : ℕ) (before steps : List (ℕ × Step)) → length (cuts_from n before steps) ≡ with_number (λ (x : ℕ × ℕ). x.0) n (all_cuts steps)
own_cuts_by n before [] = refl
own_cuts_by n before (x ∷ steps) =
    own_here n x.0 x.1.0 before x.1.1 (cuts_from n (before ++ x ∷ []) steps) (all_cuts steps) (own_cuts_by n (before ++ x ∷ []) steps)

-- The own cuts that the desks have seen, by the desks' numbers.
cuts_counted : (steps : List (ℕ × Step)) (seats : List SeatNote) → All (λ s. own_cuts s.number steps ≡ cuts_seen s) seats
    → sum_by (λ s. cut_count s) seats ≡ with_one (λ (x : ℕ × ℕ). x.0) (map (λ s. s.number) seats) (all_cuts steps)
cuts_counted steps [] own = refl
cuts_counted steps (s ∷ seats) own =
    omega (
      arith,
      sum_by-cons (λ (t : SeatNote). cut_count t) s seats,
      sum_by-cons (λ n. with_number (λ (x : ℕ × ℕ). x.0) n (all_cuts steps)) s.number (map (λ t. t.number) seats),
      ap (λ (cs : List (ℕ × List (ℕ × Step))). length cs) (All-head (λ (t : SeatNote). own_cuts t.number steps ≡ cuts_seen t) s seats own),
      own_cuts_by s.number [] steps,
      cuts_counted steps seats (All-tail (λ (t : SeatNote). own_cuts t.number steps ≡ cuts_seen t) s seats own),
    )

-- What holds of the desks of all entries and of all cuts, holds of those of all steps.
one_step : (P : ℕ → Type 0) (n lb : ℕ) (e : Option Entry) (log : List (ℕ × (ℕ × Entry))) (cuts : List (ℕ × ℕ))
    → All (λ x. P x.0) (entered n lb e ++ log) → All (λ x. P x.0) (marked n lb e ++ cuts) → P n × All (λ x. P x.0) log × All (λ x. P x.0) cuts
one_step P n lb None log cuts entries marks = (All-head (λ (x : ℕ × ℕ). P x.0) (n, lb) cuts marks, entries, All-tail (λ (x : ℕ × ℕ). P x.0) (n, lb) cuts marks)
one_step P n lb (Some e) log cuts entries marks =
    (All-head (λ (x : ℕ × (ℕ × Entry)). P x.0) (n, (lb, e)) log entries, All-tail (λ (x : ℕ × (ℕ × Entry)). P x.0) (n, (lb, e)) log entries, marks)

all_steps : (P : ℕ → Type 0) (steps : List (ℕ × Step)) → All (λ x. P x.0) (log_in steps) → All (λ x. P x.0) (all_cuts steps) → All (λ x. P x.0) steps
all_steps P [] entries marks = All-nil (λ (x : ℕ × Step). P x.0)
all_steps P (x ∷ steps) entries marks =
    let one = one_step P x.0 x.1.0 x.1.1 (log_in steps) (all_cuts steps) entries marks in
    All-cons (λ (y : ℕ × Step). P y.0) x steps one.0 (all_steps P steps one.1 one.2)

-- No others.
pub whole_by : (starts : List Opening) (seats : List SeatNote) (count : ℕ) (books : List Journal) → IsClosedAfter starts seats count books
    → sum_by (λ s. own_count s) seats ≡ added_in books → sum_by (λ s. cut_count s) seats ≡ count → IsOneHistory starts seats books
whole_by starts seats count books after counted cuts =
    let closed = after.closed in
    let all : added_in books ≡ length closed.log =
    added_by closed.log 0 books (λ lb b at. closed.history.added lb b at ∙ ap (λ (n : ℕ). length (entries_of n closed.log)) (sym (none_plus lb)))
    ∙ ap (λ (n : ℕ). with_one (λ (x : ℕ × (ℕ × Entry)). x.1.0) (up_from 0 n) closed.log) closed.history.count
    ∙ all_known (λ (x : ℕ × (ℕ × Entry)). x.1.0) (length starts) closed.log closed.history.known in
    let numbers = map (λ (s : SeatNote). s.number) seats in
    let entries : All (λ x. Contains numbers x.0) closed.log =
    all_have (λ (x : ℕ × (ℕ × Entry)). x.0) numbers closed.log closed.apart (sym (counted_by closed.log seats closed.own) ∙ counted ∙ all) in
    let marks : All (λ x. Contains numbers x.0) (all_cuts closed.steps) =
    all_have (λ (x : ℕ × ℕ). x.0) numbers (all_cuts closed.steps) closed.apart (sym (cuts_counted closed.steps seats closed.cuts) ∙ cuts ∙ sym after.counted) in
    record {
      closed = closed;
      no_other =
          all_steps (λ n. Contains numbers n) closed.steps
          (subst (λ (l : List (ℕ × (ℕ × Entry))). All (λ x. Contains numbers x.0) l) closed.entries entries) marks;
    }

-- The shares of the desks count what their seats have seen as their own.
pub amounts : {A : Type 0} (count : SeatNote → ℕ) (seat : A → SeatNote) (amount : A → ℕ) (leaving : List A) → ((l : A) → count (seat l) ≡ amount l)
    → sum_by count (map seat leaving) ≡ sum_by amount leaving
amounts count seat amount [] each = refl
amounts count seat amount (l ∷ leaving) each =
    omega (
      arith,
      sum_by-cons count (seat l) (map seat leaving),
      sum_by-cons amount l leaving,
      each l,
      amounts count seat amount leaving each,
    )
