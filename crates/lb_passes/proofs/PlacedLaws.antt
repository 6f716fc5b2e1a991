-- A pass that stays at its place, and all passes of a place together.
use Rattle.std.proofs.Common.{◌≡◌, ℕ, zero, suc, ◌+◌, ◌<◌, ◌≤◌, List, [], ◌∷◌, ◌++◌, length, map, Some, Result, Ok, Err, inl, inr, refl, sym, ap, ◌∙◌, subst, arith, length-append}
use Rattle.std.specs.Prelude.{IfOk, IfErr, IsOk}
use Rattle.std.proofs.lemmas.List.{append-nil, map-append}
use mathlib.Core.Option.{some, some-injective, some-ne-none}
use native.Mathlib.Decide.{ℕ_discrete}
use lib.ListN.{get_elem?}
use Rattle.atomic_table.specs.Seated.{TableId}
use Rattle.lb_model.specs.declared.ask.Ask.{Ask}
use Rattle.lb_model.specs.declared.change.Command.{Command}
use Rattle.lb_model.specs.declared.journal.Entry.{Entry}
use Rattle.lb_model.specs.declared.journal.Outcome.{Outcome}
use Rattle.lb_model.specs.declared.refusal.AdminError.{AdminError}
use Rattle.lb_model.specs.declared.refusal.RoomError.{RoomError}
use Rattle.lb_model.specs.declared.refusal.FullMark.{FullMark}
use Rattle.lb_model.specs.declared.refusal.Stray.{Stray}
use Rattle.lb_book.specs.Desks.{Chooses, Commands, DeskState, LeaseNote, RefusesChoice, RefusesCommand, TakesBack}
use Rattle.lb_book.specs.PlainLeases.{note_of}
use Rattle.lb_book.specs.declared.desk.Choice.{Choice}
use Rattle.lb_book.specs.declared.plain_desk.PlainLease.{PlainLease}
use Rattle.lb_book.specs.declared.receipt.Receipt.{Receipt}
use Rattle.lb_passes.proofs.GainLaws.{gained_is}
use Rattle.lb_passes.specs.declared.pass_view.Origin.{Origin}
use Rattle.lb_passes.specs.declared.pass_view.PassView.{PassView}
use Rattle.lb_passes.specs.Closing.{AreAllPasses, HasNumber}
use Rattle.lb_passes.specs.Holds.{entries_in, first_own, gained_in, own_in}
use Rattle.lb_passes.specs.Notes.{MeetsAt}
use Rattle.lb_passes.specs.PassDesks.{ArePassesOf, MaySee, PassDeskState, SeesAt, StayPasses, StaysPass, desk_value, sizes_in, table_in, table_of, view_of}
use Rattle.lb_passes.specs.Passes.{AreNewPasses, IsNewPass}
use Rattle.lb_passes.specs.Placed.{AreBack, AreEachBack, AreFrom, IsBack, IsPlaced, IsUnused, IsWaitingPass, OwnsReceipts, origin_in, table_in_passes}
use Rattle.lb_passes.specs.declared.pass.Note.{Note}
use Rattle.lb_passes.specs.declared.pass.Pass.{Pass}
use Rattle.lb_passes.specs.declared.pass_book.PassBook.{PassBook}

-- ---- one pass

stay_length : (ps qs : List Pass) → StayPasses ps qs → length qs ≡ length ps
stay_length [] [] stay = refl
stay_length [] (q ∷ qs) never = absurd never
stay_length (p ∷ ps) [] never = absurd never
stay_length (p ∷ ps) (q ∷ qs) stay = ap suc (stay_length ps qs stay.1)

stay_first : (ps qs : List Pass) → StayPasses ps qs → (q : Pass) → get_elem? qs 0 ≡ some q → (p : Pass) × (get_elem? ps 0 ≡ some p) × StaysPass p q
stay_first [] [] stay q at = absurd (some-ne-none q (sym at))
stay_first [] (r ∷ qs) never q at = absurd never
stay_first (p ∷ ps) [] never q at = absurd never
stay_first (p ∷ ps) (r ∷ qs) stay q at = (p, refl, subst (λ (x : Pass). StaysPass p x) (some-injective r q at) stay.0)

pub placed_stay : (table : TableId) (o : Origin) (given : ℕ) (d e : PassDeskState) → IsPlaced table o given d → StayPasses d.passes e.passes
    → e.desk.caller ≡ d.desk.caller → e.desk.sizes ≡ d.desk.sizes → OwnsReceipts e → IsPlaced table o given e
placed_stay table o given d e is stay caller sizes owns = record {
  only = stay_length d.passes e.passes stay ∙ is.only;
  back = λ q at.
      let f = stay_first d.passes e.passes stay q at in
      let former : IsBack table o given f.0 = is.back f.0 f.1 in
      record {
        of = f.2.of ∙ former.of;
        origin = f.2.origin ∙ former.origin;
        gave = λ zero_is. f.2.given ∙ former.gave (sym f.2.number ∙ zero_is);
      };
  caller = λ q at. let f = stay_first d.passes e.passes stay q at in caller ∙ is.caller f.0 f.1 ∙ ap Some (sym f.2.number);
  sized = ap (λ (ns : List ℕ). length ns) sizes ∙ is.sized;
  owns = owns;
}

-- The one that a list of one has.
pub one_of : {A : Type 0} (xs : List A) → length xs ≡ 1 → (x : A) × (xs ≡ x ∷ [])
one_of [] never = absurd (omega (arith, never))
one_of (x ∷ []) is = (x, refl)
one_of (x ∷ y ∷ xs) never = absurd (omega (arith, never))

pub never_none : {A : Type 0} (x : A) (xs : List A) → xs ≡ x ∷ [] → xs ≡ [] → ⊥
never_none x xs one none = let many : 1 ≡ 0 = ap length (sym one ∙ none) in omega (arith, many)

only_at : {A : Type 0} (x y : A) (k : ℕ) → get_elem? (x ∷ []) k ≡ some y → x ≡ y
only_at x y zero at = some-injective x y at
only_at x y (suc k) at = absurd (some-ne-none y (sym at))

-- ---- what the one pass owns

-- What came is the rest of what there is now.
gained_after : (r r' gained : List Receipt) → r' ≡ r ++ gained → entries_in r ++ entries_in (gained_in r r') ≡ entries_in r'
gained_after r r' gained grew =
    ap (λ (g : List Receipt). entries_in r ++ entries_in g) (gained_is r r' gained grew)
    ∙ sym (map-append (λ (x : Receipt). x.entry) r gained)
    ∙ ap entries_in (sym grew)

own_seen : (d e : PassDeskState) (lb : ℕ) (gained : List Receipt) → length d.passes ≡ 1 → e.desk.receipts ≡ d.desk.receipts ++ gained → SeesAt d e lb → OwnsReceipts d
    → OwnsReceipts e
own_seen d e lb gained only grew sees owns = λ q at.
    let one = one_of d.passes only in
    let here : lb ≡ 0 = omega (arith, sees.within, only) in
    let first : get_elem? d.passes 0 ≡ some one.0 = ap (λ (xs : List Pass). get_elem? xs 0) one.1 in
    let found = sees.sees one.0 (subst (λ (k : ℕ). get_elem? d.passes k ≡ some one.0) (sym here) first) in
    let same : found.0 ≡ q = some-injective found.0 q (sym (subst (λ (k : ℕ). get_elem? e.passes k ≡ some found.0) here found.1) ∙ at) in
    subst (λ (x : Pass). own_in (view_of x) ≡ entries_in e.desk.receipts) same
    (found.2.own
    ∙ ap (λ (es : List Entry). es ++ entries_in (gained_in d.desk.receipts e.desk.receipts)) (owns one.0 first)
    ∙ gained_after d.desk.receipts e.desk.receipts gained grew)

first_view : (ps qs : List Pass) → map view_of qs ≡ map view_of ps → (q : Pass) → get_elem? qs 0 ≡ some q → (p : Pass) × (get_elem? ps 0 ≡ some p) × (view_of q ≡ view_of p)
first_view ps [] same q at = absurd (some-ne-none q (sym at))
first_view [] (r ∷ qs) same q at = absurd cc
first_view (p ∷ ps) (r ∷ qs) same q at =
    let seen : view_of r ≡ view_of p = cc in (p, refl, ap view_of (sym (some-injective r q at)) ∙ seen)

own_same : (d e : PassDeskState) → map view_of e.passes ≡ map view_of d.passes → e.desk.receipts ≡ d.desk.receipts → OwnsReceipts d → OwnsReceipts e
own_same d e views receipts owns = λ q at.
    let former = first_view d.passes e.passes views q at in
    ap own_in former.2 ∙ owns former.0 former.1 ∙ ap entries_in (sym receipts)

own_may : (d e : PassDeskState) (lb : ℕ) (gained : List Receipt) → length d.passes ≡ 1 → e.desk.receipts ≡ d.desk.receipts ++ gained → MaySee d e lb → OwnsReceipts d
    → OwnsReceipts e
own_may d e lb gained only grew may owns =
    elim may [ inl sees ↦ own_seen d e lb gained only grew sees owns | inr none ↦ own_same d e none.0 none.1 owns ]

-- After an ask, a command, a Return, a look, a note that was made, and one that was met.
pub own_asked : (d e : PassDeskState) (lb session at : ℕ) (ask : Ask) (r : Result (Choice PlainLease) (RoomError FullMark)) → length d.passes ≡ 1
    → IfOk r (λ c. Chooses note_of d.desk e.desk lb session at ask c) → IfErr r (λ x. RefusesChoice (λ mark. mark) d.desk e.desk lb session at x)
    → MaySee d e lb → OwnsReceipts d → OwnsReceipts e
own_asked d e lb session at ask (Ok c) only ok err may owns = own_may d e lb _ only ok.gains.gains.receipts may owns
own_asked d e lb session at ask (Err x) only ok err may owns = own_may d e lb _ only err.gains.gains.receipts may owns

pub own_commanded : (d e : PassDeskState) (lb session at : ℕ) (command : Command) (r : Result (Unit {0}) (AdminError FullMark)) → length d.passes ≡ 1
    → IfOk r (λ _. Commands d.desk e.desk lb session at command) → IfErr r (λ x. RefusesCommand (λ mark. mark) d.desk e.desk lb session at command x)
    → MaySee d e lb → OwnsReceipts d → OwnsReceipts e
own_commanded d e lb session at command (Ok done) only ok err may owns = own_may d e lb _ only ok.gains.gains.receipts may owns
own_commanded d e lb session at command (Err x) only ok err may owns = own_may d e lb _ only err.gains.gains.receipts may owns

pub own_handed_back : (d e : PassDeskState) (lease : LeaseNote) (session at : ℕ) (outcome : Outcome) (r : Result (Unit {0}) Stray) → length d.passes ≡ 1 → IsOk r
    → IfOk r (λ _. TakesBack d.desk e.desk session at lease outcome) → SeesAt d e lease.lb → OwnsReceipts d → OwnsReceipts e
own_handed_back d e lease session at outcome (Ok done) only is ok sees owns = own_seen d e lease.lb _ only ok.gains.receipts sees owns
own_handed_back d e lease session at outcome (Err stray) only is ok sees owns = absurd cc

pub own_looked : (d e : PassDeskState) (lb : ℕ) → length d.passes ≡ 1 → e.desk ≡ d.desk → SeesAt d e lb → OwnsReceipts d → OwnsReceipts e
own_looked d e lb only same sees owns =
    own_seen d e lb [] only (ap (λ (x : DeskState). x.receipts) same ∙ sym (append-nil d.desk.receipts)) sees owns

pub own_noted : (d e : PassDeskState) → map view_of e.passes ≡ map view_of d.passes → e.desk ≡ d.desk → OwnsReceipts d → OwnsReceipts e
own_noted d e views same owns = own_same d e views (ap (λ (x : DeskState). x.receipts) same) owns

pub own_met : (d e : PassDeskState) (note : Note) → length d.passes ≡ 1 → e.desk ≡ d.desk → MeetsAt d e 0 note → OwnsReceipts d → OwnsReceipts e
own_met d e note only same met owns = λ q at.
    let one = one_of d.passes only in
    let first : get_elem? d.passes 0 ≡ some one.0 = ap (λ (xs : List Pass). get_elem? xs 0) one.1 in
    let found = met.meets one.0 first in
    let is : found.0 ≡ q = some-injective found.0 q (sym found.1 ∙ at) in
    subst (λ (x : Pass). own_in (view_of x) ≡ entries_in e.desk.receipts) is
    (ap first_own found.2.owns ∙ owns one.0 first ∙ ap (λ (x : DeskState). entries_in x.receipts) (sym same))

-- A desk of one pass.
pub one_desk : (books : List PassBook) (passes : List Pass) (b : PassBook) (p : Pass) → books ≡ b ∷ [] → passes ≡ p ∷ [] → table_of p ≡ table_in b → ArePassesOf books passes
one_desk books passes b p books_are passes_are of =
    subst (λ (bs : List PassBook). ArePassesOf bs passes) (sym books_are)
    (subst (λ (ps : List Pass). ArePassesOf (b ∷ []) ps) (sym passes_are) (record {
      many = refl;
      of = λ lb c q there here. sym (ap table_of (only_at p q lb here)) ∙ of ∙ ap table_in (only_at b c lb there);
      one = λ i j q r here there. ap (λ (x : Pass). x.number) (sym (only_at p q i here) ∙ only_at p r j there);
    }))

-- A new desk of one pass has its place.
pub new_placed : (table : TableId) (o : Origin) (given n : ℕ) (d : PassDeskState) (passes : List Pass) (p : Pass) → d ≡ desk_value n passes [] [] 0 0 → passes ≡ p ∷ []
    → ((lb : ℕ) (q : Pass) → get_elem? passes lb ≡ some q → q.number ≡ n) → IsUnused table o given p → IsPlaced table o given d
new_placed table o given n d passes p is one numbers unused = record {
  only = ap (λ (s : PassDeskState). length s.passes) is ∙ ap (λ (xs : List Pass). length xs) one;
  back = λ q at.
      let has : d.passes ≡ p ∷ [] = ap (λ (s : PassDeskState). s.passes) is ∙ one in
      subst (λ (x : Pass). IsBack table o given x) (some-injective p q (sym (ap (λ (xs : List Pass). get_elem? xs 0) has) ∙ at)) unused.back;
  caller = λ q at.
      ap (λ (s : PassDeskState). s.desk.caller) is ∙ ap Some (sym (numbers 0 q (sym (ap (λ (s : PassDeskState). get_elem? s.passes 0) is) ∙ at)));
  sized = ap (λ (s : PassDeskState). length s.desk.sizes) is ∙ ap (λ (xs : List Pass). length (sizes_in xs)) one;
  owns = λ q at.
      let has : d.passes ≡ p ∷ [] = ap (λ (s : PassDeskState). s.passes) is ∙ one in
      subst (λ (x : Pass). own_in (view_of x) ≡ entries_in d.desk.receipts) (some-injective p q (sym (ap (λ (xs : List Pass). get_elem? xs 0) has) ∙ at))
      (unused.none ∙ ap (λ (s : PassDeskState). entries_in s.desk.receipts) (sym is));
}

pub new_waiting : (n : ℕ) (d : PassDeskState) (passes : List Pass) (p : Pass) → d ≡ desk_value n passes [] [] 0 0 → passes ≡ p ∷ []
    → ((lb : ℕ) (q : Pass) → get_elem? passes lb ≡ some q → q.number ≡ n) → IsWaitingPass p d.desk
new_waiting n d passes p is one numbers = record {
  caller = ap (λ (s : PassDeskState). s.desk.caller) is ∙ ap Some (sym (numbers 0 p (ap (λ (xs : List Pass). get_elem? xs 0) one)));
  none_held = ap (λ (s : PassDeskState). s.desk.held) is;
  unused = ap (λ (s : PassDeskState). s.desk.receipts) is;
  sized = ap (λ (s : PassDeskState). s.desk.sizes) is ∙ ap sizes_in one;
}

pub last_of_one : {A : Type 0} (xs : List A) (x p : A) → p ∷ [] ≡ xs ++ x ∷ [] → x ≡ p
last_of_one [] x p is = cc
last_of_one (y ∷ ys) x p is =
    let many : 1 ≡ suc (length (ys ++ x ∷ [])) = ap length is in absurd (omega (arith, many, length-append ys (x ∷ [])))

-- ---- all passes

-- The passes that are still to come, the first of which has this number.
abbrev pub AreNext : Origin → TableId → (given k : ℕ) → List Pass → Type 0
AreNext o table given k [] = Unit {0}
AreNext o table given k (p ∷ passes) = IsNewPass o table given k p × AreNext o table given (k + 1) passes

next_from : (o : Origin) (table : TableId) (given k : ℕ) (passes : List Pass)
    → ((i : ℕ) (p : Pass) → get_elem? passes i ≡ some p → IsNewPass o table given (k + i) p) → AreNext o table given k passes
next_from o table given k [] each = tt
next_from o table given k (p ∷ passes) each = (
  subst (λ (n : ℕ). IsNewPass o table given n p) (let sum : k + 0 ≡ k = omega arith in sum) (each 0 p refl),
  next_from o table given (k + 1) passes
      (λ i q at. subst (λ (n : ℕ). IsNewPass o table given n q) (let sum : k + suc i ≡ k + 1 + i = omega arith in sum) (each (suc i) q at)),
)

pub new_next : (o : Origin) (table : TableId) (given : ℕ) (passes items : List Pass) → items ≡ passes → AreNewPasses o table given passes → AreNext o table given 0 items
new_next o table given passes items same are =
    subst (λ (ps : List Pass). AreNext o table given 0 ps) (sym same)
    (next_from o table given 0 passes (λ i p at. subst (λ (n : ℕ). IsNewPass o table given n p) (let sum : i ≡ 0 + i = omega arith in sum) (are.each i p at)))

pub new_back : (o : Origin) (table : TableId) (given k : ℕ) (p : Pass) → IsNewPass o table given k p → IsBack table o given p
new_back o table given k p is = record { of = is.of; origin = is.view.origin; gave = λ zero_is. is.root (sym is.number ∙ zero_is) }

pub new_unused : (o : Origin) (table : TableId) (given k : ℕ) (p : Pass) → IsNewPass o table given k p → IsUnused table o given p
new_unused o table given k p is = record { back = new_back o table given k p is; none = ap first_own is.view.owns }

pub new_origin : (o : Origin) (table : TableId) (given : ℕ) (passes : List Pass) → 1 ≤ given → AreNewPasses o table given passes → origin_in passes ≡ o
new_origin o table given [] least are = absurd (omega (arith, least, are.many))
new_origin o table given (p ∷ passes) least are = (are.each 0 p refl).view.origin

pub new_table : (o : Origin) (table : TableId) (given : ℕ) (passes : List Pass) → 1 ≤ given → AreNewPasses o table given passes → table_in_passes passes ≡ table
new_table o table given [] least are = absurd (omega (arith, least, are.many))
new_table o table given (p ∷ passes) least are = (are.each 0 p refl).of

-- The passes that are to come after one more.
pub next_rest : {A : Type 0} (o : Origin) (table : TableId) (given : ℕ) (xs : List A) (x : A) (p : Pass) (rest : List Pass)
    → AreNext o table given (length xs) (p ∷ rest) → AreNext o table given (length (xs ++ x ∷ [])) rest
next_rest o table given xs x p rest next = subst (λ (n : ℕ). AreNext o table given n rest) (sym (length-append xs (x ∷ []))) next.1

-- Numbers one after the other.
pub from_more : (n m : ℕ) (ms : List ℕ) → m ≡ n + length ms → AreFrom n ms → AreFrom n (ms ++ m ∷ [])
from_more n m [] is are = (let sum : m ≡ n + 0 = is in omega (arith, sum), tt)
from_more n m (x ∷ ms) is are = (are.0, from_more (n + 1) m ms (let sum : m ≡ n + suc (length ms) = is in omega (arith, sum)) are.1)

pub back_more : (table : TableId) (o : Origin) (given : ℕ) (passes : List Pass) (p : Pass) → AreEachBack table o given passes → IsBack table o given p
    → AreEachBack table o given (passes ++ p ∷ [])
back_more table o given [] p are is = (is, tt)
back_more table o given (q ∷ passes) p are is = (are.0, back_more table o given passes p are.1 is)

pub back_at : (table : TableId) (o : Origin) (given : ℕ) (passes : List Pass) (k : ℕ) (p : Pass) → AreEachBack table o given passes → get_elem? passes k ≡ some p → IsBack table o given p
back_at table o given [] k p are at = absurd (some-ne-none p (sym at))
back_at table o given (q ∷ passes) zero p are at = subst (λ (x : Pass). IsBack table o given x) (some-injective q p at) are.0
back_at table o given (q ∷ passes) (suc k) p are at = back_at table o given passes k p are.1 at

has_number : (passes : List Pass) (k n : ℕ) → AreFrom k (map (λ (p : Pass). p.number) passes) → k ≤ n → n < k + length passes → HasNumber passes n
has_number [] k n are above below = absurd (omega (arith, above, below))
has_number (p ∷ passes) k n are above below =
    elim (ℕ_discrete n k) [
      | yes here ↦ record { place = 0; pass = p; at = refl; number = are.0 ∙ sym here }
      | no other ↦
          let rest = has_number passes (k + 1) n are.1 (le_other k n above other) (let lt : n < k + suc (length passes) = below in omega (arith, lt)) in
          record { place = suc rest.place; pass = rest.pass; at = rest.at; number = rest.number }
    ]
  where
    le_other : (k n : ℕ) → k ≤ n → (n ≡ k → ⊥) → k + 1 ≤ n
    le_other k n above other = omega (arith, above, other)

-- All passes that a table gave came back.
pub all_back : (table : TableId) (o : Origin) (given : ℕ) (passes : List Pass) → 1 ≤ given → AreBack table o given passes → AreAllPasses table passes
all_back table o given passes least are = record {
  of = λ k p at. (back_at table o given passes k p are.each at).of;
  root = has_number passes 0 0 are.numbers (omega arith) (omega (arith, least, are.count));
  all = λ k p at zero_is n lt.
      has_number passes 0 n are.numbers (omega arith)
      (let gave : (view_of p).given ≡ given = (back_at table o given passes k p are.each at).gave zero_is in omega (arith, lt, gave, are.count));
}
