-- The Books of a Site after a call on one of them.
use Rattle.std.proofs.Common.{◌≡◌, ℕ, zero, suc, ◌+◌, ◌*◌, ◌^◌, ◌<◌, ◌≤◌, true, false, cond, List, [], ◌∷◌, length, Option, Some, None, get_or, refl, sym, ap, ◌∙◌, subst, inl, inr, arith}
use Rattle.std.specs.Prelude.{◌==◌, IfSome, slice_get, slice_index, slice_set, Err}
use Rattle.std.specs.List.{All, AllByRecursion as ByRecursion}
use Rattle.std.proofs.lemmas.Bool.{cases_Bool, eq-eqb, eqb-true}
use Rattle.std.proofs.lemmas.List.{length-set}
use Rattle.std.proofs.lemmas.List.Elements.{All-from_recursion, recursion_from_All}
use Rattle.std.proofs.lemmas.List.Sums.{sum_by-cons, sum_by-le, sum_by-set}
use Rattle.std.proofs.lemmas.Option.{get_or_from_slice_get, slice_get-get_or, slice_get_within}
use Rattle.std.proofs.Math.Seq.{map-set_same}
use Rattle.lb_model.specs.Choice.{IsPick}
use Rattle.lb_model.specs.Free.{is_in}
use Rattle.lb_model.specs.Journal.{is_maintain, maintained_of, members, moment_of}
use Rattle.lb_model.specs.Legal.{IsNext}
use Rattle.lb_model.specs.Tickets.{out}
use Rattle.lb_model.specs.declared.ask.Ask.{Ask}
use Rattle.lb_model.specs.declared.change.Command.{Command}
use Rattle.lb_model.specs.declared.journal.Answer.{Answer}
use Rattle.lb_model.specs.declared.journal.Answer.TheVariants as answer
use Rattle.lb_model.specs.declared.journal.Call.{Call}
use Rattle.lb_model.specs.declared.journal.Call.TheVariants as call
use Rattle.lb_model.specs.declared.journal.Entry.{Entry}
use Rattle.lb_model.specs.declared.opening.Opening.{Opening}
use Rattle.lb_model.specs.declared.refusal.AdminError.{AdminError}
use Rattle.lb_model.specs.declared.refusal.AdminError.TheVariants as admin
use Rattle.lb_model.specs.declared.refusal.FullMark.{FullMark}
use Rattle.lb_model.specs.declared.refusal.RoomError.{RoomError}
use Rattle.lb_model.specs.declared.refusal.RoomError.TheVariants as room
use Rattle.lb_model.proofs.ChoiceFacts.{chosen_roomy}
use Rattle.lb_model.proofs.OutFacts.{chosen_member, legal_room}
use Rattle.lb_book.specs.Commanded.{IsCommanded}
use Rattle.lb_book.specs.Due.{IsMaintenance}
use Rattle.lb_book.specs.Ending.{IsCut}
use Rattle.lb_book.specs.Journal.{AddsEntry, IsFullUnless, IsSound, Journal, next_number, past_of, tickets_out}
use Rattle.lb_book.specs.PlainDesks.{AreLegal, AreModern}
use Rattle.lb_book.specs.Leases.{IsLeaseOf}
use Rattle.lb_book.specs.declared.book.Lease.{Lease}
use Rattle.lb_book.specs.ToldBooks.{IsNoneDue, sizes_of}
use Rattle.lb_book.proofs.PlainLaws.{legal-hold, modern-hold, size-at}
use Rattle.lb_book.proofs.ToldLaws.{get-set, get-set_other, some_is}
use Rattle.lb_shared.specs.Notes.{lease_at, lease_of, marked_admin, marked_room}
use Rattle.lb_shared.specs.SiteAnswers.{IsCommandedAt, IsMaintenanceAt, IsRoomAt}
use Rattle.lb_shared.specs.Sites.{AddsAt, AreNumbered, AreSited, At, added_in, nexts_of}

pub differs : (i j : ℕ) → (i == j) ≡ false → i ≡ j → ⊥
differs i j other same = let this : (i == j) ≡ true = eq-eqb i j same in absurd cc

-- The sum after a Book added k entries.
pub added-hold : (books : List Journal) (lb : ℕ) (old new : Journal) (k : ℕ) → slice_get books lb ≡ Some old → new.added ≡ old.added + k
    → added_in (slice_set books lb new) ≡ added_in books + k
added-hold books lb old new k here more =
    let within : lb < length books = slice_get_within books lb old here in
    let at : (get_or books lb old).added ≡ old.added = ap (λ (b : Journal). b.added) (get_or_from_slice_get books lb old old here) in
    let step : added_in (slice_set books lb new) + (get_or books lb old).added ≡ added_in books + new.added =
    sum_by-set (λ (b : Journal). b.added) books lb new old within in
    omega arith

-- The Books of a Site stay those of its name.
numbered-hold : (firsts : List ℕ) (books : List Journal) (lb : ℕ) (old new : Journal) (k : ℕ) → AreNumbered firsts books → slice_get books lb ≡ Some old
    → next_number new ≡ next_number old + k → new.added ≡ old.added + k → AreNumbered firsts (slice_set books lb new)
numbered-hold firsts books lb old new k numbered here next more i b found =
    elim (cases_Bool (lb == i)) [
      | inl this ↦
          let same : lb ≡ i = eqb-true lb i this in
          let there : slice_get (slice_set books lb new) i ≡ Some new =
          subst (λ (j : ℕ). slice_get (slice_set books lb new) j ≡ Some new) same (get-set books lb new (slice_get_within books lb old here)) in
          let is : new ≡ b = some_is new b (sym there ∙ found) in
          let before : next_number old ≡ slice_index firsts lb + old.added = numbered lb old here in
          let now : next_number new ≡ slice_index firsts lb + new.added = omega arith in
          subst (λ (x : Journal). next_number x ≡ slice_index firsts i + x.added) is
          (subst (λ (j : ℕ). next_number new ≡ slice_index firsts j + new.added) same now)
      | inr other ↦ numbered i b (sym (get-set_other books lb i new (differs lb i other)) ∙ found)
    ]

pub sited-hold : (sizes firsts : List ℕ) (books : List Journal) (lb : ℕ) (old new : Journal) (k : ℕ) → AreSited sizes firsts books → slice_get books lb ≡ Some old
    → members new.opening ≡ members old.opening → new.rules ≡ old.rules → IsSound new → next_number new ≡ next_number old + k → new.added ≡ old.added + k
    → AreSited sizes firsts (slice_set books lb new)
sited-hold sizes firsts books lb old new k are here same rules sound next more = record {
  sized = map-set_same (λ (b : Journal). members b.opening) books lb new old
      (same ∙ sym (ap (λ (b : Journal). members b.opening) (get_or_from_slice_get books lb old old here))) ∙ are.sized;
  numbered = numbered-hold firsts books lb old new k are.numbered here next more;
  modern = modern-hold books lb old new are.modern here rules;
  sound = legal-hold books lb old new are.sound here sound;
  few = let same_length : length (slice_set books lb new) ≡ length books = length-set books lb new in
      let before : length books ≤ 1024 = are.few in omega arith;
}

-- A fact of each place of a list.
by_places : {A : Type 0} (P : A → Type 0) (xs : List A) → ((i : ℕ) (x : A) → slice_get xs i ≡ Some x → P x) → ByRecursion P xs
by_places P [] at = tt
by_places P (x ∷ xs) at = (at zero x refl, by_places P xs (λ i y found. at (suc i) y found))

-- The entries of all Books are few.
added_one : (sizes firsts : List ℕ) (books : List Journal) → AreSited sizes firsts books → (lb : ℕ) (b : Journal) → slice_get books lb ≡ Some b → b.added ≤ 2 ^ 48
added_one sizes firsts books are lb b here =
    let number : next_number b ≡ slice_index firsts lb + b.added = are.numbered lb b here in
    let room : next_number b + length (out b.opening (past_of b)) ≤ 2 ^ 48 = legal_room b.rules b.opening (past_of b) (are.sound lb b here) in
    omega arith

added_below : (sizes firsts : List ℕ) (books : List Journal) → AreSited sizes firsts books → All (λ b. b.added ≤ 2 ^ 48) books
added_below sizes firsts books are =
    All-from_recursion (λ (b : Journal). b.added ≤ 2 ^ 48) books
    (by_places (λ (b : Journal). b.added ≤ 2 ^ 48) books (added_one sizes firsts books are))

pub added-few : (sizes firsts : List ℕ) (books : List Journal) → AreSited sizes firsts books → added_in books ≤ 2 ^ 58
added-few sizes firsts books are =
    let each : added_in books ≤ length books * 2 ^ 48 = sum_by-le (λ (b : Journal). b.added) (2 ^ 48) books (added_below sizes firsts books are) in
    let few : length books ≤ 1024 = are.few in
    omega arith

-- The Book at a place that was read.
pub here_at : (books shown : List Journal) (lb : ℕ) (b : Journal) → books ≡ shown → lb < length shown → b ≡ get_or books lb b → slice_get books lb ≡ Some b
here_at books shown lb b same within is =
    let below : lb < length books = subst (λ (xs : List Journal). lb < length xs) (sym same) within in
    slice_get-get_or books lb b below ∙ ap (λ (x : Journal). Some x) (sym is)

-- A fact of the Book that was put at a place.
pub at_put : (P : Journal → Type 0) (books : List Journal) (lb : ℕ) (old new : Journal) → slice_get books lb ≡ Some old → P new → At (slice_set books lb new) lb P
at_put P books lb old new here is b found = subst P (some_is new b (sym (get-set books lb new (slice_get_within books lb old here)) ∙ found)) is

pub at_here : (P : Journal → Type 0) (books shown : List Journal) (lb : ℕ) (old : Journal) → books ≡ shown → slice_get books lb ≡ Some old → P old → At shown lb P
at_here P books shown lb old same here is b found =
    subst P (some_is old b (sym here ∙ ap (λ (xs : List Journal). slice_get xs lb) same ∙ found)) is

-- A call on the Book at a place.
pub adds_at : (books : List Journal) (lb : ℕ) (old new : Journal) (session at : ℕ) (c : Call) (e : Entry) → slice_get books lb ≡ Some old → AddsEntry old new session at c e
    → IsNext old.rules old.opening (past_of old) e → AddsAt books (slice_set books lb new) lb session at c (record { lb = lb; given = at; entry = e })
adds_at books lb old new session at c e here adds next = record {
  book = old;
  found = here;
  own = record { balancer = refl; given = refl; caller = adds.caller };
  called = adds.asked;
  next = record { next = next; moment = adds.moment };
  grown = ap (λ (b : Journal). slice_set books lb b) adds.grown;
}

next-added : (old new : Journal) (session at : ℕ) (c : Call) (e : Entry) → AddsEntry old new session at c e → next_number new ≡ next_number old + 1
next-added old new session at c e adds =
    let opening : new.opening ≡ old.opening = ap (λ (b : Journal). b.opening) adds.grown in
    let first : new.opening.next ≡ old.opening.next = ap (λ (o : Opening). o.next) opening in
    let past : length (past_of new) ≡ suc (length (past_of old)) = ap (λ (p : List Entry). length p) adds.newest in
    omega arith

pub kept_added : (sizes firsts : List ℕ) (books : List Journal) (lb : ℕ) (old new : Journal) (session at : ℕ) (c : Call) (e : Entry) (total total' : ℕ)
    → (total ≡ added_in books) × AreSited sizes firsts books → slice_get books lb ≡ Some old → AddsEntry old new session at c e → IsSound new → total' ≡ total + 1
    → (total' ≡ added_in (slice_set books lb new)) × AreSited sizes firsts (slice_set books lb new)
kept_added sizes firsts books lb old new session at c e total total' is here adds sound counted =
    let more : new.added ≡ old.added + 1 = ap (λ (b : Journal). b.added) adds.grown in
    let sum : added_in (slice_set books lb new) ≡ added_in books + 1 = added-hold books lb old new 1 here more in
    let same : members new.opening ≡ members old.opening = ap (λ (b : Journal). members b.opening) adds.grown in
    let rules : new.rules ≡ old.rules = ap (λ (b : Journal). b.rules) adds.grown in (
      (let before : total ≡ added_in books = is.0 in omega arith),
      sited-hold sizes firsts books lb old new 1 is.1 here same rules sound (next-added old new session at c e adds) more,
    )

-- A journal that was cut.
pub kept_cut : (sizes firsts : List ℕ) (books : List Journal) (lb : ℕ) (old new : Journal) (total : ℕ)
    → (total ≡ added_in books) × AreSited sizes firsts books → slice_get books lb ≡ Some old → IsCut old new → IsSound new
    → (total ≡ added_in (slice_set books lb new)) × AreSited sizes firsts (slice_set books lb new)
kept_cut sizes firsts books lb old new total is here cut sound =
    let more : new.added ≡ old.added + 0 = let same : new.added ≡ old.added = cut.added in omega arith in
    let next : next_number new ≡ next_number old + 0 = let same : next_number new ≡ next_number old = cut.next in omega arith in
    let sum : added_in (slice_set books lb new) ≡ added_in books + 0 = added-hold books lb old new 0 here more in (
      (let before : total ≡ added_in books = is.0 in omega arith),
      sited-hold sizes firsts books lb old new 0 is.1 here cut.ending.count cut.rules sound next more,
    )

-- A chosen member is one of the balancer's, and wasn't tried.
pub chosen_known : (sizes firsts : List ℕ) (books : List Journal) (lb : ℕ) (old new : Journal) (session at : ℕ) (ask : Ask) (e : Entry) (a : Answer) → e.answer ≡ a
    → AreSited sizes firsts books → slice_get books lb ≡ Some old → AddsEntry old new session at (call.Select ask) e → IsNext old.rules old.opening (past_of old) e
    → IsPick old.rules old.opening (past_of old) ask a
    → IfSome (lease_of lb a) (λ lease. (lease.member < slice_index sizes lb) × (is_in ask.tried lease.member ≡ false))
chosen_known sizes firsts books lb old new session at ask e (answer.Chosen m t how probe) is are here adds next pick =
    let within : m < members old.opening =
    chosen_member old.rules old.opening (past_of old) e m t how probe (next, are.sound lb old here) is in
    let size : slice_index sizes lb ≡ members old.opening =
    ap (λ (ns : List ℕ). slice_index ns lb) (sym are.sized) ∙ size-at books lb old here in (
      subst (λ (n : ℕ). m < n) (sym size) within,
      (chosen_roomy old.rules old.opening (past_of old) ask how m pick.0).untried,
    )
chosen_known sizes firsts books lb old new session at ask e answer.NoMember is are here adds next pick = tt
chosen_known sizes firsts books lb old new session at ask e answer.Forced is are here adds next pick = tt
chosen_known sizes firsts books lb old new session at ask e answer.Done is are here adds next pick = tt

-- The refusals of a Book, told of its balancer.
pub room_told : (lb more : ℕ) (b : Journal) (e : RoomError FullMark) → IsFullUnless {T = ℕ} (next_number b) (tickets_out b) more (Err e)
    → IsRoomAt {T = ℕ} lb more b (Err (marked_room lb e))
room_told lb more b (room.Full mark) is = (is.0, record { of = refl; refusal = refl; next = is.1.0; out = is.1.1 })
room_told lb more b room.NoMemory is = is

pub due_told : (lb : ℕ) (b : Journal) (at : ℕ) (e : RoomError FullMark) → IsMaintenance b at (Err e) → IsMaintenanceAt {T = ℕ} lb b at (Err (marked_room lb e))
due_told lb b at (room.Full mark) is = (is.0, (is.1, record { of = refl; refusal = refl; next = is.2.0; out = is.2.1 }))
due_told lb b at room.NoMemory is = is

pub command_told : (lb : ℕ) (b : Journal) (c : Command) (e : AdminError FullMark) → IsCommanded b c (Err e) → IsCommandedAt {T = ℕ} lb b c (Err (marked_admin lb e))
command_told lb b c admin.UnknownMember is = is
command_told lb b c admin.BadValue is = is
command_told lb b c (admin.TooWide mark) is = (is.0, is.1, is.2, record { of = refl; refusal = refl; next = is.3.0; out = is.3.1 })
command_told lb b c (admin.Full mark) is = (is.0, (is.1, record { of = refl; refusal = refl; next = is.2.0; out = is.2.1 }))
command_told lb b c admin.NoMemory is = is

-- The lease of a Book's answer, told of its balancer.
pub lease_told : (lb : ℕ) (a : Answer) (lease : Option Lease) → IsLeaseOf a lease → lease_at lb lease ≡ lease_of lb a
lease_told lb (answer.Chosen m t how probe) (Some lease) is =
    ap (λ (n : ℕ). Some (record { lb = lb; member = n; ticket = lease.ticket })) is.0
    ∙ ap (λ (n : ℕ). Some (record { lb = lb; member = m; ticket = n })) is.1
lease_told lb (answer.Chosen m t how probe) None is = absurd is
lease_told lb answer.NoMember (Some lease) is = absurd is
lease_told lb answer.NoMember None is = refl
lease_told lb answer.Forced (Some lease) is = absurd is
lease_told lb answer.Forced None is = refl
lease_told lb answer.Done (Some lease) is = absurd is
lease_told lb answer.Done None is = refl

-- After a Maintain none is due for a call at that moment.
pub after_maintain : (old new : Journal) (session at : ℕ) (e : Entry) → AddsEntry old new session at call.Maintain e → IsNoneDue new at
after_maintain old new session at e adds =
    let opening : new.opening ≡ old.opening = ap (λ (b : Journal). b.opening) adds.grown in
    let period : new.opening.config.maintain ≡ old.opening.config.maintain = ap (λ (o : Opening). o.config.maintain) opening in
    let moment : moment_of new.opening (past_of new) ≡ e.at = ap (λ (p : List Entry). moment_of new.opening p) adds.newest in
    let due : maintained_of new.opening (past_of new) ≡ e.at =
    ap (λ (p : List Entry). maintained_of new.opening p) adds.newest ∙ ap (λ (c : Call). cond (is_maintain c) e.at (maintained_of new.opening (past_of old))) adds.asked in
    let above : 1 ≤ new.opening.config.maintain = new.opening.config.maintains.above in
    omega (arith, adds.moment)

-- Books that have added nothing.
fresh_sum : (books : List Journal) → ByRecursion (λ b. b.added ≡ 0) books → added_in books ≡ 0
fresh_sum [] none = refl
fresh_sum (b ∷ books) none =
    let rest : added_in books ≡ 0 = fresh_sum books none.1 in
    let first : b.added ≡ 0 = none.0 in
    let sum : added_in (b ∷ books) ≡ b.added + added_in books = sum_by-cons (λ (x : Journal). x.added) b books in
    omega arith

fresh_at : (books : List Journal) (lb : ℕ) (b : Journal) → ByRecursion (λ b. b.added ≡ 0) books → slice_get books lb ≡ Some b → b.added ≡ 0
fresh_at [] lb b none found = absurd cc
fresh_at (x ∷ books) zero b none found = subst (λ (y : Journal). y.added ≡ 0) (some_is x b found) none.0
fresh_at (x ∷ books) (suc lb) b none found = fresh_at books lb b none.1 found

next-at : (books : List Journal) (lb : ℕ) (b : Journal) → slice_get books lb ≡ Some b → slice_index (nexts_of books) lb ≡ next_number b
next-at [] lb b found = absurd cc
next-at (x ∷ books) zero b found = ap (λ (y : Journal). next_number y) (some_is x b found)
next-at (x ∷ books) (suc lb) b found = next-at books lb b found

pub opened : (sizes firsts : List ℕ) (books : List Journal) (total : ℕ) → total ≡ 0 → sizes_of books ≡ sizes → nexts_of books ≡ firsts → length books ≤ 1024
    → AreModern books → All (λ b. b.added ≡ 0) books → AreLegal books → (total ≡ added_in books) × AreSited sizes firsts books
opened sizes firsts books total none sized next few modern fresh sound =
    let each : ByRecursion (λ (b : Journal). b.added ≡ 0) books = recursion_from_All (λ (b : Journal). b.added ≡ 0) books fresh in (
      none ∙ sym (fresh_sum books each),
      record {
        sized = sized;
        numbered = λ lb b found.
            let first : slice_index firsts lb ≡ next_number b = ap (λ (ns : List ℕ). slice_index ns lb) (sym next) ∙ next-at books lb b found in
            let zero_added : b.added ≡ 0 = fresh_at books lb b each found in
            omega arith;
        modern = modern;
        sound = sound;
        few = few;
      },
    )
