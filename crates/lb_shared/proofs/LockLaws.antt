-- How long the journals behind the lock may grow.
use Rattle.std.proofs.Common.{◌≡◌, ℕ, zero, suc, ◌+◌, ◌<◌, ◌≤◌, true, List, [], ◌∷◌, ◌++◌, length, map, Option, Some, None, refl, sym, ap, ◌∙◌, subst, inl, inr, arith}
use Rattle.std.specs.Prelude.{◌==◌, ◌↔◌, IfErr, IfOk, IsErr, IsOk, IsSome, OnErr, OnOk, Result, Ok, Err, slice_get, slice_index, slice_set}
use Rattle.std.proofs.lemmas.Bool.{cases_Bool, eqb-true}
use Rattle.std.proofs.lemmas.List.{length-append, length-map}
use Rattle.std.proofs.lemmas.Option.{slice_get_within}
use Rattle.lb_model.specs.Journal.{members}
use Rattle.lb_model.specs.Legal.{IsAnswered, IsNext}
use Rattle.lb_model.specs.Present.{IsPresent}
use Rattle.lb_model.specs.Tickets.{is_out, out, ticket_in}
use Rattle.lb_model.specs.declared.ask.Ask.{Ask}
use Rattle.lb_model.specs.declared.change.Command.{Command}
use Rattle.lb_model.specs.declared.journal.Answer.{Answer}
use Rattle.lb_model.specs.declared.journal.Answer.TheVariants as answer
use Rattle.lb_model.specs.declared.journal.Call.{Call}
use Rattle.lb_model.specs.declared.journal.Call.TheVariants as call
use Rattle.lb_model.specs.declared.journal.Entry.{Entry}
use Rattle.lb_model.specs.declared.journal.Outcome.{Outcome}
use Rattle.lb_model.specs.declared.refusal.AdminError.{AdminError}
use Rattle.lb_model.specs.declared.refusal.RoomError.{RoomError}
use Rattle.lb_model.specs.declared.segment.Segment.{Segment}
use Rattle.lb_model.specs.declared.view.View.{View}
use Rattle.lb_model.proofs.OutFacts.{length-returned}
use Rattle.lb_book.specs.Desks.{IsDue, IsNotOut, LeaseNote}
use Rattle.lb_rules.specs.Returns.{IsReturnedAt}
use Rattle.lb_book.specs.Journal.{IsSound, Journal, next_number, past_of, tickets_out}
use Rattle.lb_book.specs.PlainDesks.{AreLegal}
use Rattle.lb_book.specs.ToldBooks.{IsFound, grown_by, sizes_of}
use Rattle.lb_book.specs.declared.desk.Choice.{Choice}
use Rattle.lb_book.specs.declared.receipt.Receipt.{Receipt}
use Rattle.lb_book.proofs.PlainLaws.{size-at}
use Rattle.lb_book.proofs.ToldLaws.{at_place, get-set, get-set_other, past-one, some_is}
use Rattle.lb_shared.specs.Holds.{AreShort, CutsFirst, HeldState, HoldChooses, HoldCommands, HoldDenies, HoldGains, HoldGainsLast, HoldRefuses, cut_in, held, pools_of}
use Rattle.lb_shared.specs.Notes.{MarkNote, StrayNote}
use Rattle.lb_shared.specs.SharedDesks.{CutsOrWants, CutsWhen}
use Rattle.lb_shared.specs.Shelves.{CutsAt}
use Rattle.lb_shared.specs.Sites.{AddsAt, AreSited, At, added_in}
use Rattle.lb_shared.proofs.HoldLaws.{sited_found}
use Rattle.lb_shared.proofs.PoolLaws.{out-pools}
use Rattle.lb_shared.proofs.SiteLaws.{differs}

-- A Book of which one is short.
abbrev pub IsShortBook : (cut_at : ℕ) → Journal → Type 0
IsShortBook cut_at b = length b.entries + tickets_out b ≤ cut_at + 1 + pools_of b

pub short-hold : (cut_at : ℕ) (books : List Journal) (lb : ℕ) (old new : Journal) → AreShort cut_at books → slice_get books lb ≡ Some old
    → (0 < cut_at → IsShortBook cut_at new) → AreShort cut_at (slice_set books lb new)
short-hold cut_at books lb old new short here is = λ cuts i b found.
    elim (cases_Bool (lb == i)) [
      | inl this ↦
          let there : slice_get (slice_set books lb new) i ≡ Some new =
          subst (λ (j : ℕ). slice_get (slice_set books lb new) j ≡ Some new) (eqb-true lb i this) (get-set books lb new (slice_get_within books lb old here)) in
          subst (λ (x : Journal). IsShortBook cut_at x) (some_is new b (sym there ∙ found)) (is cuts)
      | inr other ↦ short cuts i b (sym (get-set_other books lb i new (differs lb i other)) ∙ found)
    ]

-- A Book that was shorter than where it is cut, after at most two entries.
pub short-grown : (cut_at : ℕ) (b : Journal) (gained : List Receipt) → length b.entries < cut_at → length gained ≤ 2 → IsSound (grown_by b gained)
    → IsShortBook cut_at (grown_by b gained)
short-grown cut_at b gained short few sound =
    let out : tickets_out (grown_by b gained) ≤ pools_of (grown_by b gained) = out-pools (grown_by b gained) sound in
    let all : length (b.entries ++ map (λ (r : Receipt). r.entry) gained) ≡ length b.entries + length (map (λ (r : Receipt). r.entry) gained) =
    length-append b.entries (map (λ (r : Receipt). r.entry) gained) in
    let each : length (map (λ (r : Receipt). r.entry) gained) ≡ length gained = length-map gained (λ (r : Receipt). r.entry) in
    omega arith

-- A Book without kept entries.
pub short-empty : (cut_at : ℕ) (b : Journal) → b.entries ≡ [] → IsSound b → IsShortBook cut_at b
short-empty cut_at b empty sound =
    let out : tickets_out b ≤ pools_of b = out-pools b sound in
    let none : length b.entries ≡ 0 = ap (λ (h : List Entry). length h) empty in
    omega arith

-- A Return adds an entry and takes a ticket in.
pub returned : (b : Journal) (e : Entry) (t : ℕ) (outcome : Outcome) → IsNext b.rules b.opening (past_of b) e → e.call ≡ call.Return t outcome
    → (is_out b.opening (past_of b) t ≡ true) × (e.answer ≡ answer.Done)
returned b e t outcome next calls =
    let is : IsAnswered b.rules b.opening (past_of b) e (call.Return t outcome) =
    subst (λ (c : Call). IsAnswered b.rules b.opening (past_of b) e c) calls next.answered in
    (is.0, is.2)

pub short-returned : (cut_at : ℕ) (b : Journal) (r : Receipt) (t : ℕ) (outcome : Outcome) → IsSound b → IsNext b.rules b.opening (past_of b) r.entry
    → r.entry.call ≡ call.Return t outcome → IsShortBook cut_at b → IsShortBook cut_at (grown_by b (r ∷ []))
short-returned cut_at b r t outcome sound next calls short =
    let is : (is_out b.opening (past_of b) t ≡ true) × (r.entry.answer ≡ answer.Done) = returned b r.entry t outcome next calls in
    let less : length (out b.opening (past_of b)) ≡ 1 + length (out b.opening (r.entry ∷ past_of b)) =
    length-returned b.rules b.opening (past_of b) r.entry t outcome sound (ap (λ (a : Answer). ticket_in r.entry.seq a) is.1) calls is.0 in
    let now : tickets_out (grown_by b (r ∷ [])) ≡ length (out b.opening (r.entry ∷ past_of b)) =
    ap (λ (p : List Entry). length (out b.opening p)) (past-one b r) in
    let all : length (b.entries ++ r.entry ∷ []) ≡ length b.entries + 1 = length-append b.entries (r.entry ∷ []) in
    omega arith

-- A place of the sizes is one of the Books.
pub sited_within : (sizes firsts : List ℕ) (books : List Journal) (lb : ℕ) → AreSited sizes firsts books → lb < length sizes → lb < length books
sited_within sizes firsts books lb are within =
    let counted : length (sizes_of books) ≡ length sizes = ap (λ (ns : List ℕ). length ns) are.sized in
    let each : length (sizes_of books) ≡ length books = length-map books (λ (b : Journal). members b.opening) in
    omega arith

-- A journal that was cut is short.
pub after_cut : (books books' : List Journal) (lb : ℕ) (cut : ℕ × Segment) (is : CutsAt books books' lb cut) → slice_get books' lb ≡ Some is.after
after_cut books books' lb cut is =
    ap (λ (xs : List Journal). slice_get xs lb) is.others ∙ get-set books lb is.after (slice_get_within books lb is.book is.found)

pub short_cut : (cut_at : ℕ) (books books' : List Journal) (lb : ℕ) (cut : ℕ × Segment) → AreShort cut_at books → CutsAt books books' lb cut → At books' lb (λ b. IsSound b)
    → AreShort cut_at books'
short_cut cut_at books books' lb cut short is sound =
    subst (λ (xs : List Journal). AreShort cut_at xs) (sym is.others)
    (short-hold cut_at books lb is.book is.after short is.found
    (λ cuts. short-empty cut_at is.after is.is_cut.empty (sound is.after (after_cut books books' lb cut is))))

pub empty_cut : (cut_at : ℕ) (books books' : List Journal) (lb : ℕ) (cut : ℕ × Segment) → CutsAt books books' lb cut → 0 < cut_at → At books' lb (λ b. length b.entries < cut_at)
empty_cut cut_at books books' lb cut is cuts b found =
    let same : is.after ≡ b = some_is is.after b (sym (after_cut books books' lb cut is) ∙ found) in
    let none : length is.after.entries ≡ 0 = ap (λ (h : List Entry). length h) is.is_cut.empty in
    subst (λ (x : Journal). length x.entries < cut_at) same (omega arith)

-- A hold of a Book that was shorter than where it is cut.
due_length : (due : List Receipt) → IsDue due → length due ≤ 1
due_length [] is = omega arith
due_length (r ∷ []) is = omega arith
due_length (r ∷ s ∷ rest) is = absurd is

pub short_gains : (cut_at : ℕ) (old new : HeldState) (lb session at : ℕ) (gained : List Receipt) → AreShort cut_at old.books
    → (0 < cut_at → At old.books lb (λ b. length b.entries < cut_at)) → HoldGains old new lb session at gained → length gained ≤ 2 → AreLegal new.books → AreShort cut_at new.books
short_gains cut_at old new lb session at gained short shorter gains few legal =
    let there : slice_get new.books lb ≡ Some (grown_by gains.book gained) =
    ap (λ (xs : List Journal). slice_get xs lb) gains.grown ∙ get-set old.books lb (grown_by gains.book gained) (slice_get_within old.books lb gains.book gains.found) in
    subst (λ (xs : List Journal). AreShort cut_at xs) (sym gains.grown)
    (short-hold cut_at old.books lb gains.book (grown_by gains.book gained) short gains.found
    (λ cuts. short-grown cut_at gains.book gained (shorter cuts gains.book gains.found) few (legal lb (grown_by gains.book gained) there)))

short_last : (cut_at : ℕ) (old new : HeldState) (lb session at : ℕ) (last : Receipt) → AreShort cut_at old.books
    → (0 < cut_at → At old.books lb (λ b. length b.entries < cut_at)) → HoldGainsLast old new lb session at last → AreLegal new.books → AreShort cut_at new.books
short_last cut_at old new lb session at last short shorter gains legal =
    let one : length gains.due ≤ 1 = due_length gains.due gains.is_due in
    let all : length (gains.due ++ last ∷ []) ≡ length gains.due + 1 = length-append gains.due (last ∷ []) in
    short_gains cut_at old new lb session at (gains.due ++ last ∷ []) short shorter gains.gains (omega arith) legal

short_due : (cut_at : ℕ) (old new : HeldState) (lb session at : ℕ) (due : List Receipt) → AreShort cut_at old.books
    → (0 < cut_at → At old.books lb (λ b. length b.entries < cut_at)) → IsDue due → HoldGains old new lb session at due → AreLegal new.books → AreShort cut_at new.books
short_due cut_at old new lb session at due short shorter is gains legal =
    let one : length due ≤ 1 = due_length due is in
    short_gains cut_at old new lb session at due short shorter gains (omega arith) legal

pub short_choose : (sizes : List ℕ) (cut_at : ℕ) (old new : HeldState) (lb session at : ℕ) (ask : Ask) (r : Result (Choice LeaseNote) (RoomError MarkNote))
    → AreShort cut_at old.books → (0 < cut_at → At old.books lb (λ b. length b.entries < cut_at)) → IfOk r (λ c. HoldChooses sizes old new lb session at ask c)
    → IfErr r (λ e. HoldDenies old new lb session at e) → AreLegal new.books → AreShort cut_at new.books
short_choose sizes cut_at old new lb session at ask (Ok c) short shorter ok err legal = short_last cut_at old new lb session at ok.last short shorter ok.gains legal
short_choose sizes cut_at old new lb session at ask (Err e) short shorter ok err legal = short_due cut_at old new lb session at err.due short shorter err.is_due err.gains legal

pub short_command : {T : Type 0} (sizes : List ℕ) (cut_at : ℕ) (old new : HeldState) (lb session at : ℕ) (command : Command) (r : Result T (AdminError MarkNote))
    → AreShort cut_at old.books → (0 < cut_at → At old.books lb (λ b. length b.entries < cut_at)) → OnOk r (HoldCommands sizes old new lb session at command)
    → IfErr r (λ e. HoldRefuses old new lb session at command e) → AreLegal new.books → AreShort cut_at new.books
short_command sizes cut_at old new lb session at command (Ok x) short shorter ok err legal = short_last cut_at old new lb session at ok.last short shorter ok.gains legal
short_command sizes cut_at old new lb session at command (Err e) short shorter ok err legal = short_due cut_at old new lb session at err.due short shorter err.is_due err.gains legal

-- A Return.
pub short_back : {E : Type 0} (cut_at : ℕ) (books books' : List Journal) (lb session at t : ℕ) (outcome : Outcome) (r : Result Receipt E) → AreShort cut_at books
    → IfOk r (λ x. AddsAt books books' lb session at (call.Return t outcome) x) → OnErr r (books' ≡ books) → AreLegal books → AreShort cut_at books'
short_back cut_at books books' lb session at t outcome (Ok x) short ok err legal =
    subst (λ (xs : List Journal). AreShort cut_at xs) (sym ok.grown)
    (short-hold cut_at books lb ok.book (grown_by ok.book (x ∷ [])) short ok.found
    (λ cuts. short-returned cut_at ok.book x t outcome (legal lb ok.book ok.found) ok.next.next ok.called (short cuts lb ok.book ok.found)))
short_back cut_at books books' lb session at t outcome (Err e) short ok err legal = subst (λ (xs : List Journal). AreShort cut_at xs) (sym err) short

-- A Site whose Books keep nothing.
pub short_new : (cut_at : ℕ) (books : List Journal) → AreLegal books → (0 < cut_at → (lb : ℕ) → At books lb (λ b. b.entries ≡ [])) → AreShort cut_at books
short_new cut_at books legal empty = λ cuts lb b found. short-empty cut_at b (empty cuts lb b found) (legal lb b found)

-- The rows of a view.
pub look_rows : (sizes firsts : List ℕ) (books : List Journal) (lb : ℕ) (v : View) → AreSited sizes firsts books → lb < length books
    → At books lb (λ b. IsPresent b.rules b.opening (past_of b) v) → length v.rows ≡ slice_index sizes lb
look_rows sizes firsts books lb v are within present =
    let here : (b : Journal) × (slice_get books lb ≡ Some b) = at_place books lb within in
    (present here.0 here.1).rows.count ∙ sym (ap (λ (ns : List ℕ). slice_index ns lb) (sym are.sized) ∙ size-at books lb here.0 here.1)

only_added : (books : List Journal) (lb : ℕ) (b : Journal) → length books ≡ 1 → slice_get books lb ≡ Some b → added_in books ≡ b.added
only_added [] lb b one found = absurd (omega arith)
only_added (x ∷ []) zero b one found = let same : x.added ≡ b.added = ap (λ (y : Journal). y.added) (some_is x b found) in omega arith
only_added (x ∷ []) (suc lb) b one found = absurd cc
only_added (x ∷ y ∷ books) lb b one found = absurd (omega arith)

pub look_next : (sizes firsts : List ℕ) (books : List Journal) (lb amount : ℕ) (v : View) → AreSited sizes firsts books → lb < length books → amount ≤ added_in books
    → At books lb (λ b. IsPresent b.rules b.opening (past_of b) v) → length sizes ≡ 1 → slice_index firsts lb + amount ≤ v.next
look_next sizes firsts books lb amount v are within most present one =
    let here : (b : Journal) × (slice_get books lb ≡ Some b) = at_place books lb within in
    let counted : length (sizes_of books) ≡ length sizes = ap (λ (ns : List ℕ). length ns) are.sized in
    let each : length (sizes_of books) ≡ length books = length-map books (λ (b : Journal). members b.opening) in
    let all : added_in books ≡ here.0.added = only_added books lb here.0 (omega arith) here.1 in
    let number : next_number here.0 ≡ slice_index firsts lb + here.0.added = are.numbered lb here.0 here.1 in
    let next : v.next ≡ next_number here.0 = (present here.0 here.1).next in
    omega arith

pub if_ok : {T E : Type 0} (r : Result T E) (P Q : T → Type 0) → ((x : T) → P x → Q x) → IfOk r P → IfOk r Q
if_ok (Ok x) P Q then is = then x is
if_ok (Err e) P Q then is = tt

pub both_ok : {T E : Type 0} (r : Result T E) (P Q R : T → Type 0) → ((x : T) → P x → Q x → R x) → IfOk r P → IfOk r Q → IfOk r R
both_ok (Ok x) P Q R then p q = then x p q
both_ok (Err e) P Q R then p q = tt

-- When a hold cut.
pub cuts_when : (sizes firsts : List ℕ) (cut_at lb : ℕ) (books books' : List Journal) (cut : Option (ℕ × Segment)) → AreSited sizes firsts books → lb < length books
    → CutsFirst books books' lb cut → At books lb (λ b. IsSome cut ↔ ((0 < cut_at) × (cut_at ≤ length b.entries))) → CutsWhen sizes cut_at lb cut
cuts_when sizes firsts cut_at lb books books' None are within cuts when =
    let here : (b : Journal) × (slice_get books lb ≡ Some b) = at_place books lb within in
    record {
      before = here.0;
      found = sited_found sizes firsts books lb here.0 are here.1;
      when = when here.0 here.1;
      whole = tt;
      legal = tt;
    }
cuts_when sizes firsts cut_at lb books books' (Some cut) are within cuts when = record {
  before = cuts.book;
  found = sited_found sizes firsts books lb cuts.book are cuts.found;
  when = when cuts.book cuts.found;
  whole = cuts.whole;
  legal = cuts.legal;
}

pub cuts_or_wants : {E : Type 0} (sizes firsts : List ℕ) (cut_at lb : ℕ) (books mid : List Journal) (cut : Result (Option (ℕ × Segment)) E) → AreSited sizes firsts books
    → lb < length books → IfOk cut (λ s. CutsFirst books mid lb s)
    → IfOk cut (λ s. At books lb (λ b. IsSome s ↔ ((0 < cut_at) × (cut_at ≤ length b.entries)))) → CutsOrWants sizes cut_at lb (cut_in cut) (IsErr cut)
cuts_or_wants sizes firsts cut_at lb books mid (Ok cut) are within ok when = inl (cuts_when sizes firsts cut_at lb books mid cut are within ok when)
cuts_or_wants sizes firsts cut_at lb books mid (Err e) are within ok when = inr (refl, refl)

-- A ticket that wasn't out.
pub not_out_at : {T : Type 0} (sizes firsts : List ℕ) (books : List Journal) (lease : LeaseNote) (r : Result T StrayNote) → AreSited sizes firsts books → lease.lb < length books
    → At books lease.lb (λ b. IsOk r ↔ (is_out b.opening (past_of b) lease.ticket ≡ true))
    → IfErr r (λ s. At books lease.lb (λ b. IsReturnedAt (past_of b) lease.ticket s.stray.returned_at)) → IfErr r (λ s. IsNotOut sizes None lease s.stray)
not_out_at sizes firsts books lease (Ok x) are within found returned = tt
not_out_at sizes firsts books lease (Err s) are within found returned =
    let here : (b : Journal) × (slice_get books lease.lb ≡ Some b) = at_place books lease.lb within in
    record {
      book = here.0;
      found = sited_found sizes firsts books lease.lb here.0 are here.1;
      not_out = elim (cases_Bool (is_out here.0.opening (past_of here.0) lease.ticket)) [
        | inl is ↦ let ok = (found here.0 here.1).1 is in absurd cc
        | inr free ↦ free
      ];
      returned = returned here.0 here.1;
    }

-- The present of a view, in a journal that the balancer may have.
pub look_present : (sizes firsts : List ℕ) (books : List Journal) (lb : ℕ) (v : View) → AreSited sizes firsts books → lb < length books
    → At books lb (λ b. IsPresent b.rules b.opening (past_of b) v) → (b : Journal) × IsFound sizes None lb b × IsPresent b.rules b.opening (past_of b) v
look_present sizes firsts books lb v are within present =
    let here : (b : Journal) × (slice_get books lb ≡ Some b) = at_place books lb within in
    (here.0, sited_found sizes firsts books lb here.0 are here.1, present here.0 here.1)

-- A fact between the states of a hold, where these are told otherwise.
pub held_moved : (P : HeldState → HeldState → Type 0) (mid mid' after after' : List Journal) (rs rs' : List Receipt) (a a' b b' : ℕ) → mid ≡ mid' → a ≡ a' → after ≡ after' → b ≡ b'
    → P (held mid rs a) (held after rs' b) → P (held mid' rs a') (held after' rs' b')
held_moved P mid mid' after after' rs rs' a a' b b' mids amounts afters amounts' is =
    subst (λ (n : ℕ). P (held mid' rs a') (held after' rs' n)) amounts'
    (subst (λ (xs : List Journal). P (held mid' rs a') (held xs rs' b)) afters
    (subst (λ (n : ℕ). P (held mid' rs n) (held after rs' b)) amounts
    (subst (λ (xs : List Journal). P (held xs rs a) (held after rs' b)) mids is)))
