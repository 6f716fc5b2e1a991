-- The one history of a Site after a hold: grown by the hold's entries, and whole where a Book was cut.
use Rattle.std.proofs.Common.{◌≡◌, ◌≢◌, ℕ, ◌+◌, ◌-◌, ◌<◌, Bool, cond, List, [], ◌∷◌, ◌++◌, length, map, drop, Option, Some, refl, sym, ap, ◌∙◌, subst, inl, inr, arith, append-nil, length-append, length-set, eq-eqb, ne_eqb, eqb-true}
use Rattle.std.specs.Prelude.{◌==◌, IfOk, Result, Ok, Err, option_map, slice_get, slice_set}
use Rattle.std.specs.List.{All, filter}
use Rattle.std.proofs.lemmas.Bool.{cases_Bool}
use Rattle.std.proofs.lemmas.List.{length-map}
use Rattle.std.proofs.lemmas.Option.{get_or_from_slice_get, slice_get-map, slice_get_cases, slice_get_within}
use Rattle.std.proofs.lemmas.List.Elements.{All-append, All-head, All-map, All-nil, All-tail, All-weaker, filter-append}
use mathlib.Core.List.{map-append}
use Rattle.lb_model.specs.Legal.{IsLegal}
use Rattle.lb_model.specs.Present.{IsPresent}
use Rattle.lb_model.specs.declared.journal.Entry.{Entry}
use Rattle.lb_model.specs.declared.opening.Opening.{Opening}
use Rattle.lb_model.specs.declared.segment.Segment.{Segment}
use Rattle.lb_book.specs.Desks.{IsOwn}
use Rattle.lb_book.specs.Journal.{IsSound, Journal, past_of}
use Rattle.lb_book.specs.ToldBooks.{grown_by}
use Rattle.lb_book.specs.declared.receipt.Receipt.{Receipt}
use Rattle.lb_book.proofs.ToldLaws.{get-set, get-set_other, some_is}
use Rattle.lb_shared.specs.Seats.{by_seat}
use Rattle.lb_book.specs.Histories.{IsHistoryOf}
use Rattle.lb_book.proofs.HistoryLaws.{begins_here, cut_of, grown_of, whole_present}
use Rattle.lb_shared.specs.Histories.{IsPresentOf, IsSiteHistory, entries_in, entries_of, gained_in, last_in, noted, starts_of}
use Rattle.lb_shared.specs.Holds.{HeldState, HoldGains}
use Rattle.lb_shared.specs.Notes.{ViewNote}
use Rattle.lb_shared.specs.Shelves.{CutsAt}
use Rattle.lb_shared.specs.Sites.{AreSited, At}
use Rattle.lb_shared.proofs.LockLaws.{sited_within}
use Rattle.lb_shared.proofs.SiteLaws.{at_put, differs}

pub entries-append : (lb : ℕ) (log new : List (ℕ × (ℕ × Entry))) → entries_of lb (log ++ new) ≡ entries_of lb log ++ entries_of lb new
entries-append lb log new =
    ap (λ (xs : List (ℕ × (ℕ × Entry))). map (λ (x : ℕ × (ℕ × Entry)). x.1.1) xs) (filter-append (λ (x : ℕ × (ℕ × Entry)). x.1.0 == lb) log new)
    ∙ map-append (λ (x : ℕ × (ℕ × Entry)). x.1.1) (filter (λ (x : ℕ × (ℕ × Entry)). x.1.0 == lb) log) (filter (λ (x : ℕ × (ℕ × Entry)). x.1.0 == lb) new)

-- Entries of one balancer are all its own, and none of another's.
pub entries-here : (lb n session at : ℕ) (gained : List Receipt) → All (IsOwn lb session at) gained → entries_of lb (by_seat n (noted gained)) ≡ map (λ r. r.entry) gained
entries-here lb n session at [] own = refl
entries-here lb n session at (r ∷ rs) own =
    let is : r.lb ≡ lb = (All-head (IsOwn lb session at) r rs own).balancer in
    ap (λ (b : Bool). map (λ (x : ℕ × (ℕ × Entry)). x.1.1) (cond b ((n, (r.lb, r.entry)) ∷ filter (λ (x : ℕ × (ℕ × Entry)). x.1.0 == lb) (by_seat n (noted rs))) (filter (λ (x : ℕ × (ℕ × Entry)). x.1.0 == lb) (by_seat n (noted rs))))) (eq-eqb r.lb lb is)
    ∙ ap (λ (xs : List Entry). r.entry ∷ xs) (entries-here lb n session at rs (All-tail (IsOwn lb session at) r rs own))

pub entries-elsewhere : (k lb n session at : ℕ) (gained : List Receipt) → k ≢ lb → All (IsOwn lb session at) gained → entries_of k (by_seat n (noted gained)) ≡ []
entries-elsewhere k lb n session at [] other own = refl
entries-elsewhere k lb n session at (r ∷ rs) other own =
    let is : r.lb ≡ lb = (All-head (IsOwn lb session at) r rs own).balancer in
    ap (λ (b : Bool). map (λ (x : ℕ × (ℕ × Entry)). x.1.1) (cond b ((n, (r.lb, r.entry)) ∷ filter (λ (x : ℕ × (ℕ × Entry)). x.1.0 == k) (by_seat n (noted rs))) (filter (λ (x : ℕ × (ℕ × Entry)). x.1.0 == k) (by_seat n (noted rs))))) (ne_eqb r.lb k (λ e. other (sym e ∙ is)))
    ∙ entries-elsewhere k lb n session at rs other (All-tail (IsOwn lb session at) r rs own)

-- A Book that was put at a place: what is found there is it, and elsewhere all is as before.
pub put_cases : (P : ℕ → Journal → Type 0) (books : List Journal) (lb : ℕ) (old new : Journal) → slice_get books lb ≡ Some old → P lb new
    → ((k : ℕ) (b : Journal) → k ≢ lb → slice_get books k ≡ Some b → P k b) → (k : ℕ) (b : Journal) → slice_get (slice_set books lb new) k ≡ Some b → P k b
put_cases P books lb old new here is others k b found =
    elim (cases_Bool (lb == k)) [
      | inl this ↦
          let same : lb ≡ k = eqb-true lb k this in
          subst (λ (j : ℕ). slice_get (slice_set books lb new) j ≡ Some b → P j b) same (λ there. at_put (P lb) books lb old new here is b there) found
      | inr other ↦ others k b (λ e. differs lb k other (sym e)) (sym (get-set_other books lb k new (differs lb k other)) ∙ found)
    ]

-- Books that have no entry begin a history.
pub begun_history : (sizes firsts : List ℕ) (starts : List Opening) (books : List Journal) → AreSited sizes firsts books → starts_of books ≡ starts
    → All (λ b. (b.entries ≡ []) × (b.added ≡ 0)) books → IsSiteHistory starts [] books
begun_history sizes firsts starts books are begun fresh = record {
  count = sym (length-map books (λ (b : Journal). b.opening)) ∙ ap (λ (os : List Opening). length os) begun;
  each = λ lb o b here found.
      let at : slice_get (starts_of books) lb ≡ Some b.opening = slice_get-map (λ (x : Journal). x.opening) books lb ∙ ap (λ (x : Option Journal). option_map (λ (y : Journal). y.opening) x) found in
      let same : b.opening ≡ o = opening_is b.opening o (sym at ∙ ap (λ (os : List Opening). slice_get os lb) begun ∙ here) in
      subst (λ (p : Opening). IsHistoryOf p [] b) same (begins_here b (are.modern lb b found) (fresh_at b lb found).0 (are.sound lb b found)).1;
  added = λ lb b found. (fresh_at b lb found).1;
  known = All-nil _;
}
  where
    opening_is : (x y : Opening) → Some x ≡ Some y → x ≡ y
    opening_is x y same = cc

    fresh_at : (b : Journal) (lb : ℕ) → slice_get books lb ≡ Some b → (b.entries ≡ []) × (b.added ≡ 0)
    fresh_at b lb found = subst (λ (x : Journal). (x.entries ≡ []) × (x.added ≡ 0)) (get_or_from_slice_get books lb b b found) (fresh lb b (slice_get_within books lb b found))

-- A hold that added these entries to a balancer.
grown-added : (lb n session at : ℕ) (log : List (ℕ × (ℕ × Entry))) (gained : List Receipt) (b : Journal) → All (IsOwn lb session at) gained
    → b.added ≡ length (entries_of lb log) → (grown_by b gained).added ≡ length (entries_of lb (log ++ by_seat n (noted gained)))
grown-added lb n session at log gained b own before =
    let parts : entries_of lb (log ++ by_seat n (noted gained)) ≡ entries_of lb log ++ map (λ r. r.entry) gained =
    entries-append lb log (by_seat n (noted gained)) ∙ ap (λ (es : List Entry). entries_of lb log ++ es) (entries-here lb n session at gained own) in
    let long : length (entries_of lb log ++ map (λ (r : Receipt). r.entry) gained) ≡ length (entries_of lb log) + length (map (λ (r : Receipt). r.entry) gained) =
    length-append (entries_of lb log) (map (λ (r : Receipt). r.entry) gained) in
    let same : length (map (λ (r : Receipt). r.entry) gained) ≡ length gained = length-map gained (λ (r : Receipt). r.entry) in
    ap (λ (k : ℕ). k + length gained) before ∙ ap (λ (k : ℕ). length (entries_of lb log) + k) (sym same) ∙ sym long ∙ sym (ap (λ (es : List Entry). length es) parts)

kept-elsewhere : (k lb n session at : ℕ) (log : List (ℕ × (ℕ × Entry))) (gained : List Receipt) → k ≢ lb → All (IsOwn lb session at) gained
    → entries_of k (log ++ by_seat n (noted gained)) ≡ entries_of k log
kept-elsewhere k lb n session at log gained other own =
    entries-append k log (by_seat n (noted gained)) ∙ ap (λ (es : List Entry). entries_of k log ++ es) (entries-elsewhere k lb n session at gained other own)
    ∙ append-nil (entries_of k log)

pub grown_history : (starts : List Opening) (n : ℕ) (log : List (ℕ × (ℕ × Entry))) (old new : HeldState) (lb session at : ℕ) (gained : List Receipt)
    → lb < length starts → HoldGains old new lb session at gained → IsSiteHistory starts log old.books → IsSiteHistory starts (log ++ by_seat n (noted gained)) new.books
grown_history starts n log old new lb session at gained within gains was =
    subst (λ (bs : List Journal). IsSiteHistory starts (log ++ by_seat n (noted gained)) bs) (sym gains.grown) record {
      count = length-set old.books lb (grown_by gains.book gained) ∙ was.count;
      each = λ k o b begun found. put_cases
          (λ (j : ℕ) (x : Journal). (p : Opening) → slice_get starts j ≡ Some p → IsHistoryOf p (entries_of j (log ++ by_seat n (noted gained))) x)
          old.books lb gains.book (grown_by gains.book gained) gains.found
          (λ p here.
          subst (λ (es : List Entry). IsHistoryOf p es (grown_by gains.book gained))
          (ap (λ (es : List Entry). entries_of lb log ++ es) (sym (entries-here lb n session at gained gains.own)) ∙ sym (entries-append lb log (by_seat n (noted gained))))
          (grown_of p (entries_of lb log) gains.book gained (was.each lb p gains.book here gains.found)))
          (λ j x other there p here.
          subst (λ (es : List Entry). IsHistoryOf p es x) (sym (kept-elsewhere j lb n session at log gained other gains.own)) (was.each j p x here there))
          k b found o begun;
      added = λ k b found. put_cases (λ (j : ℕ) (x : Journal). x.added ≡ length (entries_of j (log ++ by_seat n (noted gained))))
          old.books lb gains.book (grown_by gains.book gained) gains.found
          (grown-added lb n session at log gained gains.book gains.own (was.added lb gains.book gains.found))
          (λ j x other there. was.added j x there ∙ sym (ap (λ (es : List Entry). length es) (kept-elsewhere j lb n session at log gained other gains.own)))
          k b found;
      known = All-append (λ (x : ℕ × (ℕ × Entry)). x.1.0 < length starts) log (by_seat n (noted gained)) was.known
          (All-map (λ (x : ℕ × (ℕ × Entry)). x.1.0 < length starts) (λ (e : ℕ × Entry). (n, e)) (noted gained)
          (All-map (λ (e : ℕ × Entry). e.0 < length starts) (λ (r : Receipt). (r.lb, r.entry)) gained
          (All-weaker (IsOwn lb session at) (λ (r : Receipt). r.lb < length starts) (λ r is. subst (λ (k : ℕ). k < length starts) (sym is.balancer) within) gained gains.own)));
    }

-- A cut takes nothing from the history.
pub cut_history : (starts : List Opening) (log : List (ℕ × (ℕ × Entry))) (books mid : List Journal) (lb : ℕ) (cut : ℕ × Segment) → CutsAt books mid lb cut → At books lb IsSound
    → IsSiteHistory starts log books → IsSiteHistory starts log mid
cut_history starts log books mid lb cut cuts sound was =
    subst (λ (bs : List Journal). IsSiteHistory starts log bs) (sym cuts.others) record {
      count = length-set books lb cuts.after ∙ was.count;
      each = λ k o b begun found. put_cases (λ (j : ℕ) (x : Journal). (p : Opening) → slice_get starts j ≡ Some p → IsHistoryOf p (entries_of j log) x)
          books lb cuts.book cuts.after cuts.found
          (λ p here. cut_of p (entries_of lb log) cuts.book cuts.after (was.each lb p cuts.book here cuts.found) (sound cuts.book cuts.found) cuts.is_cut)
          (λ j x other there p here. was.each j p x here there) k b found o begun;
      added = λ k b found. put_cases (λ (j : ℕ) (x : Journal). x.added ≡ length (entries_of j log)) books lb cuts.book cuts.after cuts.found
          (cuts.is_cut.added ∙ was.added lb cuts.book cuts.found) (λ j x other there. was.added j x there) k b found;
      known = was.known;
    }

drop_left : (xs ys : List Receipt) → drop (length xs) (xs ++ ys) ≡ ys
drop_left [] ys = refl
drop_left (x ∷ xs) ys = drop_left xs ys

-- The receipts added to a list are those that stand after it.
pub gained-is : (old new gained : List Receipt) → new ≡ old ++ gained → gained_in old new ≡ noted gained
gained-is old new gained is = ap (λ (xs : List Receipt). noted (drop (length old) xs)) is ∙ ap (λ (xs : List Receipt). noted xs) (drop_left old gained)

pub gained-none : (xs : List Receipt) → drop (length xs) xs ≡ []
gained-none [] = refl
gained-none (x ∷ xs) = gained-none xs

-- The Book that is cut is sound, as its segment is legal.
pub cut_sound : (books mid : List Journal) (lb : ℕ) (cut : ℕ × Segment) → CutsAt books mid lb cut → At books lb IsSound
cut_sound books mid lb cut cuts b found =
    let same : cuts.book ≡ b = some_is cuts.book b (sym cuts.found ∙ found) in
    let legal : IsLegal cuts.book.rules cuts.book.opening cuts.book.entries =
    subst (λ (es : List Entry). IsLegal cuts.book.rules cuts.book.opening es) cuts.whole.entries
    (subst (λ (o : Opening). IsLegal cuts.book.rules o cut.1.entries) cuts.whole.opening
    (subst (λ (v : ℕ). IsLegal v cut.1.opening cut.1.entries) cuts.whole.rules cuts.legal)) in
    subst (λ (x : Journal). IsSound x) same legal

-- The last entries of a Book that took some.
last_left : (xs ys : List Entry) (k : ℕ) → k ≡ length ys → drop (length (xs ++ ys) - k) (xs ++ ys) ≡ ys
last_left xs ys k is =
    let long : length (xs ++ ys) ≡ length xs + length ys = length-append xs ys in
    let from : length (xs ++ ys) - k ≡ length xs = omega (arith, long, is) in
    ap (λ (i : ℕ). drop i (xs ++ ys)) from ∙ drop_all_left xs ys
  where
    drop_all_left : (us vs : List Entry) → drop (length us) (us ++ vs) ≡ vs
    drop_all_left [] vs = refl
    drop_all_left (u ∷ us) vs = drop_all_left us vs

noted_own : (lb session at : ℕ) (gained : List Receipt) → All (IsOwn lb session at) gained → map (λ e. (lb, e)) (map (λ r. r.entry) gained) ≡ noted gained
noted_own lb session at [] own = refl
noted_own lb session at (r ∷ rs) own =
    let is : r.lb ≡ lb = (All-head (IsOwn lb session at) r rs own).balancer in
    ap (λ (k : ℕ). (k, r.entry) ∷ map (λ e. (lb, e)) (map (λ r. r.entry) rs)) (sym is)
    ∙ ap (λ (xs : List (ℕ × Entry)). (r.lb, r.entry) ∷ xs) (noted_own lb session at rs (All-tail (IsOwn lb session at) r rs own))

pub last-grown : (old new : HeldState) (lb session at count : ℕ) (gained : List Receipt) → HoldGains old new lb session at gained → count ≡ length gained
    → last_in new.books lb count ≡ noted gained
last-grown old new lb session at count gained gains is =
    let there : slice_get new.books lb ≡ Some (grown_by gains.book gained) =
    ap (λ (bs : List Journal). slice_get bs lb) gains.grown ∙ get-set old.books lb (grown_by gains.book gained) (slice_get_within old.books lb gains.book gains.found) in
    let same : length (map (λ (r : Receipt). r.entry) gained) ≡ length gained = length-map gained (λ (r : Receipt). r.entry) in
    ap (λ (b : Option Journal). map (λ e. (lb, e)) (drop (length (entries_in b) - count) (entries_in b))) there
    ∙ ap (λ (es : List Entry). map (λ e. (lb, e)) es) (last_left gains.book.entries (map (λ r. r.entry) gained) count (is ∙ sym same))
    ∙ noted_own lb session at gained gains.own

pub gained-count : (old new gained : List Receipt) → new ≡ old ++ gained → length new - length old ≡ length gained
gained-count old new gained is =
    let long : length new ≡ length (old ++ gained) = ap (λ (xs : List Receipt). length xs) is in
    let parts : length (old ++ gained) ≡ length old + length gained = length-append old gained in
    omega (arith, long, parts)

-- Nothing was added.
pub last-none : (books : List Journal) (lb : ℕ) → last_in books lb 0 ≡ []
last-none books lb = ap (λ (es : List Entry). map (λ e. (lb, e)) es) (none_left (entries_in (slice_get books lb)))
  where
    none_left : (es : List Entry) → drop (length es - 0) es ≡ []
    none_left es = let all : length es - 0 ≡ length es = omega arith in ap (λ (i : ℕ). drop i es) all ∙ past es
      where
        past : (xs : List Entry) → drop (length xs) xs ≡ []
        past [] = refl
        past (x ∷ xs) = past xs

-- The view of a balancer that a hold looked at is that of its whole history.
pub present_history : {E : Type 0} (starts : List Opening) (log : List (ℕ × (ℕ × Entry))) (sizes firsts : List ℕ) (books : List Journal) (lb : ℕ) (r : Result ViewNote E) → AreSited sizes firsts books
    → lb < length sizes → IsSiteHistory starts log books → IfOk r (λ v. At books lb (λ b. IsPresent b.rules b.opening (past_of b) v.view)) → IfOk r (IsPresentOf starts log lb)
present_history starts log sizes firsts books lb (Err e) are within was shown = tt
present_history starts log sizes firsts books lb (Ok v) are within was shown =
    let there : lb < length books = sited_within sizes firsts books lb are within in
    λ o begun. elim (slice_get_cases books lb).1 [
      | inl found ↦ whole_present o (entries_of lb log) found.0 v.view (was.each lb o found.0 begun found.2) (are.sound lb found.0 found.2) (shown found.0 found.2)
      | inr past ↦ absurd (omega arith)
    ]
