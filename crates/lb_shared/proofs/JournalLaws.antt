-- The steps of a Site after a hold, and the journals that they leave.
use Rattle.std.proofs.Common.{◌≡◌, ◌≢◌, ℕ, ◌-◌, ◌<◌, true, List, [], ◌∷◌, ◌++◌, length, Option, Some, None, inl, inr, refl, sym, ap, ◌∙◌, subst, arith, append-nil, append_assoc}
use Rattle.std.specs.Prelude.{IfErr, IfOk, IfSome, OnErr, OnOk, Result, Ok, Err, is_some, slice_get}
use Rattle.std.specs.List.{All}
use Rattle.std.proofs.lemmas.List.Elements.{All-append, All-cons, All-nil}
use Rattle.lb_model.specs.declared.ask.Ask.{Ask}
use Rattle.lb_model.specs.declared.change.Command.{Command}
use Rattle.lb_model.specs.declared.journal.Entry.{Entry}
use Rattle.lb_model.specs.declared.journal.Outcome.{Outcome}
use Rattle.lb_model.specs.declared.refusal.AdminError.{AdminError}
use Rattle.lb_model.specs.declared.refusal.RoomError.{RoomError}
use Rattle.lb_model.specs.declared.opening.Opening.{Opening}
use Rattle.lb_model.specs.declared.segment.Segment.{Segment}
use Rattle.lb_book.specs.Desks.{LeaseNote}
use Rattle.lb_book.specs.Histories.{IsHistoryOf, LeadsTo}
use Rattle.lb_book.specs.Journal.{IsSound, Journal}
use Rattle.lb_book.specs.ToldBooks.{grown_by}
use Rattle.lb_book.specs.declared.desk.Choice.{Choice}
use Rattle.lb_book.specs.declared.desk.Occasion.{Occasion}
use Rattle.lb_book.specs.declared.receipt.Receipt.{Receipt}
use Rattle.lb_book.proofs.HistoryLaws.{cut_of}
use Rattle.lb_shared.specs.Seats.{by_seat}
use Rattle.lb_shared.specs.Histories.{AreJournalsAfter, IsJournalAfter, IsMadeBy, IsSegmentAfter, IsSiteHistory, Step, added_steps, cut_mark, entries_of, gained_in, last_in, log_in, noted}
use Rattle.lb_shared.specs.Holds.{CutChooses, CutCommands, CutDenies, CutMeets, CutRefuses, CutReturns, CutsFirst, HeldState, HoldGains, held}
use Rattle.lb_shared.specs.Notes.{MarkNote}
use Rattle.lb_shared.specs.Shelves.{CutsAt}
use Rattle.lb_shared.specs.Sites.{AreSited, At}
use Rattle.lb_shared.proofs.HistoryLaws.{cut_history, cut_sound, entries-append, entries-elsewhere, entries-here, gained-count, gained-is, gained-none, grown_history, last-grown, last-none, put_cases}
use Rattle.lb_shared.proofs.LockLaws.{after_cut, sited_within}
use Rattle.lb_shared.proofs.StepLaws.{by-hold, hold_steps, log-added, log-append, log-mark}

-- No cut of this balancer.
abbrev NoCut : (lb : ℕ) → ℕ × Step → Type 0
NoCut lb x = x.1 ≢ (lb, None)

empty_front : (xs ys : List Entry) → [] ≡ xs ++ ys → xs ≡ []
empty_front [] ys same = refl
empty_front (x ∷ xs) ys same = absurd cc

empty_back : (xs ys : List Entry) → [] ≡ xs ++ ys → ys ≡ []
empty_back [] ys same = sym same
empty_back (x ∷ xs) ys same = absurd cc

-- Where nothing was done each Book is as it began.
pub made_begun : (starts : List Opening) (books : List Journal) → IsSiteHistory starts [] books → IsMadeBy starts [] books
made_begun starts books was = record {
  history = was;
  journals = λ lb o b begun found.
      let is : IsHistoryOf o [] b = was.each lb o b begun found in
      record {
        before = [];
        since = [];
        whole = refl;
        last_cut = inl refl;
        uncut = All-nil (NoCut lb);
        leads = subst (λ (es : List Entry). LeadsTo o es b.opening) (empty_front is.front b.entries is.whole) is.leads;
        kept = empty_back is.front b.entries is.whole;
      };
}

-- A journal after steps more that don't cut it.
journal_on : (o : Opening) (lb : ℕ) (steps more : List (ℕ × Step)) (opening : Opening) (entries : List Entry) → All (NoCut lb) more → IsJournalAfter o lb steps opening entries
    → IsJournalAfter o lb (steps ++ more) opening (entries ++ entries_of lb (log_in more))
journal_on o lb steps more opening entries uncut was = record {
  before = was.before;
  since = was.since ++ more;
  whole = ap (λ (l : List (ℕ × Step)). l ++ more) was.whole ∙ append_assoc was.before was.since more;
  last_cut = was.last_cut;
  uncut = All-append (NoCut lb) was.since more was.uncut uncut;
  leads = was.leads;
  kept = ap (λ (es : List Entry). es ++ entries_of lb (log_in more)) was.kept
      ∙ sym (ap (λ (l : List (ℕ × (ℕ × Entry))). entries_of lb l) (log-append was.since more) ∙ entries-append lb (log_in was.since) (log_in more));
}

no_entry : (k lb : ℕ) (e : Entry) → ◌≡◌ {A = Step} (k, Some e) (lb, None) → ⊥
no_entry k lb e same = let it : Some e ≡ None = ap (λ (p : Step). p.1) same in absurd cc

uncut_added : (lb n : ℕ) (es : List (ℕ × Entry)) → All (NoCut lb) (by_seat n (added_steps es))
uncut_added lb n [] = All-nil (NoCut lb)
uncut_added lb n (e ∷ es) = All-cons (NoCut lb) (n, (e.0, Some e.1)) (by_seat n (added_steps es)) (λ same. no_entry e.0 lb e.1 same) (uncut_added lb n es)

other_mark : (k lb n : ℕ) → lb ≢ k → All (NoCut k) (by_seat n (cut_mark lb true))
other_mark k lb n other = All-cons (NoCut k) (n, (lb, None)) [] (λ same. other (ap (λ (p : Step). p.0) same)) (All-nil (NoCut k))

-- A cut.
made_cut : (starts : List Opening) (n : ℕ) (steps : List (ℕ × Step)) (books mid : List Journal) (lb : ℕ) (cut : ℕ × Segment) → CutsAt books mid lb cut → At books lb IsSound
    → IsMadeBy starts steps books → IsMadeBy starts (steps ++ by_seat n (cut_mark lb true)) mid
made_cut starts n steps books mid lb cut cuts sound was =
    let mark = by_seat n (cut_mark lb true) in
    let logs : log_in (steps ++ mark) ≡ log_in steps =
    log-append steps mark ∙ ap (λ (l : List (ℕ × (ℕ × Entry))). log_in steps ++ l) (log-mark n lb true) ∙ append-nil (log_in steps) in
    record {
      history = subst (λ (l : List (ℕ × (ℕ × Entry))). IsSiteHistory starts l mid) (sym logs) (cut_history starts (log_in steps) books mid lb cut cuts sound was.history);
      journals = subst (λ (bs : List Journal). AreJournalsAfter starts (steps ++ mark) bs) (sym cuts.others)
          (λ k o b begun found. put_cases (λ (j : ℕ) (x : Journal). (p : Opening) → slice_get starts j ≡ Some p → IsJournalAfter p j (steps ++ mark) x.opening x.entries)
          books lb cuts.book cuts.after cuts.found
          (λ p here.
          let is : IsHistoryOf p (entries_of lb (log_in steps)) cuts.after =
          cut_of p (entries_of lb (log_in steps)) cuts.book cuts.after (was.history.each lb p cuts.book here cuts.found) (sound cuts.book cuts.found) cuts.is_cut in
          let all : is.front ≡ entries_of lb (log_in steps) =
          sym (is.whole ∙ ap (λ (es : List Entry). is.front ++ es) cuts.is_cut.empty ∙ append-nil is.front) in
          record {
            before = steps ++ mark;
            since = [];
            whole = sym (append-nil (steps ++ mark));
            last_cut = inr (n, steps, refl);
            uncut = All-nil (NoCut lb);
            leads = subst (λ (es : List Entry). LeadsTo p es cuts.after.opening) (all ∙ ap (λ (l : List (ℕ × (ℕ × Entry))). entries_of lb l) (sym logs)) is.leads;
            kept = cuts.is_cut.empty;
          })
          (λ j x other there p here.
          subst (λ (es : List Entry). IsJournalAfter p j (steps ++ mark) x.opening es) (append-nil x.entries)
          (journal_on p j steps mark x.opening x.entries (other_mark j lb n (λ e. other (sym e))) (was.journals j p x here there)))
          k b found o begun);
    }

-- Entries of one balancer.
made_grown : (starts : List Opening) (n : ℕ) (steps : List (ℕ × Step)) (old new : HeldState) (lb session at : ℕ) (gained : List Receipt) → lb < length starts
    → HoldGains old new lb session at gained → IsMadeBy starts steps old.books → IsMadeBy starts (steps ++ by_seat n (added_steps (noted gained))) new.books
made_grown starts n steps old new lb session at gained within gains was =
    let more = by_seat n (added_steps (noted gained)) in
    let added : log_in more ≡ by_seat n (noted gained) = log-added n (noted gained) in
    let logs : log_in (steps ++ more) ≡ log_in steps ++ by_seat n (noted gained) =
    log-append steps more ∙ ap (λ (l : List (ℕ × (ℕ × Entry))). log_in steps ++ l) added in
    record {
      history = subst (λ (l : List (ℕ × (ℕ × Entry))). IsSiteHistory starts l new.books) (sym logs)
          (grown_history starts n (log_in steps) old new lb session at gained within gains was.history);
      journals = subst (λ (bs : List Journal). AreJournalsAfter starts (steps ++ more) bs) (sym gains.grown)
          (λ k o b begun found. put_cases (λ (j : ℕ) (x : Journal). (p : Opening) → slice_get starts j ≡ Some p → IsJournalAfter p j (steps ++ more) x.opening x.entries)
          old.books lb gains.book (grown_by gains.book gained) gains.found
          (λ p here.
          subst (λ (es : List Entry). IsJournalAfter p lb (steps ++ more) gains.book.opening es)
          (ap (λ (es : List Entry). gains.book.entries ++ es) (ap (λ (l : List (ℕ × (ℕ × Entry))). entries_of lb l) added ∙ entries-here lb n session at gained gains.own))
          (journal_on p lb steps more gains.book.opening gains.book.entries (uncut_added lb n (noted gained)) (was.journals lb p gains.book here gains.found)))
          (λ j x other there p here.
          subst (λ (es : List Entry). IsJournalAfter p j (steps ++ more) x.opening es)
          (ap (λ (es : List Entry). x.entries ++ es) (ap (λ (l : List (ℕ × (ℕ × Entry))). entries_of j l) added ∙ entries-elsewhere j lb n session at gained other gains.own) ∙ append-nil x.entries)
          (journal_on p j steps more x.opening x.entries (uncut_added j n (noted gained)) (was.journals j p x here there)))
          k b found o begun);
    }

-- The segment of a cut.
cut_segment : (starts : List Opening) (sizes firsts : List ℕ) (steps : List (ℕ × Step)) (books mid : List Journal) (lb : ℕ) (cut : ℕ × Segment) → CutsAt books mid lb cut
    → AreSited sizes firsts mid → IsMadeBy starts steps books → (cut.0 ≡ lb) × IsSegmentAfter starts steps cut
cut_segment starts sizes firsts steps books mid lb cut cuts are was = (
  cuts.balancer,
  record {
    rules = cuts.whole.rules ∙ sym cuts.is_cut.rules ∙ are.modern lb cuts.after (after_cut books mid lb cut cuts);
    journal = λ o here.
        let begun : slice_get starts lb ≡ Some o = subst (λ (k : ℕ). slice_get starts k ≡ Some o) cuts.balancer here in
        let is : IsJournalAfter o lb steps cuts.book.opening cuts.book.entries = was.journals lb o cuts.book begun cuts.found in
        subst (λ (k : ℕ). IsJournalAfter o k steps cut.1.opening cut.1.entries) (sym cuts.balancer)
        (subst (λ (es : List Entry). IsJournalAfter o lb steps cut.1.opening es) (sym cuts.whole.entries)
        (subst (λ (p : Opening). IsJournalAfter o lb steps p cuts.book.entries) (sym cuts.whole.opening) is));
  },
)

made_first : (starts : List Opening) (n : ℕ) (steps : List (ℕ × Step)) (books mid : List Journal) (lb : ℕ) (cut : Option (ℕ × Segment)) → CutsFirst books mid lb cut
    → IsMadeBy starts steps books → IsMadeBy starts (steps ++ by_seat n (cut_mark lb (is_some cut))) mid
made_first starts n steps books mid lb None same was =
    subst (λ (l : List (ℕ × Step)). IsMadeBy starts l mid) (sym (append-nil steps)) (subst (λ (bs : List Journal). IsMadeBy starts steps bs) (sym same) was)
made_first starts n steps books mid lb (Some segment) cuts was = made_cut starts n steps books mid lb segment cuts (cut_sound books mid lb segment cuts) was

segment_first : (starts : List Opening) (sizes firsts : List ℕ) (steps : List (ℕ × Step)) (books mid : List Journal) (lb : ℕ) (cut : Option (ℕ × Segment)) → CutsFirst books mid lb cut
    → AreSited sizes firsts mid → IsMadeBy starts steps books → IfSome cut (λ s. (s.0 ≡ lb) × IsSegmentAfter starts steps s)
segment_first starts sizes firsts steps books mid lb None same are was = tt
segment_first starts sizes firsts steps books mid lb (Some segment) cuts are was = cut_segment starts sizes firsts steps books mid lb segment cuts are was

-- The Books after a hold, whose entries are the last ones of the history, and the last ones that the Book of this balancer keeps;
-- and the segment that it cut before.
pub record Grew (starts : List Opening) (n : ℕ) (steps : List (ℕ × Step)) (old new : List Receipt) (lb : ℕ) (cut : Option (ℕ × Segment)) (books : List Journal) : Type 0 where
  pub made : IsMadeBy starts (steps ++ by_seat n (hold_steps lb (is_some cut) (gained_in old new))) books
  pub last : last_in books lb (length new - length old) ≡ gained_in old new
  pub segment : IfSome cut (λ s. (s.0 ≡ lb) × IsSegmentAfter starts steps s)

-- A hold that cut first if due, and then added these entries.
hold_history : (starts : List Opening) (n : ℕ) (steps : List (ℕ × Step)) (sizes firsts : List ℕ) (books mid : List Journal) (new : HeldState) (receipts : List Receipt) (amount lb session at : ℕ)
    (cut : Option (ℕ × Segment)) (gained : List Receipt) → lb < length sizes → CutsFirst books mid lb cut → AreSited sizes firsts mid
    → HoldGains (held mid receipts amount) new lb session at gained → IsMadeBy starts steps books → Grew starts n steps receipts new.receipts lb cut new.books
hold_history starts n steps sizes firsts books mid new receipts amount lb session at cut gained within first are gains was =
    let mark = by_seat n (cut_mark lb (is_some cut)) in
    let between : IsMadeBy starts (steps ++ mark) mid = made_first starts n steps books mid lb cut first was in
    let known : lb < length starts = subst (λ (k : ℕ). lb < k) between.history.count (sited_within sizes firsts mid lb are within) in
    let same : gained_in receipts new.receipts ≡ noted gained = gained-is receipts new.receipts gained gains.receipts in
    let whole : (steps ++ mark) ++ by_seat n (added_steps (noted gained)) ≡ steps ++ by_seat n (hold_steps lb (is_some cut) (gained_in receipts new.receipts)) =
    append_assoc steps mark (by_seat n (added_steps (noted gained)))
    ∙ ap (λ (l : List (ℕ × Step)). steps ++ l)
    (sym (by-hold n lb (is_some cut) (noted gained)) ∙ ap (λ (es : List (ℕ × Entry)). by_seat n (hold_steps lb (is_some cut) es)) (sym same)) in
    record {
      made = subst (λ (l : List (ℕ × Step)). IsMadeBy starts l new.books) whole
          (made_grown starts n (steps ++ mark) (held mid receipts amount) new lb session at gained known gains between);
      last = last-grown (held mid receipts amount) new lb session at (length new.receipts - length receipts) gained gains (gained-count receipts new.receipts gained gains.receipts) ∙ sym same;
      segment = segment_first starts sizes firsts steps books mid lb cut first are was;
    }

pub choose_history : (starts : List Opening) (n : ℕ) (steps : List (ℕ × Step)) (sizes firsts : List ℕ) (books : List Journal) (new : HeldState) (receipts : List Receipt) (amount : ℕ)
    (on : Occasion) (ask : Ask) (cut : Option (ℕ × Segment)) (r : Result (Choice LeaseNote) (RoomError MarkNote)) → on.lb < length sizes
    → IfOk r (λ c. CutChooses sizes firsts cut (held books receipts amount) new on ask c) → IfErr r (λ e. CutDenies sizes firsts cut (held books receipts amount) new on e)
    → IsMadeBy starts steps books → Grew starts n steps receipts new.receipts on.lb cut new.books
choose_history starts n steps sizes firsts books new receipts amount on ask cut (Ok c) within ok err was =
    hold_history starts n steps sizes firsts books ok.0 new receipts amount on.lb on.session on.at cut (ok.3.gains.due ++ ok.3.last ∷ []) within ok.1 ok.2 ok.3.gains.gains was
choose_history starts n steps sizes firsts books new receipts amount on ask cut (Err e) within ok err was =
    hold_history starts n steps sizes firsts books err.0 new receipts amount on.lb on.session on.at cut err.3.due within err.1 err.2 err.3.gains was

pub command_history : (starts : List Opening) (n : ℕ) (steps : List (ℕ × Step)) (sizes firsts : List ℕ) (books : List Journal) (new : HeldState) (receipts : List Receipt) (amount : ℕ)
    (on : Occasion) (command : Command) (cut : Option (ℕ × Segment)) (r : Result (Unit {0}) (AdminError MarkNote)) → on.lb < length sizes
    → OnOk r (CutCommands sizes firsts cut (held books receipts amount) new on command) → IfErr r (λ e. CutRefuses sizes firsts cut (held books receipts amount) new on command e)
    → IsMadeBy starts steps books → Grew starts n steps receipts new.receipts on.lb cut new.books
command_history starts n steps sizes firsts books new receipts amount on command cut (Ok c) within ok err was =
    hold_history starts n steps sizes firsts books ok.0 new receipts amount on.lb on.session on.at cut (ok.3.gains.due ++ ok.3.last ∷ []) within ok.1 ok.2 ok.3.gains.gains was
command_history starts n steps sizes firsts books new receipts amount on command cut (Err e) within ok err was =
    hold_history starts n steps sizes firsts books err.0 new receipts amount on.lb on.session on.at cut err.3.due within err.1 err.2 err.3.gains was

-- A hold that added nothing.
stray_history : (starts : List Opening) (n : ℕ) (steps : List (ℕ × Step)) (sizes firsts : List ℕ) (books mid : List Journal) (new : HeldState) (receipts : List Receipt) (amount lb : ℕ)
    (cut : Option (ℕ × Segment)) → CutsFirst books mid lb cut → AreSited sizes firsts mid → new ≡ held mid receipts amount → IsMadeBy starts steps books
    → Grew starts n steps receipts new.receipts lb cut new.books
stray_history starts n steps sizes firsts books mid new receipts amount lb cut first are same was =
    let none : length receipts - length receipts ≡ 0 = omega arith in
    let nothing : gained_in receipts receipts ≡ [] = ap (λ (xs : List Receipt). noted xs) (gained-none receipts) in
    let mark : by_seat n (cut_mark lb (is_some cut)) ≡ by_seat n (hold_steps lb (is_some cut) (gained_in receipts receipts)) =
    ap (λ (l : List Step). by_seat n l) (sym (append-nil (cut_mark lb (is_some cut)))) ∙ ap (λ (es : List (ℕ × Entry)). by_seat n (hold_steps lb (is_some cut) es)) (sym nothing) in
    subst (λ (x : HeldState). Grew starts n steps receipts x.receipts lb cut x.books) (sym same)
    record {
      made = subst (λ (l : List (ℕ × Step)). IsMadeBy starts (steps ++ l) mid) mark (made_first starts n steps books mid lb cut first was);
      last = ap (λ (k : ℕ). last_in mid lb k) none ∙ last-none mid lb ∙ sym nothing;
      segment = segment_first starts sizes firsts steps books mid lb cut first are was;
    }

pub back_history : {E : Type 0} (starts : List Opening) (n : ℕ) (steps : List (ℕ × Step)) (sizes firsts : List ℕ) (books : List Journal) (new : HeldState) (receipts : List Receipt) (amount : ℕ)
    (session at : ℕ) (lease : LeaseNote) (outcome : Outcome) (cut : Option (ℕ × Segment)) (r : Result (Unit {0}) E) → lease.lb < length sizes
    → OnOk r (CutReturns sizes firsts cut (held books receipts amount) new session at lease outcome) → OnErr r (CutMeets sizes firsts cut (held books receipts amount) new lease.lb)
    → IsMadeBy starts steps books → Grew starts n steps receipts new.receipts lease.lb cut new.books
back_history starts n steps sizes firsts books new receipts amount session at lease outcome cut (Ok done) within ok err was =
    hold_history starts n steps sizes firsts books ok.0 new receipts amount lease.lb session at cut (ok.3.0 ∷ []) within ok.1 ok.2 ok.3.2 was
back_history starts n steps sizes firsts books new receipts amount session at lease outcome cut (Err e) within ok err was =
    stray_history starts n steps sizes firsts books err.0 new receipts amount lease.lb cut err.1 err.2 err.3 was

-- A look, which adds nothing.
pub look_history : (starts : List Opening) (n : ℕ) (steps : List (ℕ × Step)) (lb : ℕ) (books new : List Journal) → new ≡ books → IsMadeBy starts steps books → Grew starts n steps [] [] lb None new
look_history starts n steps lb books new same was = record {
  made = subst (λ (l : List (ℕ × Step)). IsMadeBy starts l new) (sym (append-nil steps)) (subst (λ (bs : List Journal). IsMadeBy starts steps bs) (sym same) was);
  last = last-none new lb;
  segment = tt;
}
