-- The entry that is judged, by the answers of the Book that replays the journal.
use Rattle.std.proofs.Common.{Bool, take, length, reverse, ◌≡◌, ◌≤◌, ℕ, ◌+◌, true, false, List, [], ◌∷◌, ◌++◌, Some, None, refl, sym, ap, subst, ◌∙◌}
use Rattle.std.specs.Prelude.{slice_get}
use Rattle.std.proofs.Math.Nat.{max-eq_left}
use Rattle.std.proofs.lemmas.List.{reverse-append, take_all, take_more}
use Rattle.std.proofs.lemmas.Option.{get_or_from_slice_get, slice_get_within}
use Rattle.lb_book.specs.Journal.{AddsEntry, IsSound, Journal, past_of}
use Rattle.lb_model.specs.Journal.{moment_of}
use Rattle.lb_model.specs.Legal.{IsLegal, IsLegalPast, IsNext}
use Rattle.lb_model.specs.declared.journal.Answer.{Answer}
use Rattle.lb_model.specs.declared.journal.Call.{Call}
use Rattle.lb_model.specs.declared.journal.Entry.{Entry}
use Rattle.lb_model.specs.declared.opening.Opening.{Opening}
use Rattle.journal_verdict.specs.Judging.{FollowsEntry, BookGoesOn, IsInTurn, JudgesEntries, RulesOn}
use Rattle.journal_verdict.specs.Rulings.{Differs, IsFirstWrong, HasNoLegalAnswer, RulesAfter}
use Rattle.journal_verdict.specs.declared.ruling.Ruling.{Ruling}
use Rattle.journal_verdict.specs.declared.ruling.Ruling.TheVariants as ruling

entry : (seq session at : ℕ) → Call → Answer → Entry
entry seq session at asked answer = record { seq = seq; session = session; at = at; call = asked; answer = answer }

-- two entries of one call differ in their answers alone
same_entry : (e x : Entry) → x.seq ≡ e.seq → x.session ≡ e.session → x.at ≡ e.at → x.call ≡ e.call → x ≡ record e { answer = x.answer }
unfolding entry
same_entry e x seq session at asked =
    ap (λ n. entry n x.session x.at x.call x.answer) seq
    ∙ ap (λ n. entry e.seq n x.at x.call x.answer) session
    ∙ ap (λ n. entry e.seq e.session n x.call x.answer) at
    ∙ ap (λ n. entry e.seq e.session e.at n x.answer) asked

-- the entry that a Book added for the call of an entry in turn is that entry, but for its answer
pub ruled_answer : (old new : Journal) (e x : Entry) (asked : Call) → e.call ≡ asked → IsInTurn old e → AddsEntry old new e.session e.at asked x
    → IsNext old.rules old.opening (past_of old) x → RulesOn e old new (ruling.Answer x.answer)
ruled_answer old new e x asked is turn adds next =
    let at : x.at ≡ e.at = adds.moment ∙ max-eq_left turn.moment in
    let same : x ≡ record e { answer = x.answer } = same_entry e x (adds.number ∙ sym turn.number) adds.caller at (adds.asked ∙ sym is) in (
      subst (λ y. IsNext old.rules old.opening (past_of old) y) same next,
      record {
        rules = ap (λ (b : Journal). b.rules) adds.grown;
        opening = ap (λ (b : Journal). b.opening) adds.grown;
        entries = ap (λ (b : Journal). b.entries) adds.grown ∙ ap (λ y. old.entries ++ y ∷ []) same;
        newest = adds.newest ∙ ap (λ y. y ∷ past_of old) same;
      },
    )

-- why a call has no answer is why its entry has none
pub refused_so : (b : Journal) (e : Entry) (asked : Call) (ruled : Ruling) → e.call ≡ asked
    → HasNoLegalAnswer b.opening (past_of b) e asked ruled → HasNoLegalAnswer b.opening (past_of b) e e.call ruled
refused_so b e asked ruled is refused = subst (λ c. HasNoLegalAnswer b.opening (past_of b) e c ruled) (sym is) refused

-- the rule alone, without what became of the Book
pub rules_of : (e : Entry) (old new : Journal) (ruled : Ruling) → RulesOn e old new ruled → RulesAfter old.rules old.opening (past_of old) e ruled
rules_of e old new (ruling.Answer a) h = h.0
rules_of e old new (ruling.Seq n) h = h
rules_of e old new (ruling.Moment n) h = h
rules_of e old new (ruling.Count n) h = h
rules_of e old new (ruling.Line l) h = h
rules_of e old new ruling.Stray h = h
rules_of e old new ruling.NotDue h = h
rules_of e old new (ruling.Refused n) h = h
rules_of e old new ruling.Full h = h

-- an entry with the answer that is ruled follows
pub follows : (e : Entry) (old new : Journal) (a : Answer) → a ≡ e.answer → RulesOn e old new (ruling.Answer a) → FollowsEntry e old new None
follows e old new a same h =
    subst (λ (x : Answer). IsNext old.rules old.opening (past_of old) (record e { answer = x }) × BookGoesOn old new (record e { answer = x })) same h

-- an entry in turn with another answer differs
pub differs : (e : Entry) (old new : Journal) (ruled : Ruling) → IsInTurn old e → RulesOn e old new ruled → ¬ (ruled ≡ ruling.Answer e.answer)
    → Differs old.rules old.opening (past_of old) e (ruling.Answer e.answer) ruled
differs e old new ruled turn h other = (refl, turn.number, turn.moment, rules_of e old new ruled h, other)

pub not_true : (b : Bool) → (b ≡ true → false ≡ true) → b ≡ false
not_true true h = sym (h refl)
not_true false h = refl

-- ---- a list of entries

-- legal entries and a further one that follows from them
legal_more : (v : ℕ) (o : Opening) (entries : List Entry) (i : ℕ) (e : Entry) → take (i + 1) entries ≡ take i entries ++ e ∷ []
    → IsLegal v o (take i entries) → IsNext v o (reverse (take i entries)) e → IsLegal v o (take (i + 1) entries)
legal_more v o entries i e more legal next =
    subst (λ (es : List Entry). IsLegal v o es) (sym more)
    (subst (λ (p : List Entry). IsLegalPast v o p) (sym (reverse-append (take i entries) (e ∷ []))) (next, legal))

-- ---- a Book that went on by the entry at a place

-- what a Book has after the entries below a place
pub record HasKept (v : ℕ) (o : Opening) (entries : List Entry) (i at : ℕ) (b : Journal) : Type 0 where
  pub rules : b.rules ≡ v
  pub opening : b.opening ≡ o
  pub entries_so : b.entries ≡ take i entries
  pub moment : at ≡ moment_of b.opening (past_of b)
  pub legal : IsLegal v o (take i entries)

-- the entry at a place follows from the entries below it
pub next_here : (v : ℕ) (o : Opening) (entries : List Entry) (i at : ℕ) (b : Journal) (e : Entry) → HasKept v o entries i at b
    → IsNext b.rules b.opening (past_of b) e → IsNext v o (reverse (take i entries)) e
next_here v o entries i at b e kept next =
    subst (λ w. IsNext w o (reverse (take i entries)) e) kept.rules
    (subst (λ (p : Opening). IsNext b.rules p (reverse (take i entries)) e) kept.opening
    (subst (λ (es : List Entry). IsNext b.rules b.opening (reverse es) e) kept.entries_so next))

pub kept_more : (v : ℕ) (o : Opening) (entries : List Entry) (i at : ℕ) (old new : Journal) (e : Entry) → FollowsEntry e old new None
    → HasKept v o entries i at old → slice_get entries i ≡ Some e → HasKept v o entries (i + 1) e.at new
kept_more v o entries i at old new e follows kept found =
    let more : take (i + 1) entries ≡ take i entries ++ e ∷ [] =
    take_more entries i e (slice_get_within entries i e found) ∙ ap (λ x. take i entries ++ x ∷ []) (get_or_from_slice_get entries i e e found) in
    record {
      rules = follows.1.rules ∙ kept.rules;
      opening = follows.1.opening ∙ kept.opening;
      entries_so = follows.1.entries ∙ ap (λ (es : List Entry). es ++ e ∷ []) kept.entries_so ∙ sym more;
      moment = sym (ap (λ (p : List Entry). moment_of new.opening p) follows.1.newest);
      legal = legal_more v o entries i e more kept.legal (next_here v o entries i at old e kept follows.0);
    }

-- the entry at a place differs, and those below it are legal
pub first_wrong : (v : ℕ) (o : Opening) (entries : List Entry) (i at : ℕ) (old new : Journal) (e : Entry) (kept ruled : Ruling) → slice_get entries i ≡ Some e
    → HasKept v o entries i at old → FollowsEntry e old new (Some (kept, ruled)) → IsFirstWrong v o entries i kept ruled
first_wrong v o entries i at old new e kept ruled found has differs = record {
  entry = e;
  found = found;
  before = has.legal;
  differs = subst (λ w. Differs w o (reverse (take i entries)) e kept ruled) has.rules
      (subst (λ (p : Opening). Differs old.rules p (reverse (take i entries)) e kept ruled) has.opening
      (subst (λ (es : List Entry). Differs old.rules old.opening (reverse es) e kept ruled) has.entries_so differs));
}

-- before the first entry
pub kept_none : (b : Journal) (entries : List Entry) (at : ℕ) → IsSound b → b.entries ≡ [] → at ≡ b.opening.at → HasKept b.rules b.opening entries 0 at b
kept_none b entries at sound none is = record {
  rules = refl;
  opening = refl;
  entries_so = none;
  moment = is ∙ sym (ap (λ (es : List Entry). moment_of b.opening (reverse es)) none);
  legal = subst (λ (es : List Entry). IsLegal b.rules b.opening es) none sound;
}

-- after the last one
pub kept_all : (old new : Journal) (entries : List Entry) (i at : ℕ) → HasKept old.rules old.opening entries i at new → length entries ≤ i
    → JudgesEntries old new entries None
kept_all old new entries i at kept all =
    let whole : take i entries ≡ entries = take_all i entries all in (
      subst (λ (es : List Entry). IsLegal old.rules old.opening es) whole kept.legal,
      record { rules = kept.rules; opening = kept.opening; entries = kept.entries_so ∙ whole },
    )
