-- The entries of the Book as a script's lines, one line after the other.
use Rattle.std.proofs.Common.{ℕ, ◌+◌, ◌^◌, ◌≡◌, ◌≤◌, ◌<◌, List, [], ◌∷◌, ◌++◌, length, reverse, refl, sym, ap, ◌∙◌, subst, arith, append_assoc, length-append, inl, inr}
use Rattle.std.proofs.lemmas.List.{length-reverse, append-nil}
use Rattle.lb_model.specs.declared.journal.Call.{Call}
use Rattle.lb_model.specs.declared.journal.Entry.{Entry}
use Rattle.lb_model.specs.declared.opening.Opening.{Opening}
use Rattle.lb_model.specs.Tickets.{out}
use Rattle.lb_model.specs.Legal.{IsLegalPast}
use Rattle.lb_model.proofs.OutFacts.{out_one_more, out-opening}
use Rattle.lb_book.specs.Journal.{Journal, IsSound, AddsEntry, past_of, next_number, tickets_out}
use Rattle.std.proofs.lemmas.Bool.{cases_Bool, MatchBool-at_true, MatchBool-at_false}
use Rattle.play_script.specs.Play.{is_skipped, AddsCall, SaysLine, Runs}
use Rattle.play_script.specs.declared.printed.ScriptRefusal.{ScriptRefusal}
use Rattle.play_script.specs.Printed.{refusal_line}
use Rattle.play_script.specs.Steps.{step_of}
use Rattle.play_script.proofs.PlayLemmas.{runs_skipped, runs_said, runs_stopped}
use Rattle.plain_commands.specs.Turns.{IsPlayed, KeepsScript, Maintains, AnsweredCall, TurnsScript, Taken, RefusesScriptLine, AppendsRun}

-- no more tickets are out than there are entries
out_within : (o : Opening) (p : List Entry) → o.out ≡ [] → length (out o p) ≤ length p
out_within o [] none =
    let count : length (out o []) ≡ length o.out = ap length (out-opening o) ∙ length-reverse o.out in
    let empty : length o.out ≡ 0 = rw none refl in
    omega arith
out_within o (e ∷ p) none = omega (arith, out_one_more o p e, out_within o p none)

-- there is a number for each entry of a script
pub room_left : (b : Journal) → IsPlayed b → length b.entries < 2 ^ 40 → next_number b + tickets_out b + 2 ≤ 2 ^ 48
room_left b played few =
    omega (arith, played.first, length-reverse b.entries, out_within b.opening (reverse b.entries) played.none_out)

module _ (old new : Journal) (at : ℕ) (call : Call) (e : Entry) (played : IsPlayed old) (adds : AddsEntry old new 0 at call e) (sound : IsSound new) where
  same_opening : new.opening ≡ old.opening
  same_opening = ap (λ (j : Journal). j.opening) adds.grown

  same_rules : new.rules ≡ 2
  same_rules = ap (λ (j : Journal). j.rules) adds.grown ∙ played.rules

  one_more : length new.entries ≤ length old.entries + 1
  one_more = omega (arith, ap (λ (j : Journal). length j.entries) adds.grown, length-append old.entries (e ∷ []))

  pub added_keeps : KeepsScript old new
  added_keeps = record {
    played = record {
      rules = same_rules;
      sound = sound;
      first = ap (λ (o : Opening). o.next) same_opening ∙ played.first;
      none_out = ap (λ (o : Opening). o.out) same_opening ∙ played.none_out;
    };
    opening = same_opening;
    few = one_more;
  }

  legal_next : IsLegalPast 2 old.opening (e ∷ past_of old)
  legal_next =
      let P : ℕ → Opening → List Entry → Type 0 = λ v o p. IsLegalPast v o p in
      subst (λ p. P 2 old.opening p) adds.newest
      (subst (λ o. P 2 o (past_of new)) same_opening (subst (λ v. P v new.opening (past_of new)) same_rules sound))

  pub added_call : AddsCall old.opening at (past_of old) call e
  added_call = record { next = legal_next.0; call = adds.asked; session = adds.caller; moment = adds.moment }

  pub added_past : past_of new ≡ e ∷ past_of old
  added_past = adds.newest

module _ (names : List (List ℕ)) (old new : Journal) (at : ℕ) (line : List ℕ) (part : List ℕ) (moment : ℕ) (number : ℕ) (lines : List (List ℕ)) where
  -- a line's part, and then those of the lines after it
  pub turned : TurnsScript names old at line part moment new → new.opening ≡ old.opening → (behind : List ℕ) (status : ℕ)
      → Runs names new.opening lines (number + 1) moment (past_of new) behind status
      → Runs names old.opening (line ∷ lines) number at (past_of old) (part ++ behind) status
  turned turns opening behind status rest =
      let R : Opening → ℕ → List Entry → List ℕ → Type 0 = λ o m q text. Runs names o lines (number + 1) m q text status in
      let here : Runs names old.opening lines (number + 1) moment (past_of new) behind status = subst (λ o. R o moment (past_of new) behind) opening rest in
      elim (cases_Bool (is_skipped line)) [
        | inl skipped ↦
            let nothing = MatchBool-at_true ((part ≡ []) × (moment ≡ at) × (past_of new ≡ past_of old)) _ skipped turns in
            let text : behind ≡ part ++ behind = ap (λ t. t ++ behind) (sym nothing.0) in
            runs_skipped names old.opening line lines number at (past_of old) (part ++ behind) status skipped
            (subst (λ t. R old.opening at (past_of old) t) text
            (subst (λ m. R old.opening m (past_of old) behind) nothing.1
            (subst (λ q. R old.opening moment q behind) nothing.2 here)))
        | inr full ↦
            let says = MatchBool-at_false _ (SaysLine names old.opening at (past_of old) (step_of names line) part moment (past_of new)) full turns in
            runs_said names old.opening line lines number at (past_of old) part behind moment (past_of new) status full says here
      ]

-- Below, the script began with the Book b0 at the lines ls0, and has come to the line with the Book b.
module _ (names : List (List ℕ)) (b0 b : Journal) (n0 a0 number at : ℕ) (ls0 : List (List ℕ)) (line : List ℕ) (lines : List (List ℕ))
    (out0 out text : List ℕ) (put : out ≡ out0 ++ text)
    (runs : (rest : List ℕ) (status : ℕ) → Runs names b.opening (line ∷ lines) number at (past_of b) rest status
    → Runs names b0.opening ls0 n0 a0 (past_of b0) (text ++ rest) status) where
  -- what was printed, with the part of the line
  pub goes_on : (new : Journal) (moment : ℕ) (after : List ℕ) (t : Taken names at line moment b new out after) → after ≡ out0 ++ (text ++ t.part)
  goes_on new moment after t = t.put ∙ ap (λ o. o ++ t.part) put ∙ append_assoc out0 text t.part

  -- what the lines after it print, is printed after that
  pub goes_on_runs : (new : Journal) (moment : ℕ) (after : List ℕ) (t : Taken names at line moment b new out after) (rest : List ℕ) (status : ℕ)
      → Runs names new.opening lines (number + 1) moment (past_of new) rest status
      → Runs names b0.opening ls0 n0 a0 (past_of b0) ((text ++ t.part) ++ rest) status
  goes_on_runs new moment after t rest status behind =
      let here : Runs names b0.opening ls0 n0 a0 (past_of b0) (text ++ (t.part ++ rest)) status =
      runs (t.part ++ rest) status (turned names b new at line t.part moment number lines t.turns t.keeps.opening rest status behind) in
      subst (λ o. Runs names b0.opening ls0 n0 a0 (past_of b0) o status) (sym (append_assoc text t.part rest)) here

  -- the script ends after its last line
  pub comes_to_end : (new : Journal) (moment : ℕ) (after : List ℕ) → Taken names at line moment b new out after → lines ≡ []
      → AppendsRun names b0 n0 a0 ls0 0 out0 after
  comes_to_end new moment after t last = record {
    text = (text ++ t.part) ++ [];
    put = goes_on new moment after t ∙ ap (λ o. out0 ++ o) (sym (append-nil (text ++ t.part)));
    runs = goes_on_runs new moment after t [] 0
        (subst (λ ls. Runs names new.opening ls (number + 1) moment (past_of new) [] 0) (sym last) (refl, refl));
  }

  -- the script ends at a refused line
  pub comes_to_stop : (reason : ScriptRefusal) (before after : List ℕ) → RefusesScriptLine names line b out before reason → after ≡ before ++ refusal_line number reason
      → AppendsRun names b0 n0 a0 ls0 3 out0 after
  comes_to_stop reason before after refuses printed = record {
    text = text ++ refusal_line number reason;
    put = printed ∙ ap (λ o. o ++ refusal_line number reason) (refuses.put ∙ put) ∙ append_assoc out0 text (refusal_line number reason);
    runs = runs (refusal_line number reason) 3
        (runs_stopped names b.opening line lines number at (past_of b) reason (refusal_line number reason) 3 refuses.full refuses.refused
        (record { printed = refl; ended = refl }));
  }

-- A maintenance was asked for: it was done, or none was due.
pub maintained_asks : (names : List (List ℕ)) (old new : Journal) (at : ℕ) (out : List ℕ) → IsPlayed old → Maintains at old new
    → AnsweredCall names at Call.Maintain old new out out
maintained_asks names old new at out played maintains =
    elim maintains [
      | inl done ↦ record {
        part = [];
        asks = inl (done.entry, done.adds, refl, done.past);
        put = sym (append-nil out);
        keeps = done.keeps;
      }
      | inr none ↦ record {
        part = [];
        asks = inr (none.0, refl, ap past_of none.1);
        put = sym (append-nil out);
        keeps = subst (λ (b : Journal). KeepsScript old b) (sym none.1) (record { played = played; opening = refl; few = omega arith });
      }
    ]
