-- The entries of a legal history are those that a segment may keep.
use Rattle.std.proofs.Common.{◌≡◌, ℕ, zero, suc, ◌-◌, ◌<◌, Bool, List, [], ◌∷◌, length, reverse, get_or, sym, ◌∙◌, ap, subst, arith}
use Rattle.std.proofs.lemmas.List.{get_or-reverse, length-reverse}
use Rattle.std.proofs.lemmas.Option.{slice_get_within, get_or_from_slice_get}
use Rattle.lb_model.specs.Choice.{IsPick}
use Rattle.lb_model.specs.Legal.{IsLegal, IsLegalPast, IsAnswered}
use Rattle.lb_model.specs.Segments.{AreRules, IsKeptEntry, AreKeptEntries}
use Rattle.lb_model.proofs.TicketLaws.{chosen_select}
use Rattle.lb_model.specs.declared.ask.Ask.{Ask}
use Rattle.lb_model.specs.declared.journal.Answer.{Answer}
use Rattle.lb_model.specs.declared.journal.Call.{Call}
use Rattle.lb_model.specs.declared.journal.Entry.{Entry}
use Rattle.lb_model.specs.declared.journal.How.{How}
use Rattle.lb_model.specs.declared.opening.Opening.{Opening}
use Rattle.lb_rules.specs.declared.rules.Rules.{Rules}
use Rattle.lb_rules.specs.RuleNumbers.{rules_number}

pub are_rules : (number : ℕ) (rules : Rules) → number ≡ rules_number rules → AreRules number
are_rules number Rules.One is = record { first = omega arith; last = omega arith }
are_rules number Rules.Two is = record { first = omega arith; last = omega arith }

ticket_is : (v : ℕ) (o : Opening) (p : List Entry) (e : Entry) (m t : ℕ) (how : How) (probe : Bool) → IsLegalPast v o (e ∷ p)
    → e.answer ≡ Answer.Chosen m t how probe → t ≡ e.seq
ticket_is v o p e m t how probe legal is =
    let select : (ask : Ask) × (e.call ≡ Call.Select ask) = chosen_select v o p e m t how probe legal is in
    let answered : IsAnswered v o p e (Call.Select select.0) =
    subst (λ (c : Call). IsAnswered v o p e c) select.1 legal.0.answered in
    let pick : IsPick v o p select.0 (Answer.Chosen m t how probe) =
    subst (λ (a : Answer). IsPick v o p select.0 a) is answered.0 in
    pick.1 ∙ sym legal.0.number

kept_entry : (v : ℕ) (o : Opening) (p : List Entry) (e : Entry) → IsLegalPast v o (e ∷ p) → IsKeptEntry v e
kept_entry v o p e legal = record {
  ticket = λ m t how probe is. ticket_is v o p e m t how probe legal is;
  bytes = λ t w is. (subst (λ (c : Call). IsAnswered v o p e c) is legal.0.answered).1;
  disabled = λ ask one is. ((subst (λ (c : Call). IsAnswered v o p e c) is legal.0.answered).1 one).0;
  stopped = λ ask one is. ((subst (λ (c : Call). IsAnswered v o p e c) is legal.0.answered).1 one).1;
}

kept_past : (v : ℕ) (o : Opening) (p : List Entry) → IsLegalPast v o p → (k : ℕ) (d : Entry) → k < length p
    → IsKeptEntry v (get_or p k d)
kept_past v o [] legal k d lt = absurd (omega arith)
kept_past v o (e ∷ p) legal zero d lt = kept_entry v o p e legal
kept_past v o (e ∷ p) legal (suc k) d lt = kept_past v o p legal.1 k d (omega arith)

pub kept_entries : (v : ℕ) (o : Opening) (h : List Entry) → IsLegal v o h → AreKeptEntries v h
kept_entries v o h legal = record {
  at = λ i e found.
      let within : i < length h = slice_get_within h i e found in
      let count : length (reverse h) ≡ length h = length-reverse h in
      let place : length h - 1 - (length h - 1 - i) ≡ i = omega arith in
      let here : get_or (reverse h) (length h - 1 - i) e ≡ e =
      get_or-reverse h (length h - 1 - i) e (omega arith) ∙ ap (λ (k : ℕ). get_or h k e) place ∙ get_or_from_slice_get h i e e found in
      subst (λ (x : Entry). IsKeptEntry v x) here (kept_past v o (reverse h) legal (length h - 1 - i) e (omega (arith, within, count)));
}
