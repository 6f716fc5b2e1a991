use Rattle.std.proofs.Common.{◌≡◌, ℕ, ◌+◌, ◌-◌, ◌/◌, ◌<◌, ◌≤◌, List, length, get_or, subst, sym, inl, inr, arith}
use Rattle.std.proofs.lemmas.Bool.{cases_eq}
use Rattle.std.proofs.lemmas.List.{get_or_default}
use Rattle.lb_rules.proofs.tickets.place_of.Goals as goal

-- A bound on a ticket that was read holds at any default.
below-any : (xs : List (ℕ × ℕ)) (i t : ℕ) (d e : ℕ × ℕ) → i < length xs → (get_or xs i e).0 < t → (get_or xs i d).0 < t
below-any xs i t d e lt h = subst (λ (x : ℕ × ℕ). x.0 < t) (get_or_default xs i e d lt) h

above-any : (xs : List (ℕ × ℕ)) (i t : ℕ) (d e : ℕ × ℕ) → i < length xs → ((get_or xs i e).0 ≡ t → ⊥) → t ≤ (get_or xs i e).0
    → t < (get_or xs i d).0
above-any xs i t d e lt differ h = subst (λ (x : ℕ × ℕ). t < x.0) (get_or_default xs i e d lt) (omega (arith, differ, h))

pub loop-low-preserved-then-here-ticket-2 : goal.loop-low-preserved-then-here-ticket-2
loop-low-preserved-then-here-ticket-2 c =
    let middle : ℕ = c.loop-low.low + (c.loop-low.high - c.loop-low.low) / 2 in
    let within : middle < c.loop-low.high = omega (arith, c.loop-low-test.true) in
    let inside : middle < length c.args.tickets.now = omega (arith, c.loop-low.invariant.within, within) in
    let less : (d : ℕ × ℕ) → (get_or c.args.tickets.now middle d).0 < c.args.ticket = λ d.
    below-any c.args.tickets.now middle c.args.ticket d _ inside c.if-here-ticket-2.true in
    record {
      ordered = omega (arith, within);
      within = c.loop-low.invariant.within;
      below = λ i d lt.
          elim (cases_eq i middle) [
            | inl same ↦ subst (λ (k : ℕ). (get_or c.args.tickets.now k d).0 < c.args.ticket) (sym same) (less d)
            | inr other ↦
                let rises : (get_or c.args.tickets.now i d).0 < (get_or c.args.tickets.now middle d).0 =
                c.requires i middle d (omega arith) inside in
                omega (arith, rises, less d)
          ];
      above = c.loop-low.invariant.above;
    }

pub loop-low-preserved : goal.loop-low-preserved
loop-low-preserved c =
    let middle : ℕ = c.loop-low.low + (c.loop-low.high - c.loop-low.low) / 2 in
    let within : middle < c.loop-low.high = omega (arith, c.loop-low-test.true) in
    let inside : middle < length c.args.tickets.now = omega (arith, c.loop-low.invariant.within, within) in
    let more : (d : ℕ × ℕ) → c.args.ticket < (get_or c.args.tickets.now middle d).0 = λ d.
    above-any c.args.tickets.now middle c.args.ticket d _ inside c.if-here-ticket.false c.if-here-ticket-2.false in
    record {
      ordered = omega (arith, within);
      within = omega (arith, within, c.loop-low.invariant.within);
      below = c.loop-low.invariant.below;
      above = λ i d le lt.
          elim (cases_eq i middle) [
            | inl same ↦ subst (λ (k : ℕ). c.args.ticket < (get_or c.args.tickets.now k d).0) (sym same) (more d)
            | inr other ↦
                let rises : (get_or c.args.tickets.now middle d).0 < (get_or c.args.tickets.now i d).0 =
                c.requires middle i d (omega arith) lt in
                omega (arith, rises, more d)
          ];
    }
