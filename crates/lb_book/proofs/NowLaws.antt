-- The kept present of a Book after an entry, row by row.
use Rattle.std.proofs.Common.{◌≡◌, ℕ, suc, ◌+◌, ◌^◌, ◌<◌, ◌≤◌, Bool, true, false, ◌&&◌, not, cond, List, ◌∷◌, length, Some, None, get_or, refl, sym, ◌∙◌, ap, subst, inl, inr, arith}
use Rattle.std.specs.Prelude.{◌==◌}
use Rattle.std.proofs.lemmas.Bool.{cases_Bool, cases_eq, eqb-true, eq-eqb}
use Rattle.lb_model.specs.Journal.{chose, chosen_in, newest_chosen, next_of}
use Rattle.lb_model.specs.States.{is_balanced}
use Rattle.lb_model.specs.Tickets.{Ticket, busy_of, is_on, is_out, out, ticket_in}
use Rattle.lb_model.specs.Legal.{IsLegalPast}
use Rattle.lb_model.proofs.OutFacts.{busy-chosen, out-chosen, out-kept, length-returned, on_one}
use Rattle.std.specs.List.{count_by}
use Rattle.lb_model.specs.declared.ask.Ask.{Ask}
use Rattle.lb_model.specs.declared.journal.Answer.{Answer}
use Rattle.lb_model.specs.declared.journal.How.{How}
use Rattle.lb_model.specs.declared.journal.Outcome.{Outcome}
use Rattle.lb_model.specs.declared.journal.Entry.{Entry}
use Rattle.lb_model.specs.declared.opening.Opening.{Opening}
use Rattle.lb_rules.specs.declared.standing.Standing.{Standing}
use Rattle.lb_book.specs.declared.present.Present.{Present}
use Rattle.lb_rules.specs.Picks.{HasRoomFor, revives_at}
use Rattle.lb_book.specs.Steps.{returned_row}
use Rattle.lb_book.specs.Revived.{row_selected, tickets_after}
use Rattle.lb_book.specs.Kept.{IsStanding, IsNow}
use Rattle.lb_book.proofs.ChoiceLaws.{nobody, any_usable_now}
use Rattle.lb_book.proofs.StepLaws.{select_entry, return_entry, is_reviving, standing-chosen, standing-other, standing-returned, standing-kept}

-- Whether an answer revives is told by the rows.
pub reviving-now : (v : ℕ) (o : Opening) (p : List Entry) (now : Present) → IsNow v o p now → (ask : Ask) (a : Answer)
    → revives_at v now.rows.items nobody ask a ≡ is_reviving v o p ask a
reviving-now v o p now h ask a =
    ap (λ (b : Bool). (v == 2) && (is_balanced a && not b)) (any_usable_now v o p now h ask nobody)

-- A row that a choice of member j leaves.
module _ (v : ℕ) (o : Opening) (p : List Entry) (m : ℕ) (row : Standing) (h : IsStanding v o p m row)
    (seq session at : ℕ) (ask : Ask) (legal : IsLegalPast v o p) (number : seq ≡ next_of o p) where
  after_choice : (j t : ℕ) (how : How) (probe revives : Bool)
      → revives ≡ is_reviving v o p ask (Answer.Chosen j t how probe) → (j ≡ m → row.busy < row.pool)
      → IsStanding v o (select_entry seq session at ask (Answer.Chosen j t how probe) ∷ p) m
      (row_selected o.config.method seq ask (Answer.Chosen j t how probe) revives m row)
  after_choice j t how probe revives reviving free =
      elim (cases_Bool (j == m)) [
        | inl this ↦
            let same : j ≡ m = eqb-true j m this in
            let itself : (m == m) ≡ true = eq-eqb m m refl in
            subst (λ (k : ℕ). IsStanding v o (select_entry seq session at ask (Answer.Chosen k t how probe) ∷ p) m
            (row_selected o.config.method seq ask (Answer.Chosen k t how probe) revives m row)) (sym same)
            (rw itself (standing-chosen v o p m row h seq session at ask t how probe legal number (free same) itself))
        | inr other ↦
            let e : Entry = select_entry seq session at ask (Answer.Chosen j t how probe) in
            let counted : busy_of o (e ∷ p) m ≡ 0 + busy_of o p m =
            busy-chosen v o p e ask j t how probe m legal number refl refl ∙ ap (λ (b : Bool). cond b 1 0 + busy_of o p m) other in
            let busy_same : busy_of o (e ∷ p) m ≡ busy_of o p m = omega (arith, counted) in
            rw other (standing-other v o p m row h seq session at ask (Answer.Chosen j t how probe) revives reviving other busy_same)
      ]

  -- A row that an answer without a choice leaves.
  after_none : (a : Answer) → chose m a ≡ false → ticket_in seq a ≡ None → (revives : Bool) → revives ≡ is_reviving v o p ask a
      → IsStanding v o (select_entry seq session at ask a ∷ p) m (row_selected o.config.method seq ask a revives m row)
  after_none a other no_ticket_made revives reviving =
      let e : Entry = select_entry seq session at ask a in
      let busy_same : busy_of o (e ∷ p) m ≡ busy_of o p m =
      ap (λ (xs : List Ticket). count_by (λ x. x.1 == m) xs) (out-kept o p e no_ticket_made (λ t. refl)) in
      rw other (standing-other v o p m row h seq session at ask a revives reviving other busy_same)

  pub after_select : (a : Answer) (revives : Bool) → revives ≡ is_reviving v o p ask a
      → (chosen_in a ≡ Some m → row.busy < row.pool)
      → IsStanding v o (select_entry seq session at ask a ∷ p) m (row_selected o.config.method seq ask a revives m row)
  after_select (Answer.Chosen j t how probe) revives reviving free =
      after_choice j t how probe revives reviving (λ same. free (ap (λ (k : ℕ). Some k) same))
  after_select Answer.NoMember revives reviving free = after_none Answer.NoMember refl refl revives reviving
  after_select Answer.Forced revives reviving free = after_none Answer.Forced refl refl revives reviving
  after_select Answer.Done revives reviving free = after_none Answer.Done refl refl revives reviving

-- The count of the tickets after a Select.
tickets-select : (v : ℕ) (o : Opening) (p : List Entry) (seq session at : ℕ) (ask : Ask) (a : Answer)
    → IsLegalPast v o p → seq ≡ next_of o p
    → tickets_after a (length (out o p)) ≡ length (out o (select_entry seq session at ask a ∷ p))
tickets-select v o p seq session at ask (Answer.Chosen j t how probe) legal number =
    let e : Entry = select_entry seq session at ask (Answer.Chosen j t how probe) in
    let grown : length (out o (e ∷ p)) ≡ suc (length (out o p)) =
    ap length (out-chosen v o p e ask j t how probe legal number refl refl) in
    omega arith
tickets-select v o p seq session at ask Answer.NoMember legal number =
    ap length (sym (out-kept o p (select_entry seq session at ask Answer.NoMember) refl (λ t. refl)))
tickets-select v o p seq session at ask Answer.Forced legal number =
    ap length (sym (out-kept o p (select_entry seq session at ask Answer.Forced) refl (λ t. refl)))
tickets-select v o p seq session at ask Answer.Done legal number =
    ap length (sym (out-kept o p (select_entry seq session at ask Answer.Done) refl (λ t. refl)))

room-for : (rows : List Standing) (a : Answer) (m : ℕ) (d : Standing) → HasRoomFor rows a → chosen_in a ≡ Some m
    → (get_or rows m d).busy < (get_or rows m d).pool
room-for rows (Answer.Chosen j t how probe) m d room is =
    let same : j ≡ m = cc in
    subst (λ (k : ℕ). (get_or rows k d).busy < (get_or rows k d).pool) same (room.1 d)
room-for rows Answer.NoMember m d room is = absurd cc
room-for rows Answer.Forced m d room is = absurd cc
room-for rows Answer.Done m d room is = absurd cc

-- A present that a Select left.
pub record IsSelected (o : Opening) (old : Present) (seq at : ℕ) (ask : Ask) (a : Answer) (revives : Bool) (new : Present) : Type 0 where
  pub whole : length new.rows.items ≡ length old.rows.items
  pub rows : (m : ℕ) (d : Standing) → m < length old.rows.items → get_or new.rows.items m d
      ≡ row_selected o.config.method seq ask a revives m (get_or old.rows.items m d)
  pub tickets : new.out ≡ tickets_after a old.out
  pub moment : new.at ≡ at
  pub maintained : new.maintained ≡ old.maintained
  pub chosen : new.chosen ≡ newest_chosen (chosen_in a) old.chosen

pub now-selected : (v : ℕ) (o : Opening) (p : List Entry) (old new : Present) (seq session at : ℕ) (ask : Ask) (a : Answer) (revives : Bool)
    → IsNow v o p old → IsLegalPast v o p → seq ≡ next_of o p
    → revives ≡ revives_at v old.rows.items nobody ask a → HasRoomFor old.rows.items a
    → IsSelected o old seq at ask a revives new → IsNow v o (select_entry seq session at ask a ∷ p) new
now-selected v o p old new seq session at ask a revives h legal number reviving room is = record {
  whole = is.whole ∙ h.whole;
  rows = λ m d lt.
      let within : m < length old.rows.items = omega (arith, h.whole) in
      subst (λ (r : Standing). IsStanding v o (select_entry seq session at ask a ∷ p) m r) (sym (is.rows m d within))
      (after_select v o p m (get_or old.rows.items m d) (h.rows m d lt) seq session at ask legal number a revives
      (reviving ∙ reviving-now v o p old h ask a) (room-for old.rows.items a m d room));
  tickets = is.tickets ∙ ap (tickets_after a) h.tickets ∙ tickets-select v o p seq session at ask a legal number;
  moment = is.moment;
  maintained = is.maintained ∙ h.maintained;
  chosen = is.chosen ∙ ap (newest_chosen (chosen_in a)) h.chosen;
}

-- A present that a Return left.
pub record IsGivenBack (o : Opening) (old : Present) (member ticket at : ℕ) (outcome : Outcome) (new : Present) : Type 0 where
  pub whole : length new.rows.items ≡ length old.rows.items
  pub row : (d : Standing) → get_or new.rows.items member d
      ≡ returned_row o.config.method o.config.direct ticket outcome at (get_or old.rows.items member d)
  pub others : (m : ℕ) (d : Standing) → (m ≡ member → ⊥) → get_or new.rows.items m d ≡ get_or old.rows.items m d
  pub tickets : new.out + 1 ≡ old.out
  pub moment : new.at ≡ at
  pub maintained : new.maintained ≡ old.maintained
  pub chosen : new.chosen ≡ old.chosen

other_member : (v : ℕ) (o : Opening) (p : List Entry) (ticket i j : ℕ) → IsLegalPast v o p → is_on o p ticket i ≡ true
    → (j ≡ i → ⊥) → is_on o p ticket j ≡ false
other_member v o p ticket i j legal on_i differ =
    elim (cases_Bool (is_on o p ticket j)) [
      | inl on_j ↦ absurd (differ (on_one v o p ticket j i legal on_j on_i))
      | inr off ↦ off
    ]

pub now-returned : (v : ℕ) (o : Opening) (p : List Entry) (old new : Present) (member seq session at ticket : ℕ) (outcome : Outcome)
    → IsNow v o p old → IsLegalPast v o p → is_out o p ticket ≡ true → is_on o p ticket member ≡ true → outcome.bytes ≤ 2 ^ 44
    → IsGivenBack o old member ticket at outcome new → IsNow v o (return_entry seq session at ticket outcome ∷ p) new
now-returned v o p old new member seq session at ticket outcome h legal is_open mine few is =
    let e : Entry = return_entry seq session at ticket outcome in
    let less : length (out o p) ≡ 1 + length (out o (e ∷ p)) = length-returned v o p e ticket outcome legal refl refl is_open in
    record {
      whole = is.whole ∙ h.whole;
      rows = λ m d lt.
          elim (cases_eq m member) [
            | inl same ↦
                let on_m : is_on o p ticket m ≡ true = subst (λ (k : ℕ). is_on o p ticket k ≡ true) (sym same) mine in
                let stepped : get_or new.rows.items m d
                ≡ returned_row o.config.method o.config.direct ticket outcome at (get_or old.rows.items m d) =
                subst (λ (k : ℕ). get_or new.rows.items k d
                ≡ returned_row o.config.method o.config.direct ticket outcome at (get_or old.rows.items k d)) (sym same) (is.row d) in
                subst (λ (r : Standing). IsStanding v o (e ∷ p) m r) (sym stepped)
                (standing-returned v o p m (get_or old.rows.items m d) (h.rows m d lt) seq session at ticket outcome legal is_open on_m few)
            | inr differ ↦
                subst (λ (r : Standing). IsStanding v o (e ∷ p) m r) (sym (is.others m d differ))
                (standing-kept v o p m (get_or old.rows.items m d) (h.rows m d lt) seq session at ticket outcome legal is_open
                (other_member v o p ticket member m legal mine differ))
          ];
      tickets = omega (arith, is.tickets, h.tickets, less);
      moment = is.moment;
      maintained = is.maintained ∙ h.maintained;
      chosen = is.chosen ∙ h.chosen;
    }
