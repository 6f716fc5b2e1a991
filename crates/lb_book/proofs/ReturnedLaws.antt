-- When each ticket that was given out came back.
use Rattle.std.proofs.Common.{◌≡◌, ℕ, Bool, List, [], ◌∷◌, ◌++◌, map, refl, sym, ap, ◌∙◌, subst, arith}
use Rattle.std.proofs.lemmas.List.{append_assoc, map-append}
use Rattle.std.proofs.lemmas.List.Elements.{Contains-append_left}
use Rattle.lb_model.specs.declared.journal.Answer.{Answer}
use Rattle.lb_model.specs.declared.journal.Answer.TheVariants as answer
use Rattle.lb_model.specs.declared.journal.Call.{Call}
use Rattle.lb_model.specs.declared.journal.Call.TheVariants as call
use Rattle.lb_model.specs.declared.journal.Entry.{Entry}
use Rattle.lb_model.specs.declared.journal.How.{How}
use Rattle.lb_model.specs.declared.journal.Outcome.{Outcome}
use Rattle.lb_book.specs.Desks.{IsDue}
use Rattle.lb_book.specs.Returned.{AreReturned, GivesOut, HaveReturned}
use Rattle.lb_book.specs.declared.receipt.Receipt.{Receipt}

pub returned-append : (xs ys : List (ℕ × Entry)) → AreReturned xs → AreReturned ys → AreReturned (xs ++ ys)
returned-append [] ys first second = second
returned-append (x ∷ xs) ys first second = (
  λ ticket out. (let back = first.0 ticket out in
      record { entry = back.entry; within = Contains-append_left xs ys (x.0, back.entry) back.within; takes = back.takes }),
  returned-append xs ys first.1 second,
)

pub have_returned-append : (xs ys : List Receipt) → HaveReturned xs → HaveReturned ys → HaveReturned (xs ++ ys)
have_returned-append xs ys first second =
    subst AreReturned (sym (map-append (λ (r : Receipt). (r.lb, r.entry)) xs ys)) (returned-append _ _ first second)

-- An entry gives out no ticket unless it is of a Select.
abbrev pub IsNoSelect : Call → Type 0
IsNoSelect (call.Select ask) = ⊥
IsNoSelect (call.Return ticket outcome) = Unit {0}
IsNoSelect call.Maintain = Unit {0}
IsNoSelect (call.Admin command) = Unit {0}

pub none_out : (e : Entry) (known : Call) → e.call ≡ known → IsNoSelect known → (ticket : ℕ) → GivesOut e ticket → ⊥
none_out e known is kind ticket out = subst IsNoSelect (sym is ∙ out.asked) kind

-- Nor unless it chose a member.
abbrev pub IsNoChoice : Answer → Type 0
IsNoChoice (answer.Chosen m ticket how probe) = ⊥
IsNoChoice answer.NoMember = Unit {0}
IsNoChoice answer.Forced = Unit {0}
IsNoChoice answer.Done = Unit {0}

pub none_chosen : (e : Entry) (known : Answer) → e.answer ≡ known → IsNoChoice known → (ticket : ℕ) → GivesOut e ticket → ⊥
none_chosen e known is kind ticket out = subst IsNoChoice (sym is ∙ out.chosen) kind

-- One more entry, which gives out no ticket.
pub returned_before : (r : Receipt) (later : List Receipt) → ((ticket : ℕ) → GivesOut r.entry ticket → ⊥) → HaveReturned later → HaveReturned (r ∷ later)
returned_before r later none rest = (λ ticket out. absurd (none ticket out), rest)

pub due_returned : (due : List Receipt) → IsDue due → HaveReturned due
due_returned [] is = tt
due_returned (r ∷ []) is = returned_before r [] (none_out r.entry call.Maintain is tt) tt
due_returned (r ∷ other ∷ rest) is = absurd is

-- The Maintain that was due, and an entry that gives out no ticket.
pub last_returned : (due : List Receipt) (last : Receipt) → IsDue due → ((ticket : ℕ) → GivesOut last.entry ticket → ⊥) → HaveReturned (due ++ last ∷ [])
last_returned due last is none = have_returned-append due (last ∷ []) (due_returned due is) (returned_before last [] none tt)

abbrev chosen_in : Answer → ℕ
chosen_in (answer.Chosen m ticket how probe) = ticket
chosen_in answer.NoMember = 0
chosen_in answer.Forced = 0
chosen_in answer.Done = 0

-- A ticket was given out, and came back.
pair_returned : (out back : Receipt) (m ticket : ℕ) (how : How) (probe : Bool) (outcome : Outcome) → out.entry.answer ≡ answer.Chosen m ticket how probe
    → back.lb ≡ out.lb → back.entry.call ≡ call.Return ticket outcome → back.entry.answer ≡ answer.Done → HaveReturned (out ∷ back ∷ [])
pair_returned out back m ticket how probe outcome chosen same returned done = (
  λ t gives. record {
    entry = back.entry;
    within = (0, omega arith, ap (λ (lb : ℕ). (lb, back.entry)) same);
    takes = record {
      outcome = outcome;
      returned = returned ∙ ap (λ (a : Answer). call.Return (chosen_in a) outcome) (sym chosen ∙ gives.chosen);
      done = done;
    };
  },
  returned_before back [] (none_out back.entry _ returned tt) tt,
)

-- The Maintain that was due, a choice, and the Return of its ticket.
pub round_returned : (due : List Receipt) (out back : Receipt) (m ticket : ℕ) (how : How) (probe : Bool) (outcome : Outcome) → IsDue due
    → out.entry.answer ≡ answer.Chosen m ticket how probe → back.lb ≡ out.lb → back.entry.call ≡ call.Return ticket outcome → back.entry.answer ≡ answer.Done
    → HaveReturned ((due ++ out ∷ []) ++ back ∷ [])
round_returned due out back m ticket how probe outcome is chosen same returned done =
    subst HaveReturned (sym (append_assoc due (out ∷ []) (back ∷ [])))
    (have_returned-append due (out ∷ back ∷ []) (due_returned due is) (pair_returned out back m ticket how probe outcome chosen same returned done))
