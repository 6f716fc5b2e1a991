-- A turn that took a ticket back, did a command, or looked.
use Rattle.std.proofs.Common.{◌≡◌, ℕ, ◌-◌, Bool, true, false, List, ◌∷◌, ◌++◌, [], length, Result, Ok, Err, refl, sym, ap, ◌∙◌, subst, arith, length-append}
use Rattle.std.specs.Prelude.{◌==◌, ◌||◌, IfErr, OnOk}
use Rattle.std.proofs.lemmas.Bool.Decides.{nat_tests}
use Rattle.std.proofs.lemmas.List.Elements.{All-from_recursion}
use Rattle.lb_model.specs.Journal.{members}
use Rattle.lb_model.specs.Legal.{HasValues, IsNext}
use Rattle.lb_model.specs.Tickets.{gives_back, is_out, is_returned}
use Rattle.lb_model.specs.declared.change.Command.{Command}
use Rattle.lb_model.specs.declared.journal.Call.{Call}
use Rattle.lb_model.specs.declared.journal.Call.TheVariants as call
use Rattle.lb_model.specs.declared.journal.Entry.{Entry}
use Rattle.lb_model.specs.declared.journal.Outcome.{Outcome}
use Rattle.lb_model.specs.declared.refusal.AdminError.{AdminError}
use Rattle.lb_model.specs.declared.refusal.FullMark.{FullMark}
use Rattle.lb_book.specs.Commanded.{IsKnown}
use Rattle.lb_book.specs.Desks.{IsCommandRefusal, IsOwn}
use Rattle.lb_book.specs.Journal.{AddsEntry, Journal, past_of}
use Rattle.lb_book.specs.PlainDesks.{BookCommands, BookGainsDue, receipt_of}
use Rattle.lb_book.specs.declared.desk.Occasion.{Occasion}
use Rattle.lb_book.specs.declared.receipt.Receipt.{Receipt}
use Rattle.lb_book.proofs.PlainLaws.{own_one}
use Rattle.lb_book.proofs.ToldLaws.{grown-nil}
use Rattle.lb_book.specs.Histories.{has_made}
use Rattle.lb_passes.specs.declared.pass_view.PassView.{PassView}
use Rattle.lb_book.proofs.HistoryLaws.{own_is_out, whole_of, whole_out}
use Rattle.lb_passes.specs.Holds.{CommandsInTurn, RefusesInTurn, TakesTurn, gained_in, own_in}
use Rattle.lb_passes.proofs.AskLaws.{Gained}
use Rattle.lb_passes.proofs.GainLaws.{IsTaken, adds_of, command_gives, due_gives}

-- A ticket that the caller got and didn't give back is out in the Book that it took.
pub taken_out : (v : PassView) (b : Journal) (t : ℕ) → IsTaken v b → has_made t (own_in v) ≡ true → is_returned t (own_in v) ≡ false
    → is_out b.opening (past_of b) t ≡ true
taken_out v b t taken made still =
    whole_out v.origin.opening taken.log b t (whole_of v.origin.opening taken.log b taken.stands.whole taken.stands.sound)
    ∙ own_is_out v.origin.opening taken.log v.number t taken.history (subst (λ (es : List Entry). has_made t es ≡ true) taken.own made)
    (subst (λ (es : List Entry). is_returned t es ≡ false) taken.own still)

pub return_gained : (v : PassView) (b new : Journal) (before now : List Receipt) (on : Occasion) (ticket : ℕ) (outcome : Outcome) (e : Entry)
    → now ≡ before ++ receipt_of on e ∷ [] → AddsEntry b new on.session on.at (call.Return ticket outcome) e → IsNext b.rules b.opening (past_of b) e
    → has_made ticket (own_in v) ≡ true → Gained v b new before now on.lb on.session on.at
return_gained v b new before now on ticket outcome e noted adds next made = record {
  gained = receipt_of on e ∷ [];
  adds = record {
    receipts = noted;
    own = own_one on.lb on.session on.at (receipt_of on e) (record { balancer = refl; given = refl; caller = adds.caller });
    grown = adds.grown;
    next = (record { next = next; moment = adds.moment }, tt);
  };
  gives = λ u back.
      let this : (u == ticket) ≡ true = sym (ap (λ (c : Call). gives_back u c || false) adds.asked ∙ or_none (u == ticket)) ∙ back in
      let same : ticket ≡ u = grind (arith, nat_tests) in
      subst (λ (t : ℕ). has_made t (own_in v) ≡ true) same made;
}
  where
    or_none : (b : Bool) → (b || false) ≡ b
    or_none true = refl
    or_none false = refl

pub return_one : (now before : List Receipt) (r : Receipt) → now ≡ before ++ r ∷ [] → 1 ≡ length now - length before
return_one now before r is = omega (arith, ap (λ (xs : List Receipt). length xs) is, length-append before (r ∷ []))

pub command_gained : (v : PassView) (b new : Journal) (before now : List Receipt) (on : Occasion) (command : Command) (r : Result (Unit {0}) (AdminError FullMark))
    → OnOk r (BookCommands b new before now on command)
    → IfErr r (λ e. BookGainsDue b new before now on.lb on.session on.at (IsCommandRefusal (λ mark. mark) on.at command e b))
    → Gained v b new before now on.lb on.session on.at
command_gained v b new before now on command (Ok done) ok err = record {
  gained = ok.3.due ++ receipt_of on ok.0 ∷ [];
  adds = adds_of b new before now on.lb on.session on.at (ok.3.due ++ receipt_of on ok.0 ∷ []) ok.3.gains;
  gives = command_gives v ok.3.due (receipt_of on ok.0) command ok.3.is_due ok.1;
}
command_gained v b new before now on command (Err e) ok err = record {
  gained = err.due;
  adds = adds_of b new before now on.lb on.session on.at err.due err.gains;
  gives = due_gives v err.due err.is_due;
}

pub commands_of : (v w : PassView) (b new : Journal) (before now : List Receipt) (on : Occasion) (command : Command) (r : Result (Unit {0}) (AdminError FullMark))
    → TakesTurn v w b (gained_in before now) → OnOk r (BookCommands b new before now on command)
    → OnOk r (IsKnown (members b.opening) command × HasValues command) → OnOk r (CommandsInTurn v w before now on command)
commands_of v w b new before now on command (Ok done) turn ok named = record { book = b; new = new; turn = turn; gains = ok; named = named }
commands_of v w b new before now on command (Err e) turn ok named = tt

pub refuses_of : (v w : PassView) (b new : Journal) (before now : List Receipt) (on : Occasion) (command : Command) (r : Result (Unit {0}) (AdminError FullMark))
    → TakesTurn v w b (gained_in before now)
    → IfErr r (λ e. BookGainsDue b new before now on.lb on.session on.at (IsCommandRefusal (λ mark. mark) on.at command e b))
    → IfErr r (RefusesInTurn v w before now on command)
refuses_of v w b new before now on command (Ok done) turn err = tt
refuses_of v w b new before now on command (Err e) turn err = record { book = b; new = new; turn = turn; gains = err }

-- A look adds nothing.
pub none_gained : (v : PassView) (b : Journal) → Gained v b b [] [] 0 v.number 0
none_gained v b = record {
  gained = [];
  adds = record { receipts = refl; own = All-from_recursion (IsOwn 0 v.number 0) [] tt; grown = grown-nil b; next = tt };
  gives = λ u no. absurd cc;
}
