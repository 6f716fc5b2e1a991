-- A desk over several calls of a status worker: the state that it keeps, and the receipts that it gains.
use Rattle.std.proofs.Common.{◌≡◌, ℕ, List, [], ◌∷◌, ◌++◌, Result, Option, Some, None, refl, sym, ap, ◌∙◌, arith}
use Rattle.std.proofs.lemmas.List.{append_assoc, append-nil, length-append}
use Rattle.std.proofs.lemmas.List.Elements.{All-append, All-nil}
use Rattle.std.specs.List.{All}
use Rattle.lb_model.specs.declared.change.Command.{Command}
use Rattle.lb_model.specs.declared.journal.Call.TheVariants as call
use Rattle.lb_model.specs.declared.refusal.AdminError.{AdminError}
use Rattle.lb_model.specs.declared.refusal.FullMark.{FullMark}
use Rattle.lb_model.specs.declared.refusal.Stray.{Stray}
use Rattle.lb_book.proofs.ReturnedLaws.{due_returned, have_returned-append, last_returned, none_out}
use Rattle.lb_book.specs.Returned.{HaveReturned}
use Rattle.lb_book.specs.Desks.{Commands, DeskState, Gains, KeepsDesk, MeetsNone, RefusesCommand}
use Rattle.lb_book.specs.declared.receipt.Receipt.{Receipt}
use Rattle.status_worker.specs.Desks.{KeepsTickets}

pub untouched : (session : ℕ) (desk : DeskState) → KeepsTickets session desk desk
untouched session desk = record {
  held = refl;
  caller = refl;
  sizes = refl;
  parts = refl;
  strays = omega arith;
  fulls = omega arith;
  wides = omega arith;
  met = λ stray is. is;
  sound = λ sound. sound;
  gained = [];
  receipts = sym (append-nil desk.receipts);
  added = omega arith;
  own = All-nil (λ (r : Receipt). r.entry.session ≡ session);
  returned = λ none. tt;
}

after_gains : (old new : DeskState) (lb session at : ℕ) (gained : List Receipt) → KeepsDesk old new → new.held ≡ old.held
    → Gains old new lb session at gained → HaveReturned gained → KeepsTickets session old new
after_gains old new lb session at gained kept held gains returned = record {
  held = held;
  caller = kept.caller;
  sizes = kept.sizes;
  parts = kept.parts;
  strays = kept.strays;
  fulls = kept.fulls;
  wides = kept.wides;
  met = kept.met;
  sound = λ sound. kept.sound;
  gained = gained;
  receipts = gains.receipts;
  added = gains.added;
  own = λ k d within. (gains.own k d within).caller;
  returned = λ none. returned;
}

pub after_command : (old new : DeskState) (lb session at : ℕ) (c : Command) → KeepsDesk old new → new.held ≡ old.held
    → Commands old new lb session at c → KeepsTickets session old new
after_command old new lb session at c kept held done =
    after_gains old new lb session at _ kept held done.gains.gains
    (last_returned done.gains.due done.last done.gains.is_due (none_out done.last.entry (call.Admin c) done.commanded tt))

pub after_refusal : {M : Type 0} (numbers : M → FullMark) (old new : DeskState) (lb session at : ℕ) (c : Command) (error : AdminError M)
    → KeepsDesk old new → new.held ≡ old.held → RefusesCommand numbers old new lb session at c error → KeepsTickets session old new
after_refusal numbers old new lb session at c error kept held refused =
    after_gains old new lb session at _ kept held refused.gains.gains (due_returned refused.gains.due refused.gains.is_due)

-- No stray waits after both, so none did between them.
pub none_between : (mid new : Option Stray) → ((stray : Stray) → mid ≡ Some stray → new ≡ Some stray) → new ≡ None → mid ≡ None
none_between None new met none = refl
none_between (Some stray) new met none = absurd cc (met stray refl, none)

pub twice : (session : ℕ) (old mid new : DeskState) → KeepsTickets session old mid → KeepsTickets session mid new
    → KeepsTickets session old new
twice session old mid new first second = record {
  held = second.held ∙ first.held;
  caller = second.caller ∙ first.caller;
  sizes = second.sizes ∙ first.sizes;
  parts = second.parts ∙ first.parts;
  strays = omega (arith, first.strays, second.strays);
  fulls = omega (arith, first.fulls, second.fulls);
  wides = omega (arith, first.wides, second.wides);
  met = λ stray is. second.met stray (first.met stray is);
  sound = λ sound. second.sound (first.sound sound);
  gained = first.gained ++ second.gained;
  receipts = second.receipts ∙ ap (λ (rs : List Receipt). rs ++ second.gained) first.receipts ∙ append_assoc old.receipts first.gained second.gained;
  added = omega (arith, first.added, second.added, length-append first.gained second.gained);
  own = All-append (λ (r : Receipt). r.entry.session ≡ session) first.gained second.gained first.own second.own;
  returned = λ none. have_returned-append first.gained second.gained (first.returned (none_between mid.met new.met second.met none)) (second.returned none);
}

pub none_met : (desk : DeskState) → MeetsNone desk desk
none_met desk = record { strays = refl; met = refl }

pub none_twice : (old mid new : DeskState) → MeetsNone old mid → MeetsNone mid new → MeetsNone old new
none_twice old mid new first second = record { strays = second.strays ∙ first.strays; met = second.met ∙ first.met }
