-- Two calls of one desk taken together: a choice and its return, a stray, a refusal, a page.
use Rattle.std.specs.List.{All}
use Rattle.std.proofs.lemmas.List.Elements.{All-head, All-tail}
use Rattle.std.proofs.Common.{◌≡◌, ℕ, ◌+◌, ◌≤◌, true, List, [], ◌∷◌, ◌++◌, length, Option, refl, sym, ap, ◌∙◌, subst, arith, append_assoc, length-append, slice_index, false, ◌<◌}
use Rattle.lb_model.specs.Free.{is_in}
use Rattle.lb_model.specs.declared.ask.Ask.{Ask}
use Rattle.lb_model.specs.declared.change.Command.{Command}
use Rattle.lb_model.specs.declared.journal.Call.TheVariants as call
use Rattle.lb_model.specs.declared.journal.Outcome.{Outcome}
use Rattle.lb_model.specs.declared.refusal.RoomError.{RoomError}
use Rattle.lb_model.specs.declared.refusal.FullMark.{FullMark}
use Rattle.lb_model.specs.declared.refusal.Stray.{Stray}
use Rattle.lb_model.specs.declared.view.View.{View}
use Rattle.lb_book.specs.Desks.{Chooses, Commands, DeskState, Gains, IsOwn, KeepsDesk, LeaseNote, MeetsStray, RefusesChoice, RisesByOne, Shows, first_stray, TakesBack}
use Rattle.lb_book.specs.declared.desk.Choice.TheVariants as choice
use Rattle.lb_book.specs.declared.receipt.Receipt.{Receipt}
use Rattle.check_lines.specs.Once.{EndsCall, GainsAsMany, ReturnsOnce}
use Rattle.check_lines.specs.declared.callers.Once.TheVariants as once

pub gains_as_many : (old new : DeskState) (lb session at : ℕ) (gained : List Receipt) → Gains old new lb session at gained → GainsAsMany old new
gains_as_many old new lb session at gained gains =
    let more : length new.receipts ≡ length (old.receipts ++ gained) = ap (λ (rs : List Receipt). length rs) gains.receipts in
    omega (arith, more, gains.added, length-append old.receipts gained)

pub gains_none : (old new : DeskState) → new.receipts ≡ old.receipts → new.added ≡ old.added → GainsAsMany old new
gains_none old new receipts added =
    let same : length new.receipts ≡ length old.receipts = ap (λ (rs : List Receipt). length rs) receipts in
    omega (arith, same, added)

pub gains_twice : (old mid new : DeskState) → GainsAsMany old mid → GainsAsMany mid new → GainsAsMany old new
gains_twice old mid new first second = omega (arith, first, second)

pub keeps_twice : (old mid new : DeskState) → KeepsDesk old mid → KeepsDesk mid new → KeepsDesk old new
keeps_twice old mid new first second = record {
  caller = second.caller ∙ first.caller;
  sizes = second.sizes ∙ first.sizes;
  parts = second.parts ∙ first.parts;
  strays = omega (arith, first.strays, second.strays);
  fulls = omega (arith, first.fulls, second.fulls);
  wides = omega (arith, first.wides, second.wides);
  met = λ stray is. second.met stray (first.met stray is);
  sound_before = first.sound_before;
  sound = second.sound;
}

two_more : (old mid new due : List Receipt) (a b : Receipt) → mid ≡ old ++ (due ++ a ∷ []) → new ≡ mid ++ b ∷ [] → new ≡ (old ++ due) ++ a ∷ b ∷ []
two_more old mid new due a b first second = second ∙ rw first (simp append_assoc)

last_own : (P : Receipt → Type 0) (rs : List Receipt) (r : Receipt) → All P (rs ++ r ∷ []) → P r
last_own P [] r all = All-head P r [] all
last_own P (x ∷ rs) r all = last_own P rs r (All-tail P x (rs ++ r ∷ []) all)

pub ends_returned : {T : Type 0} (note : T → LeaseNote) (old mid new : DeskState) (lb session at : ℕ) (ask : Ask) (outcome : Outcome) (m : ℕ) (lease : T)
    → Chooses note old mid lb session at ask (choice.Chosen m lease) → TakesBack mid new session at (note lease) outcome
    → ReturnsOnce old new lb ask outcome m × (m < slice_index old.sizes lb) × (is_in ask.tried m ≡ false)
ends_returned note old mid new lb session at ask outcome m lease chose back =
    let returns : ReturnsOnce old new lb ask outcome m = record {
      before = chose.gains.due;
      chosen = chose.last;
      back = back.last;
      gained = two_more _ _ _ chose.gains.due chose.last back.last chose.gains.gains.receipts back.gains.receipts;
      balancer = (
        (last_own (IsOwn lb session at) chose.gains.due chose.last chose.gains.gains.own).balancer,
        (All-head (IsOwn (note lease).lb session at) back.last [] back.gains.own).balancer ∙ ap (λ (n : LeaseNote). n.lb) chose.answered.3,
      );
      asked = chose.asked;
      answered = (chose.answered.0, chose.answered.1, chose.answered.2);
      returned = back.returned ∙ ap (λ (n : LeaseNote). call.Return n.ticket outcome) chose.answered.3;
      done = back.done;
    } in (returns, chose.answered.5, chose.answered.6)

pub ends_stray : {T : Type 0} (note : T → LeaseNote) (old mid new : DeskState) (lb session at : ℕ) (ask : Ask) (outcome : Outcome) (m : ℕ) (lease : T) (stray : Stray)
    → Chooses note old mid lb session at ask (choice.Chosen m lease) → MeetsStray mid new (note lease) stray
    → RisesByOne old.strays new.strays × (new.met ≡ first_stray old.met stray)
ends_stray note old mid new lb session at ask outcome m lease stray chose met =
    (subst (λ (n : ℕ). RisesByOne n new.strays) chose.stray met.rose, met.met ∙ ap (λ (before : Option Stray). first_stray before stray) chose.met)

pub ends_refused : {M : Type 0} (numbers : M → FullMark) (old new : DeskState) (lb session at : ℕ) (ask : Ask) (outcome : Outcome) (error : RoomError M)
    → RefusesChoice numbers old new lb session at error → EndsCall old new lb ask outcome (once.Refused error)
ends_refused numbers old new lb session at ask outcome error refused = (refused.stray, refused.met, refused.wanted)

pub page_after : (old mid new : DeskState) (lb session at : ℕ) (command : Command) (view : View) → new ≡ mid
    → Commands old mid lb session at command → Shows mid lb view → Commands old new lb session at command × Shows new lb view
page_after old mid new lb session at command view same done shows =
    (subst (λ (d : DeskState). Commands old d lb session at command) (sym same) done, subst (λ (d : DeskState). Shows d lb view) (sym same) shows)
