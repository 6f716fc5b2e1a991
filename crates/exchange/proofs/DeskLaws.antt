-- A desk over several calls of an exchange: the state that it keeps, and the receipts that it gains.
use Rattle.std.proofs.Common.{◌≡◌, ℕ, List, [], ◌∷◌, ◌++◌, Option, Some, None, refl, sym, ap, ◌∙◌, subst, arith}
use Rattle.std.proofs.lemmas.List.{append_assoc, append-nil, length-append}
use Rattle.std.proofs.lemmas.List.Elements.{All-append, All-contains, All-cons, All-head, All-nil, All-push, Contains-push}
use Rattle.std.specs.List.{All}
use Rattle.lb_model.specs.declared.ask.Ask.{Ask}
use Rattle.lb_model.specs.declared.journal.Answer.{Answer}
use Rattle.lb_model.specs.declared.journal.Answer.TheVariants as answer
use Rattle.lb_model.specs.declared.journal.Call.{Call}
use Rattle.lb_model.specs.declared.journal.Call.TheVariants as call
use Rattle.lb_model.specs.declared.journal.Outcome.{Outcome}
use Rattle.lb_model.specs.declared.refusal.FullMark.{FullMark}
use Rattle.lb_model.specs.declared.refusal.RoomError.{RoomError}
use Rattle.lb_model.specs.declared.refusal.Stray.{Stray}
use Rattle.lb_book.specs.Desks.{Chooses, DeskState, Gains, IsDue, IsOwn, KeepsDesk, LeaseNote, MeetsStray, RefusesChoice, TakesBack, first_stray}
use Rattle.lb_book.specs.Returned.{HaveReturned}
use Rattle.lb_book.specs.declared.desk.Choice.{Choice}
use Rattle.lb_book.specs.declared.desk.Choice.TheVariants as choice
use Rattle.lb_book.specs.declared.receipt.Receipt.{Receipt}
use Rattle.lb_book.proofs.ReturnedLaws.{due_returned, have_returned-append, last_returned, none_chosen, round_returned, IsNoChoice}
use Rattle.exchange.specs.Rounds.{IsAskOrReturn, IsBack, IsDeskAfter, IsReceiptOf}
use Rattle.exchange.specs.Steps.{IsNoLease}
use Rattle.exchange.specs.Steps as no_lease_as
use Rattle.exchange.specs.declared.ending.RoundVerdict.{RoundVerdict}

pub untouched : (lb session : ℕ) (desk : DeskState) → IsDeskAfter lb session desk desk
untouched lb session desk = record {
  caller = refl;
  sizes = refl;
  parts = refl;
  strays = omega arith;
  fulls = omega arith;
  wides = refl;
  met = λ stray is. is;
  sound = λ sound. sound;
  gained = [];
  receipts = sym (append-nil desk.receipts);
  added = omega arith;
  own = All-nil (IsReceiptOf lb session);
  returned = λ none. tt;
}

abbrev IsKindly : Receipt → Type 0
IsKindly r = IsAskOrReturn r.entry.call

kind_by : (made known : Call) → made ≡ known → IsAskOrReturn known → IsAskOrReturn made
kind_by made known is kind = subst IsAskOrReturn (sym is) kind

are_due : (due : List Receipt) → IsDue due → All IsKindly due
are_due [] is = All-nil IsKindly
are_due (r ∷ []) is = All-cons IsKindly r [] (kind_by _ _ is tt) (All-nil IsKindly)
are_due (r ∷ other ∷ rest) is = absurd is

own_kindly : (old new : DeskState) (lb session at : ℕ) (gained : List Receipt) → Gains old new lb session at gained → All IsKindly gained → All (IsReceiptOf lb session) gained
own_kindly old new lb session at gained gains kinds = λ k d within. record { balancer = (gains.own k d within).balancer; caller = (gains.own k d within).caller; kind = kinds k d within }

asked_kindly : {T : Type 0} (note : T → LeaseNote) (old new : DeskState) (lb session at : ℕ) (ask : Ask) (c : Choice T)
    → (chose : Chooses note old new lb session at ask c) → All IsKindly (chose.gains.due ++ chose.last ∷ [])
asked_kindly note old new lb session at ask c chose = All-push IsKindly _ chose.last (are_due _ chose.gains.is_due) (kind_by _ _ chose.asked tt)

after_gains : (old new : DeskState) (lb session at : ℕ) (gained : List Receipt) → KeepsDesk old new → new.wides ≡ old.wides
    → Gains old new lb session at gained → All IsKindly gained → HaveReturned gained → IsDeskAfter lb session old new
after_gains old new lb session at gained kept wides gains kinds returned = record {
  caller = kept.caller;
  sizes = kept.sizes;
  parts = kept.parts;
  strays = kept.strays;
  fulls = kept.fulls;
  wides = wides;
  met = kept.met;
  sound = λ sound. kept.sound;
  gained = gained;
  receipts = gains.receipts;
  added = gains.added;
  own = own_kindly old new lb session at gained gains kinds;
  returned = λ none. returned;
}

-- No member was chosen.
after_no_choice : {T : Type 0} (note : T → LeaseNote) (old new : DeskState) (lb session at : ℕ) (ask : Ask) (c : Choice T) (known : Answer)
    → KeepsDesk old new → (chose : Chooses note old new lb session at ask c) → chose.last.entry.answer ≡ known → IsNoChoice known → IsDeskAfter lb session old new
after_no_choice note old new lb session at ask c known kept chose is none =
    after_gains old new lb session at _ kept chose.wide chose.gains.gains (asked_kindly note old new lb session at ask c chose)
    (last_returned chose.gains.due chose.last chose.gains.is_due (none_chosen chose.last.entry known is none))

after_refusal : {M : Type 0} (numbers : M → FullMark) (old new : DeskState) (lb session at : ℕ) (error : RoomError M) → KeepsDesk old new
    → RefusesChoice numbers old new lb session at error → IsDeskAfter lb session old new
after_refusal numbers old new lb session at error kept refused =
    after_gains old new lb session at _ kept refused.wide refused.gains.gains (are_due _ refused.gains.is_due)
    (due_returned refused.gains.due refused.gains.is_due)

pub after_none : {T M : Type 0} (note : T → LeaseNote) (numbers : M → FullMark) (old new : DeskState) (lb session at : ℕ) (ask : Ask) (v : RoundVerdict) → KeepsDesk old new
    → IsNoLease note numbers old new lb session at ask v → IsDeskAfter lb session old new
after_none note numbers old new lb session at ask v kept (no_lease_as.none follows chose) = after_no_choice note old new lb session at ask choice.NoMember answer.NoMember kept chose chose.answered.0 tt
after_none note numbers old new lb session at ask v kept (no_lease_as.forced follows chose) = after_no_choice note old new lb session at ask choice.Forced answer.Forced kept chose chose.answered.0 tt
after_none note numbers old new lb session at ask v kept (no_lease_as.full follows mark refused) = after_refusal numbers old new lb session at _ kept refused
after_none note numbers old new lb session at ask v kept (no_lease_as.wanted follows refused) = after_refusal numbers old new lb session at _ kept refused

-- ---- a lease that was given out and handed back

-- Two gains, one after the other.
gained_twice : (old mid new : DeskState) (first second : List Receipt) → mid.receipts ≡ old.receipts ++ first → new.receipts ≡ mid.receipts ++ second
    → new.receipts ≡ old.receipts ++ (first ++ second)
gained_twice old mid new first second begun more = more ∙ ap (λ (rs : List Receipt). rs ++ second) begun ∙ append_assoc old.receipts first second

-- A member was chosen, and the ticket came back.
round_back : {T : Type 0} (note : T → LeaseNote) (old mid new : DeskState) (lb session at at' : ℕ) (ask : Ask) (m : ℕ) (lease : T) (outcome : Outcome)
    → KeepsDesk old mid → Chooses note old mid lb session at ask (choice.Chosen m lease) → KeepsDesk mid new → new.wides ≡ mid.wides
    → TakesBack mid new session at' (note lease) outcome → IsDeskAfter lb session old new
round_back note old mid new lb session at at' ask m lease outcome first chose second wides back =
    let gained : List Receipt = chose.gains.due ++ chose.last ∷ [] in
    let same : (note lease).lb ≡ lb = ap (λ (l : LeaseNote). l.lb) chose.answered.3 in
    let out : chose.last.lb ≡ lb = (All-contains (IsOwn lb session at) gained chose.last chose.gains.gains.own (Contains-push chose.gains.due chose.last)).balancer in
    let own : Gains mid new lb session at' (back.last ∷ []) = subst (λ (b : ℕ). Gains mid new b session at' (back.last ∷ [])) same back.gains in
    record {
      caller = second.caller ∙ first.caller;
      sizes = second.sizes ∙ first.sizes;
      parts = second.parts ∙ first.parts;
      strays = omega (arith, first.strays, second.strays);
      fulls = omega (arith, first.fulls, second.fulls);
      wides = wides ∙ chose.wide;
      met = λ stray is. second.met stray (first.met stray is);
      sound = λ sound. second.sound;
      gained = gained ++ back.last ∷ [];
      receipts = gained_twice old mid new gained (back.last ∷ []) chose.gains.gains.receipts own.receipts;
      added = omega (arith, chose.gains.gains.added, own.added, length-append gained (back.last ∷ []));
      own = All-append (IsReceiptOf lb session) gained (back.last ∷ [])
          (own_kindly old mid lb session at gained chose.gains.gains (asked_kindly note old mid lb session at ask (choice.Chosen m lease) chose))
          (own_kindly mid new lb session at' (back.last ∷ []) own (All-cons IsKindly back.last [] (kind_by _ _ back.returned tt) (All-nil IsKindly)));
      returned = λ none. round_returned chose.gains.due chose.last back.last m chose.last.entry.seq chose.answered.0 chose.answered.1 outcome chose.gains.is_due
          chose.answered.2 ((All-head (IsOwn lb session at') back.last [] own.own).balancer ∙ sym out)
          (back.returned ∙ ap (λ (l : LeaseNote). call.Return l.ticket outcome) chose.answered.3) back.done;
    }

none_is_met : (before met : Option Stray) (stray : Stray) → met ≡ first_stray before stray → met ≡ None → ⊥
none_is_met None met stray is none = absurd cc
none_is_met (Some first) met stray is none = absurd cc

-- A member was chosen, and the ticket was a stray.
round_stray : {T : Type 0} (note : T → LeaseNote) (old mid new : DeskState) (lb session at : ℕ) (ask : Ask) (m : ℕ) (lease : T) (stray : Stray)
    → KeepsDesk old mid → Chooses note old mid lb session at ask (choice.Chosen m lease) → KeepsDesk mid new → new.wides ≡ mid.wides
    → MeetsStray mid new (note lease) stray → IsDeskAfter lb session old new
round_stray note old mid new lb session at ask m lease stray first chose second wides met =
    let gained : List Receipt = chose.gains.due ++ chose.last ∷ [] in
    record {
      caller = second.caller ∙ first.caller;
      sizes = second.sizes ∙ first.sizes;
      parts = second.parts ∙ first.parts;
      strays = omega (arith, first.strays, second.strays);
      fulls = omega (arith, first.fulls, second.fulls);
      wides = wides ∙ chose.wide;
      met = λ stray is. second.met stray (first.met stray is);
      sound = λ sound. second.sound;
      gained = gained;
      receipts = met.receipts ∙ chose.gains.gains.receipts;
      added = met.added ∙ chose.gains.gains.added;
      own = own_kindly old mid lb session at gained chose.gains.gains (asked_kindly note old mid lb session at ask (choice.Chosen m lease) chose);
      returned = λ none. absurd (none_is_met mid.met new.met stray met.met none);
    }

pub after_round : {T : Type 0} (note : T → LeaseNote) (old mid new : DeskState) (lb session at at' : ℕ) (ask : Ask) (m : ℕ) (lease : T) (outcome : Outcome) (stray : Option Stray)
    → KeepsDesk old mid → Chooses note old mid lb session at ask (choice.Chosen m lease) → KeepsDesk mid new → new.wides ≡ mid.wides
    → IsBack mid new session at' (note lease) outcome stray → IsDeskAfter lb session old new
after_round note old mid new lb session at at' ask m lease outcome None first chose second wides back =
    round_back note old mid new lb session at at' ask m lease outcome first chose second wides back
after_round note old mid new lb session at at' ask m lease outcome (Some stray) first chose second wides met =
    round_stray note old mid new lb session at ask m lease stray first chose second wides met

-- ---- twice

-- No stray waits after both, so none did between them.
none_between : (mid new : Option Stray) → ((stray : Stray) → mid ≡ Some stray → new ≡ Some stray) → new ≡ None → mid ≡ None
none_between None new met none = refl
none_between (Some stray) new met none = absurd cc (met stray refl, none)

pub same_twice : (lb session : ℕ) (old mid new : DeskState) → IsDeskAfter lb session old mid → IsDeskAfter lb session mid new
    → IsDeskAfter lb session old new
same_twice lb session old mid new first second = record {
  caller = second.caller ∙ first.caller;
  sizes = second.sizes ∙ first.sizes;
  parts = second.parts ∙ first.parts;
  strays = omega (arith, first.strays, second.strays);
  fulls = omega (arith, first.fulls, second.fulls);
  wides = second.wides ∙ first.wides;
  met = λ stray is. second.met stray (first.met stray is);
  sound = λ sound. second.sound (first.sound sound);
  gained = first.gained ++ second.gained;
  receipts = gained_twice old mid new first.gained second.gained first.receipts second.receipts;
  added = omega (arith, first.added, second.added, length-append first.gained second.gained);
  own = All-append (IsReceiptOf lb session) first.gained second.gained first.own second.own;
  returned = λ none. have_returned-append first.gained second.gained (first.returned (none_between mid.met new.met second.met none)) (second.returned none);
}
