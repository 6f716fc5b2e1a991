-- Why an exchange ended as it did, by the desk and by the last talk.
use Rattle.std.proofs.Common.{◌≡◌, ℕ, ◌+◌, ◌<◌, min, Bool, true, false, List, [], ◌∷◌, ◌++◌, Option, None, refl, sym, ap, ◌∙◌, subst, inl, inr, ◌⊎◌, arith, append_assoc, append-nil, if◌then◌else◌}
use Rattle.jk_io.specs.Told.{Rose}
use Rattle.lb_model.specs.declared.journal.Answer.{Answer}
use Rattle.lb_model.specs.declared.journal.Answer.TheVariants as answer
use Rattle.lb_model.specs.declared.refusal.Stray.{Stray}
use Rattle.lb_book.specs.Desks.{DeskState, MeetsNone, first_stray}
use Rattle.lb_book.specs.declared.receipt.Receipt.{Receipt}
use Rattle.ajp_talk.specs.Moments.{BodyAt}
use Rattle.ajp_talk.specs.declared.ending.Cause.{Cause}
use Rattle.exchange.specs.Clients.{EndsWith, GivesUp, MeetsAt}
use Rattle.exchange.specs.Ends.{is_status}
use Rattle.exchange.specs.Exchanges.{EndsIn, IsExchange, IsGivenUp, IsLast, IsOwnCause, MetBadBody, begun_with}
use Rattle.exchange.specs.FirstPiece.{IsFirstFailure}
use Rattle.exchange.specs.OneTalk.{Around}
use Rattle.exchange.specs.Requests.{Errand}
use Rattle.exchange.specs.Rounds.{HaveGoneOn, IsRound, Round, Scene}
use Rattle.exchange.specs.declared.ending.ExchangeEnd.{ExchangeEnd}
use Rattle.exchange.specs.declared.ending.ExchangeEnd.TheVariants as exchange_end
use Rattle.exchange.proofs.EarlyLaws.{IsEarly, bad_held, final_of_round, rose_by_one}

-- Rounds that were gone through extend a desk: they add receipts, and no count of it rises.
pub record Extends (old new : DeskState) : Type 0 where
  pub gained : List Receipt
  pub receipts : new.receipts ≡ old.receipts ++ gained
  pub fulls : new.fulls ≡ old.fulls
  pub none : MeetsNone old new

extends_none : (desk : DeskState) → Extends desk desk
extends_none desk = record { gained = []; receipts = sym (append-nil desk.receipts); fulls = refl; none = record { strays = refl; met = refl } }

more_receipts : (a b c gained more : List Receipt) → b ≡ a ++ gained → c ≡ b ++ more → c ≡ a ++ (gained ++ more)
more_receipts a b c gained more first second = second ∙ ap (λ (rs : List Receipt). rs ++ more) first ∙ append_assoc a gained more

extends_twice : (a b c : DeskState) → Extends a b → Extends b c → Extends a c
extends_twice a b c first second = record {
  gained = first.gained ++ second.gained;
  receipts = more_receipts a.receipts b.receipts c.receipts first.gained second.gained first.receipts second.receipts;
  fulls = second.fulls ∙ first.fulls;
  none = record { strays = second.none.strays ∙ first.none.strays; met = second.none.met ∙ first.none.met };
}

round_extends : (q : Errand) (first : List ℕ) (tried : ℕ) (fresh : Bool) (s n : Scene) (r : Round) → IsRound q first tried fresh s n r None → Extends s.desk n.desk
round_extends q first tried fresh s n r round = record {
  gained = _;
  receipts = more_receipts s.desk.receipts round.desk.receipts n.desk.receipts _ _ round.chose.gains.gains.receipts round.back.gains.receipts;
  fulls = round.fulls ∙ round.chose.full;
  none = record { strays = round.back.stray ∙ round.chose.stray; met = round.back.met ∙ round.chose.met };
}

pub rounds_extend : (q : Errand) (first : List ℕ) (s : Scene) (past : List Round) (n : Scene) → HaveGoneOn q first s past n → Extends s.desk n.desk
rounds_extend q first s [] n same = subst (λ (x : Scene). Extends s.desk x.desk) (sym same) (extends_none s.desk)
rounds_extend q first s (r ∷ past) n (mid, before, round, next) =
    extends_twice s.desk mid.desk n.desk (rounds_extend q first s past mid before) (round_extends q first _ _ mid n r round)

-- ---- the causes of own answers

-- after the receipts of the rounds before, those of the last call
ends_with : (old mid new : DeskState) (due : List Receipt) (last : Receipt) (a : Answer) → Extends old mid → new.receipts ≡ mid.receipts ++ (due ++ last ∷ []) → last.entry.answer ≡ a
    → EndsWith old new a
ends_with old mid new due last a extends receipts answered = record {
  before = extends.gained ++ due;
  last = last;
  receipts = more_receipts old.receipts mid.receipts new.receipts extends.gained (due ++ last ∷ []) extends.receipts receipts
      ∙ ap (λ (rs : List Receipt). old.receipts ++ rs) (sym (append_assoc extends.gained due (last ∷ [])));
  answered = answered;
}

desk_rest : (m n : Scene) → n ≡ record m { around = record m.around { client = n.around.client } } → n.desk ≡ m.desk
desk_rest m n rest = ap (λ (x : Scene). x.desk) rest

gives_up : (q : Errand) (first : List ℕ) (s : Around) (a m n : Scene) (r : Round) (past : List Round) (cause : Cause) → IsEarly q first s a.around → IsLast q first past a m r
    → IsGivenUp q r cause None → n ≡ record m { around = record m.around { client = n.around.client } } → GivesUp q s n.around cause
gives_up q first s a m n r past cause early round given rest =
    let final = final_of_round q first s _ _ a m r None _ early round given.ended in
    record {
      member = r.member;
      config = r.config;
      endpoint = r.endpoint;
      configured = round.configured;
      reached = round.reached;
      first = first;
      fresh = final.fresh;
      begun = final.begun;
      over = m.around;
      stage = given.stage;
      moved = given.moved;
      talk = final.talk;
      forbidden = given.forbidden;
      rest = ap (λ (x : Scene). x.around) rest;
    }

status_by : (b : Bool) (status : ℕ) → status ≡ (if b then 503 else 502) → (status ≡ 502 → b ≡ false) × (status ≡ 503 → b ≡ true)
status_by true status is = (λ other. absurd (omega (arith, is, other)), λ same. refl)
status_by false status is = (λ same. refl, λ other. absurd (omega (arith, is, other)))

not_other : (b : Bool) (status other : ℕ) → status ≡ (if b then 503 else 502) → status ≡ other → other < 502 → ⊥
not_other true status other is known small = omega (arith, is, known, small)
not_other false status other is known small = omega (arith, is, known, small)

-- a bad body gives 400 or 413
bad_below : (q : Errand) (first : List ℕ) (s : Around) (a m : Scene) (r : Round) (past : List Round) (status : ℕ) {other : ℕ} (bad : MetBadBody r status None) → IsEarly q first s a.around
    → IsLast q first past a m r → 413 < other → status ≡ other → ⊥
bad_below q first s a m r past status bad early round above is =
    let final = final_of_round q first s _ _ a m r None _ early round bad.ended in
    let held = bad_held _ _ _ _ _ final.begun m.around status None bad.passed bad.moved final.talk in
    elim held.talk.why [
      | inl line ↦ omega (arith, above, is, line.0)
      | inr limit ↦ omega (arith, above, is, limit.0)
    ]

pub internal_of : (q : Errand) (first : List ℕ) (s a m n : Scene) (past : List Round) (status : ℕ) → IsEarly q first s.around a.around → Extends s.desk a.desk
    → IsOwnCause q first past a m status → n.desk ≡ m.desk → status ≡ 500 → EndsWith s.desk n.desk answer.Forced ⊎ Rose s.desk.fulls n.desk.fulls
internal_of q first s a m n past status early extends (inl none) same is = absurd (omega (arith, is, none.0))
internal_of q first s a m n past status early extends (inr (inl forced)) same is =
    inl (ends_with s.desk a.desk n.desk _ forced.1.why.last answer.Forced extends
    (ap (λ (d : DeskState). d.receipts) same ∙ forced.1.why.gains.gains.receipts) forced.1.why.answered.0)
internal_of q first s a m n past status early extends (inr (inr (inl full))) same is =
    inr (rose_by_one s.desk.fulls n.desk.fulls
    (ap (λ (d : DeskState). d.fulls) same ∙ full.1.why.1.full full.1.why.0 refl ∙ ap (λ (k : ℕ). min (k + 1) 18446744073709551615) extends.fulls))
internal_of q first s a m n past status early extends (inr (inr (inr (r, round, inl (large, by))))) same is = absurd (omega (arith, is, by))
internal_of q first s a m n past status early extends (inr (inr (inr (r, round, inr (inl (cause, given, by)))))) same is =
    absurd (not_other (is_status cause) status 500 by is (omega arith))
internal_of q first s a m n past status early extends (inr (inr (inr (r, round, inr (inr bad))))) same is =
    absurd (bad_below q first s.around a m r past status bad early round (omega arith) is)

pub gateway_of : (q : Errand) (first : List ℕ) (s a m n : Scene) (past : List Round) (status : ℕ) → IsEarly q first s.around a.around
    → IsOwnCause q first past a m status → n ≡ record m { around = record m.around { client = n.around.client } }
    → status ≡ 502 → (cause : Cause) × (is_status cause ≡ false) × GivesUp q s.around n.around cause
gateway_of q first s a m n past status early (inl none) rest is = absurd (omega (arith, is, none.0))
gateway_of q first s a m n past status early (inr (inl forced)) rest is = absurd (omega (arith, is, forced.0))
gateway_of q first s a m n past status early (inr (inr (inl full))) rest is = absurd (omega (arith, is, full.0))
gateway_of q first s a m n past status early (inr (inr (inr (r, round, inl (large, by))))) rest is = absurd (omega (arith, is, by))
gateway_of q first s a m n past status early (inr (inr (inr (r, round, inr (inl (cause, given, by)))))) rest is =
    (cause, (status_by (is_status cause) status by).0 is, gives_up q first s.around a m n r past cause early round given rest)
gateway_of q first s a m n past status early (inr (inr (inr (r, round, inr (inr bad))))) rest is =
    absurd (bad_below q first s.around a m r past status bad early round (omega arith) is)

pub unavailable_of : (q : Errand) (first : List ℕ) (s a m n : Scene) (past : List Round) (status : ℕ) → IsEarly q first s.around a.around → Extends s.desk a.desk
    → IsOwnCause q first past a m status → n ≡ record m { around = record m.around { client = n.around.client } }
    → status ≡ 503 → EndsWith s.desk n.desk answer.NoMember ⊎ ((cause : Cause) × (is_status cause ≡ true) × GivesUp q s.around n.around cause)
unavailable_of q first s a m n past status early extends (inl none) rest is =
    inl (ends_with s.desk a.desk n.desk _ none.1.why.last answer.NoMember extends
    (ap (λ (d : DeskState). d.receipts) (desk_rest m n rest) ∙ none.1.why.gains.gains.receipts) none.1.why.answered.0)
unavailable_of q first s a m n past status early extends (inr (inl forced)) rest is = absurd (omega (arith, is, forced.0))
unavailable_of q first s a m n past status early extends (inr (inr (inl full))) rest is = absurd (omega (arith, is, full.0))
unavailable_of q first s a m n past status early extends (inr (inr (inr (r, round, inl (large, by))))) rest is = absurd (omega (arith, is, by))
unavailable_of q first s a m n past status early extends (inr (inr (inr (r, round, inr (inl (cause, given, by)))))) rest is =
    inr (cause, (status_by (is_status cause) status by).1 is, gives_up q first s.around a m n r past cause early round given rest)
unavailable_of q first s a m n past status early extends (inr (inr (inr (r, round, inr (inr bad))))) rest is =
    absurd (bad_below q first s.around a m r past status bad early round (omega arith) is)

-- ---- strays

met_on : (a b c : DeskState) → MeetsNone a b → MeetsNone b c → MeetsNone a c
met_on a b c first second = record { strays = second.strays ∙ first.strays; met = second.met ∙ first.met }

same_met : (a b : DeskState) → b ≡ a → MeetsNone a b
same_met a b same = record { strays = ap (λ (d : DeskState). d.strays) same; met = ap (λ (d : DeskState). d.met) same }

own_met : (q : Errand) (first : List ℕ) (past : List Round) (a m : Scene) (status : ℕ) → IsOwnCause q first past a m status → MeetsNone a.desk m.desk
own_met q first past a m status (inl none) = record { strays = none.1.why.stray; met = none.1.why.met }
own_met q first past a m status (inr (inl forced)) = record { strays = forced.1.why.stray; met = forced.1.why.met }
own_met q first past a m status (inr (inr (inl full))) = record { strays = full.1.why.1.stray; met = full.1.why.1.met }
own_met q first past a m status (inr (inr (inr (r, round, why)))) = (round_extends q first _ _ a m r round).none

last_met : (q : Errand) (first : List ℕ) (a m n : Scene) (r : Round) (past : List Round) → IsLast q first past a m r → n ≡ m → MeetsNone a.desk n.desk
last_met q first a m n r past round rest =
    met_on a.desk m.desk n.desk (round_extends q first _ _ a m r round).none (same_met m.desk n.desk (ap (λ (x : Scene). x.desk) rest))

same_stray : (ticket : ℕ) (returned_at : Option ℕ) (stray : Stray) → ticket ≡ stray.ticket → returned_at ≡ stray.returned_at → record { ticket = ticket; returned_at = returned_at } ≡ stray
same_stray ticket returned_at stray is at =
    ap (λ (t : ℕ). record { ticket = t; returned_at = returned_at }) is ∙ ap (λ (o : Option ℕ). record { ticket = stray.ticket; returned_at = o }) at

end_met : (q : Errand) (first : List ℕ) (past : List Round) (s : DeskState) (a m n : Scene) (end : ExchangeEnd) → Extends s a.desk → EndsIn q first past a m n end → MeetsAt end s n.desk
end_met q first past s a m n (exchange_end.Done member told) extends (r, round, is, reply, rest) = met_on s a.desk n.desk extends.none (last_met q first a m n r past round rest)
end_met q first past s a m n (exchange_end.Own status) extends (cause, writes) =
    met_on s a.desk n.desk extends.none (met_on a.desk m.desk n.desk (own_met q first past a m status cause) (same_met m.desk n.desk (desk_rest m n writes.rest)))
end_met q first past s a m n (exchange_end.Cut member told) extends (r, round, is, rest, why) = met_on s a.desk n.desk extends.none (last_met q first a m n r past round rest)
end_met q first past s a m n exchange_end.ClientFault extends (inl (r, round, gone, rest)) = met_on s a.desk n.desk extends.none (last_met q first a m n r past round rest)
end_met q first past s a m n exchange_end.ClientFault extends (inr (status, cause, breaks, rose)) =
    met_on s a.desk n.desk extends.none (met_on a.desk m.desk n.desk (own_met q first past a m status cause) (same_met m.desk n.desk (desk_rest m n breaks.rest)))
end_met q first past s a m n exchange_end.Truncated extends (r, round, gone, rest) = met_on s a.desk n.desk extends.none (last_met q first a m n r past round rest)
end_met q first past s a m n (exchange_end.Stray ticket returned_at) extends (r, stray, round, is, at, rest) =
    let same : record { ticket = ticket; returned_at = returned_at } ≡ stray = same_stray ticket returned_at stray is at in (
      ap (λ (x : Scene). x.desk.strays) rest ∙ round.back.rose ∙ ap (λ (k : ℕ). min (k + 1) 18446744073709551615) (round.chose.stray ∙ extends.none.strays),
      ap (λ (x : Scene). x.desk.met) rest ∙ round.back.met ∙ ap (λ (met : Option Stray). first_stray met stray) (round.chose.met ∙ extends.none.met)
          ∙ ap (λ (x : Stray). first_stray s.met x) (sym same),
    )
end_met q first past s a m n exchange_end.NoMemory extends (inl (none, rest)) =
    met_on s a.desk n.desk extends.none
    (met_on a.desk m.desk n.desk (record { strays = none.why.stray; met = none.why.met }) (same_met m.desk n.desk (ap (λ (x : Scene). x.desk) rest)))
end_met q first past s a m n exchange_end.NoMemory extends (inr (inl (r, bytes, round, is, rest))) = met_on s a.desk n.desk extends.none (last_met q first a m n r past round rest)
end_met q first past s a m n exchange_end.NoMemory extends (inr (inr (status, cause, breaks))) =
    met_on s a.desk n.desk extends.none (met_on a.desk m.desk n.desk (own_met q first past a m status cause) (same_met m.desk n.desk (desk_rest m n breaks.rest)))

none_met : (len : ℕ) (body : BodyAt) (faults faults_now : ℕ) (s n : DeskState) (end : ExchangeEnd) → IsFirstFailure len body faults faults_now end → n ≡ s → MeetsAt end s n
none_met len body faults faults_now s n (exchange_end.Done member told) why same = absurd why
none_met len body faults faults_now s n (exchange_end.Own status) why same = absurd why
none_met len body faults faults_now s n (exchange_end.Cut member told) why same = absurd why
none_met len body faults faults_now s n exchange_end.ClientFault why same = same_met s n same
none_met len body faults faults_now s n exchange_end.Truncated why same = same_met s n same
none_met len body faults faults_now s n (exchange_end.Stray ticket returned_at) why same = absurd why
none_met len body faults faults_now s n exchange_end.NoMemory why same = same_met s n same

pub met_at : (q : Errand) (s n : Scene) (end : ExchangeEnd) → IsExchange q s n end → MeetsAt end s.desk n.desk
met_at q s n end (inl none) = none_met _ s.around.body s.around.client.faults n.around.client.faults s.desk n.desk end none.why none.desk
met_at q s n end (inr rounds) =
    let start = begun_with s rounds.client rounds.body in
    end_met q rounds.first rounds.through.past s.desk rounds.through.asked rounds.through.ruled n end (rounds_extend q rounds.first start rounds.through.past rounds.through.asked rounds.through.gone_on) rounds.through.ends_in
