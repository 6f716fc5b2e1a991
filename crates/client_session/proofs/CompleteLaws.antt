-- A request to which nothing happens but that its member's reply comes whole is answered with exactly that reply.
use Rattle.std.proofs.Common.{◌≡◌, ◌≤◌, ◌<◌, ℕ, ◌+◌, Bool, true, false, List, ◌∷◌, ◌++◌, length, Option, Some, None, IfSome, slice_get, refl, sym, subst, inl, inr, ap, ◌∙◌, arith}
use Rattle.std.proofs.lemmas.List.{append_cancel_left, length-append}
use Rattle.jk_io.specs.Told.{Rose, appended}
use Rattle.jk_io.proofs.ToldLaws.{appended-appended}
use Rattle.jk_io.specs.declared.reaching.Talk.{Talk}
use Rattle.lb_model.specs.declared.served.Served.{Served}
use Rattle.http_front.specs.Request.{IsHeadOf}
use Rattle.http_front.specs.Unread.{unread}
use Rattle.http_front.specs.declared.head.Head.{Head}
use Rattle.http_front.proofs.AnswerLemmas.{empty-head, head-one, head-refused, short-head}
use Rattle.http_front.specs.Body.{Data, behind, data_from, data_of}
use Rattle.http_front.specs.State.{most_of, place_of, taken_of}
use Rattle.http_front.specs.declared.body.BodyIn.{BodyIn}
use Rattle.http_front.specs.declared.fault.BodyFault.{BodyFault}
use Rattle.http_front.specs.declared.fault.BodyFault.TheVariants as fault
use Rattle.http_front.specs.declared.place.Place.{Place}
use Rattle.http_front.proofs.BodyLemmas.{data_from-append}
use Rattle.ajp_reply.specs.declared.message.Message.{Message}
use Rattle.ajp_talk.specs.Moments.{TakesOfBody}
use Rattle.ajp_talk.specs.Replies.{bytes_for}
use Rattle.site_config.specs.declared.balancer.Lb.{Lb}
use Rattle.site_config.specs.declared.config.Named.TheVariants as named
use Rattle.exchange.specs.Complete.{HasWhole, plan_of_note}
use Rattle.exchange.specs.Requests.{Errand}
use Rattle.exchange.specs.Rounds.{Scene}
use Rattle.exchange.specs.declared.ending.ExchangeEnd.{ExchangeEnd}
use Rattle.client_session.specs.Answers.{IsAnswer, IsForwarded, IsForwardedAt, IsToldOn, errand_at}
use Rattle.client_session.specs.Complete.{EndsWhole, GetsWhole, IsUndisturbed, ServesWhole, with_bytes}
use Rattle.client_session.specs.Ends.{end_of}
use Rattle.client_session.specs.Requests.{IsNewBody, Visit, continue_for, is_last, mounted_at}
use Rattle.client_session.specs.Sessions.{BreaksRest, EndsIn, IsRequest, IsServedWhole, LeavesBodyUnread, ReadsHead}
use Rattle.client_session.specs.Standings.{ClientStanding, unread_at, with_body}
use Rattle.client_session.specs.declared.ending.SessionStop.{SessionStop}
use Rattle.client_session.specs.declared.ending.SessionStop.TheVariants as stop
use Rattle.client_session.specs.declared.ending.Why.TheVariants as why
use Rattle.status_worker.specs.declared.refusal.PageRefusal.{PageRefusal}
use Rattle.client_session.specs.declared.turn.Answered.{Answered}
use Rattle.client_session.specs.declared.turn.Answered.TheVariants as answered
use Rattle.client_session.proofs.DecideLaws.{cut_bytes, end_bytes, front_of_told, refused_bytes}

-- ---- the request that was read is the one that stands there

-- A request, where this head stands at the front and these bytes follow it.
record IsAsked (v : Visit) (number : ℕ) (s n : ClientStanding) (head : Head) (rest : List ℕ) (body : BodyIn) (a : Answered) (rows : List Served) : Type 0 where
  pub read : ClientStanding
  pub fresh : BodyIn
  pub reads : ReadsHead s read head
  pub is_fresh : IsNewBody head.plan fresh
  pub answers : IsAnswer v head (is_last number head) read n fresh body a rows
  pub left : unread_at read ≡ Some rest

asked : (v : Visit) (number : ℕ) (s n : ClientStanding) (head : Head) (used rest : List ℕ) (body : BodyIn) (a : Answered) (rows : List Served)
    → unread_at s ≡ Some (used ++ rest) → IsHeadOf used head → IsRequest v number s n body a rows → IsAsked v number s n head rest body a rows
asked v number s n head used rest body a rows told is r =
    let there = front_of_told r.reads.used.bytes (unread_at r.read) (used ++ rest) (sym r.reads.used.used ∙ told) in
    let one = head-one (used ++ rest) r.reads.used.bytes there.0 used rest r.head head there.2 r.reads.used.is refl is in
    let same : used ++ rest ≡ used ++ there.0 = there.2 ∙ ap (λ (b : List ℕ). b ++ there.0) one.0 in
    record {
      read = r.read;
      fresh = r.fresh;
      reads = subst (λ (h : Head). ReadsHead s r.read h) one.1 r.reads;
      is_fresh = subst (λ (h : Head). IsNewBody h.plan r.fresh) one.1 r.is_fresh;
      answers = subst (λ (h : Head). IsAnswer v h (is_last number h) r.read n r.fresh body a rows) one.1 r.answers;
      left = there.1 ∙ ap Some (sym (append_cancel_left used rest there.0 same));
    }

-- ---- the exchange is the one of this balancer, and nothing happens to it

forwarded_as : (v : Visit) (head : Head) (last : Bool) (s n : ClientStanding) (body body' : BodyIn) (end : ExchangeEnd) (lb : ℕ) (balancer : Lb)
    → (is : IsForwarded v head last s n body body' end) → mounted_at v head ≡ Some (named.Balancer lb) → slice_get v.cfg.lbs lb ≡ Some balancer
    → IsForwardedAt v (errand_at v head last lb balancer) s n body body' end
forwarded_as v head last s n body body' end lb balancer is mounted stands =
    let first : mounted_at v head ≡ Some (named.Balancer is.lb) = is.mounted in
    let place : is.lb ≡ lb = cc in
    let here : slice_get v.cfg.lbs lb ≡ Some is.balancer = subst (λ (k : ℕ). slice_get v.cfg.lbs k ≡ Some is.balancer) place is.stands in
    let one : is.balancer ≡ balancer = cc in
    subst (λ (b : Lb). IsForwardedAt v (errand_at v head last lb b) s n body body' end) one
    (subst (λ (k : ℕ). IsForwardedAt v (errand_at v head last k is.balancer) s n body body' end) place is.forwarded)

-- the same, over scenes in which as much is told, and in which no more rose
abbrev whole_over : (q : Errand) (s n s' n' : Scene) (t : Talk) (all : List Message) → HasWhole q s n t all
    → s'.around.talks ≡ s.around.talks → n'.around.talks ≡ n.around.talks
    → data_of (place_of s'.around.body.body) s'.around.body.unread ≡ data_of (place_of s.around.body.body) s.around.body.unread
    → taken_of s'.around.body.body ≡ taken_of s.around.body.body → most_of s'.around.body.body ≡ most_of s.around.body.body
    → (Rose s'.around.faults n'.around.faults → Rose s.around.faults n.around.faults)
    → (Rose s'.around.client.faults n'.around.client.faults → Rose s.around.client.faults n.around.client.faults)
    → (Rose s'.desk.strays n'.desk.strays → Rose s.desk.strays n.desk.strays) → HasWhole q s' n' t all
whole_over q s n s' n' t all w talks talks' data_is taken most reach client strays = record {
  before = w.before;
  later = w.later;
  talks_before = talks ∙ w.talks_before;
  talks_after = talks' ∙ w.talks_after;
  config = w.config;
  endpoint = w.endpoint;
  configured = w.configured;
  reached = w.reached;
  data' = w.data';
  told = data_is ∙ w.told;
  whole = w.whole;
  within = omega (arith, w.within, taken, most);
  reply = w.reply;
  more = w.more;
  comes = w.comes;
  is = w.is;
  unlisted = w.unlisted;
  below = w.below;
  reach = λ rose. w.reach (reach rose);
  client = λ rose. w.client (client rose);
  strays = λ rose. w.strays (strays rose);
}

-- The standing after 100 Continue: desk, reach and faults are the same, and the rest is unread.
record IsBegun (s told : ClientStanding) (rest : List ℕ) : Type 0 where
  pub desk : told.desk ≡ s.desk
  pub reach : told.reach ≡ s.reach
  pub faults : told.client.faults ≡ s.client.faults
  pub left : unread_at told ≡ Some rest

begun : (v : Visit) (s read told : ClientStanding) (head : Head) (rest : List ℕ) → ReadsHead s read head → unread_at read ≡ Some rest → IsToldOn v head read told
    → IsBegun s told rest
begun v s read told head rest reads left on = record {
  desk = ap (λ (x : ClientStanding). x.desk) on.written.alone ∙ ap (λ (x : ClientStanding). x.desk) reads.on.alone;
  reach = ap (λ (x : ClientStanding). x.reach) on.written.alone ∙ ap (λ (x : ClientStanding). x.reach) reads.on.alone;
  faults = on.written.puts.steady ∙ reads.on.steady;
  left = ap (λ (i : List ℕ). unread i told.client.incoming) (ap (λ (x : ClientStanding). x.inbox) on.written.alone)
      ∙ ap (λ o. unread read.inbox o) on.written.puts.incoming ∙ left;
}

-- The standing after the exchange, where no more is done than reading the rest of the body.
record IsAfter (n e : ClientStanding) : Type 0 where
  pub desk : e.desk ≡ n.desk
  pub reach : e.reach ≡ n.reach
  pub no_fewer : n.client.faults ≤ e.client.faults
  pub sent : e.client.sent ≡ n.client.sent

at_once : (n : ClientStanding) → IsAfter n n
at_once n = record { desk = refl; reach = refl; no_fewer = omega arith; sent = refl }

same_rose : (a b a' b' : ℕ) → a' ≡ a → b' ≡ b → Rose a' b' → Rose a b
same_rose a b a' b' first second rose = subst (λ (k : ℕ). Rose a k) second (subst (λ (k : ℕ). Rose k b') first rose)

later_rose : (a b a' b' : ℕ) → a' ≡ a → b' ≤ b → Rose a' b' → Rose a b
later_rose a b a' b' first more rose = omega (arith, first, more, rose)

abbrev errand_in : (v : Visit) (number : ℕ) (s n : ClientStanding) (head : Head) (t : Talk) (all : List Message) → IsUndisturbed v number s n head t all → Errand
errand_in v number s n head t all u = errand_at v head (is_last number head) u.lb u.balancer

-- nothing happens to the exchange of the request that was read
abbrev whole_in : (v : Visit) (number : ℕ) (s told n e : ClientStanding) (head : Head) (t : Talk) (all : List Message) (u : IsUndisturbed v number s e head t all) (fresh body : BodyIn)
    → IsNewBody head.plan fresh → IsBegun s told u.rest → IsAfter n e
    → HasWhole (errand_in v number s e head t all u) (with_body told fresh) (with_body n body) t all
whole_in v number s told n e head t all u fresh body is_fresh b after =
    whole_over (errand_in v number s e head t all u) (with_bytes s u.body u.rest) (with_body e u.body) (with_body told fresh) (with_body n body) t all u.whole
    (ap (λ r. r.talks) b.reach) (ap (λ r. r.talks) (sym after.reach))
    (ap (λ o. data_of (place_of fresh) o) b.left ∙ ap (λ (p : Place). data_of p (Some u.rest)) (is_fresh.place ∙ sym u.fresh.place))
    (is_fresh.taken ∙ sym u.fresh.taken) (is_fresh.most ∙ sym u.fresh.most)
    (same_rose _ _ _ _ (ap (λ r. r.faults) b.reach) (ap (λ r. r.faults) (sym after.reach)))
    (later_rose _ _ _ _ b.faults after.no_fewer)
    (same_rose _ _ _ _ (ap (λ d. d.state.strays) b.desk) (ap (λ d. d.state.strays) (sym after.desk)))

-- ---- it is answered whole

gets_whole : (v : Visit) (number : ℕ) (s n e : ClientStanding) (head : Head) (t : Talk) (all : List Message) (u : IsUndisturbed v number s e head t all) (body : BodyIn) (rows : List Served)
    → IsAsked v number s n head u.rest body answered.Whole rows → IsAfter n e → GetsWhole v number s e head t all u
gets_whole v number s n e head t all u body rows r after = by_answer r.answers
  where
    by_answer : IsAnswer v head (is_last number head) r.read n r.fresh body answered.Whole rows → GetsWhole v number s e head t all u
    by_answer (inl early) = absurd early
    by_answer (inr (told, on, inl (member, said, row, is, named', added))) =
        let b = begun v s r.read told head u.rest r.reads r.left on in
        let at = forwarded_as v head (is_last number head) told n r.fresh body _ u.lb u.balancer is u.mounted u.stands in
        let done = at.complete t all (whole_in v number s told n e head t all u r.fresh body r.is_fresh b after) in
        let bytes = bytes_for (plan_of_note (errand_in v number s e head t all u) u.whole.data' u.whole.config u.whole.endpoint t) all in
        record {
          one = done.1;
          written = after.sent ∙ done.2 ∙ ap (λ o. appended o bytes) (on.written.puts.sent ∙ ap (λ o. appended o (continue_for head)) r.reads.on.sent)
              ∙ appended-appended s.client.sent (continue_for head) bytes;
        }
    by_answer (inr (told, on, inr (status, m, page, at, has, written, same, added))) =
        absurd (let there : mounted_at v head ≡ Some (named.Status at.place) = at.mounted in let here : mounted_at v head ≡ Some (named.Balancer u.lb) = u.mounted in cc)

pub serves_whole : (v : Visit) (number : ℕ) (s n : ClientStanding) (rows : List Served) → IsServedWhole v number s n rows → ServesWhole v number s n
serves_whole v number s n rows served head t all u =
    gets_whole v number s served.mid n head t all u served.body rows
    (asked v number s served.mid head u.used u.rest served.body answered.Whole rows u.told u.is_head served.going_on.request)
    (record {
      desk = ap (λ (x : ClientStanding). x.desk) served.skips.alone;
      reach = ap (λ (x : ClientStanding). x.reach) served.skips.alone;
      no_fewer = omega (arith, served.skips.passes.on.steady);
      sent = served.skips.passes.on.sent;
    })

-- ---- it is answered no other way

-- it isn't mounted at a status worker, nor nowhere
not_status : (v : Visit) (head : Head) (lb place : ℕ) → mounted_at v head ≡ Some (named.Balancer lb) → mounted_at v head ≡ Some (named.Status place) → ⊥
not_status v head lb place here there = absurd cc

not_nowhere : (v : Visit) (head : Head) (lb : ℕ) → mounted_at v head ≡ Some (named.Balancer lb) → mounted_at v head ≡ None → ⊥
not_nowhere v head lb here there = absurd cc

no_own : (v : Visit) (number : ℕ) (s n : ClientStanding) (head : Head) (t : Talk) (all : List Message) (u : IsUndisturbed v number s n head t all) (body : BodyIn) (rows : List Served) (code : ℕ)
    → IsAsked v number s n head u.rest body (answered.Not (stop.Closed (why.Own code))) rows → ⊥
no_own v number s n head t all u body rows code r = by_answer r.answers
  where
    by_answer : IsAnswer v head (is_last number head) r.read n r.fresh body (answered.Not (stop.Closed (why.Own code))) rows → ⊥
    by_answer (inl early) = not_nowhere v head u.lb u.mounted early.1
    by_answer (inr (told, on, (added, is))) =
        let b = begun v s r.read told head u.rest r.reads r.left on in
        let at = forwarded_as v head (is_last number head) told n r.fresh body _ u.lb u.balancer is u.mounted u.stands in
        at.complete t all (whole_in v number s told n n head t all u r.fresh body r.is_fresh b (at_once n))

no_refusal : (v : Visit) (number : ℕ) (s n : ClientStanding) (head : Head) (t : Talk) (all : List Message) (u : IsUndisturbed v number s n head t all) (body : BodyIn) (rows : List Served)
    (refusal : PageRefusal) → IsAsked v number s n head u.rest body (answered.Not (stop.Closed (why.Refused refusal))) rows → ⊥
no_refusal v number s n head t all u body rows refusal r = by_answer r.answers
  where
    by_answer : IsAnswer v head (is_last number head) r.read n r.fresh body (answered.Not (stop.Closed (why.Refused refusal))) rows → ⊥
    by_answer (inl early) = absurd early
    by_answer (inr (told, on, (added, (status, at, answer)))) = not_status v head u.lb at.place u.mounted at.mounted

no_cut : (v : Visit) (number : ℕ) (s n : ClientStanding) (head : Head) (t : Talk) (all : List Message) (u : IsUndisturbed v number s n head t all) (body : BodyIn) (rows : List Served)
    → IsAsked v number s n head u.rest body (answered.Not (stop.Closed why.Cut)) rows → ⊥
no_cut v number s n head t all u body rows r = by_answer r.answers
  where
    by_answer : IsAnswer v head (is_last number head) r.read n r.fresh body (answered.Not (stop.Closed why.Cut)) rows → ⊥
    by_answer (inl early) = absurd early
    by_answer (inr (told, on, (member, said, row, is, named', added))) =
        let b = begun v s r.read told head u.rest r.reads r.left on in
        let at = forwarded_as v head (is_last number head) told n r.fresh body _ u.lb u.balancer is u.mounted u.stands in
        at.complete t all (whole_in v number s told n n head t all u r.fresh body r.is_fresh b (at_once n))

no_truncated : (v : Visit) (number : ℕ) (s n : ClientStanding) (head : Head) (t : Talk) (all : List Message) (u : IsUndisturbed v number s n head t all) (body : BodyIn) (rows : List Served)
    → IsAsked v number s n head u.rest body (answered.Not stop.Truncated) rows → ⊥
no_truncated v number s n head t all u body rows r = by_answer r.answers
  where
    by_answer : IsAnswer v head (is_last number head) r.read n r.fresh body (answered.Not stop.Truncated) rows → ⊥
    by_answer (inl early) = absurd early
    by_answer (inr (told, on, (none, is))) =
        let b = begun v s r.read told head u.rest r.reads r.left on in
        let at = forwarded_as v head (is_last number head) told n r.fresh body _ u.lb u.balancer is u.mounted u.stands in
        at.complete t all (whole_in v number s told n n head t all u r.fresh body r.is_fresh b (at_once n))

no_stray : (v : Visit) (number : ℕ) (s n : ClientStanding) (head : Head) (t : Talk) (all : List Message) (u : IsUndisturbed v number s n head t all) (body : BodyIn) (rows : List Served) (ticket : ℕ) (returned_at : Option ℕ)
    → IsAsked v number s n head u.rest body (answered.Not (stop.Stray ticket returned_at)) rows → ⊥
no_stray v number s n head t all u body rows ticket returned_at r = by_answer r.answers
  where
    by_answer : IsAnswer v head (is_last number head) r.read n r.fresh body (answered.Not (stop.Stray ticket returned_at)) rows → ⊥
    by_answer (inl early) = absurd early
    by_answer (inr (told, on, (none, is))) =
        let b = begun v s r.read told head u.rest r.reads r.left on in
        let at = forwarded_as v head (is_last number head) told n r.fresh body _ u.lb u.balancer is u.mounted u.stands in
        at.complete t all (whole_in v number s told n n head t all u r.fresh body r.is_fresh b (at_once n))

-- ---- the rest of its body can be read

-- The data that is left is whole, and below the limit.
record HasRest (body : BodyIn) (left : Option (List ℕ)) : Type 0 where
  pub more : List ℕ
  pub is : left ≡ Some more
  pub whole : (data_from more (place_of body)).whole ≡ true
  pub below : taken_of body + length (data_from more (place_of body)).bytes < most_of body

rest_of : (fresh body : BodyIn) (rest : List ℕ) (before left : Option (List ℕ)) (taken : List ℕ) → before ≡ Some rest
    → TakesOfBody (record { body = fresh; unread = before }) (record { body = body; unread = left }) taken
    → (data_from rest (place_of fresh)).whole ≡ true → taken_of fresh + length (data_from rest (place_of fresh)).bytes < most_of fresh → HasRest body left
rest_of fresh body rest before left taken told takes whole below =
    let there = front_of_told takes.uses.gone left rest (sym takes.uses.used ∙ told) in
    let split : data_from rest (place_of fresh) ≡ behind (data_from takes.uses.gone (place_of fresh)).bytes (data_from there.0 (place_of body)) =
    ap (λ (b : List ℕ). data_from b (place_of fresh)) there.2 ∙ data_from-append takes.uses.gone there.0 (place_of fresh) (place_of body) takes.uses.own in
    let size : length (data_from rest (place_of fresh)).bytes ≡ length taken + length (data_from there.0 (place_of body)).bytes =
    ap (λ (d : Data). length d.bytes) split ∙ length-append (data_from takes.uses.gone (place_of fresh)).bytes (data_from there.0 (place_of body)).bytes
    ∙ ap (λ (b : List ℕ). length b + length (data_from there.0 (place_of body)).bytes) takes.uses.brings in
    record {
      more = there.0;
      is = there.1;
      whole = sym (ap (λ (d : Data). d.whole) split) ∙ whole;
      below = omega (arith, below, size, takes.counted, takes.most);
    }

-- The standing after a whole answer: the rest of the body can be read, and the client's faults are no fewer.
record IsReadable (s mid : ClientStanding) (body : BodyIn) : Type 0 where
  pub rest : HasRest body (unread_at mid)
  pub no_fewer : s.client.faults ≤ mid.client.faults

readable : (v : Visit) (number : ℕ) (s mid n : ClientStanding) (head : Head) (t : Talk) (all : List Message) (u : IsUndisturbed v number s n head t all) (body : BodyIn) (rows : List Served)
    → IsAsked v number s mid head u.rest body answered.Whole rows → IsReadable s mid body
readable v number s mid n head t all u body rows r = by_answer r.answers
  where
    data_is : data_from u.rest (place_of r.fresh) ≡ u.whole.data'
    data_is =
        let told : Some (data_from u.rest (place_of u.body)) ≡ Some u.whole.data' = u.whole.told in
        let place : place_of r.fresh ≡ place_of u.body = r.is_fresh.place ∙ sym u.fresh.place in
        ap (λ (p : Place). data_from u.rest p) place ∙ cc

    by_answer : IsAnswer v head (is_last number head) r.read mid r.fresh body answered.Whole rows → IsReadable s mid body
    by_answer (inl early) = absurd early
    by_answer (inr (told, on, inl (member, said, row, is, named', added))) =
        let b = begun v s r.read told head u.rest r.reads r.left on in
        record {
          rest = rest_of r.fresh body u.rest (unread_at told) (unread_at mid) is.forwarded.gives.taken b.left is.forwarded.gives.takes
              (ap (λ (d : Data). d.whole) data_is ∙ u.whole.whole)
              (omega (arith, u.whole.within, ap (λ (d : Data). length d.bytes) data_is, r.is_fresh.taken, u.fresh.taken, r.is_fresh.most, u.fresh.most));
          no_fewer = omega (arith, b.faults, is.forwarded.no_fewer.1);
        }
    by_answer (inr (told, on, inr (status, m, page, at, has, written, same, added))) = absurd (not_status v head u.lb at.place u.mounted at.mounted)

bad_readable : (s mid n : ClientStanding) (body : BodyIn) (P : Data → Type 0) → IsReadable s mid body → ((d : Data) → P d → d.whole ≡ false)
    → IfSome (data_of (place_of body) (unread_at mid)) P → ⊥
bad_readable s mid n body P is unmet found =
    let here : P (data_from is.rest.more (place_of body)) = subst (λ (o : Option (List ℕ)). IfSome (data_of (place_of body) o) P) is.rest.is found in
    let none : (data_from is.rest.more (place_of body)).whole ≡ false = unmet _ here in
    let whole = is.rest.whole in
    absurd cc

long_readable : (s mid : ClientStanding) (body : BodyIn) → IsReadable s mid body
    → IfSome (data_of (place_of body) (unread_at mid)) (λ (d : Data). most_of body ≤ taken_of body + length d.bytes) → ⊥
long_readable s mid body is found =
    let P : Data → Type 0 = λ d. most_of body ≤ taken_of body + length d.bytes in
    let here : P (data_from is.rest.more (place_of body)) = subst (λ (o : Option (List ℕ)). IfSome (data_of (place_of body) o) P) is.rest.is found in
    absurd (omega (arith, here, is.rest.below))

-- the rest of the body is read, unless memory is wanted
no_unread : (s mid n : ClientStanding) (body : BodyIn) (why' : BodyFault) → IsReadable s mid body → (Rose s.client.faults n.client.faults → ⊥)
    → BreaksRest mid n body why' → why' ≡ fault.NoMemory
no_unread s mid n body fault.Truncated is steady breaks =
    absurd (bad_readable s mid n body _ is (λ d met. met.0) (breaks.meets.truncated refl breaks.going))
no_unread s mid n body fault.BadChunk is steady breaks =
    absurd (bad_readable s mid n body _ is (λ d met. met.0) (breaks.meets.bad refl breaks.going))
no_unread s mid n body fault.TooLong is steady breaks = absurd (long_readable s mid body is (breaks.meets.too_long refl breaks.going).1)
no_unread s mid n body fault.Fault is steady breaks =
    let rose = breaks.meets.fault refl breaks.going in
    absurd (steady (omega (arith, rose, is.no_fewer)))
no_unread s mid n body fault.NoMemory is steady breaks = refl

unread_whole : (v : Visit) (number : ℕ) (s n : ClientStanding) (rows : List Served) (why' : BodyFault) (head : Head) (t : Talk) (all : List Message) (u : IsUndisturbed v number s n head t all)
    → LeavesBodyUnread v number s n rows why' → why' ≡ fault.NoMemory
unread_whole v number s n rows why' head t all u (body, mid, going_on, breaks) =
    let r = asked v number s mid head u.used u.rest body answered.Whole rows u.told u.is_head going_on.request in
    no_unread s mid n body why' (readable v number s mid n head t all u body rows r) u.whole.client breaks

-- ---- how the session ends there

last_too : (v : Visit) (number : ℕ) (s n : ClientStanding) (head : Head) (used rest : List ℕ) (body : BodyIn) (a : Answered) (rows : List Served) → unread_at s ≡ Some (used ++ rest) → IsHeadOf used head
    → (r : IsRequest v number s n body a rows) → is_last number r.head ≡ true → is_last number head ≡ true
last_too v number s n head used rest body a rows told is r last =
    let there = front_of_told r.reads.used.bytes (unread_at r.read) (used ++ rest) (sym r.reads.used.used ∙ told) in
    let one = head-one (used ++ rest) r.reads.used.bytes there.0 used rest r.head head there.2 r.reads.used.is refl is in
    subst (λ (h : Head). is_last number h ≡ true) one.1 last

-- where no talk was noted there is no first one
no_first : (before later : List Talk) (t : Talk) (now told : Option (List Talk)) → now ≡ Some (before ++ t ∷ later) → told ≡ Some before → now ≡ told → ⊥
no_first before later t now told after is same =
    let both : Some (before ++ t ∷ later) ≡ Some before = sym after ∙ same ∙ is in
    let lists : before ++ t ∷ later ≡ before = cc in
    omega (arith, ap (λ (ts : List Talk). length ts) lists, length-append before (t ∷ later))

pub ends_whole : (v : Visit) (number : ℕ) (s n : ClientStanding) (rows : List Served) (requests : ℕ) (stop' : SessionStop) → EndsIn v number s n rows requests stop'
    → EndsWhole v (end_of stop' requests) number s n
ends_whole v number s n rows requests (stop.Closed why.ByClient) (count, reads, none) head t all u =
    absurd (empty-head (u.used ++ u.rest) u.used u.rest head refl u.is_head (end_bytes (unread_at s) (unread_at n) (u.used ++ u.rest) reads.used u.told))
ends_whole v number s n rows requests (stop.Closed why.Idle) (count, some, none, same, added) head t all u =
    absurd (no_first u.whole.before u.whole.later t n.reach.talks s.reach.talks u.whole.talks_after u.whole.talks_before (ap (λ (x : ClientStanding). x.reach.talks) same))
ends_whole v number s n rows requests (stop.Closed why.Last) (count, (body, r, last)) head t all u =
    inr (
      ap (λ (k : ℕ). end_of (stop.Closed why.Last) k) count,
      last_too v number s n head u.used u.rest body answered.Whole rows u.told u.is_head r last,
      gets_whole v number s n n head t all u body rows (asked v number s n head u.used u.rest body answered.Whole rows u.told u.is_head r) (at_once n),
    )
ends_whole v number s n rows requests (stop.Closed (why.Own code)) (count, inl (refused, added)) head t all u =
    absurd (head-refused (u.used ++ u.rest) u.used u.rest head refused.form refl u.is_head (refused_bytes s refused.read refused.form (u.used ++ u.rest) refused.reads u.told))
ends_whole v number s n rows requests (stop.Closed (why.Own code)) (count, inr (body, r)) head t all u =
    absurd (no_own v number s n head t all u body rows code (asked v number s n head u.used u.rest body _ rows u.told u.is_head r))
ends_whole v number s n rows requests (stop.Closed (why.Refused refusal)) (count, (body, r)) head t all u =
    absurd (no_refusal v number s n head t all u body rows refusal (asked v number s n head u.used u.rest body _ rows u.told u.is_head r))
ends_whole v number s n rows requests (stop.Closed why.Cut) (count, (body, r)) head t all u =
    absurd (no_cut v number s n head t all u body rows (asked v number s n head u.used u.rest body _ rows u.told u.is_head r))
ends_whole v number s n rows requests (stop.Closed why.Unread) (count, inl unread') head t all u =
    absurd (let is = unread_whole v number s n rows fault.BadChunk head t all u unread' in cc)
ends_whole v number s n rows requests (stop.Closed why.Unread) (count, inr unread') head t all u =
    absurd (let is = unread_whole v number s n rows fault.TooLong head t all u unread' in cc)
ends_whole v number s n rows requests stop.ClientFault (inl (count, none, rose, more)) head t all u = absurd (u.whole.client rose)
ends_whole v number s n rows requests stop.ClientFault (inr (count, unread')) head t all u =
    absurd (let is = unread_whole v number s n rows fault.Fault head t all u unread' in cc)
ends_whole v number s n rows requests stop.Truncated (inl (count, none, inl reads)) head t all u =
    absurd (short-head (u.used ++ u.rest) u.used u.rest head refl u.is_head (cut_bytes s n (u.used ++ u.rest) reads u.told))
ends_whole v number s n rows requests stop.Truncated (inl (count, none, inr (body, r))) head t all u =
    absurd (no_truncated v number s n head t all u body rows (asked v number s n head u.used u.rest body _ rows u.told u.is_head r))
ends_whole v number s n rows requests stop.Truncated (inr (count, unread')) head t all u =
    absurd (let is = unread_whole v number s n rows fault.Truncated head t all u unread' in cc)
ends_whole v number s n rows requests (stop.Stray ticket returned_at) (count, none, (body, r)) head t all u =
    absurd (no_stray v number s n head t all u body rows ticket returned_at (asked v number s n head u.used u.rest body _ rows u.told u.is_head r))
ends_whole v number s n rows requests stop.NoMemory ends head t all u = inl refl
