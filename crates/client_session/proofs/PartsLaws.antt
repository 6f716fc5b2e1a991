-- The parts of a session's requests, joined in order.
use Rattle.std.proofs.Common.{◌≡◌, ℕ, zero, suc, ◌+◌, ◌⊎◌, Bool, List, [], ◌∷◌, ◌++◌, Option, Some, refl, sym, subst, inl, inr, ap, ◌∙◌}
use Rattle.std.proofs.lemmas.List.{append_assoc, append-nil}
use Rattle.jk_io.specs.Told.{PutsFront, appended, prepended}
use Rattle.jk_io.specs.declared.reaching.Talk.{Talk}
use Rattle.jk_io.proofs.ToldLaws.{appended-appended, appended-nil, prepended-nil, prepended-prepended}
use Rattle.lb_model.specs.declared.served.Served.{Served}
use Rattle.http_front.specs.Unread.{unread}
use Rattle.http_front.specs.Refusal.{status_of}
use Rattle.http_front.specs.Request.{IsHeadOf}
use Rattle.http_front.specs.declared.head.Head.{Head}
use Rattle.http_front.specs.Body.{place_behind}
use Rattle.http_front.specs.Places.{start_of}
use Rattle.http_front.specs.State.{place_of}
use Rattle.http_front.specs.declared.body.BodyIn.{BodyIn}
use Rattle.http_front.specs.declared.fault.BodyFault.{BodyFault}
use Rattle.http_front.specs.declared.place.Place.{Place}
use Rattle.http_front.proofs.BodyLemmas.{place_behind-append}
use Rattle.ajp_talk.specs.Replies.{so_far_of_talk}
use Rattle.jk_io.specs.Moments.{Moment}
use Rattle.http_out.specs.Own.{own_bytes, own_of}
use Rattle.http_out.specs.declared.own_answers.Own.{Own}
use Rattle.http_out.specs.declared.own_answers.OwnKind.{OwnKind}
use Rattle.httpdate.specs.declared.date.HttpDate.{HttpDate}
use Rattle.ajp_talk.specs.declared.ending.Told.{Told}
use Rattle.status_worker.specs.Mimes.{mime_of}
use Rattle.status_worker.specs.declared.page.PagePart.{PagePart}
use Rattle.status_worker.specs.Pages.{page_reply, shown_for}
use Rattle.status_worker.specs.Refusals.{refusal_bytes}
use Rattle.status_worker.specs.declared.refusal.PageRefusal.{PageRefusal}
use Rattle.site_config.specs.declared.config.Status.{Status}
use Rattle.exchange.specs.Clients.{GetsFront, GetsLess, GetsReplyFront, plan_in}
use Rattle.exchange.specs.Deliveries.{PutsShort}
use Rattle.exchange.specs.declared.ending.ExchangeEnd.TheVariants as exchange_end
use Rattle.exchange.specs.declared.ending.ExchangeEnd.{ExchangeEnd}
use Rattle.client_session.specs.Answers.{IsAnswer, IsAnswerAt, IsAtStatus, IsEarlyBegun, IsEarlyLess, IsForwarded, IsStatusBegun, IsStatusLess, IsToldOn, errand_at, own_bytes_of, own_for}
use Rattle.client_session.specs.Parts.{AreParts, HasParts, IsCutFor, IsDueAnswer, IsFrontOfAnswer, IsLastWritten, IsLessOfAnswer, IsOwnAnswer, IsPageAnswer, IsPageFor, IsSessionPart, IsRefusalAnswer, IsReplyFor, IsUnreadAnswer, IsWholeAnswer, SessionPart, taken_in, talks_in, written_in}
use Rattle.client_session.specs.Moments.{IsTold}
use Rattle.client_session.proofs.MomentLaws.{StaysButClock, last_stays, moment_stays, told_last, told_moment}
use Rattle.client_session.specs.Requests.{IsNewBody, Visit, continue_for, is_last, kind_at, own_kind_at, refused_kind, visit_at}
use Rattle.client_session.specs.Sessions.{EndsIn, HaveServed, IsRefusalBegun, IsRefusalWanted, IsRequest, IsServedWhole, IsSession, LeavesBodyUnread, ReadsHead}
use Rattle.client_session.specs.Standings.{IsBegun, IsClientAlone, IsLess, IsWritten, ClientStanding, ReachSide, unread_at, with_body}
use Rattle.client_session.specs.declared.ending.SessionEnd.{SessionEnd}
use Rattle.client_session.specs.declared.ending.SessionStop.{SessionStop}
use Rattle.client_session.specs.declared.ending.SessionStop.TheVariants as stop
use Rattle.client_session.specs.declared.ending.Why.TheVariants as why
use Rattle.client_session.specs.declared.turn.Answered.TheVariants as answered

-- ---- what was used of the client's bytes, what was written to it, and which talks were noted

pub record Moves (s n : ClientStanding) (taken written : List ℕ) (talks : List Talk) : Type 0 where
  pub used : unread_at s ≡ prepended taken (unread_at n)
  pub put : n.client.sent ≡ appended s.client.sent written
  pub noted : n.reach.talks ≡ appended s.reach.talks talks

moves_twice : (s m n : ClientStanding) (a b c d : List ℕ) (x y : List Talk) → Moves s m a b x → Moves m n c d y → Moves s n (a ++ c) (b ++ d) (x ++ y)
moves_twice s m n a b c d x y first second = record {
  used = first.used ∙ ap (prepended a) second.used ∙ prepended-prepended a c (unread_at n);
  put = second.put ∙ ap (λ o. appended o d) first.put ∙ appended-appended s.client.sent b d;
  noted = second.noted ∙ ap (λ o. appended o y) first.noted ∙ appended-appended s.reach.talks x y;
}

moves_none : (s n : ClientStanding) → n ≡ s → Moves s n [] [] []
moves_none s n same = record {
  used = sym (ap unread_at same) ∙ sym (prepended-nil (unread_at n));
  put = ap (λ (x : ClientStanding). x.client.sent) same ∙ sym (appended-nil s.client.sent);
  noted = ap (λ (x : ClientStanding). x.reach.talks) same ∙ sym (appended-nil s.reach.talks);
}

-- no talk was held
unasked : (s n : ClientStanding) → n.reach ≡ s.reach → n.reach.talks ≡ appended s.reach.talks []
unasked s n same = ap (λ (r : ReachSide). r.talks) same ∙ sym (appended-nil s.reach.talks)

alone_reach : (s n : ClientStanding) → IsClientAlone s n → n.reach ≡ s.reach
alone_reach s n alone = ap (λ (x : ClientStanding). x.reach) alone

-- from where nothing but the clock differs
moves_from : (s t n : ClientStanding) (taken written : List ℕ) (talks : List Talk) → StaysButClock s t → Moves t n taken written talks → Moves s n taken written talks
moves_from s t n taken written talks stays moves = record {
  used = sym (ap (λ (i : List ℕ). unread i t.client.incoming) stays.inbox ∙ ap (λ (c : Moment). unread s.inbox c.incoming) stays.client) ∙ moves.used;
  put = moves.put ∙ ap (λ (c : Moment). appended c.sent written) stays.client;
  noted = moves.noted ∙ ap (λ (r : ReachSide). appended r.talks talks) stays.reach;
}

-- nothing was written
reads_on : (s n : ClientStanding) (front : List ℕ) → unread_at s ≡ prepended front (unread_at n) → n.client.sent ≡ s.client.sent → IsClientAlone s n
    → Moves s n front [] []
reads_on s n front used same alone = record {
  used = used;
  put = same ∙ sym (appended-nil s.client.sent);
  noted = unasked s n (alone_reach s n alone);
}

-- nothing was read
same_inbox : (s n : ClientStanding) → n.inbox ≡ s.inbox → n.client.incoming ≡ s.client.incoming → unread_at s ≡ prepended [] (unread_at n)
same_inbox s n inbox incoming =
    sym (ap (λ i. unread i n.client.incoming) inbox ∙ ap (unread s.inbox) incoming) ∙ sym (prepended-nil (unread_at n))

writes_on : (s m n : ClientStanding) (bytes : List ℕ) → m.client ≡ s.client → m.inbox ≡ s.inbox → m.reach ≡ s.reach → IsWritten m n bytes → Moves s n [] bytes []
writes_on s m n bytes client inbox reach written = record {
  used = same_inbox s n (ap (λ (x : ClientStanding). x.inbox) written.alone ∙ inbox) (written.puts.incoming ∙ ap (λ c. c.incoming) client);
  put = written.puts.sent ∙ ap (λ c. appended c.sent bytes) client;
  noted = unasked s n (ap (λ (x : ClientStanding). x.reach) written.alone ∙ reach);
}

-- ---- a request that was answered whole

pub taken_last : (parts : List SessionPart) (part : SessionPart) → taken_in (parts ++ part ∷ []) ≡ taken_in parts ++ part.taken
taken_last [] part = append-nil part.taken
taken_last (first ∷ parts) part =
    ap (λ (bytes : List ℕ). first.taken ++ bytes) (taken_last parts part) ∙ sym (append_assoc first.taken (taken_in parts) part.taken)

pub written_last : (parts : List SessionPart) (part : SessionPart) → written_in (parts ++ part ∷ []) ≡ written_in parts ++ part.written
written_last [] part = append-nil part.written
written_last (first ∷ parts) part =
    ap (λ (bytes : List ℕ). first.written ++ bytes) (written_last parts part) ∙ sym (append_assoc first.written (written_in parts) part.written)

pub talks_last : (parts : List SessionPart) (part : SessionPart) → talks_in (parts ++ part ∷ []) ≡ talks_in parts ++ part.talks
talks_last [] part = append-nil part.talks
talks_last (first ∷ parts) part =
    ap (λ (talks : List Talk). first.talks ++ talks) (talks_last parts part) ∙ sym (append_assoc first.talks (talks_in parts) part.talks)

-- A whole answer after 100 Continue, and the bytes of the body that were used.
record HasAnswer (v : Visit) (head : Head) (last : Bool) (s n : ClientStanding) (body : BodyIn) : Type 0 where
  pub answer : List ℕ
  pub gone : List ℕ
  pub talks : List Talk
  pub is : IsReplyFor v head last talks answer ⊎ IsPageFor v head last talks answer
  pub moves : Moves s n gone answer talks
  pub place : place_behind gone (start_of head.plan) ≡ Some (place_of body)

by_reply : (v : Visit) (head : Head) (last : Bool) (s n : ClientStanding) (fresh body : BodyIn) (member : ℕ) (told : Told) → IsNewBody head.plan fresh
    → IsForwarded v head last s n fresh body (exchange_end.Done member told) → HasAnswer v head last s n body
by_reply v head last s n fresh body member told is_fresh is =
    let gets = is.forwarded.gives in
    record {
      answer = _;
      gone = gets.takes.uses.gone;
      talks = gets.noted.others ++ gets.noted.note ∷ [];
      is = inl (
        _,
        gets.past,
        gets.reuse,
        gets.came,
        record {
          lb = is.lb;
          balancer = is.balancer;
          mounted = is.mounted;
          stands = is.stands;
          member = member;
          config = gets.last.config;
          endpoint = gets.last.endpoint;
          configured = gets.last.configured;
          reached = gets.last.reached;
          first = gets.last.first;
          is = refl;
        },
        gets.reply,
        record { others = gets.noted.others; note = gets.noted.note; split = refl; with_member = gets.noted.with_member; received = gets.noted.received },
        refl,
      );
      moves = record { used = gets.takes.uses.used; put = gets.written; noted = gets.noted.talks };
      place = subst (λ (p : Place). place_behind gets.takes.uses.gone p ≡ Some (place_of body)) is_fresh.place gets.takes.uses.own;
    }

whole_at : (v : Visit) (head : Head) (last : Bool) (s n : ClientStanding) (fresh body : BodyIn) (rows : List Served) → IsNewBody head.plan fresh
    → IsAnswerAt v head last s n fresh body answered.Whole rows → HasAnswer v head last s n body
whole_at v head last s n fresh body rows is_fresh (inl (member, told, row, is, named, added)) = by_reply v head last s n fresh body member told is_fresh is
whole_at v head last s n fresh body rows is_fresh (inr (status, m, page, at, has, written, same, added)) = record {
  answer = _;
  gone = [];
  talks = [];
  is = inr (status, has.parts, at, refl, ap (page_reply (mime_of head.query) (kind_at v head last)) has.is);
  moves = writes_on s m n _ (ap (λ (x : ClientStanding). x.client) has.alone) (ap (λ (x : ClientStanding). x.inbox) has.alone)
      (ap (λ (x : ClientStanding). x.reach) has.alone) written;
  place = ap Some (sym is_fresh.place) ∙ ap (λ (b : BodyIn). Some (place_of b)) (sym same);
}

told_on : (s n : ClientStanding) (v : Visit) (head : Head) → IsToldOn v head s n → Moves s n [] (continue_for head) []
told_on s n v head is = writes_on s s n (continue_for head) refl refl refl is.written

-- A request that was answered whole, from its head to its answer.
record HasWhole (v : Visit) (number : ℕ) (s n : ClientStanding) (body : BodyIn) (head : Head) : Type 0 where
  pub front : List ℕ
  pub is_head : IsHeadOf front head
  pub gone : List ℕ
  pub written : List ℕ
  pub talks : List Talk
  pub answer : IsWholeAnswer v head (is_last number head) talks written
  pub moves : Moves s n (front ++ gone) written talks
  pub place : place_behind gone (start_of head.plan) ≡ Some (place_of body)

whole_request : (v : Visit) (number : ℕ) (s n : ClientStanding) (body : BodyIn) (rows : List Served) → (r : IsRequest v number s n body answered.Whole rows)
    → HasWhole v number s n body r.head
whole_request v number s n body rows r =
    elim r.answers [ inl early ↦ absurd early | inr (told, on, at) ↦ answered_by told on (whole_at v r.head (is_last number r.head) told n r.fresh body rows r.is_fresh at) ]
  where
    answered_by : (told : ClientStanding) → IsToldOn v r.head r.read told → HasAnswer v r.head (is_last number r.head) told n body
        → HasWhole v number s n body r.head
    answered_by told on has = record {
      front = r.reads.used.bytes;
      is_head = r.reads.used.is;
      gone = has.gone;
      written = continue_for r.head ++ has.answer;
      talks = has.talks;
      answer = (has.answer, refl, has.is);
      moves = moves_twice s r.read n r.reads.used.bytes [] has.gone (continue_for r.head ++ has.answer) [] has.talks
          (reads_on s r.read r.reads.used.bytes r.reads.used.used r.reads.on.sent r.reads.on.alone)
          (moves_twice r.read told n [] (continue_for r.head) has.gone has.answer [] has.talks (told_on r.read told v r.head on) has.moves);
      place = has.place;
    }

part_of : (v : Visit) (date : Option HttpDate) (number : ℕ) (s n : ClientStanding) (rows : List Served) → IsTold v date → IsServedWhole (visit_at v date) number s n rows
    → (part : SessionPart) × IsSessionPart v number part × Moves s n part.taken part.written part.talks
part_of v date number s n rows told served =
    let r = served.going_on.request in
    let on = served.skips.passes.on in
    let has = whole_request (visit_at v date) number s served.mid served.body rows r in
    let moves = moves_twice s served.mid n (has.front ++ has.gone) has.written on.uses.gone [] has.talks [] has.moves
    (reads_on served.mid n on.uses.gone on.uses.used on.sent served.skips.alone) in (
      record { taken = has.front ++ (has.gone ++ on.uses.gone); written = has.written; talks = has.talks },
      record {
        date = date;
        told = told;
        head = r.head;
        request = record {
          front = has.front;
          rest = has.gone ++ on.uses.gone;
          place = place_of served.skips.after;
          joined = refl;
          is_head = has.is_head;
          body = place_behind-append has.gone on.uses.gone (start_of r.head.plan) (place_of served.body) (place_of served.skips.after) has.place on.uses.own;
          whole = served.skips.passes.over;
        };
        more = served.going_on.more;
        answer = has.answer;
      },
      record {
        used = moves.used ∙ ap (λ (bytes : List ℕ). prepended bytes (unread_at n)) (append_assoc has.front has.gone on.uses.gone);
        put = moves.put ∙ ap (λ (bytes : List ℕ). appended s.client.sent bytes) (append-nil has.written);
        noted = moves.noted ∙ ap (λ (talks : List Talk). appended s.reach.talks talks) (append-nil has.talks);
      },
    )

-- all of them
pub parts_of : (v : Visit) (number : ℕ) (s n : ClientStanding) (rows : List Served) → HaveServed v number s n rows
    → (parts : List SessionPart) × AreParts v number parts × Moves s n (taken_in parts) (written_in parts) (talks_in parts)
parts_of v zero s n rows served = ([], refl, moves_none s n served.0)
parts_of v (suc number) s n rows (mid, before, last, date, timed, served, reads, one, added) =
    let all = parts_of v number s mid before served in
    let next = part_of v date number timed n last (told_moment v mid timed date reads) one in
    let moves = moves_twice s mid n _ _ _ _ _ _ all.2 (moves_from mid timed n _ _ _ (moment_stays v mid timed date reads) next.2) in (
      all.0 ++ next.0 ∷ [],
      (all.0, next.0, all.1, next.1, refl),
      record {
        used = moves.used ∙ ap (λ (bytes : List ℕ). prepended bytes (unread_at n)) (sym (taken_last all.0 next.0));
        put = moves.put ∙ ap (λ (bytes : List ℕ). appended s.client.sent bytes) (sym (written_last all.0 next.0));
        noted = moves.noted ∙ ap (λ (talks : List Talk). appended s.reach.talks talks) (sym (talks_last all.0 next.0));
      },
    )

-- ---- the request that ended the session

-- The bytes that were written to the client and noted, of which this is said.
pub record Ends (Said : List Talk → List ℕ → Type 0) (s n : ClientStanding) : Type 0 where
  pub bytes : List ℕ
  pub talks : List Talk
  pub is : Said talks bytes
  pub put : n.client.sent ≡ appended s.client.sent bytes
  pub noted : n.reach.talks ≡ appended s.reach.talks talks

abbrev Fronts : Visit → (number : ℕ) → (s n : ClientStanding) → Type 0
Fronts v number s n = Ends (IsFrontOfAnswer v number) s n

abbrev Lesses : Visit → (number : ℕ) → (s n : ClientStanding) → Type 0
Lesses v number s n = Ends (IsLessOfAnswer v number) s n

-- the same of something that is said of more
said_as : (A B : List Talk → List ℕ → Type 0) (s n : ClientStanding) → ((talks : List Talk) (bytes : List ℕ) → A talks bytes → B talks bytes) → Ends A s n → Ends B s n
said_as A B s n f ends = record { bytes = ends.bytes; talks = ends.talks; is = f ends.talks ends.bytes ends.is; put = ends.put; noted = ends.noted }

-- what may be due to a request, a front of which is written where the client fails
abbrev IsDueFor : Visit → (number : ℕ) → Head → List Talk → List ℕ → Type 0
IsDueFor v number head talks whole =
    (whole ≡ continue_for head) ⊎ (((status : ℕ) × IsOwnAnswer v head status whole)
    ⊎ (IsPageAnswer v head (is_last number head) talks whole ⊎ IsDueAnswer v head (is_last number head) talks whole))

nothing : (v : Visit) (number : ℕ) (s n : ClientStanding) → n.client.sent ≡ s.client.sent → n.reach ≡ s.reach → Fronts v number s n
nothing v number s n same reach = record { bytes = []; talks = []; is = inl refl; put = same ∙ sym (appended-nil s.client.sent); noted = unasked s n reach }

nothing_less : (v : Visit) (number : ℕ) (s n : ClientStanding) → n.client.sent ≡ s.client.sent → n.reach ≡ s.reach → Lesses v number s n
nothing_less v number s n same reach = record { bytes = []; talks = []; is = inl refl; put = same ∙ sym (appended-nil s.client.sent); noted = unasked s n reach }

a_front : (v : Visit) (number : ℕ) (s n : ClientStanding) (head : Head) (talks : List Talk) (whole : List ℕ) → PutsFront s.client.sent n.client.sent whole
    → IsDueFor v number head talks whole → n.reach.talks ≡ appended s.reach.talks talks → Fronts v number s n
a_front v number s n head talks whole puts due noted = record {
  bytes = puts.front;
  talks = talks;
  is = inr (inr (head, whole, record { rest = puts.rest; joined = puts.whole }, due));
  put = puts.put;
  noted = noted;
}

-- of what may be written whole before memory is wanted
a_less_front : (v : Visit) (number : ℕ) (s n : ClientStanding) (head : Head) (talks : List Talk) (whole : List ℕ) → PutsFront s.client.sent n.client.sent whole
    → (whole ≡ continue_for head) ⊎ IsDueAnswer v head (is_last number head) talks whole → n.reach.talks ≡ appended s.reach.talks talks → Lesses v number s n
a_less_front v number s n head talks whole puts due noted = record {
  bytes = puts.front;
  talks = talks;
  is = inr (inr (head, whole, inl (record { rest = puts.rest; joined = puts.whole }, due)));
  put = puts.put;
  noted = noted;
}

-- and of what isn't
a_short : (v : Visit) (number : ℕ) (s n : ClientStanding) (head : Head) (talks : List Talk) (whole : List ℕ) → PutsShort s.client.sent n.client.sent whole
    → ((status : ℕ) × IsOwnAnswer v head status whole) ⊎ IsPageAnswer v head (is_last number head) talks whole → n.reach.talks ≡ appended s.reach.talks talks
    → Lesses v number s n
a_short v number s n head talks whole puts due noted = record {
  bytes = puts.front.front;
  talks = talks;
  is = inr (inr (head, whole, inr (record { rest = puts.front.rest; joined = puts.front.whole; some = puts.some }, due)));
  put = puts.front.put;
  noted = noted;
}

-- all of it
put_all : (before now : Option (List ℕ)) (whole : List ℕ) → now ≡ appended before whole → PutsFront before now whole
put_all before now whole put = record { front = whole; rest = []; whole = sym (append-nil whole); put = put }

put_since : (first before now : Option (List ℕ)) (whole : List ℕ) → before ≡ first → PutsFront before now whole → PutsFront first now whole
put_since first before now whole same puts = subst (λ (o : Option (List ℕ)). PutsFront o now whole) same puts

short_since : (first before now : Option (List ℕ)) (whole : List ℕ) → before ≡ first → PutsShort before now whole → PutsShort first now whole
short_since first before now whole same puts = subst (λ (o : Option (List ℕ)). PutsShort o now whole) same puts

-- after what was written before
abbrev put_after : (first before now : Option (List ℕ)) (front whole : List ℕ) → before ≡ appended first front → PutsFront before now whole
    → PutsFront first now (front ++ whole)
put_after first before now front whole same puts = record {
  front = front ++ puts.front;
  rest = puts.rest;
  whole = ap (λ (bytes : List ℕ). front ++ bytes) puts.whole ∙ sym (append_assoc front puts.front puts.rest);
  put = puts.put ∙ ap (λ o. appended o puts.front) same ∙ appended-appended first front puts.front;
}

short_after : (first before now : Option (List ℕ)) (front whole : List ℕ) → before ≡ appended first front → PutsShort before now whole
    → PutsShort first now (front ++ whole)
short_after first before now front whole same puts = record { front = put_after first before now front whole same puts.front; some = puts.some }

-- Nothing was read of the head's request but the head, and this was written after it.
since_head : (Said : List Talk → List ℕ → Type 0) (s read n : ClientStanding) (head : Head) → ReadsHead s read head → Ends Said read n → Ends Said s n
since_head Said s read n head reads ends = record {
  bytes = ends.bytes;
  talks = ends.talks;
  is = ends.is;
  put = ends.put ∙ ap (λ o. appended o ends.bytes) reads.on.sent;
  noted = ends.noted ∙ ap (λ (r : ReachSide). appended r.talks ends.talks) (alone_reach s read reads.on.alone);
}

sent_told : (v : Visit) (head : Head) (s told : ClientStanding) → IsToldOn v head s told → told.client.sent ≡ appended s.client.sent (continue_for head)
sent_told v head s told on = on.written.puts.sent

-- the talks since the client was told to go on
noted_told : (v : Visit) (head : Head) (s told n : ClientStanding) (talks : List Talk) → IsToldOn v head s told → n.reach.talks ≡ appended told.reach.talks talks
    → n.reach.talks ≡ appended s.reach.talks talks
noted_told v head s told n talks on noted = noted ∙ ap (λ (x : ClientStanding). appended x.reach.talks talks) on.written.alone

-- what messages of the last talk make of a reply is due
due_reply : (v : Visit) (number : ℕ) (head : Head) (told n : ClientStanding) (fresh body : BodyIn) (end : ExchangeEnd)
    → (is : IsForwarded v head (is_last number head) told n fresh body end)
    → (reply : GetsReplyFront (errand_at v head (is_last number head) is.lb is.balancer) (with_body told fresh).around (with_body n body).around)
    → IsDueAnswer v head (is_last number head) (reply.noted.others ++ reply.noted.note ∷ []) (continue_for head ++ reply.whole)
due_reply v number head told n fresh body end is reply = (
  _,
  reply.past,
  reply.came,
  reply.rest,
  reply.whole,
  record {
    lb = is.lb;
    balancer = is.balancer;
    mounted = is.mounted;
    stands = is.stands;
    member = reply.member;
    config = reply.config;
    endpoint = reply.endpoint;
    configured = reply.configured;
    reached = reply.reached;
    first = reply.first;
    is = refl;
  },
  reply.spelled,
  reply.front,
  record { others = reply.noted.others; note = reply.noted.note; split = refl; with_member = reply.noted.with_member; received = reply.noted.received },
  reply.is_due,
  refl,
)

own_due : (v : Visit) (head : Head) (status : ℕ) (own : Own) → own_of status ≡ Some own → IsOwnAnswer v head status (continue_for head ++ own_bytes own (own_kind_at v head))
own_due v head status own is = inr (ap (λ (o : Option Own). continue_for head ++ own_bytes_of o (own_kind_at v head)) (sym is))

by_forward : (v : Visit) (number : ℕ) (head : Head) (s told n : ClientStanding) (fresh body : BodyIn) (end : ExchangeEnd) → IsToldOn v head s told
    → (is : IsForwarded v head (is_last number head) told n fresh body end)
    → GetsFront (errand_at v head (is_last number head) is.lb is.balancer) (with_body told fresh).around (with_body n body).around → Fronts v number s n
by_forward v number head s told n fresh body end on is (inl same) =
    a_front v number s n head is.forwarded.noted.0 (continue_for head)
    (put_all s.client.sent n.client.sent (continue_for head) (same ∙ sent_told v head s told on)) (inl refl)
    (noted_told v head s told n _ on is.forwarded.noted.1)
by_forward v number head s told n fresh body end on is (inr (inl own)) =
    a_front v number s n head is.forwarded.noted.0 (continue_for head ++ own_bytes own.own (own_kind_at v head))
    (put_after s.client.sent told.client.sent n.client.sent (continue_for head) _ (sent_told v head s told on) own.written)
    (inr (inl (own.status, own_due v head own.status own.own own.is_own))) (noted_told v head s told n _ on is.forwarded.noted.1)
by_forward v number head s told n fresh body end on is (inr (inr reply)) =
    a_front v number s n head (reply.noted.others ++ reply.noted.note ∷ []) (continue_for head ++ reply.whole)
    (put_after s.client.sent told.client.sent n.client.sent (continue_for head) reply.whole (sent_told v head s told on) reply.written)
    (inr (inr (inr (due_reply v number head told n fresh body end is reply)))) (noted_told v head s told n _ on reply.noted.talks)

-- the same, where memory was wanted
less_by_forward : (v : Visit) (number : ℕ) (head : Head) (s told n : ClientStanding) (fresh body : BodyIn) (end : ExchangeEnd) → IsToldOn v head s told
    → (is : IsForwarded v head (is_last number head) told n fresh body end)
    → GetsLess (errand_at v head (is_last number head) is.lb is.balancer) (with_body told fresh).around (with_body n body).around → Lesses v number s n
less_by_forward v number head s told n fresh body end on is (inl same) =
    a_less_front v number s n head is.forwarded.noted.0 (continue_for head)
    (put_all s.client.sent n.client.sent (continue_for head) (same ∙ sent_told v head s told on)) (inl refl)
    (noted_told v head s told n _ on is.forwarded.noted.1)
less_by_forward v number head s told n fresh body end on is (inr (inl own)) =
    a_short v number s n head is.forwarded.noted.0 (continue_for head ++ own_bytes own.own (own_kind_at v head))
    (short_after s.client.sent told.client.sent n.client.sent (continue_for head) _ (sent_told v head s told on) own.written)
    (inl (own.status, own_due v head own.status own.own own.is_own)) (noted_told v head s told n _ on is.forwarded.noted.1)
less_by_forward v number head s told n fresh body end on is (inr (inr reply)) =
    a_less_front v number s n head (reply.noted.others ++ reply.noted.note ∷ []) (continue_for head ++ reply.whole)
    (put_after s.client.sent told.client.sent n.client.sent (continue_for head) reply.whole (sent_told v head s told on) reply.written)
    (inr (due_reply v number head told n fresh body end is reply)) (noted_told v head s told n _ on reply.noted.talks)

begun_after : (v : Visit) (head : Head) (s told m n : ClientStanding) (whole : List ℕ) → IsToldOn v head s told → m.client ≡ told.client → IsBegun m n whole
    → PutsFront s.client.sent n.client.sent (continue_for head ++ whole)
begun_after v head s told m n whole on same begun =
    put_after s.client.sent told.client.sent n.client.sent (continue_for head) whole (sent_told v head s told on)
    (put_since told.client.sent m.client.sent n.client.sent whole (ap (λ c. c.sent) same) begun.puts.sent)

less_after : (v : Visit) (head : Head) (s told m n : ClientStanding) (whole : List ℕ) → IsToldOn v head s told → m.client ≡ told.client → IsLess m n whole
    → PutsShort s.client.sent n.client.sent (continue_for head ++ whole)
less_after v head s told m n whole on same less =
    short_after s.client.sent told.client.sent n.client.sent (continue_for head) whole (sent_told v head s told on)
    (short_since told.client.sent m.client.sent n.client.sent whole (ap (λ c. c.sent) same) less.puts.sent)

-- a status worker's desk alone was asked
status_reach : (v : Visit) (head : Head) (s told m n : ClientStanding) → IsToldOn v head s told → m ≡ record told { desk = m.desk } → n ≡ record m { client = n.client }
    → n.reach ≡ s.reach
status_reach v head s told m n on asked alone =
    ap (λ (x : ClientStanding). x.reach) alone ∙ ap (λ (x : ClientStanding). x.reach) asked ∙ ap (λ (x : ClientStanding). x.reach) on.written.alone

page_due : (v : Visit) (head : Head) (last : Bool) (status : Status) (parts : List PagePart) (page : List ℕ) → IsAtStatus v head status → page ≡ shown_for status head.query parts
    → IsPageAnswer v head last [] (continue_for head ++ page_reply (mime_of head.query) (kind_at v head last) page)
page_due v head last status parts page at is = (page_reply (mime_of head.query) (kind_at v head last) page, refl, inl (status, parts, at, refl, ap (page_reply (mime_of head.query) (kind_at v head last)) is))

refusal_due : (v : Visit) (head : Head) (last : Bool) (status : Status) (refusal : PageRefusal) → IsAtStatus v head status
    → IsPageAnswer v head last [] (continue_for head ++ refusal_bytes refusal (own_kind_at v head))
refusal_due v head last status refusal at = (refusal_bytes refusal (own_kind_at v head), refl, inr (refusal, (status, at, refl, refl)))

by_status : (v : Visit) (number : ℕ) (head : Head) (s told n : ClientStanding) (status : Status) → IsToldOn v head s told → IsAtStatus v head status
    → IsStatusBegun v status head (is_last number head) told n → Fronts v number s n
by_status v number head s told n status on at (inl (m, page, has, begun)) =
    a_front v number s n head [] (continue_for head ++ page_reply (mime_of head.query) (kind_at v head (is_last number head)) page)
    (begun_after v head s told m n _ on (ap (λ (x : ClientStanding). x.client) has.alone) begun)
    (inr (inr (inl (page_due v head (is_last number head) status has.parts page at has.is))))
    (unasked s n (status_reach v head s told m n on has.alone begun.alone))
by_status v number head s told n status on at (inr (m, refusal, turned, begun)) =
    a_front v number s n head [] (continue_for head ++ refusal_bytes refusal (own_kind_at v head))
    (begun_after v head s told m n _ on (ap (λ (x : ClientStanding). x.client) turned.alone) begun)
    (inr (inr (inl (refusal_due v head (is_last number head) status refusal at))))
    (unasked s n (status_reach v head s told m n on turned.alone begun.alone))

less_by_status : (v : Visit) (number : ℕ) (head : Head) (s told n : ClientStanding) (status : Status) → IsToldOn v head s told → IsAtStatus v head status
    → IsStatusLess v status head (is_last number head) told n → Lesses v number s n
less_by_status v number head s told n status on at (inl (m, page, has, less)) =
    a_short v number s n head [] (continue_for head ++ page_reply (mime_of head.query) (kind_at v head (is_last number head)) page)
    (less_after v head s told m n _ on (ap (λ (x : ClientStanding). x.client) has.alone) less)
    (inr (page_due v head (is_last number head) status has.parts page at has.is))
    (unasked s n (status_reach v head s told m n on has.alone less.alone))
less_by_status v number head s told n status on at (inr (m, refusal, turned, less)) =
    a_short v number s n head [] (continue_for head ++ refusal_bytes refusal (own_kind_at v head))
    (less_after v head s told m n _ on (ap (λ (x : ClientStanding). x.client) turned.alone) less)
    (inr (refusal_due v head (is_last number head) status refusal at))
    (unasked s n (status_reach v head s told m n on turned.alone less.alone))

unwritten : (v : Visit) (number : ℕ) (head : Head) (s told n : ClientStanding) → IsToldOn v head s told → n ≡ record told { desk = n.desk } → Lesses v number s n
unwritten v number head s told n on alone =
    a_less_front v number s n head [] (continue_for head)
    (put_all s.client.sent n.client.sent (continue_for head) (ap (λ (x : ClientStanding). x.client.sent) alone ∙ sent_told v head s told on)) (inl refl)
    (unasked s n (ap (λ (x : ClientStanding). x.reach) alone ∙ ap (λ (x : ClientStanding). x.reach) on.written.alone))

early_begun : (v : Visit) (number : ℕ) (head : Head) (s n : ClientStanding) → IsEarlyBegun v head s n → Fronts v number s n
early_begun v number head s n (inl (nowhere, begun)) =
    a_front v number s n head [] _ begun.puts.sent (inr (inl (404, inl refl))) (unasked s n (ap (λ (x : ClientStanding). x.reach) begun.alone))
early_begun v number head s n (inr (mounted, begun)) =
    a_front v number s n head [] _ begun.puts.sent (inl refl) (unasked s n (ap (λ (x : ClientStanding). x.reach) begun.alone))

early_less : (v : Visit) (number : ℕ) (head : Head) (s n : ClientStanding) → IsEarlyLess v head s n → Lesses v number s n
early_less v number head s n (inl (nowhere, less)) =
    a_short v number s n head [] _ less.puts.sent (inl (404, inl refl)) (unasked s n (ap (λ (x : ClientStanding). x.reach) less.alone))
early_less v number head s n (inr (mounted, less)) =
    a_less_front v number s n head [] _ less.puts.sent.front (inl refl) (unasked s n (ap (λ (x : ClientStanding). x.reach) less.alone))

-- the request that was under way when the client failed
faulted : (v : Visit) (number : ℕ) (s n : ClientStanding) (body : BodyIn) (rows : List Served) → IsRequest v number s n body (answered.Not stop.ClientFault) rows
    → Fronts v number s n
faulted v number s n body rows r = since_head (IsFrontOfAnswer v number) s r.read n r.head r.reads (by_answer r.answers)
  where
    by_answer : IsAnswer v r.head (is_last number r.head) r.read n r.fresh body (answered.Not stop.ClientFault) rows → Fronts v number r.read n
    by_answer (inl early) = early_begun v number r.head r.read n early.2
    by_answer (inr (told, on, (none, inl is))) = by_forward v number r.head r.read told n r.fresh body _ on is is.forwarded.gives.1
    by_answer (inr (told, on, (none, inr (status, at, (rose, begun))))) = by_status v number r.head r.read told n status on at begun

truncated : (v : Visit) (number : ℕ) (s n : ClientStanding) (body : BodyIn) (rows : List Served) → IsRequest v number s n body (answered.Not stop.Truncated) rows
    → Fronts v number s n
truncated v number s n body rows r = since_head (IsFrontOfAnswer v number) s r.read n r.head r.reads (by_answer r.answers)
  where
    by_answer : IsAnswer v r.head (is_last number r.head) r.read n r.fresh body (answered.Not stop.Truncated) rows → Fronts v number r.read n
    by_answer (inl early) = absurd early
    by_answer (inr (told, on, (none, is))) = by_forward v number r.head r.read told n r.fresh body _ on is is.forwarded.gives.1

strayed : (v : Visit) (number : ℕ) (s n : ClientStanding) (body : BodyIn) (rows : List Served) (ticket : ℕ) (returned_at : Option ℕ)
    → IsRequest v number s n body (answered.Not (stop.Stray ticket returned_at)) rows → Fronts v number s n
strayed v number s n body rows ticket returned_at r = since_head (IsFrontOfAnswer v number) s r.read n r.head r.reads (by_answer r.answers)
  where
    by_answer : IsAnswer v r.head (is_last number r.head) r.read n r.fresh body (answered.Not (stop.Stray ticket returned_at)) rows
        → Fronts v number r.read n
    by_answer (inl early) = absurd early
    by_answer (inr (told, on, (none, is))) = by_forward v number r.head r.read told n r.fresh body _ on is is.forwarded.gives.1

wanted : (v : Visit) (number : ℕ) (s n : ClientStanding) (body : BodyIn) (rows : List Served) → IsRequest v number s n body (answered.Not stop.NoMemory) rows
    → Lesses v number s n
wanted v number s n body rows r = since_head (IsLessOfAnswer v number) s r.read n r.head r.reads (by_answer r.answers)
  where
    by_answer : IsAnswer v r.head (is_last number r.head) r.read n r.fresh body (answered.Not stop.NoMemory) rows → Lesses v number r.read n
    by_answer (inl (none, inl same)) =
        nothing_less v number r.read n (ap (λ (x : ClientStanding). x.client.sent) same) (ap (λ (x : ClientStanding). x.reach) same)
    by_answer (inl (none, inr less)) = early_less v number r.head r.read n less
    by_answer (inr (told, on, (none, inl is))) = less_by_forward v number r.head r.read told n r.fresh body _ on is is.forwarded.gives
    by_answer (inr (told, on, (none, inr (status, at, inl less)))) = less_by_status v number r.head r.read told n status on at less
    by_answer (inr (told, on, (none, inr (status, at, inr nothing_written)))) = unwritten v number r.head r.read told n on nothing_written.alone

-- the answer was whole, and the rest of the body wasn't read
unread_whole : (v : Visit) (number requests : ℕ) (s n : ClientStanding) (rows : List Served) (why' : BodyFault) → requests ≡ number + 1 → LeavesBodyUnread v number s n rows why'
    → Ends (IsUnreadAnswer v number requests) s n
unread_whole v number requests s n rows why' count (body, mid, going_on, breaks) =
    let has = whole_request v number s mid body rows going_on.request in
    record {
      bytes = has.written;
      talks = has.talks;
      is = (count, (going_on.request.head, going_on.more, has.answer));
      put = breaks.meets.sent ∙ has.moves.put;
      noted = ap (λ (r : ReachSide). r.talks) (alone_reach mid n breaks.alone) ∙ has.moves.noted;
    }

own_is : (code : ℕ) (kind : OwnKind) (own : Own) → own_of code ≡ Some own → own_for code kind ≡ own_bytes own kind
own_is code kind own is = ap (λ (o : Option Own). own_bytes_of o kind) is

-- by an own answer
abbrev Owns : Visit → (code : ℕ) → List Talk → List ℕ → Type 0
Owns v code talks bytes = (head : Head) × IsOwnAnswer v head code bytes

own_written : (v : Visit) (number : ℕ) (s n : ClientStanding) (body : BodyIn) (rows : List Served) (code : ℕ)
    → IsRequest v number s n body (answered.Not (stop.Closed (why.Own code))) rows → Ends (Owns v code) s n
own_written v number s n body rows code r = since_head (Owns v code) s r.read n r.head r.reads (by_answer r.answers)
  where
    by_answer : IsAnswer v r.head (is_last number r.head) r.read n r.fresh body (answered.Not (stop.Closed (why.Own code))) rows → Ends (Owns v code) r.read n
    by_answer (inl (is, nowhere, written, added)) = record {
      bytes = own_for code (own_kind_at v r.head);
      talks = [];
      is = (r.head, inl refl);
      put = written.puts.sent;
      noted = unasked r.read n (ap (λ (x : ClientStanding). x.reach) written.alone);
    }
    by_answer (inr (told, on, (added, is))) =
        let gets = is.forwarded.gives in
        record {
          bytes = continue_for r.head ++ own_for code (own_kind_at v r.head);
          talks = is.forwarded.noted.0;
          is = (r.head, inr refl);
          put = gets.written ∙ ap (λ (b : List ℕ). appended told.client.sent b) (sym (own_is code (own_kind_at v r.head) gets.own gets.is_own))
              ∙ ap (λ o. appended o (own_for code (own_kind_at v r.head))) (sent_told v r.head r.read told on)
              ∙ appended-appended r.read.client.sent (continue_for r.head) (own_for code (own_kind_at v r.head));
          noted = noted_told v r.head r.read told n _ on is.forwarded.noted.1;
        }

-- by a refusal
abbrev Refusals : Visit → PageRefusal → List Talk → List ℕ → Type 0
Refusals v refusal talks bytes = (head : Head) × IsRefusalAnswer v head refusal talks bytes

refusal_written : (v : Visit) (number : ℕ) (s n : ClientStanding) (body : BodyIn) (rows : List Served) (refusal : PageRefusal)
    → IsRequest v number s n body (answered.Not (stop.Closed (why.Refused refusal))) rows → Ends (Refusals v refusal) s n
refusal_written v number s n body rows refusal r = since_head (Refusals v refusal) s r.read n r.head r.reads (by_answer r.answers)
  where
    by_answer : IsAnswer v r.head (is_last number r.head) r.read n r.fresh body (answered.Not (stop.Closed (why.Refused refusal))) rows → Ends (Refusals v refusal) r.read n
    by_answer (inl early) = absurd early
    by_answer (inr (told, on, (added, (status, at, (m, turned, written))))) = record {
      bytes = continue_for r.head ++ refusal_bytes refusal (own_kind_at v r.head);
      talks = [];
      is = (r.head, (refusal_bytes refusal (own_kind_at v r.head), refl, (status, at, refl, refl)));
      put = written.puts.sent ∙ ap (λ (x : ClientStanding). appended x.client.sent (refusal_bytes refusal (own_kind_at v r.head))) turned.alone
          ∙ ap (λ o. appended o (refusal_bytes refusal (own_kind_at v r.head))) (sent_told v r.head r.read told on)
          ∙ appended-appended r.read.client.sent (continue_for r.head) (refusal_bytes refusal (own_kind_at v r.head));
      noted = unasked r.read n (status_reach v r.head r.read told m n on turned.alone written.alone);
    }

abbrev Cuts : Visit → (number : ℕ) → List Talk → List ℕ → Type 0
Cuts v number talks bytes = (head : Head) × (reply : List ℕ) × IsCutFor v head (is_last number head) talks reply × (bytes ≡ continue_for head ++ reply)

cut_written : (v : Visit) (number : ℕ) (s n : ClientStanding) (body : BodyIn) (rows : List Served) → IsRequest v number s n body (answered.Not (stop.Closed why.Cut)) rows
    → Ends (Cuts v number) s n
cut_written v number s n body rows r = since_head (Cuts v number) s r.read n r.head r.reads (by_answer r.answers)
  where
    by_answer : IsAnswer v r.head (is_last number r.head) r.read n r.fresh body (answered.Not (stop.Closed why.Cut)) rows → Ends (Cuts v number) r.read n
    by_answer (inl early) = absurd early
    by_answer (inr (told, on, (member, said, row, is, named, added))) =
        let gets = is.forwarded.gives in
        let plan = plan_in (errand_at v r.head (is_last number r.head) is.lb is.balancer) member (with_body told r.fresh).around (with_body n body).around gets.end gets.last in
        record {
          bytes = continue_for r.head ++ so_far_of_talk plan gets.past;
          talks = gets.noted.others ++ gets.noted.note ∷ [];
          is = (
            r.head,
            so_far_of_talk plan gets.past,
            (
              plan,
              gets.past,
              gets.came,
              gets.rest,
              record {
                lb = is.lb;
                balancer = is.balancer;
                mounted = is.mounted;
                stands = is.stands;
                member = member;
                config = gets.last.config;
                endpoint = gets.last.endpoint;
                configured = gets.last.configured;
                reached = gets.last.reached;
                first = gets.last.first;
                is = refl;
              },
              gets.accepts,
              record { others = gets.noted.others; note = gets.noted.note; split = refl; with_member = gets.noted.with_member; received = gets.noted.received },
              gets.passed,
              refl,
            ),
            refl,
          );
          put = gets.written ∙ ap (λ o. appended o (so_far_of_talk plan gets.past)) (sent_told v r.head r.read told on)
              ∙ appended-appended r.read.client.sent (continue_for r.head) (so_far_of_talk plan gets.past);
          noted = noted_told v r.head r.read told n _ on gets.noted.talks;
        }

-- a refused head
refusal_begun : (v : Visit) (number : ℕ) (s n : ClientStanding) → IsRefusalBegun v s n → Fronts v number s n
refusal_begun v number s n refusal =
    let puts = put_since s.client.sent refusal.read.client.sent n.client.sent _ refusal.reads.on.sent refusal.begun.puts.sent in
    record {
      bytes = puts.front;
      talks = [];
      is = inr (inl (status_of refusal.form, record { rest = puts.rest; joined = puts.whole }));
      put = puts.put;
      noted = unasked s n (ap (λ (x : ClientStanding). x.reach) refusal.begun.alone ∙ alone_reach s refusal.read refusal.reads.on.alone);
    }

refusal_wanted : (v : Visit) (number : ℕ) (s n : ClientStanding) → IsRefusalWanted v s n → Lesses v number s n
refusal_wanted v number s n refusal =
    let puts = short_since s.client.sent refusal.read.client.sent n.client.sent _ refusal.reads.on.sent refusal.wanted.puts.sent in
    record {
      bytes = puts.front.front;
      talks = [];
      is = inr (inl (status_of refusal.form, record { rest = puts.front.rest; joined = puts.front.whole; some = puts.some }));
      put = puts.front.put;
      noted = unasked s n (ap (λ (x : ClientStanding). x.reach) refusal.wanted.alone ∙ alone_reach s refusal.read refusal.reads.on.alone);
    }

abbrev Lasts : Visit → (number requests : ℕ) → SessionStop → (s n : ClientStanding) → Type 0
Lasts v number requests stop' s n = Ends (IsLastWritten v number requests stop') s n

-- nothing was written and no talk was held
ends_bare : (v : Visit) (number requests : ℕ) (stop' : SessionStop) (s n : ClientStanding) → IsLastWritten v number requests stop' [] [] → n.client.sent ≡ s.client.sent
    → n.reach ≡ s.reach → Lasts v number requests stop' s n
ends_bare v number requests stop' s n is same reach =
    record { bytes = []; talks = []; is = is; put = same ∙ sym (appended-nil s.client.sent); noted = unasked s n reach }

last_of : (v : Visit) (number requests : ℕ) (s n : ClientStanding) (rows : List Served) (stop' : SessionStop) → EndsIn v number s n rows requests stop'
    → Lasts v number requests stop' s n
last_of v number requests s n rows (stop.Closed why.ByClient) (count, reads, none) =
    ends_bare v number requests (stop.Closed why.ByClient) s n (count, refl, refl) reads.on.sent (alone_reach s n reads.on.alone)
last_of v number requests s n rows (stop.Closed why.Idle) (count, some, empty, same, none) =
    ends_bare v number requests (stop.Closed why.Idle) s n (count, refl, refl) (ap (λ (x : ClientStanding). x.client.sent) same) (ap (λ (x : ClientStanding). x.reach) same)
last_of v number requests s n rows (stop.Closed why.Last) (count, (body, r, is)) =
    let has = whole_request v number s n body rows r in
    record { bytes = has.written; talks = has.talks; is = (count, (r.head, is, has.answer)); put = has.moves.put; noted = has.moves.noted }
last_of v number requests s n rows (stop.Closed (why.Own code)) (count, inl (refused, added)) = record {
  bytes = own_for code (refused_kind v.date);
  talks = [];
  is = (count, inl refl);
  put = refused.written.puts.sent ∙ ap (λ o. appended o (own_for code (refused_kind v.date))) refused.reads.on.sent;
  noted = unasked s n (ap (λ (x : ClientStanding). x.reach) refused.written.alone ∙ alone_reach s refused.read refused.reads.on.alone);
}
last_of v number requests s n rows (stop.Closed (why.Own code)) (count, inr (body, r)) =
    said_as _ _ s n (λ talks bytes own. (count, inr own)) (own_written v number s n body rows code r)
last_of v number requests s n rows (stop.Closed (why.Refused refusal)) (count, (body, r)) =
    said_as _ _ s n (λ talks bytes refused. (count, refused)) (refusal_written v number s n body rows refusal r)
last_of v number requests s n rows (stop.Closed why.Cut) (count, (body, r)) =
    said_as _ _ s n (λ talks bytes cut. (count, cut)) (cut_written v number s n body rows r)
last_of v number requests s n rows (stop.Closed why.Unread) (count, inl unread') = unread_whole v number requests s n rows _ count unread'
last_of v number requests s n rows (stop.Closed why.Unread) (count, inr unread') = unread_whole v number requests s n rows _ count unread'
last_of v number requests s n rows stop.ClientFault (inl (count, none, rose, inl fails)) =
    said_as _ _ s n (λ talks bytes front. inl (count, front)) (nothing v number s n fails.stops.sent (alone_reach s n fails.stops.alone))
last_of v number requests s n rows stop.ClientFault (inl (count, none, rose, inr (inl refusal))) =
    said_as _ _ s n (λ talks bytes front. inl (count, front)) (refusal_begun v number s n refusal)
last_of v number requests s n rows stop.ClientFault (inl (count, none, rose, inr (inr (body, r)))) =
    said_as _ _ s n (λ talks bytes front. inl (count, front)) (faulted v number s n body rows r)
last_of v number requests s n rows stop.ClientFault (inr (count, unread')) =
    said_as _ _ s n (λ talks bytes whole. inr whole) (unread_whole v number requests s n rows _ count unread')
last_of v number requests s n rows stop.Truncated (inl (count, none, inl reads)) =
    said_as _ _ s n (λ talks bytes front. inl (count, front)) (nothing v number s n reads.on.sent (alone_reach s n reads.on.alone))
last_of v number requests s n rows stop.Truncated (inl (count, none, inr (body, r))) =
    said_as _ _ s n (λ talks bytes front. inl (count, front)) (truncated v number s n body rows r)
last_of v number requests s n rows stop.Truncated (inr (count, unread')) =
    said_as _ _ s n (λ talks bytes whole. inr whole) (unread_whole v number requests s n rows _ count unread')
last_of v number requests s n rows (stop.Stray ticket returned_at) (count, none, (body, r)) =
    said_as _ _ s n (λ talks bytes front. (count, front)) (strayed v number s n body rows ticket returned_at r)
last_of v number requests s n rows stop.NoMemory (inl (count, none, inl wants)) =
    said_as _ _ s n (λ talks bytes less. inl (count, less)) (nothing_less v number s n wants.stops.sent (alone_reach s n wants.stops.alone))
last_of v number requests s n rows stop.NoMemory (inl (count, none, inr (inl refusal))) =
    said_as _ _ s n (λ talks bytes less. inl (count, less)) (refusal_wanted v number s n refusal)
last_of v number requests s n rows stop.NoMemory (inl (count, none, inr (inr (inl (read, form, reads, same))))) =
    said_as _ _ s n (λ talks bytes less. inl (count, less))
    (nothing_less v number s n (ap (λ (x : ClientStanding). x.client.sent) same ∙ reads.on.sent)
    (ap (λ (x : ClientStanding). x.reach) same ∙ alone_reach s read reads.on.alone))
last_of v number requests s n rows stop.NoMemory (inl (count, none, inr (inr (inr (body, r))))) =
    said_as _ _ s n (λ talks bytes less. inl (count, less)) (wanted v number s n body rows r)
last_of v number requests s n rows stop.NoMemory (inr (count, unread')) =
    said_as _ _ s n (λ talks bytes whole. inr whole) (unread_whole v number requests s n rows _ count unread')

-- ---- the session

pub has_parts : (v : Visit) (s n : ClientStanding) (rows : List Served) (end : SessionEnd) → s.inbox ≡ [] → IsSession v s n rows end
    → HasParts v s n end
has_parts v s n rows end fresh is =
    let all = parts_of v is.number s is.mid is.before is.served in
    let stays = last_stays end.stop v is.mid is.timed is.date is.reads in
    let last = last_of (visit_at v is.date) is.number end.requests is.timed n is.last end.stop is.ends in
    record {
      number = is.number;
      parts = all.0;
      are = all.1;
      last = last.bytes;
      last_talks = last.talks;
      date = is.date;
      told = told_last end.stop v is.mid is.timed is.date is.reads;
      is_last = last.is;
      left = unread_at is.mid;
      used = sym (ap (λ (i : List ℕ). unread i s.client.incoming) fresh ∙ prepended-nil s.client.incoming) ∙ all.2.used;
      written = last.put ∙ ap (λ (c : Moment). appended c.sent last.bytes) stays.client ∙ ap (λ o. appended o last.bytes) all.2.put ∙ appended-appended s.client.sent (written_in all.0) last.bytes;
      talks = last.noted ∙ ap (λ (r : ReachSide). appended r.talks last.talks) stays.reach ∙ ap (λ o. appended o last.talks) all.2.noted ∙ appended-appended s.reach.talks (talks_in all.0) last.talks;
    }
