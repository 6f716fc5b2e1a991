-- Why an own answer was given, by its status, or a refusal.
use Rattle.std.proofs.Common.{◌≡◌, ◌≢◌, ℕ, ◌⊎◌, Bool, true, false, List, [], ◌∷◌, Option, Some, None, Ok, Err, refl, sym, subst, inl, inr, ap, ◌∙◌, arith, if◌then◌else◌}
use Rattle.jk_io.specs.Told.{Rose}
use Rattle.lb_model.specs.declared.change.Command.{Command}
use Rattle.lb_model.specs.declared.journal.Answer.TheVariants as answer
use Rattle.lb_model.specs.declared.member.MemberConfig.{MemberConfig}
use Rattle.lb_model.specs.declared.refusal.AdminError.TheVariants as admin
use Rattle.lb_model.specs.declared.refusal.AdminError.{AdminError}
use Rattle.lb_model.specs.declared.refusal.FullMark.{FullMark}
use Rattle.lb_model.specs.declared.served.Served.{Served}
use Rattle.http_front.specs.Refusal.{status_of}
use Rattle.http_front.specs.declared.answers.Form.TheVariants as form_is
use Rattle.http_front.specs.declared.answers.Form.{Form}
use Rattle.http_front.specs.declared.head.Head.{Head}
use Rattle.ajp_talk.specs.declared.ending.Cause.TheVariants as cause_is
use Rattle.ajp_talk.specs.declared.ending.TalkEnd.TheVariants as ends
use Rattle.ajp_talk.specs.declared.ending.Told.{Told}
use Rattle.ajp_talk.specs.declared.plan.TalkPlan.{TalkPlan}
use Rattle.site_config.specs.declared.config.Config.{Config}
use Rattle.site_config.specs.declared.config.Status.{Status}
use Rattle.site_config.specs.declared.endpoint.Endpoint.{Endpoint}
use Rattle.lb_book.specs.Desks.{IsCounted, RisesByOne}
use Rattle.exchange.specs.Clients.{EndsWith}
use Rattle.exchange.specs.Ends.{is_status}
use Rattle.exchange.specs.Exchanges.{IsExchange, IsOwnAfter, IsOwnCause}
use Rattle.exchange.specs.OneTalk.{Around, IsOneTalk}
use Rattle.exchange.specs.Requests.{Errand}
use Rattle.exchange.specs.Rounds.{Round, Scene}
use Rattle.exchange.specs.Talks.{HasRun, HaveTalked}
use Rattle.exchange.specs.declared.ending.ExchangeEnd.TheVariants as exchange_end
use Rattle.exchange.specs.declared.ending.Ran.{Ran}
use Rattle.exchange.specs.declared.ending.Ran.TheVariants as ran_is
use Rattle.status_worker.specs.Commands.{DoesAll, IsRefusedQuery, StopsAtRefused, refusal_by}
use Rattle.status_worker.specs.Desks.{DeskSide}
use Rattle.status_worker.specs.declared.asking.Work.{Work}
use Rattle.status_worker.specs.declared.refusal.PageRefusal.{PageRefusal}
use Rattle.client_session.specs.Answers.{IsToldOn}
use Rattle.client_session.specs.Causes.{GaveUp, HasBadLine, HasNoPage, HasNoReply, HasOwnCause, HasRefusalCause, IfOwn, IsTooMuch, IsUnmounted, RefusesAs}
use Rattle.client_session.specs.Requests.{Visit}
use Rattle.client_session.specs.Sessions.{EndsIn, IsHeadRefused, ReadsHead}
use Rattle.client_session.specs.Standings.{ClientStanding}
use Rattle.client_session.specs.declared.ending.SessionStop.{SessionStop}
use Rattle.client_session.specs.declared.ending.SessionStop.TheVariants as stop
use Rattle.client_session.specs.declared.ending.Why.TheVariants as why

-- ---- which statuses each origin has

abbrev IsHeadCode : ℕ → Type 0
IsHeadCode code = (code ≡ 400) ⊎ ((code ≡ 413) ⊎ ((code ≡ 431) ⊎ (code ≡ 501)))

form_code : (form : Form) → IsHeadCode (status_of form)
form_code form_is.BadHead = inl refl
form_code form_is.TooBig = inr (inr (inl refl))
form_code form_is.BadHost = inl refl
form_code form_is.TwoFramings = inl refl
form_code form_is.BadLength = inl refl
form_code form_is.OldChunked = inl refl
form_code form_is.BadCoding = inr (inr (inr refl))
form_code form_is.Connect = inr (inr (inr refl))
form_code form_is.TooLong = inr (inl refl)
form_code form_is.BadPath = inl refl

head_code : (v : Visit) (s n : ClientStanding) (code : ℕ) → IsHeadRefused v s n code → IsHeadCode code
head_code v s n code r = subst IsHeadCode (sym r.status) (form_code r.form)

abbrev IsReplyCode : ℕ → Type 0
IsReplyCode code = (code ≡ 400) ⊎ ((code ≡ 413) ⊎ ((code ≡ 500) ⊎ ((code ≡ 502) ⊎ (code ≡ 503))))

talk_bad : (lb member : ℕ) (endpoint : Endpoint) (plan : TalkPlan) (fresh : Bool) (s n : Around) (status : ℕ) (told : Option Told) (passed : Bool) (moved : ℕ)
    → IsOneTalk lb member endpoint plan fresh s n (Ok (ends.BadBody status told passed moved)) → (status ≡ 400) ⊎ (status ≡ 413)
talk_bad lb member endpoint plan fresh s n status told passed moved (inl held) =
    elim held.talk.why [ inl line ↦ inl line.0 | inr limit ↦ inr limit.0 ]
talk_bad lb member endpoint plan fresh s n status told passed moved (inr (inl linkless)) =
    absurd (let is : Ok (ends.BadBody status told passed moved) ≡ Ok (ends.Failed (record { got = false; headers = false; passed = false; beyond = false }) cause_is.NoLink None 0) = linkless.0 in cc)
talk_bad lb member endpoint plan fresh s n status told passed moved (inr (inr wanted)) =
    absurd (let is : Ok (ends.BadBody status told passed moved) ≡ Err wanted.0 = wanted.1 in cc)

run_bad : (q : Errand) (first : List ℕ) (member : ℕ) (config : MemberConfig) (endpoint : Endpoint) (fresh : Bool) (s n : Around) (ran : Ran) (status : ℕ) (told : Option Told) (passed : Bool) (moved bytes : ℕ)
    → HasRun q first member config endpoint fresh s n ran → ran ≡ ran_is.Ended (ends.BadBody status told passed moved) bytes → (status ≡ 400) ⊎ (status ≡ 413)
run_bad q first member config endpoint fresh s n ran status told passed moved bytes (inl (fits, talked)) is =
    let run = subst (HaveTalked q.lb member endpoint q.head _ fresh s n) is talked in
    talk_bad _ _ _ _ _ _ _ status told passed moved run.1.final
run_bad q first member config endpoint fresh s n ran status told passed moved bytes (inr (inl (large, unfit, same))) is = absurd cc
run_bad q first member config endpoint fresh s n ran status told passed moved bytes (inr (inr (wanted, same))) is = absurd cc

failed_code : (b : Bool) (status : ℕ) → status ≡ (if b then 503 else 502) → IsReplyCode status
failed_code true status is = inr (inr (inr (inr is)))
failed_code false status is = inr (inr (inr (inl is)))

after_code : (q : Errand) (first : List ℕ) (fresh : Bool) (s n : Around) (r : Round) (status : ℕ) → HasRun q first r.member r.config r.endpoint fresh s n r.ran
    → IsOwnAfter q r status → IsReplyCode status
after_code q first fresh s n r status run (inl large) = inr (inl large.1)
after_code q first fresh s n r status run (inr (inl (cause, given, is))) = failed_code (is_status cause) status is
after_code q first fresh s n r status run (inr (inr bad)) =
    elim (run_bad q first r.member r.config r.endpoint fresh s n r.ran status None bad.passed bad.moved bad.ended.0 run bad.ended.1) [
      | inl line ↦ inl line
      | inr limit ↦ inr (inl limit)
    ]

own_code : (q : Errand) (first : List ℕ) (past : List Round) (s n : Scene) (status : ℕ) → IsOwnCause q first past s n status → IsReplyCode status
own_code q first past s n status (inl none) = inr (inr (inr (inr none.0)))
own_code q first past s n status (inr (inl forced)) = inr (inr (inl forced.0))
own_code q first past s n status (inr (inr (inl full))) = inr (inr (inl full.0))
own_code q first past s n status (inr (inr (inr (r, round, after)))) = after_code q first _ _ _ r status round.talked after

exchange_code : (q : Errand) (s n : Scene) (status : ℕ) → IsExchange q s n (exchange_end.Own status) → IsReplyCode status
exchange_code q s n status (inl none) = absurd none.why
exchange_code q s n status (inr rounds) = own_code q _ _ _ _ status rounds.through.ends_in.0

reply_code : (v : Visit) (number : ℕ) (s n : ClientStanding) (code : ℕ) → HasNoReply v number s n code → IsReplyCode code
reply_code v number s n code r = exchange_code _ _ _ code r.forwarded.forwarded.exchange

-- ---- where the own answer comes from

abbrev Origin : Visit → (number : ℕ) → (s n : ClientStanding) → (code : ℕ) → Type 0
Origin v number s n code =
    IsHeadRefused v s n code ⊎ (((code ≡ 404) × IsUnmounted v s) ⊎ HasNoReply v number s n code)

origin : (v : Visit) (number requests : ℕ) (s n : ClientStanding) (rows : List Served) (code : ℕ) → EndsIn v number s n rows requests (stop.Closed (why.Own code))
    → Origin v number s n code
origin v number requests s n rows code (counted, inl (refused, added)) = inl refused
origin v number requests s n rows code (counted, inr (body, request)) =
    elim request.answers [
      | inl early ↦ inr (inl (early.0, (request.read, request.head, request.reads, early.1)))
      | inr (begun, told_on, (added, forwarded)) ↦
          inr (inr (record {
            head = request.head;
            read = request.read;
            reads = request.reads;
            begun = begun;
            told_on = told_on;
            body = request.fresh;
            body' = body;
            forwarded = forwarded;
          }))
    ]

-- where a refusal comes from
no_page : (v : Visit) (number requests : ℕ) (s n : ClientStanding) (rows : List Served) (refusal : PageRefusal)
    → EndsIn v number s n rows requests (stop.Closed (why.Refused refusal)) → HasNoPage v s n refusal
no_page v number requests s n rows refusal (counted, (body, request)) =
    elim request.answers [
      | inl early ↦ absurd early
      | inr (begun, told_on, (added, (status, at, (asked, turned, written)))) ↦
          record {
            head = request.head;
            read = request.read;
            reads = request.reads;
            begun = begun;
            told_on = told_on;
            status = status;
            at = at;
            asked = asked;
            turned = turned;
            desk = ap (λ (x : ClientStanding). x.desk) written.alone;
          }
    ]

-- what was read and told is nothing to the desk
same_desk : (v : Visit) (s read begun : ClientStanding) (head : Head) → ReadsHead s read head → IsToldOn v head read begun → begun.desk ≡ s.desk
same_desk v s read begun head reads told_on = ap (λ (x : ClientStanding). x.desk) told_on.written.alone ∙ ap (λ (x : ClientStanding). x.desk) reads.on.alone

-- ---- a journal that is full

same_fulls : (session lb : ℕ) (commands : List Command) (s n : DeskSide) → DoesAll session lb commands s n → n.state.fulls ≡ s.state.fulls
same_fulls session lb [] s n same = ap (λ (d : DeskSide). d.state.fulls) same
same_fulls session lb (c ∷ rest) s n (mid, does, more) = same_fulls session lb rest mid n more ∙ does.done.full

rose_from : (first before now : ℕ) → before ≡ first → RisesByOne before now → Rose first now
rose_from first before now same rises = omega (arith, same, rises)

one_refusal : (a b : PageRefusal) → Some a ≡ Some b → a ≡ b
one_refusal a b is = cc

closed_full : PageRefusal.Closed ≡ PageRefusal.Full → ⊥
closed_full is = cc

read_only_full : PageRefusal.ReadOnly ≡ PageRefusal.Full → ⊥
read_only_full is = cc

query_full : PageRefusal.BadQuery ≡ PageRefusal.Full → ⊥
query_full is = cc

name_full : PageRefusal.UnknownName ≡ PageRefusal.Full → ⊥
name_full is = cc

value_full : PageRefusal.BadValue ≡ PageRefusal.Full → ⊥
value_full is = cc

wide_full : PageRefusal.TooWide ≡ PageRefusal.Full → ⊥
wide_full is = cc

-- that refusal is of a journal that was full
full_by : (error : AdminError FullMark) → refusal_by error ≡ Some PageRefusal.Full → (mark : FullMark) × (error ≡ admin.Full mark)
full_by admin.UnknownMember is = absurd (name_full (one_refusal PageRefusal.UnknownName PageRefusal.Full is))
full_by admin.BadValue is = absurd (value_full (one_refusal PageRefusal.BadValue PageRefusal.Full is))
full_by (admin.TooWide mark) is = absurd (wide_full (one_refusal PageRefusal.TooWide PageRefusal.Full is))
full_by (admin.Full mark) is = (mark, refl)
full_by admin.NoMemory is = absurd cc

page_full : (v : Visit) (s n : ClientStanding) (r : HasNoPage v s n PageRefusal.Full) → r.begun.desk ≡ s.desk → Rose s.desk.state.fulls n.desk.state.fulls
page_full v s n r same =
    subst (λ (d : DeskSide). Rose d.state.fulls n.desk.state.fulls) same
    (subst (λ (d : DeskSide). Rose r.begun.desk.state.fulls d.state.fulls) (sym r.desk) (
    elim r.turned.turned [
      | inl refused ↦ absurd (never_refused v.cfg r.status r.head.query refused.0)
      | inr (work, error, asks, stops, is) ↦ by_error v.session work _ _ error stops is
    ]
    ))
  where
    never_refused : (cfg : Config) (status : Status) (query : Option (List ℕ)) → IsRefusedQuery cfg status query PageRefusal.Full → ⊥
    never_refused cfg status query (inl closed') = closed_full (sym closed'.0)
    never_refused cfg status query (inr (open', inl bad)) = query_full (sym bad.0)
    never_refused cfg status query (inr (open', inr (inl forbidden))) = read_only_full (sym forbidden.1)
    never_refused cfg status query (inr (open', inr (inr unknown))) = name_full (sym unknown.1)

    by_error : (session : ℕ) (work : Work) (old new : DeskSide) (error : AdminError FullMark) → StopsAtRefused session work old new error → refusal_by error ≡ Some PageRefusal.Full
        → Rose old.state.fulls new.state.fulls
    by_error session work old new error stops is =
        let full = full_by error is in
        rose_from old.state.fulls stops.mid.state.fulls new.state.fulls (same_fulls session stops.lb stops.done old stops.mid stops.worked)
        (subst (IsCounted stops.mid.state new.state) full.1 stops.stops.refused.counted).0

of_page : (v : Visit) (s n : ClientStanding) (refusal : PageRefusal) → HasNoPage v s n refusal → HasRefusalCause v s n refusal
of_page v s n refusal r = record {
  page = r;
  full = λ is.
      let page = subst (HasNoPage v s n) is r in
      page_full v s n page (same_desk v s page.read page.begun page.head page.reads page.told_on);
}

-- ---- the rows, each by where the answer comes from

refuses_as : (v : Visit) (s n : ClientStanding) (code known : ℕ) → IsHeadRefused v s n code → code ≡ known → RefusesAs s known
refuses_as v s n code known r is = (r.read, r.form, r.reads, sym r.status ∙ is)

not_head : (v : Visit) (s n : ClientStanding) (code known : ℕ) → IsHeadRefused v s n code → code ≡ known → (IsHeadCode known → ⊥) → ⊥
not_head v s n code known r is other = other (subst IsHeadCode is (head_code v s n code r))

not_reply : (v : Visit) (number : ℕ) (s n : ClientStanding) (code known : ℕ) → HasNoReply v number s n code → code ≡ known → (IsReplyCode known → ⊥) → ⊥
not_reply v number s n code known r is other = other (subst IsReplyCode is (reply_code v number s n code r))

bad_request : (v : Visit) (number : ℕ) (s n : ClientStanding) (code : ℕ) → Origin v number s n code → code ≡ 400
    → RefusesAs s 400 ⊎ ((r : HasNoReply v number s n code) × HasBadLine v number s n code r)
bad_request v number s n code (inl head) is = inl (refuses_as v s n code 400 head is)
bad_request v number s n code (inr (inl unmounted)) is = absurd (omega (arith, unmounted.0, is))
bad_request v number s n code (inr (inr r)) is = inr (r, r.forwarded.forwarded.gives.bad_line is)

forbidden : (v : Visit) (number : ℕ) (s n : ClientStanding) (code : ℕ) → Origin v number s n code → code ≢ 403
forbidden v number s n code (inl head) is = not_head v s n code 403 head is (λ x. omega (arith, x))
forbidden v number s n code (inr (inl unmounted)) is = omega (arith, unmounted.0, is)
forbidden v number s n code (inr (inr r)) is = not_reply v number s n code 403 r is (λ x. omega (arith, x))

not_found : (v : Visit) (number : ℕ) (s n : ClientStanding) (code : ℕ) → Origin v number s n code → code ≡ 404 → IsUnmounted v s
not_found v number s n code (inl head) is = absurd (not_head v s n code 404 head is (λ x. omega (arith, x)))
not_found v number s n code (inr (inl unmounted)) is = unmounted.1
not_found v number s n code (inr (inr r)) is = absurd (not_reply v number s n code 404 r is (λ x. omega (arith, x)))

too_large : (v : Visit) (number : ℕ) (s n : ClientStanding) (code : ℕ) → Origin v number s n code → code ≡ 413
    → RefusesAs s 413 ⊎ ((r : HasNoReply v number s n code) × IsTooMuch v number s n code r)
too_large v number s n code (inl head) is = inl (refuses_as v s n code 413 head is)
too_large v number s n code (inr (inl unmounted)) is = absurd (omega (arith, unmounted.0, is))
too_large v number s n code (inr (inr r)) is = inr (r, r.forwarded.forwarded.gives.too_large is)

many_fields : (v : Visit) (number : ℕ) (s n : ClientStanding) (code : ℕ) → Origin v number s n code → code ≡ 431 → RefusesAs s 431
many_fields v number s n code (inl head) is = refuses_as v s n code 431 head is
many_fields v number s n code (inr (inl unmounted)) is = absurd (omega (arith, unmounted.0, is))
many_fields v number s n code (inr (inr r)) is = absurd (not_reply v number s n code 431 r is (λ x. omega (arith, x)))

internal : (v : Visit) (number : ℕ) (s n : ClientStanding) (code : ℕ) → Origin v number s n code → code ≡ 500
    → EndsWith s.desk.state n.desk.state answer.Forced ⊎ Rose s.desk.state.fulls n.desk.state.fulls
internal v number s n code (inl head) is = absurd (not_head v s n code 500 head is (λ x. omega (arith, x)))
internal v number s n code (inr (inl unmounted)) is = absurd (omega (arith, unmounted.0, is))
internal v number s n code (inr (inr r)) is =
    subst (λ (d : DeskSide). EndsWith d.state n.desk.state answer.Forced ⊎ Rose d.state.fulls n.desk.state.fulls)
    (same_desk v s r.read r.begun r.head r.reads r.told_on) (r.forwarded.forwarded.gives.internal is)

unbuilt : (v : Visit) (number : ℕ) (s n : ClientStanding) (code : ℕ) → Origin v number s n code → code ≡ 501 → RefusesAs s 501
unbuilt v number s n code (inl head) is = refuses_as v s n code 501 head is
unbuilt v number s n code (inr (inl unmounted)) is = absurd (omega (arith, unmounted.0, is))
unbuilt v number s n code (inr (inr r)) is = absurd (not_reply v number s n code 501 r is (λ x. omega (arith, x)))

gateway : (v : Visit) (number : ℕ) (s n : ClientStanding) (code : ℕ) → Origin v number s n code → code ≡ 502
    → (r : HasNoReply v number s n code) × GaveUp v number s n code r false
gateway v number s n code (inl head) is = absurd (not_head v s n code 502 head is (λ x. omega (arith, x)))
gateway v number s n code (inr (inl unmounted)) is = absurd (omega (arith, unmounted.0, is))
gateway v number s n code (inr (inr r)) is = (r, r.forwarded.forwarded.gives.gateway is)

unavailable : (v : Visit) (number : ℕ) (s n : ClientStanding) (code : ℕ) → Origin v number s n code → code ≡ 503
    → EndsWith s.desk.state n.desk.state answer.NoMember ⊎ ((r : HasNoReply v number s n code) × GaveUp v number s n code r true)
unavailable v number s n code (inl head) is = absurd (not_head v s n code 503 head is (λ x. omega (arith, x)))
unavailable v number s n code (inr (inl unmounted)) is = absurd (omega (arith, unmounted.0, is))
unavailable v number s n code (inr (inr r)) is =
    elim (r.forwarded.forwarded.gives.unavailable is) [
      | inl none ↦ inl (subst (λ (d : DeskSide). EndsWith d.state n.desk.state answer.NoMember) (same_desk v s r.read r.begun r.head r.reads r.told_on) none)
      | inr gave_up ↦ inr (r, gave_up)
    ]

of_origin : (v : Visit) (number : ℕ) (s n : ClientStanding) (code : ℕ) → Origin v number s n code → HasOwnCause v number s n code
of_origin v number s n code from = record {
  bad_request = bad_request v number s n code from;
  forbidden = forbidden v number s n code from;
  not_found = not_found v number s n code from;
  too_large = too_large v number s n code from;
  many_fields = many_fields v number s n code from;
  internal = internal v number s n code from;
  unbuilt = unbuilt v number s n code from;
  gateway = gateway v number s n code from;
  unavailable = unavailable v number s n code from;
}

pub own_cause : (v : Visit) (number : ℕ) (s n : ClientStanding) (rows : List Served) (requests : ℕ) (stop' : SessionStop) → EndsIn v number s n rows requests stop'
    → IfOwn stop' (HasOwnCause v number s n) (HasRefusalCause v s n)
own_cause v number s n rows requests (stop.Closed why.ByClient) ends_in = tt
own_cause v number s n rows requests (stop.Closed why.Idle) ends_in = tt
own_cause v number s n rows requests (stop.Closed why.Last) ends_in = tt
own_cause v number s n rows requests (stop.Closed (why.Own code)) ends_in = of_origin v number s n code (origin v number requests s n rows code ends_in)
own_cause v number s n rows requests (stop.Closed (why.Refused refusal)) ends_in = of_page v s n refusal (no_page v number requests s n rows refusal ends_in)
own_cause v number s n rows requests (stop.Closed why.Cut) ends_in = tt
own_cause v number s n rows requests (stop.Closed why.Unread) ends_in = tt
own_cause v number s n rows requests stop.ClientFault ends_in = tt
own_cause v number s n rows requests stop.Truncated ends_in = tt
own_cause v number s n rows requests (stop.Stray ticket returned_at) ends_in = tt
own_cause v number s n rows requests stop.NoMemory ends_in = tt
