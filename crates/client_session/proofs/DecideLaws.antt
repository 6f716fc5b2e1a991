-- One end for the client's bytes: each head, refusal and query among them is read in one way.
use Rattle.std.proofs.Common.{◌≡◌, ℕ, ◌⊎◌, Bool, true, false, List, [], ◌++◌, Option, Some, None, IsSome, slice_get, refl, sym, subst, inl, inr, ap, ◌∙◌, arith, append_assoc, append-nil, length-append}
use Rattle.std.proofs.lemmas.Bool.{both_ways, false≢true}
use Rattle.std.proofs.lemmas.List.{take-append-le}
use Rattle.std.proofs.lemmas.Option.{none-some, same_Some}
use Rattle.jk_io.specs.Told.{prepended}
use Rattle.lb_model.specs.declared.served.Served.{Served}
use Rattle.http_front.specs.Answer.{UsesEnd}
use Rattle.http_front.specs.Cut.{Cuts}
use Rattle.http_front.specs.Refusal.{status_of}
use Rattle.http_front.specs.Request.{AreEmptyLines, EndsInHead, IsHeadOf, NoHead, Refuses}
use Rattle.http_front.specs.declared.answers.Form.{Form}
use Rattle.http_front.specs.declared.head.Head.{Head}
use Rattle.http_front.proofs.AnswerLemmas.{empty-head, empty-refused, form-one, head-one, head-refused, short-head, short-refused}
use Rattle.http_front.specs.declared.body.BodyIn.{BodyIn}
use Rattle.site_config.specs.Places.{named_among}
use Rattle.site_config.specs.declared.balancer.Lb.{Lb}
use Rattle.site_config.specs.declared.config.Config.{Config}
use Rattle.site_config.specs.declared.config.Named.TheVariants as named
use Rattle.site_config.specs.declared.config.Status.{Status}
use Rattle.status_worker.specs.BookCommands.{commands_for}
use Rattle.status_worker.specs.Effects.{is_change, worker_of}
use Rattle.status_worker.specs.Meaning.{meaning_of}
use Rattle.status_worker.specs.declared.command.StatusCommand.{StatusCommand}
use Rattle.status_worker.specs.Commands.{AsksDesk, AsksOpen, IsAllowed, IsRefusedQuery, IsRefusedOpen, IsWorkFor, NamesNone, TurnsAway}
use Rattle.status_worker.specs.Desks.{DeskSide}
use Rattle.status_worker.specs.declared.asking.Work.{Work}
use Rattle.client_session.specs.Answers.{IsAnswer, IsAnswerAt, IsAtStatus, StopsEarly}
use Rattle.client_session.specs.Causes.{Calmly, DecidesEnd}
use Rattle.client_session.specs.Ends.{end_of}
use Rattle.client_session.specs.Requests.{Visit, mounted_at}
use Rattle.client_session.specs.Sessions.{EndsIn, IsRequest, ReadsCut, ReadsHead, ReadsRefused}
use Rattle.client_session.specs.Standings.{ClientStanding, unread_at}
use Rattle.client_session.specs.declared.ending.SessionEnd.{SessionEnd}
use Rattle.client_session.specs.declared.ending.SessionStop.{SessionStop}
use Rattle.client_session.specs.declared.ending.SessionStop.TheVariants as stop
use Rattle.client_session.specs.declared.ending.Why.TheVariants as why
use Rattle.client_session.specs.declared.ending.Why.{Why}
use Rattle.status_worker.specs.declared.refusal.PageRefusal.{PageRefusal}
use Rattle.client_session.specs.declared.turn.Answered.{Answered}
use Rattle.client_session.specs.declared.turn.Answered.TheVariants as answered

-- ---- an option is one thing, whatever it is computed from

one_some : {A : Type 0} (o : Option A) (a b : A) → o ≡ Some a → o ≡ Some b → a ≡ b
one_some o a b one two = same_Some a b (sym one ∙ two)

not_none : {A : Type 0} (o : Option A) (a : A) → o ≡ None → o ≡ Some a → ⊥
not_none o a none some = none-some a (sym none ∙ some)

is_none : {A : Type 0} (o : Option A) → IsSome o → o ≡ None → ⊥
is_none {A} o some none = false≢true (subst (λ (x : Option A). IsSome x) none some)

-- ---- a fact of an end that neither failed nor wanted memory

calmly_on : {P Q : Type 0} (stop' : SessionStop) → Calmly stop' P → (P → Q) → Calmly stop' Q
calmly_on (stop.Closed why.ByClient) p f = f p
calmly_on (stop.Closed why.Idle) p f = tt
calmly_on (stop.Closed why.Last) p f = f p
calmly_on (stop.Closed (why.Own code)) p f = f p
calmly_on (stop.Closed (why.Refused refusal)) p f = f p
calmly_on (stop.Closed why.Cut) p f = f p
calmly_on (stop.Closed why.Unread) p f = f p
calmly_on stop.ClientFault p f = tt
calmly_on stop.Truncated p f = f p
calmly_on (stop.Stray ticket returned_at) p f = f p
calmly_on stop.NoMemory p f = tt

-- ---- the bytes that were read are the first of those that are told

pub front_of_told : (front : List ℕ) (rest : Option (List ℕ)) (bytes : List ℕ) → prepended front rest ≡ Some bytes
    → (more : List ℕ) × (rest ≡ Some more) × (bytes ≡ front ++ more)
front_of_told front None bytes is = absurd cc
front_of_told front (Some more) bytes is = (more, refl, cc)

cuts_more : (bytes more blank front rest : List ℕ) → Cuts bytes blank front rest → Cuts (bytes ++ more) blank front (rest ++ more)
cuts_more bytes more blank front rest cut = record {
  whole = ap (λ (l : List ℕ). l ++ more) cut.whole ∙ append_assoc blank (front ++ rest) more ∙ ap (λ (l : List ℕ). blank ++ l) (append_assoc front rest more);
  empty = cut.empty;
  begins = cut.begins;
  ends = cut.ends;
}

refuses_more : (bytes more : List ℕ) (form : Form) → Refuses bytes form → Refuses (bytes ++ more) form
refuses_more bytes more form (inl r) = inl (record {
  blank = r.blank;
  front = r.front;
  rest = r.rest ++ more;
  cut = cuts_more bytes more r.blank r.front r.rest r.cut;
  within = r.within;
  refused = r.refused;
})
refuses_more bytes more form (inr over) = inr (
  over.0,
  record {
    long = omega (arith, over.1.long, length-append bytes more);
    none = subst NoHead (sym (take-append-le 16384 bytes more over.1.long)) over.1.none;
  },
)

head_bytes : (s read : ClientStanding) (head : Head) (bytes : List ℕ) → ReadsHead s read head → unread_at s ≡ Some bytes
    → (used : List ℕ) × (rest : List ℕ) × (bytes ≡ used ++ rest) × IsHeadOf used head
head_bytes s read head bytes reads told =
    let there = front_of_told reads.used.bytes (unread_at read) bytes (sym reads.used.used ∙ told) in
    (reads.used.bytes, there.0, there.2, reads.used.is)

pub refused_bytes : (s read : ClientStanding) (form : Form) (bytes : List ℕ) → ReadsRefused s read form → unread_at s ≡ Some bytes → Refuses bytes form
refused_bytes s read form bytes reads told =
    let there = front_of_told read.inbox read.client.incoming bytes (reads.unused ∙ told) in
    subst (λ (l : List ℕ). Refuses l form) (sym there.2) (refuses_more read.inbox there.0 form reads.refused)

pub cut_bytes : (s n : ClientStanding) (bytes : List ℕ) → ReadsCut s n → unread_at s ≡ Some bytes → EndsInHead bytes
cut_bytes s n bytes reads told =
    let there = front_of_told n.inbox n.client.incoming bytes (reads.unused ∙ told) in
    let none : there.0 ≡ [] = rw there.1 at reads.over in
    subst EndsInHead (sym (there.2 ∙ ap (λ (l : List ℕ). n.inbox ++ l) none ∙ append-nil n.inbox)) reads.within

pub end_bytes : (before now : Option (List ℕ)) (bytes : List ℕ) → UsesEnd before now → before ≡ Some bytes → AreEmptyLines bytes
end_bytes before now bytes uses told =
    let there = front_of_told uses.bytes now bytes (sym uses.used ∙ told) in
    let none : there.0 ≡ [] = rw there.1 at uses.over in
    subst AreEmptyLines (sym (there.2 ∙ ap (λ (l : List ℕ). uses.bytes ++ l) none ∙ append-nil uses.bytes)) uses.empty

-- ---- a status worker refuses a query in one way

not_allowed : (status : Status) (a b : StatusCommand) → a ≡ b → IsAllowed status a → is_change b ≡ true → status.read_only ≡ true → ⊥
not_allowed status a b same (inl unchanged) changes only =
    both_ways (is_change b) (subst (λ (c : StatusCommand). is_change c ≡ false) same unchanged) changes
not_allowed status a b same (inr free) changes only = both_ways status.read_only free only

same_command : (query : Option (List ℕ)) (a b : StatusCommand) → meaning_of query ≡ Some a → meaning_of query ≡ Some b → a ≡ b
same_command query a b one two = one_some (meaning_of query) a b one two

none_some : (query : Option (List ℕ)) (c : StatusCommand) → meaning_of query ≡ None → meaning_of query ≡ Some c → ⊥
none_some query c none some = not_none (meaning_of query) c none some

open_one : (cfg : Config) (status : Status) (query : Option (List ℕ)) (code other : PageRefusal) → IsRefusedOpen cfg status query code → IsRefusedOpen cfg status query other
    → code ≡ other
open_one cfg status query code other (inl a) (inl b) = a.0 ∙ sym b.0
open_one cfg status query code other (inl a) (inr (inl b)) = absurd (none_some query b.0 a.1 b.2)
open_one cfg status query code other (inl a) (inr (inr b)) = absurd (none_some query b.0 a.1 b.2)
open_one cfg status query code other (inr (inl a)) (inl b) = absurd (none_some query a.0 b.1 a.2)
open_one cfg status query code other (inr (inl a)) (inr (inl b)) = a.1 ∙ sym b.1
open_one cfg status query code other (inr (inl a)) (inr (inr b)) = absurd (not_allowed status b.0 a.0 (same_command query b.0 a.0 b.2 a.2) b.3 a.3 a.4)
open_one cfg status query code other (inr (inr a)) (inl b) = absurd (none_some query a.0 b.1 a.2)
open_one cfg status query code other (inr (inr a)) (inr (inl b)) = absurd (not_allowed status a.0 b.0 (same_command query a.0 b.0 a.2 b.2) a.3 b.3 b.4)
open_one cfg status query code other (inr (inr a)) (inr (inr b)) = a.1 ∙ sym b.1

refused_one : (cfg : Config) (status : Status) (query : Option (List ℕ)) (code other : PageRefusal) → IsRefusedQuery cfg status query code → IsRefusedQuery cfg status query other
    → code ≡ other
refused_one cfg status query code other (inl a) (inl b) = a.0 ∙ sym b.0
refused_one cfg status query code other (inl a) (inr b) = absurd (both_ways status.closed b.0 a.1)
refused_one cfg status query code other (inr a) (inl b) = absurd (both_ways status.closed a.0 b.1)
refused_one cfg status query code other (inr a) (inr b) = open_one cfg status query code other a.1 b.1

one_balancer : (a b : ℕ) → named.Balancer a ≡ named.Balancer b → a ≡ b
one_balancer a b same = cc

named_none : (cfg : Config) (c : StatusCommand) (work : Work) → NamesNone cfg c → IsWorkFor cfg c work → ⊥
named_none cfg c work (name, of, why') (inl unnamed) = not_none (worker_of c) name unnamed.0 of
named_none cfg c work (name, of, inl nowhere) (inr (name', place, lb, of', is, only, done)) =
    nowhere place (subst (λ (x : List ℕ). named_among x cfg.listed ≡ Some (named.Balancer place)) (one_some (worker_of c) name' name of' of) is.named)
named_none cfg c work (name, of, inr (place, lb, is, none)) (inr (name', place', lb', of', is', only, done)) =
    let there : named_among name cfg.listed ≡ Some (named.Balancer place') =
    subst (λ (x : List ℕ). named_among x cfg.listed ≡ Some (named.Balancer place')) (one_some (worker_of c) name' name of' of) is'.named in
    let one : place ≡ place' =
    one_balancer place place' (one_some (named_among name cfg.listed) (named.Balancer place) (named.Balancer place') is.named there) in
    let stands : slice_get cfg.lbs place ≡ Some lb' = subst (λ (k : ℕ). slice_get cfg.lbs k ≡ Some lb') (sym one) is'.stands in
    let balancer : lb ≡ lb' = one_some (slice_get cfg.lbs place) lb lb' is.stands stands in
    not_none (commands_for lb'.book.members c) work.commands
    (subst (λ (x : Lb). commands_for x.book.members c ≡ None) balancer none) done

open_unasked : (cfg : Config) (status : Status) (query : Option (List ℕ)) (code : PageRefusal) (work : Work) → IsRefusedOpen cfg status query code → AsksOpen cfg status query work → ⊥
open_unasked cfg status query code work (inl none) asks = none_some query asks.0 none.1 asks.1
open_unasked cfg status query code work (inr (inl r)) asks = not_allowed status asks.0 r.0 (same_command query asks.0 r.0 asks.1 r.2) asks.2 r.3 r.4
open_unasked cfg status query code work (inr (inr r)) asks =
    named_none cfg asks.0 work (subst (NamesNone cfg) (same_command query r.0 asks.0 r.2 asks.1) r.4) asks.3

refused_unasked : (cfg : Config) (status : Status) (query : Option (List ℕ)) (code : PageRefusal) (work : Work) → IsRefusedQuery cfg status query code → AsksDesk cfg status query work → ⊥
refused_unasked cfg status query code work (inl closed') asks = both_ways status.closed asks.0 closed'.1
refused_unasked cfg status query code work (inr refused) asks = open_unasked cfg status query code work refused.1 asks.1

-- ---- a request's answer, where its head is mounted nowhere, or at a status worker that refuses it

-- the answer closes the session for this reason, or the client failed, or memory was wanted
abbrev IsOwnOrLess : Why → Answered → Type 0
IsOwnOrLess w a =
    (a ≡ answered.Not (stop.Closed w)) ⊎ ((a ≡ answered.Not stop.ClientFault) ⊎ (a ≡ answered.Not stop.NoMemory))

early_own : (v : Visit) (head : Head) (s n : ClientStanding) (a : Answered) (rows : List Served) → StopsEarly v head s n a rows → IsOwnOrLess (why.Own 404) a
early_own v head s n answered.Whole rows early = absurd early
early_own v head s n (answered.Not (stop.Closed why.ByClient)) rows early = absurd early
early_own v head s n (answered.Not (stop.Closed why.Idle)) rows early = absurd early
early_own v head s n (answered.Not (stop.Closed why.Last)) rows early = absurd early
early_own v head s n (answered.Not (stop.Closed (why.Own code))) rows early = inl (ap (λ (k : ℕ). answered.Not (stop.Closed (why.Own k))) early.0)
early_own v head s n (answered.Not (stop.Closed (why.Refused refusal))) rows early = absurd early
early_own v head s n (answered.Not (stop.Closed why.Cut)) rows early = absurd early
early_own v head s n (answered.Not (stop.Closed why.Unread)) rows early = absurd early
early_own v head s n (answered.Not stop.ClientFault) rows early = inr (inl refl)
early_own v head s n (answered.Not stop.Truncated) rows early = absurd early
early_own v head s n (answered.Not (stop.Stray ticket returned_at)) rows early = absurd early
early_own v head s n (answered.Not stop.NoMemory) rows early = inr (inr refl)

unmounted_own : (v : Visit) (head : Head) (last : Bool) (s n : ClientStanding) (body body' : BodyIn) (a : Answered) (rows : List Served)
    → IsAnswer v head last s n body body' a rows → mounted_at v head ≡ None → IsOwnOrLess (why.Own 404) a
unmounted_own v head last s n body body' a rows (inl early) none = early_own v head s n a rows early
unmounted_own v head last s n body body' a rows (inr (begun, told_on, at)) none =
    absurd (is_none (mounted_at v head) told_on.mounted none)

-- a request that is mounted at a status worker was answered early by no own answer
early_less : (v : Visit) (head : Head) (s n : ClientStanding) (a : Answered) (rows : List Served) (status : Status) (w : Why) → StopsEarly v head s n a rows
    → IsAtStatus v head status → IsOwnOrLess w a
early_less v head s n answered.Whole rows status w early at = absurd early
early_less v head s n (answered.Not (stop.Closed why.ByClient)) rows status w early at = absurd early
early_less v head s n (answered.Not (stop.Closed why.Idle)) rows status w early at = absurd early
early_less v head s n (answered.Not (stop.Closed why.Last)) rows status w early at = absurd early
early_less v head s n (answered.Not (stop.Closed (why.Own code'))) rows status w early at =
    absurd (not_none (mounted_at v head) (named.Status at.place) early.1 at.mounted)
early_less v head s n (answered.Not (stop.Closed (why.Refused refusal))) rows status w early at = absurd early
early_less v head s n (answered.Not (stop.Closed why.Cut)) rows status w early at = absurd early
early_less v head s n (answered.Not (stop.Closed why.Unread)) rows status w early at = absurd early
early_less v head s n (answered.Not stop.ClientFault) rows status w early at = inr (inl refl)
early_less v head s n (answered.Not stop.Truncated) rows status w early at = absurd early
early_less v head s n (answered.Not (stop.Stray ticket returned_at)) rows status w early at = absurd early
early_less v head s n (answered.Not stop.NoMemory) rows status w early at = inr (inr refl)

two_kinds : (lb place : ℕ) → named.Balancer lb ≡ named.Status place → ⊥
two_kinds lb place same = cc

one_place : (a b : ℕ) → named.Status a ≡ named.Status b → a ≡ b
one_place a b same = cc

not_both : (v : Visit) (head : Head) (lb : ℕ) (status : Status) → mounted_at v head ≡ Some (named.Balancer lb) → IsAtStatus v head status → ⊥
not_both v head lb status balancer at =
    two_kinds lb at.place (one_some (mounted_at v head) (named.Balancer lb) (named.Status at.place) balancer at.mounted)

one_status : (v : Visit) (head : Head) (a b : Status) → IsAtStatus v head a → IsAtStatus v head b → a ≡ b
one_status v head a b one two =
    let same : one.place ≡ two.place =
    one_place one.place two.place (one_some (mounted_at v head) (named.Status one.place) (named.Status two.place) one.mounted two.mounted) in
    one_some (slice_get v.cfg.statuses one.place) a b one.stands
    (subst (λ (k : ℕ). slice_get v.cfg.statuses k ≡ Some b) (sym same) two.stands)

turned_own : (cfg : Config) (session : ℕ) (status : Status) (query : Option (List ℕ)) (s n : DeskSide) (code other : PageRefusal) → IsRefusedQuery cfg status query code
    → TurnsAway cfg session status query s n other → other ≡ code
turned_own cfg session status query s n code other refused (inl turned) = refused_one cfg status query other code turned.0 refused
turned_own cfg session status query s n code other refused (inr (work, error, asks, stops, is)) = absurd (refused_unasked cfg status query code work refused asks)

refused_own : (v : Visit) (head : Head) (last : Bool) (s n : ClientStanding) (body body' : BodyIn) (a : Answered) (rows : List Served) (status : Status) (code : PageRefusal)
    → IsAnswerAt v head last s n body body' a rows → IsAtStatus v head status → IsRefusedQuery v.cfg status head.query code → IsOwnOrLess (why.Refused code) a
refused_own v head last s n body body' answered.Whole rows status code (inl (member, told, row, is, row_is, added)) at refused =
    absurd (not_both v head is.lb status is.mounted at)
refused_own v head last s n body body' answered.Whole rows status code (inr (other, m, page, there, has, written, same, added)) at refused =
    absurd (refused_unasked v.cfg status head.query code has.done.0 refused
    (subst (λ (x : Status). AsksDesk v.cfg x head.query has.done.0) (one_status v head other status there at) has.done.1))
refused_own v head last s n body body' (answered.Not (stop.Closed why.ByClient)) rows status code answer at refused = absurd answer
refused_own v head last s n body body' (answered.Not (stop.Closed why.Idle)) rows status code answer at refused = absurd answer
refused_own v head last s n body body' (answered.Not (stop.Closed why.Last)) rows status code answer at refused = absurd answer
refused_own v head last s n body body' (answered.Not (stop.Closed (why.Own other))) rows status code (added, is) at refused =
    absurd (not_both v head is.lb status is.mounted at)
refused_own v head last s n body body' (answered.Not (stop.Closed (why.Refused other))) rows status code (added, (status', there, (m, turned, written))) at refused =
    inl (ap (λ (k : PageRefusal). answered.Not (stop.Closed (why.Refused k)))
    (turned_own v.cfg v.session status head.query s.desk m.desk code other refused
    (subst (λ (x : Status). TurnsAway v.cfg v.session x head.query s.desk m.desk other) (one_status v head status' status there at) turned.turned)))
refused_own v head last s n body body' (answered.Not (stop.Closed why.Cut)) rows status code (member, told, row, is, row_is, added) at refused =
    absurd (not_both v head is.lb status is.mounted at)
refused_own v head last s n body body' (answered.Not (stop.Closed why.Unread)) rows status code answer at refused = absurd answer
refused_own v head last s n body body' (answered.Not stop.ClientFault) rows status code answer at refused = inr (inl refl)
refused_own v head last s n body body' (answered.Not stop.Truncated) rows status code (added, is) at refused =
    absurd (not_both v head is.lb status is.mounted at)
refused_own v head last s n body body' (answered.Not (stop.Stray ticket returned_at)) rows status code (added, is) at refused =
    absurd (not_both v head is.lb status is.mounted at)
refused_own v head last s n body body' (answered.Not stop.NoMemory) rows status code answer at refused = inr (inr refl)

-- ---- how the session ends at a head

-- The head at the front; and how the session ends where no worker is mounted there, or a status worker refuses it.
record HasHead (v : Visit) (number : ℕ) (s : ClientStanding) (end : SessionEnd) : Type 0 where
  read : ClientStanding
  head : Head
  reads : ReadsHead s read head
  unmounted : mounted_at v head ≡ None → end ≡ end_of (stop.Closed (why.Own 404)) number
  turned_away : (status : Status) (code : PageRefusal) → IsAtStatus v head status → IsRefusedQuery v.cfg status head.query code
      → end ≡ end_of (stop.Closed (why.Refused code)) number

-- where such an answer closes the session, neither a fault of the client nor want of memory was met
abbrev IsEndOf : (number : ℕ) → Answered → SessionEnd → Type 0
IsEndOf number a end = (w : Why) → IsOwnOrLess w a → end ≡ end_of (stop.Closed w) number

at_head : (v : Visit) (number : ℕ) (s n : ClientStanding) (body : BodyIn) (a : Answered) (rows : List Served) (end : SessionEnd)
    → IsRequest v number s n body a rows → IsEndOf number a end → HasHead v number s end
at_head v number s n body a rows end request is = record {
  read = request.read;
  head = request.head;
  reads = request.reads;
  unmounted = λ none. is (why.Own 404) (unmounted_own v request.head _ _ _ _ _ a rows request.answers none);
  turned_away = λ status code at refused. is (why.Refused code) (
      elim request.answers [
        | inl early ↦ early_less v request.head _ _ a rows status (why.Refused code) early at
        | inr (begun, told_on, answer) ↦ refused_own v request.head _ _ _ _ _ a rows status code answer at refused
      ]
      );
}

-- an answer that is none of these three, or that closes the session
whole_other : (number : ℕ) (end : SessionEnd) → IsEndOf number answered.Whole end
whole_other number end w (inl is) = absurd cc
whole_other number end w (inr (inl is)) = absurd cc
whole_other number end w (inr (inr is)) = absurd cc

truncated_other : (number : ℕ) (end : SessionEnd) → IsEndOf number (answered.Not stop.Truncated) end
truncated_other number end w (inl is) = absurd cc
truncated_other number end w (inr (inl is)) = absurd cc
truncated_other number end w (inr (inr is)) = absurd cc

stray_other : (number ticket : ℕ) (returned_at : Option ℕ) (end : SessionEnd) → IsEndOf number (answered.Not (stop.Stray ticket returned_at)) end
stray_other number ticket returned_at end w (inl is) = absurd cc
stray_other number ticket returned_at end w (inr (inl is)) = absurd cc
stray_other number ticket returned_at end w (inr (inr is)) = absurd cc

closed_other : (number requests : ℕ) (other : Why) → requests ≡ number → IsEndOf number (answered.Not (stop.Closed other)) (end_of (stop.Closed other) requests)
closed_other number requests other counted w (inl is) = let same : other ≡ w = cc in cc
closed_other number requests other counted w (inr (inl is)) = absurd cc
closed_other number requests other counted w (inr (inr is)) = absurd cc

-- what stands at the front, and the end that goes with it
abbrev IsAtFront : Visit → (number : ℕ) → (s n : ClientStanding) → SessionEnd → Type 0
IsAtFront v number s n end =
    ((end ≡ end_of (stop.Closed why.ByClient) number) × UsesEnd (unread_at s) (unread_at n))
    ⊎ (((end ≡ end_of stop.Truncated number) × ReadsCut s n)
    ⊎ (((read : ClientStanding) × (form : Form) × ReadsRefused s read form × (end ≡ end_of (stop.Closed (why.Own (status_of form))) number))
    ⊎ HasHead v number s end))

at_front : (v : Visit) (number : ℕ) (s n : ClientStanding) (rows : List Served) (requests : ℕ) (stop' : SessionStop) → EndsIn v number s n rows requests stop'
    → Calmly stop' (IsAtFront v number s n (end_of stop' requests))
at_front v number s n rows requests (stop.Closed why.ByClient) (counted, reads, added) =
    inl (ap (λ (k : ℕ). end_of (stop.Closed why.ByClient) k) counted, reads.used)
at_front v number s n rows requests (stop.Closed why.Idle) ends_in = tt
at_front v number s n rows requests (stop.Closed why.Last) (counted, (body, request, last)) =
    inr (inr (inr (at_head v number s n body _ rows _ request (whole_other number _))))
at_front v number s n rows requests (stop.Closed (why.Own code)) (counted, inl (refused, added)) =
    inr (inr (inl (
      refused.read,
      refused.form,
      refused.reads,
      ap (λ (k : ℕ). end_of (stop.Closed (why.Own code)) k) counted ∙ ap (λ (k : ℕ). end_of (stop.Closed (why.Own k)) number) refused.status,
    )))
at_front v number s n rows requests (stop.Closed (why.Own code)) (counted, inr (body, request)) =
    inr (inr (inr (at_head v number s n body _ rows _ request (closed_other number requests (why.Own code) counted))))
at_front v number s n rows requests (stop.Closed (why.Refused refusal)) (counted, (body, request)) =
    inr (inr (inr (at_head v number s n body _ rows _ request (closed_other number requests (why.Refused refusal) counted))))
at_front v number s n rows requests (stop.Closed why.Cut) (counted, (body, request)) =
    inr (inr (inr (at_head v number s n body _ rows _ request (closed_other number requests why.Cut counted))))
at_front v number s n rows requests (stop.Closed why.Unread) (counted, inl (body, mid, going_on, breaks)) =
    inr (inr (inr (at_head v number s mid body _ rows _ going_on.request (whole_other number _))))
at_front v number s n rows requests (stop.Closed why.Unread) (counted, inr (body, mid, going_on, breaks)) =
    inr (inr (inr (at_head v number s mid body _ rows _ going_on.request (whole_other number _))))
at_front v number s n rows requests stop.ClientFault ends_in = tt
at_front v number s n rows requests stop.Truncated (inl (counted, added, inl reads)) =
    inr (inl (ap (λ (k : ℕ). end_of stop.Truncated k) counted, reads))
at_front v number s n rows requests stop.Truncated (inl (counted, added, inr (body, request))) =
    inr (inr (inr (at_head v number s n body _ rows _ request (truncated_other number _))))
at_front v number s n rows requests stop.Truncated (inr (counted, (body, mid, going_on, breaks))) =
    inr (inr (inr (at_head v number s mid body _ rows _ going_on.request (whole_other number _))))
at_front v number s n rows requests (stop.Stray ticket returned_at) (counted, added, (body, request)) =
    inr (inr (inr (at_head v number s n body _ rows _ request (stray_other number ticket returned_at _))))
at_front v number s n rows requests stop.NoMemory ends_in = tt

-- ---- the bytes decide

over_by : (v : Visit) (number : ℕ) (s n : ClientStanding) (end : SessionEnd) (bytes : List ℕ) → unread_at s ≡ Some bytes → IsAtFront v number s n end
    → AreEmptyLines bytes → end ≡ end_of (stop.Closed why.ByClient) number
over_by v number s n end bytes told (inl ended) empty = ended.0
over_by v number s n end bytes told (inr (inl cut)) empty = absurd ((cut_bytes s n bytes cut.1 told).begun empty.empty)
over_by v number s n end bytes told (inr (inr (inl (read, form, reads, is)))) empty =
    absurd (empty-refused bytes form (refused_bytes s read form bytes reads told) empty)
over_by v number s n end bytes told (inr (inr (inr h))) empty =
    let there = head_bytes s h.read h.head bytes h.reads told in
    absurd (empty-head bytes there.0 there.1 h.head there.2 there.3 empty)

cut_by : (v : Visit) (number : ℕ) (s n : ClientStanding) (end : SessionEnd) (bytes : List ℕ) → unread_at s ≡ Some bytes → IsAtFront v number s n end
    → EndsInHead bytes → end ≡ end_of stop.Truncated number
cut_by v number s n end bytes told (inl ended) short = absurd (short.begun (end_bytes _ _ bytes ended.1 told).empty)
cut_by v number s n end bytes told (inr (inl cut)) short = cut.0
cut_by v number s n end bytes told (inr (inr (inl (read, form, reads, is)))) short =
    absurd (short-refused bytes form (refused_bytes s read form bytes reads told) short)
cut_by v number s n end bytes told (inr (inr (inr h))) short =
    let there = head_bytes s h.read h.head bytes h.reads told in
    absurd (short-head bytes there.0 there.1 h.head there.2 there.3 short)

refused_by : (v : Visit) (number : ℕ) (s n : ClientStanding) (end : SessionEnd) (bytes : List ℕ) (form : Form) → unread_at s ≡ Some bytes → IsAtFront v number s n end
    → Refuses bytes form → end ≡ end_of (stop.Closed (why.Own (status_of form))) number
refused_by v number s n end bytes form told (inl ended) refused = absurd (empty-refused bytes form refused (end_bytes _ _ bytes ended.1 told))
refused_by v number s n end bytes form told (inr (inl cut)) refused = absurd (short-refused bytes form refused (cut_bytes s n bytes cut.1 told))
refused_by v number s n end bytes form told (inr (inr (inl (read, other, reads, is)))) refused =
    is ∙ ap (λ (f : Form). end_of (stop.Closed (why.Own (status_of f))) number) (form-one bytes other form (refused_bytes s read other bytes reads told) refused)
refused_by v number s n end bytes form told (inr (inr (inr h))) refused =
    let there = head_bytes s h.read h.head bytes h.reads told in
    absurd (head-refused bytes there.0 there.1 h.head form there.2 there.3 refused)

-- the head that stands there is the one that was read
headed_by : (v : Visit) (number : ℕ) (s n : ClientStanding) (end : SessionEnd) (bytes used rest : List ℕ) (head : Head) → unread_at s ≡ Some bytes
    → IsAtFront v number s n end → bytes ≡ used ++ rest → IsHeadOf used head → (h : HasHead v number s end) × (h.head ≡ head)
headed_by v number s n end bytes used rest head told (inl ended) whole is =
    absurd (empty-head bytes used rest head whole is (end_bytes _ _ bytes ended.1 told))
headed_by v number s n end bytes used rest head told (inr (inl cut)) whole is =
    absurd (short-head bytes used rest head whole is (cut_bytes s n bytes cut.1 told))
headed_by v number s n end bytes used rest head told (inr (inr (inl (read, form, reads, by)))) whole is =
    absurd (head-refused bytes used rest head form whole is (refused_bytes s read form bytes reads told))
headed_by v number s n end bytes used rest head told (inr (inr (inr h))) whole is =
    let there = head_bytes s h.read h.head bytes h.reads told in
    (h, (head-one bytes there.0 there.1 used rest h.head head there.2 there.3 whole is).1)

pub decides : (v : Visit) (number : ℕ) (s n : ClientStanding) (rows : List Served) (end : SessionEnd) (bytes : List ℕ) → EndsIn v number s n rows end.requests end.stop
    → unread_at s ≡ Some bytes → DecidesEnd v number bytes end
decides v number s n rows end bytes ends_in told = record {
  over = λ empty. calmly_on end.stop (at_front v number s n rows end.requests end.stop ends_in) (λ front. over_by v number s n end bytes told front empty);
  cut = λ short. calmly_on end.stop (at_front v number s n rows end.requests end.stop ends_in) (λ front. cut_by v number s n end bytes told front short);
  refused = λ form refused. calmly_on end.stop (at_front v number s n rows end.requests end.stop ends_in) (λ front. refused_by v number s n end bytes form told front refused);
  unmounted = λ used rest head whole is none. calmly_on end.stop (at_front v number s n rows end.requests end.stop ends_in) (λ front.
      let by = headed_by v number s n end bytes used rest head told front whole is in
      by.0.unmounted (subst (λ (x : Head). mounted_at v x ≡ None) (sym by.1) none));
  turned_away = λ used rest head status code whole is at refused. calmly_on end.stop (at_front v number s n rows end.requests end.stop ends_in) (λ front.
      let by = headed_by v number s n end bytes used rest head told front whole is in
      by.0.turned_away status code (subst (λ (x : Head). IsAtStatus v x status) (sym by.1) at)
      (subst (λ (x : Head). IsRefusedQuery v.cfg status x.query code) (sym by.1) refused));
}
