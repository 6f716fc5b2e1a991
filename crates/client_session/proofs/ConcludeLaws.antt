-- A request that was forwarded, with the row that its end adds.
use Rattle.std.proofs.Common.{◌≡◌, ℕ, Bool, List, Some, IsSome, slice_get, refl, sym, subst, inl, ◌≤◌, ◌<◌, get_or, length, arith}
use Rattle.std.proofs.lemmas.Option.{slice_get_read}
use Rattle.lb_model.specs.declared.member.MemberConfig.{MemberConfig}
use Rattle.lb_model.specs.declared.served.Asked.{Asked}
use Rattle.lb_model.specs.declared.served.Asked.TheVariants as asked
use Rattle.http_front.specs.declared.head.Head.{Head}
use Rattle.http_front.specs.declared.body.BodyIn.{BodyIn}
use Rattle.http_out.specs.Own.{own_of}
use Rattle.http_out.specs.declared.own_answers.Own.{Own}
use Rattle.site_config.specs.declared.balancer.Lb.{Lb}
use Rattle.site_config.specs.declared.config.Named.TheVariants as named
use Rattle.exchange.specs.Requests.{is_head}
use Rattle.exchange.specs.declared.ending.ExchangeEnd.{ExchangeEnd}
use Rattle.exchange.specs.declared.ending.ExchangeEnd.TheVariants as exchange_end
use Rattle.client_session.specs.Answers.{IsAnswerAt, IsForwardedAt, errand_at}
use Rattle.client_session.specs.Concluding.{HasNamesWithin, IsConclusion, NamesWithin, rows_of}
use Rattle.client_session.specs.Requests.{Visit, mounted_at}
use Rattle.client_session.specs.Standings.{ClientStanding}
use Rattle.client_session.specs.Turns.{LeavesBodySound, MeetsInAnswer, RisesInAnswer}
use Rattle.client_session.specs.declared.turn.Settled.{Settled}

abbrev asked_of : Head → Asked
asked_of head = asked.Line head.method head.target head.old

abbrev Settles : Visit → Head → (last : Bool) → (s n : ClientStanding) → (body body' : BodyIn) → Settled → Type 0
Settles v head last s n body body' settled = IsAnswerAt v head last s n body body' settled.answered (rows_of settled.row)

-- the end was concluded with the balancer's members, for the method and the row of this head
pub concluded_by : (end : ExchangeEnd) (members : List MemberConfig) (balancer : Lb) (head_only : Bool) (head : Head) (asked' : Asked) (settled : Settled)
    → members ≡ balancer.book.members → head_only ≡ is_head head → asked' ≡ asked_of head → IsConclusion end members head_only asked' settled
    → IsConclusion end balancer.book.members (is_head head) (asked_of head) settled
concluded_by end members balancer head_only head asked' settled are only line is =
    subst (λ (ms : List MemberConfig). IsConclusion end ms (is_head head) (asked_of head) settled) are
    (subst (λ (b : Bool). IsConclusion end members b (asked_of head) settled) only
    (subst (λ (a : Asked). IsConclusion end members head_only a settled) line is))

-- the balancer that was read stands at its place
pub stands_there : (lbs : List Lb) (lb : ℕ) (balancer : Lb) → lb < length lbs → balancer ≡ get_or lbs lb balancer → slice_get lbs lb ≡ Some balancer
stands_there lbs lb balancer within is = slice_get_read lbs (length lbs) lb balancer refl within is

pub forwards : (v : Visit) (head : Head) (last : Bool) (s n : ClientStanding) (body body' : BodyIn) (lb : ℕ) (balancer : Lb) (end : ExchangeEnd) (settled : Settled)
    → mounted_at v head ≡ Some (named.Balancer lb) → slice_get v.cfg.lbs lb ≡ Some balancer
    → IsForwardedAt v (errand_at v head last lb balancer) s n body body' end
    → IsConclusion end balancer.book.members (is_head head) (asked_of head) settled
    → IsAnswerAt v head last s n body body' settled.answered (rows_of settled.row)
forwards v head last s n body body' lb balancer (exchange_end.Done member told) settled mounted stands at concluded =
    subst (Settles v head last s n body body') (sym concluded.2)
    (inl (
      member,
      told,
      concluded.0,
      record { lb = lb; balancer = balancer; mounted = mounted; stands = stands; forwarded = at },
      record { config = concluded.1.0; named = concluded.1.1; is = concluded.1.2 },
      refl,
    ))
forwards v head last s n body body' lb balancer (exchange_end.Own status) settled mounted stands at concluded =
    subst (Settles v head last s n body body') (sym concluded)
    (refl, record { lb = lb; balancer = balancer; mounted = mounted; stands = stands; forwarded = at })
forwards v head last s n body body' lb balancer (exchange_end.Cut member told) settled mounted stands at concluded =
    subst (Settles v head last s n body body') (sym concluded.2) (
      member,
      told,
      concluded.0,
      record { lb = lb; balancer = balancer; mounted = mounted; stands = stands; forwarded = at },
      record { config = concluded.1.0; named = concluded.1.1; is = concluded.1.2 },
      refl,
    )
forwards v head last s n body body' lb balancer exchange_end.ClientFault settled mounted stands at concluded =
    subst (Settles v head last s n body body') (sym concluded)
    (refl, inl (record { lb = lb; balancer = balancer; mounted = mounted; stands = stands; forwarded = at }))
forwards v head last s n body body' lb balancer exchange_end.Truncated settled mounted stands at concluded =
    subst (Settles v head last s n body body') (sym concluded)
    (refl, record { lb = lb; balancer = balancer; mounted = mounted; stands = stands; forwarded = at })
forwards v head last s n body body' lb balancer (exchange_end.Stray ticket returned_at) settled mounted stands at concluded =
    subst (Settles v head last s n body body') (sym concluded)
    (refl, record { lb = lb; balancer = balancer; mounted = mounted; stands = stands; forwarded = at })
forwards v head last s n body body' lb balancer exchange_end.NoMemory settled mounted stands at concluded =
    subst (Settles v head last s n body body') (sym concluded)
    (refl, inl (record { lb = lb; balancer = balancer; mounted = mounted; stands = stands; forwarded = at }))

-- no call on the body had failed after a whole reply
pub goes_on : (v : Visit) (head : Head) (last : Bool) (s n : ClientStanding) (body body' : BodyIn) (lb : ℕ) (balancer : Lb) (end : ExchangeEnd) (settled : Settled)
    → IsForwardedAt v (errand_at v head last lb balancer) s n body body' end
    → IsConclusion end balancer.book.members (is_head head) (asked_of head) settled → LeavesBodySound settled.answered body'
goes_on v head last s n body body' lb balancer (exchange_end.Done member told) settled at concluded =
    subst (λ (x : Settled). LeavesBodySound x.answered body') (sym concluded.2) at.gives.takes.going
goes_on v head last s n body body' lb balancer (exchange_end.Own status) settled at concluded =
    subst (λ (x : Settled). LeavesBodySound x.answered body') (sym concluded) tt
goes_on v head last s n body body' lb balancer (exchange_end.Cut member told) settled at concluded =
    subst (λ (x : Settled). LeavesBodySound x.answered body') (sym concluded.2) tt
goes_on v head last s n body body' lb balancer exchange_end.ClientFault settled at concluded =
    subst (λ (x : Settled). LeavesBodySound x.answered body') (sym concluded) tt
goes_on v head last s n body body' lb balancer exchange_end.Truncated settled at concluded =
    subst (λ (x : Settled). LeavesBodySound x.answered body') (sym concluded) tt
goes_on v head last s n body body' lb balancer (exchange_end.Stray ticket returned_at) settled at concluded =
    subst (λ (x : Settled). LeavesBodySound x.answered body') (sym concluded) tt
goes_on v head last s n body body' lb balancer exchange_end.NoMemory settled at concluded =
    subst (λ (x : Settled). LeavesBodySound x.answered body') (sym concluded) tt

-- a stray was met where the exchange met one
pub meets : (v : Visit) (head : Head) (last : Bool) (s n : ClientStanding) (body body' : BodyIn) (lb : ℕ) (balancer : Lb) (end : ExchangeEnd) (settled : Settled)
    → IsForwardedAt v (errand_at v head last lb balancer) s n body body' end
    → IsConclusion end balancer.book.members (is_head head) (asked_of head) settled
    → MeetsInAnswer settled.answered s.desk.state n.desk.state
meets v head last s n body body' lb balancer (exchange_end.Done member told) settled at concluded =
    subst (λ (x : Settled). MeetsInAnswer x.answered s.desk.state n.desk.state) (sym concluded.2) at.met
meets v head last s n body body' lb balancer (exchange_end.Own status) settled at concluded =
    subst (λ (x : Settled). MeetsInAnswer x.answered s.desk.state n.desk.state) (sym concluded) at.met
meets v head last s n body body' lb balancer (exchange_end.Cut member told) settled at concluded =
    subst (λ (x : Settled). MeetsInAnswer x.answered s.desk.state n.desk.state) (sym concluded.2) at.met
meets v head last s n body body' lb balancer exchange_end.ClientFault settled at concluded =
    subst (λ (x : Settled). MeetsInAnswer x.answered s.desk.state n.desk.state) (sym concluded) at.met
meets v head last s n body body' lb balancer exchange_end.Truncated settled at concluded =
    subst (λ (x : Settled). MeetsInAnswer x.answered s.desk.state n.desk.state) (sym concluded) at.met
meets v head last s n body body' lb balancer (exchange_end.Stray ticket returned_at) settled at concluded =
    subst (λ (x : Settled). MeetsInAnswer x.answered s.desk.state n.desk.state) (sym concluded) at.met
meets v head last s n body body' lb balancer exchange_end.NoMemory settled at concluded =
    subst (λ (x : Settled). MeetsInAnswer x.answered s.desk.state n.desk.state) (sym concluded) at.met

-- the client's faults rose where they ended the exchange
pub rises : (v : Visit) (head : Head) (last : Bool) (s n : ClientStanding) (body body' : BodyIn) (lb : ℕ) (balancer : Lb) (end : ExchangeEnd) (settled : Settled)
    → IsForwardedAt v (errand_at v head last lb balancer) s n body body' end
    → IsConclusion end balancer.book.members (is_head head) (asked_of head) settled
    → RisesInAnswer settled.answered s.client.faults n.client.faults
rises v head last s n body body' lb balancer (exchange_end.Done member told) settled at concluded =
    subst (λ (x : Settled). RisesInAnswer x.answered s.client.faults n.client.faults) (sym concluded.2) (at.calm tt)
rises v head last s n body body' lb balancer (exchange_end.Own status) settled at concluded =
    subst (λ (x : Settled). RisesInAnswer x.answered s.client.faults n.client.faults) (sym concluded) (at.calm tt)
rises v head last s n body body' lb balancer (exchange_end.Cut member told) settled at concluded =
    subst (λ (x : Settled). RisesInAnswer x.answered s.client.faults n.client.faults) (sym concluded.2) (at.calm tt)
rises v head last s n body body' lb balancer exchange_end.ClientFault settled at concluded =
    subst (λ (x : Settled). RisesInAnswer x.answered s.client.faults n.client.faults) (sym concluded) at.gives.0
rises v head last s n body body' lb balancer exchange_end.Truncated settled at concluded =
    subst (λ (x : Settled). RisesInAnswer x.answered s.client.faults n.client.faults) (sym concluded) (at.calm tt)
rises v head last s n body body' lb balancer (exchange_end.Stray ticket returned_at) settled at concluded =
    subst (λ (x : Settled). RisesInAnswer x.answered s.client.faults n.client.faults) (sym concluded) tt
rises v head last s n body body' lb balancer exchange_end.NoMemory settled at concluded =
    subst (λ (x : Settled). RisesInAnswer x.answered s.client.faults n.client.faults) (sym concluded) (at.calm tt)

known_own : (status : ℕ) (own : Own) → own_of status ≡ Some own → IsSome (own_of status)
known_own status own is = rw is refl

-- the end names a member whose name there is room for, or an own answer that there is
pub within : (v : Visit) (head : Head) (last : Bool) (s n : ClientStanding) (body body' : BodyIn) (lb : ℕ) (balancer : Lb) (longest room : ℕ) (end : ExchangeEnd)
    → slice_get v.cfg.lbs lb ≡ Some balancer → HasNamesWithin v.cfg (named.Balancer lb) longest → longest ≤ room
    → IsForwardedAt v (errand_at v head last lb balancer) s n body body' end → NamesWithin end balancer.book.members room
within v head last s n body body' lb balancer longest room (exchange_end.Done member told) stands names enough at =
    (at.gives.last.config, at.gives.last.configured, omega (arith, enough, names balancer member at.gives.last.config stands at.gives.last.configured))
within v head last s n body body' lb balancer longest room (exchange_end.Own status) stands names enough at =
    known_own status at.gives.own at.gives.is_own
within v head last s n body body' lb balancer longest room (exchange_end.Cut member told) stands names enough at =
    (at.gives.last.config, at.gives.last.configured, omega (arith, enough, names balancer member at.gives.last.config stands at.gives.last.configured))
within v head last s n body body' lb balancer longest room exchange_end.ClientFault stands names enough at = tt
within v head last s n body body' lb balancer longest room exchange_end.Truncated stands names enough at = tt
within v head last s n body body' lb balancer longest room (exchange_end.Stray ticket returned_at) stands names enough at = tt
within v head last s n body body' lb balancer longest room exchange_end.NoMemory stands names enough at = tt
