-- A body by length has neither a bad chunk line nor a limit.
use Rattle.std.proofs.Common.{◌≡◌, ℕ, ◌-◌, ◌==◌, ◌||◌, true, false, List, [], ◌∷◌, Option, Some, None, IfSome, refl, sym, ap, ◌∙◌, subst, inl, inr, ◌≤◌, arith}
use Rattle.std.proofs.lemmas.Bool.{cases_Bool}
use Rattle.ajp_talk.specs.Moments.{IsUsed}
use Rattle.http_front.specs.State.{failed_of, most_of, place_of, taken_of}
use Rattle.http_front.specs.Takes.{BodyMoment, MeetsFault, TakesPiece, unread_at}
use Rattle.http_front.specs.Wants.{Next}
use Rattle.http_front.specs.declared.fault.BodyFault.{BodyFault}
use Rattle.http_front.specs.declared.fault.BodyFault.TheVariants as fault
use Rattle.exchange.specs.Exchanges.{IsCalmExchange}
use Rattle.exchange.specs.FirstPiece.{IsFirstFailure, TakesFirst, end_by}
use Rattle.exchange.specs.declared.ending.ExchangeEnd.{ExchangeEnd}
use Rattle.http_front.specs.Body.{data_from, data_of, reaches}
use Rattle.http_front.specs.Places.{is_limited, start_of}
use Rattle.http_front.specs.Walks.{IsUnder}
use Rattle.http_front.specs.declared.place.Place.{Place}
use Rattle.http_front.specs.declared.place.Place.TheVariants as at
use Rattle.http_front.specs.declared.head.BodyPlan.{BodyPlan}
use Rattle.http_front.specs.declared.head.BodyPlan.TheVariants as plan_is
use Rattle.forwarding.specs.FirstPiece.{first_len}
use Rattle.site_config.specs.declared.endpoint.Endpoint.{Endpoint}

-- by length, no data is bad
good_by_length : (bytes : List ℕ) (n : ℕ) → (data_from bytes (at.Exact n)).bad ≡ false
good_by_length [] n = refl
good_by_length (b ∷ bytes) n =
    elim (cases_Bool ((n == 0) || false)) [
      | inl over ↦ rw over refl
      | inr going ↦ rw going (good_by_length bytes (n - 1))
    ]

abbrev pub IsCutBadly : ℕ → ℕ → ℕ → Place → Option (List ℕ) → Type 0
IsCutBadly len most taken place told =
    IfSome (data_of place told) (λ d. (reaches len d ≡ false) × (d.bad ≡ true) × IsUnder most taken place d.bytes)

abbrev pub IsCutShort : ℕ → Place → Option (List ℕ) → Type 0
IsCutShort len place told = IfSome (data_of place told) (λ d. (reaches len d ≡ false) × (d.bad ≡ false))

never_bad : (len most taken n : ℕ) (told : Option (List ℕ)) → IsCutBadly len most taken (at.Exact n) told → IsCutShort len (at.Exact n) told
never_bad len most taken n None bad = bad
never_bad len most taken n (Some bytes) bad = absurd (let good : (data_from bytes (at.Exact n)).bad ≡ false = good_by_length bytes n in let is : (data_from bytes (at.Exact n)).bad ≡ true = bad.1 in cc)

pub not_bad : (plan : BodyPlan) (ends : List Endpoint) (len most taken : ℕ) (place : Place) (told : Option (List ℕ)) → place ≡ start_of plan → len ≡ first_len plan ends
    → (len ≡ 0 → ⊥) → IsCutBadly len most taken place told → IsCutShort (first_len plan ends) place told
not_bad plan_is.None ends len most taken place told start is some bad = absurd (some is)
not_bad plan_is.Chunked ends len most taken place told start is some bad = absurd (some is)
not_bad (plan_is.Exact n) ends len most taken place told start is some bad =
    subst (λ (k : ℕ). IsCutShort k place told) is
    (subst (λ (p : Place). IsCutShort len p told) (sym start) (never_bad len most taken n told (subst (λ (p : Place). IsCutBadly len most taken p told) start bad)))

pub not_limited : (plan : BodyPlan) (ends : List Endpoint) (len : ℕ) (place : Place) → place ≡ start_of plan → len ≡ first_len plan ends
    → (len ≡ 0 → ⊥) → is_limited place ≡ true → ⊥
not_limited plan_is.None ends len place start is some limited = some is
not_limited plan_is.Chunked ends len place start is some limited = some is
not_limited (plan_is.Exact n) ends len place start is some limited =
    let same : is_limited (at.Exact n) ≡ true = sym (ap is_limited start) ∙ limited in cc

-- ---- a take of the first piece

pub takes_first : (len : ℕ) (s n : BodyMoment) (first : List ℕ) → TakesPiece s n len first → taken_of s.body ≡ 0 → len ≤ 18446744073709551615
    → TakesFirst len (record { body = s.body; unread = unread_at s }) (record { body = n.body; unread = unread_at n }) first
takes_first len s n first took none within = record {
  piece = took.next;
  short = took.within;
  left = took.left;
  takes = record {
    uses = took.on.uses;
    counted = omega (arith, took.on.taken, took.within, none, within);
    going = took.on.goes_on;
    most = took.on.most;
  };
}

cut_by : (len most taken : ℕ) (place : Place) (told : Option (List ℕ))
    → IfSome (data_of place told) (λ d. (reaches len d ≡ false) × (d.bad ≡ false) × IsUnder most taken place d.bytes) → IsCutShort len place told
cut_by len most taken place None is = is
cut_by len most taken place (Some bytes) is = (is.0, is.1)

pub fails_first : (plan : BodyPlan) (ends : List Endpoint) (len : ℕ) (s n : BodyMoment) (why : BodyFault) → MeetsFault s n (Next len) why → place_of s.body ≡ start_of plan
    → len ≡ first_len plan ends → (len ≡ 0 → ⊥) → failed_of s.body ≡ None
    → IsFirstFailure (first_len plan ends) (record { body = s.body; unread = unread_at s }) s.client.faults n.client.faults (end_by why)
fails_first plan ends len s n fault.Truncated met start is some going =
    subst (λ (k : ℕ). IsCutShort k (place_of s.body) (unread_at s)) is (cut_by len (most_of s.body) (taken_of s.body) (place_of s.body) (unread_at s) (met.truncated refl going))
fails_first plan ends len s n fault.BadChunk met start is some going =
    not_bad plan ends len (most_of s.body) (taken_of s.body) (place_of s.body) (unread_at s) start is some (met.bad refl going)
fails_first plan ends len s n fault.TooLong met start is some going =
    absurd (not_limited plan ends len (place_of s.body) start is some (met.too_long refl going).0)
fails_first plan ends len s n fault.Fault met start is some going = met.fault refl going
fails_first plan ends len s n fault.NoMemory met start is some going = tt

-- where no read failed the count of faults stands
pub calm_first : (len : ℕ) (s n : BodyMoment) (why : BodyFault) (end : ExchangeEnd) → MeetsFault s n (Next len) why → end ≡ end_by why
    → IsCalmExchange end → n.client.faults ≡ s.client.faults
calm_first len s n fault.Truncated end met is calm = met.steady tt
calm_first len s n fault.BadChunk end met is calm = met.steady tt
calm_first len s n fault.TooLong end met is calm = met.steady tt
calm_first len s n fault.Fault end met is calm = absurd (subst IsCalmExchange is calm)
calm_first len s n fault.NoMemory end met is calm = met.steady tt

pub uses_first : (len : ℕ) (s n : BodyMoment) (why : BodyFault) → MeetsFault s n (Next len) why
    → IsUsed (record { body = s.body; unread = unread_at s }) (record { body = n.body; unread = unread_at n })
uses_first len s n why met = record { gone = met.gone; used = met.used; most = met.most }
