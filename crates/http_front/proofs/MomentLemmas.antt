-- A call on a body between two moments: a piece was taken, the rest was passed, or the first fault was met.
use Rattle.std.proofs.Common.{◌≡◌, ℕ, ◌≤◌, false, List, [], Option, Some, None, IfSome, length, refl, sym, ap, subst, ◌∙◌, arith}
use Rattle.jk_io.specs.Told.{Rose}
use Rattle.jk_io.proofs.ToldLaws.{prepended-nil}
use Rattle.http_front.specs.Faults.{IsNoFailure}
use Rattle.http_front.specs.State.{place_of, taken_of, most_of, failed_of}
use Rattle.http_front.specs.Takes.{BodyMoment, unread_at, decides, TakesPiece, PassesRest, MeetsFault}
use Rattle.http_front.specs.Walks.{Walks, Passes, Fails, Breaks, is_reached, counted}
use Rattle.http_front.specs.Wants.{Want, Next, Rest}
use Rattle.http_front.specs.declared.fault.BodyFault.{BodyFault}
use Rattle.http_front.specs.declared.fault.BodyFault.TheVariants as faults
use Rattle.http_front.proofs.QuietLemmas.{fails-awaited, breaks-awaited}
use Rattle.http_front.proofs.TakeLemmas.{takes-piece, takes-left, passes-data, ends-short, breaks-badly, too-long, skips-short, skips-badly, skips-long}

-- what stays beside what a call uses
pub record Keeps (b a : BodyMoment) : Type 0 where
  pub going : failed_of b.body ≡ None
  pub most : most_of a.body ≡ most_of b.body
  pub sent : a.client.sent ≡ b.client.sent

-- a piece was taken
pub piece-taken : (b a : BodyMoment) (n : ℕ) (piece : List ℕ) → Keeps b a → Walks (most_of b.body) (taken_of b.body) n (unread_at b) (unread_at a) (place_of b.body) (place_of a.body) piece
    → failed_of a.body ≡ None → taken_of a.body ≡ counted (taken_of b.body) (length piece) → a.client.faults ≡ b.client.faults → TakesPiece b a n piece
piece-taken b a n piece keeps walks goes_on taken steady = record {
  on = record {
    uses = walks.uses;
    taken = taken;
    below = walks.limit;
    going = keeps.going;
    goes_on = goes_on;
    most = keeps.most;
    sent = keeps.sent;
    steady = steady;
  };
  next = takes-piece _ _ n (unread_at b) (unread_at a) (place_of b.body) (place_of a.body) piece walks;
  within = walks.within;
  left = takes-left _ _ n (unread_at b) (unread_at a) (place_of b.body) (place_of a.body) piece walks;
  under = ap (is_reached (place_of a.body) (most_of b.body)) taken ∙ walks.under;
}

-- the rest was passed
pub rest-passed : (b a : BodyMoment) → Keeps b a → Passes (most_of b.body) (taken_of b.body) (unread_at b) (unread_at a) (place_of b.body) (place_of a.body) (taken_of a.body)
    → failed_of a.body ≡ None → a.client.faults ≡ b.client.faults → PassesRest b a
rest-passed b a keeps passes goes_on steady = record {
  data' = passes.data';
  on = record {
    uses = passes.uses;
    taken = passes.counts;
    below = passes.below;
    going = keeps.going;
    goes_on = goes_on;
    most = keeps.most;
    sent = keeps.sent;
    steady = steady;
  };
  over = passes.whole;
  left = passes-data _ _ (unread_at b) (unread_at a) (place_of b.body) (place_of a.body) (taken_of a.body) passes;
  limit = passes.limit;
}

-- the first fault was met, and how the client stands
pub record Breaking (b a : BodyMoment) (why : BodyFault) : Type 0 where
  pub keeps : Keeps b a
  pub failed : failed_of a.body ≡ Some why
  pub taken : taken_of a.body ≡ taken_of b.body
  pub place : place_of a.body ≡ place_of b.body
  pub fault : why ≡ faults.Fault → Rose b.client.faults a.client.faults
  pub steady : IsNoFailure why → a.client.faults ≡ b.client.faults
  pub no_fewer : b.client.faults ≤ a.client.faults

first-fault : (o : Option BodyFault) (P : BodyFault → Type 0) → o ≡ None → IfSome o P
first-fault None P none = tt
first-fault (Some why) P none = absurd (cc)

pub piece-failed : (b a : BodyMoment) (n : ℕ) (why : BodyFault) → Breaking b a why → Fails (most_of b.body) (taken_of b.body) n (unread_at b) (unread_at a) (place_of b.body) why
    → MeetsFault b a (Next n) why
piece-failed b a n why breaking fails =
    let P : BodyFault → Type 0 = λ e. Fails (most_of b.body) (taken_of b.body) n (unread_at b) (unread_at a) (place_of b.body) e in
    record {
      failed = breaking.failed;
      again = first-fault (failed_of b.body) _ breaking.keeps.going;
      gone = fails.breaks.uses.gone;
      used = fails.breaks.uses.used;
      truncated = λ is going. ends-short _ _ n (unread_at b) (unread_at a) (place_of b.body) (subst P is fails);
      bad = λ is going. breaks-badly _ _ n (unread_at b) (unread_at a) (place_of b.body) (subst P is fails);
      too_long = λ is going. too-long _ _ n (unread_at b) (unread_at a) (place_of b.body) (subst P is fails);
      fault = λ is going. breaking.fault is;
      awaited = λ is going. piece-awaited why is fails;
      steady = breaking.steady;
      no_fewer = breaking.no_fewer;
      taken = breaking.taken;
      place = breaking.place;
      most = breaking.keeps.most;
      sent = breaking.keeps.sent;
    }
  where
    piece-awaited : (e : BodyFault) → e ≡ faults.Fault → (f : Fails (most_of b.body) (taken_of b.body) n (unread_at b) (unread_at a) (place_of b.body) e)
        → decides (Next n) b.body f.breaks.uses.gone ≡ false
    piece-awaited faults.Fault is f = fails-awaited _ _ n (unread_at b) (unread_at a) (place_of b.body) f
    piece-awaited faults.Truncated is f = absurd (cc)
    piece-awaited faults.BadChunk is f = absurd (cc)
    piece-awaited faults.TooLong is f = absurd (cc)
    piece-awaited faults.NoMemory is f = absurd (cc)

pub rest-failed : (b a : BodyMoment) (why : BodyFault) → Breaking b a why → Breaks (most_of b.body) (taken_of b.body) (unread_at b) (unread_at a) (place_of b.body) why
    → MeetsFault b a Rest why
rest-failed b a why breaking breaks =
    let P : BodyFault → Type 0 = λ e. Breaks (most_of b.body) (taken_of b.body) (unread_at b) (unread_at a) (place_of b.body) e in
    record {
      failed = breaking.failed;
      again = first-fault (failed_of b.body) _ breaking.keeps.going;
      gone = breaks.uses.gone;
      used = breaks.uses.used;
      truncated = λ is going. skips-short _ _ (unread_at b) (unread_at a) (place_of b.body) (subst P is breaks);
      bad = λ is going. skips-badly _ _ (unread_at b) (unread_at a) (place_of b.body) (subst P is breaks);
      too_long = λ is going. skips-long _ _ (unread_at b) (unread_at a) (place_of b.body) (subst P is breaks);
      fault = λ is going. breaking.fault is;
      awaited = λ is going. rest-awaited why is breaks;
      steady = breaking.steady;
      no_fewer = breaking.no_fewer;
      taken = breaking.taken;
      place = breaking.place;
      most = breaking.keeps.most;
      sent = breaking.keeps.sent;
    }
  where
    rest-awaited : (e : BodyFault) → e ≡ faults.Fault → (f : Breaks (most_of b.body) (taken_of b.body) (unread_at b) (unread_at a) (place_of b.body) e)
        → decides Rest b.body f.uses.gone ≡ false
    rest-awaited faults.Fault is f = breaks-awaited _ _ (unread_at b) (unread_at a) (place_of b.body) f
    rest-awaited faults.Truncated is f = absurd (cc)
    rest-awaited faults.BadChunk is f = absurd (cc)
    rest-awaited faults.TooLong is f = absurd (cc)
    rest-awaited faults.NoMemory is f = absurd (cc)

-- a later call answers the first fault
pub fault-again : (b : BodyMoment) (want : Want) (why : BodyFault) → failed_of b.body ≡ Some why → MeetsFault b b want why
fault-again b want why was = record {
  failed = was;
  again = (let P : Option BodyFault → Type 0 = λ o. IfSome o (λ first. (why ≡ first) × (b ≡ b)) in subst P (sym was) (refl, refl));
  gone = [];
  used = sym (prepended-nil (unread_at b));
  truncated = λ is going. absurd (none was going);
  bad = λ is going. absurd (none was going);
  too_long = λ is going. absurd (none was going);
  fault = λ is going. absurd (none was going);
  awaited = λ is going. absurd (none was going);
  steady = λ calm. refl;
  no_fewer = omega arith;
  taken = refl;
  place = refl;
  most = refl;
  sent = refl;
}
  where
    none : failed_of b.body ≡ Some why → failed_of b.body ≡ None → ⊥
    none one two = (let both : Some why ≡ None = sym one ∙ two in cc)
