-- Surroundings that were lent come back: a fact of the struct is one of each value by itself.
use Rattle.std.proofs.Common.{◌≡◌, ◌≤◌, ℕ, List, Option, Some, slice_get, refl, sym, ap, ◌∙◌, subst, arith}
use Rattle.jk_io.specs.declared.reaching.Beside.{Beside}
use Rattle.jk_io.specs.declared.traits.streams.Meanings.{Ghosts}
use Rattle.http_front.specs.declared.body.BodyIn.{BodyIn}
use Rattle.site_config.specs.declared.balancer.Lb.{Lb}
use Rattle.ajp_talk.specs.Moments.{KeepsLink}
use Rattle.lb_book.specs.Desks.{DeskState}
use Rattle.exchange.specs.Requests.{Errand}
use Rattle.exchange.specs.declared.ending.ExchangeEnd.{ExchangeEnd}
use Rattle.client_session.specs.Answers.{IsForwardedAt}
use Rattle.client_session.specs.Parts.{HasParts}
use Rattle.client_session.specs.Requests.{Visit}
use Rattle.client_session.specs.Standings.{ClientStanding, standing}
use Rattle.client_session.specs.declared.ending.SessionEnd.{SessionEnd}

-- what stayed as it was has no fewer faults
pub no_fewer_at : {T : Type 0} (faults : T → ℕ) (s n : T) → n ≡ s → faults s ≤ faults n
no_fewer_at faults s n same = let as_many = ap faults same in omega arith

-- a link of which nothing was asked
pub keeps_still : {L B : Type 0} (told : Ghosts L B) (s : L) → KeepsLink told s s
keeps_still told s = record { beside = refl; no_fewer = no_fewer_at told.faults s s refl }

-- what was asked of it twice
pub keeps_link_twice : {L B : Type 0} (told : Ghosts L B) (s m n : L) → KeepsLink told s m → KeepsLink told m n → KeepsLink told s n
keeps_link_twice told s m n first second = record { beside = second.beside ∙ first.beside; no_fewer = omega (arith, first.no_fewer, second.no_fewer) }

-- what fell at no step fell at none of two
pub no_fewer_twice : (before mid now : ℕ) → before ≤ mid → mid ≤ now → before ≤ now
no_fewer_twice before mid now first second = omega arith

-- the same of a request that was forwarded
pub forwarded_back : {B K R C X : Type 0} (state : B → DeskState) (answers : K → Option (List ℕ)) (of_reach : Ghosts R Beside) (of_client : Ghosts C X)
    (desk : B) (clock : K) (reach reach' : R) (client client' : C) (inbox inbox' : List ℕ) (v : Visit) (q q' : Errand) (s : ClientStanding) (body after after' : BodyIn) (end : ExchangeEnd)
    → reach' ≡ reach → client' ≡ client → inbox' ≡ inbox → after' ≡ after → q ≡ q'
    → IsForwardedAt v q s (standing state answers of_reach of_client desk clock reach client inbox) body after end
    → IsForwardedAt v q' s (standing state answers of_reach of_client desk clock reach' client' inbox') body after' end
forwarded_back state answers of_reach of_client desk clock reach reach' client client' inbox inbox' v q q' s body after after' end is_reach is_client is_inbox is_after is_errand did =
    subst (λ (x : Errand). IsForwardedAt v x s (standing state answers of_reach of_client desk clock reach' client' inbox') body after' end) is_errand
    (rw (is_reach, is_client, is_inbox, is_after) did)

-- two balancers at one place are one
pub same_balancer : (lbs : List Lb) (lb : ℕ) (a b : Lb) → slice_get lbs lb ≡ Some a → slice_get lbs lb ≡ Some b → a ≡ b
same_balancer lbs lb a b here there = let both : Some a ≡ Some b = sym here ∙ there in cc

-- what a client has, whatever was read and not used
pub parts_at : (v : Visit) (s n : ClientStanding) (i j : List ℕ) (end : SessionEnd) → HasParts v s n end → HasParts v (record s { inbox = i }) (record n { inbox = j }) end
parts_at v s n i j end has = record {
  number = has.number;
  parts = has.parts;
  are = has.are;
  last = has.last;
  last_talks = has.last_talks;
  date = has.date;
  told = has.told;
  is_last = has.is_last;
  left = has.left;
  used = has.used;
  written = has.written;
  talks = has.talks;
}
