-- What a link is told that is waited for, by what had come and gone by then.
use Rattle.std.proofs.Common.{◌≡◌, ℕ, true, false, [], ◌∷◌, ap}
use Rattle.jk_io.specs.declared.failures.NoMemory.{NoMemory}
use Rattle.jk_io.specs.declared.traits.streams.Awaited.{Awaited}
use Rattle.jk_io.specs.declared.traits.streams.Meanings.{Ghosts}
use Rattle.ajp_wire.specs.Moments.{link_at}
use Rattle.ajp_wire.specs.Packet.{packet}
use Rattle.ajp_talk.specs.Awaits.{HasHeard, IsAwaitedAfter}
use Rattle.ajp_talk.specs.Courses.{fresh}
use Rattle.ajp_talk.specs.Ends.{unanswered_end}
use Rattle.ajp_talk.specs.Owed.{opening, ping_of, pong_of, request_of}
use Rattle.ajp_talk.specs.Turns.{IsPingAnswered, Sends}
use Rattle.ajp_talk.specs.declared.course.Course.{Course}
use Rattle.ajp_talk.specs.declared.plan.TalkPlan.{TalkPlan}
use Rattle.ajp_talk.specs.declared.turn.Unheard.{Unheard}
use Rattle.ajp_talk.specs.declared.turn.Unheard.TheVariants as unheard_is
use Rattle.ajp_talk.proofs.AskLaws.{traffic-none, traffic-sent}
use Rattle.ajp_talk.proofs.GreetingLaws.{ping-is}

module _ {L B : Type 0} (told : Ghosts L B) (heard : L → Awaited → L → Type 0) (plan : TalkPlan) (s before after : L) (what : Awaited) (count sent : ℕ) where
  pub pong_awaited : plan.ping ≡ true → Sends (link_at told s) (link_at told before) count sent (packet false (10 ∷ [])) → heard before what after
      → link_at told after ≡ link_at told before → IsAwaitedAfter told heard s [] (ping_of plan) what
  pong_awaited pings sends hears same = record {
    before = before;
    after = after;
    hears = hears;
    traffic = rw (same, ping-is plan pings) (traffic-sent _ _ _ [] [] _ count sent (traffic-none (link_at told s)) sends);
  }

  pub reply_awaited : (mid : L) (received : ℕ) → IsPingAnswered plan (link_at told s) (link_at told mid) count received
      → Sends (link_at told mid) (link_at told before) count sent (request_of plan) → heard before what after
      → link_at told after ≡ link_at told before → IsAwaitedAfter told heard s (pong_of plan) (opening plan) what
  reply_awaited mid received answered sends hears same = record {
    before = before;
    after = after;
    hears = hears;
    traffic = rw same (traffic-sent _ _ _ (pong_of plan) (ping_of plan) _ count sent answered.traffic sends);
  }

-- ---- nothing of a reply had come

pub unanswered_unheard : (want : NoMemory) (sent received : ℕ) (why : Unheard) → HasHeard (unanswered_end want sent received why) → ⊥
unanswered_unheard want sent received unheard_is.Line heard = absurd cc
unanswered_unheard want sent received unheard_is.Ended heard = absurd cc
unanswered_unheard want sent received unheard_is.Wrong heard = absurd cc
unanswered_unheard want sent received unheard_is.TooLong heard = absurd cc
unanswered_unheard want sent received unheard_is.NoMemory heard = heard

pub fresh-headers : (plan : TalkPlan) (c : Course) (sent received : ℕ) → c ≡ fresh plan sent received → c.headers ≡ true → ⊥
fresh-headers plan c sent received is headers = let none = ap (λ (k : Course). k.headers) is in absurd cc
