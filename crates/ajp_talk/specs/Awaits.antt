-- What the link of a talk is told that is waited for: CPong after CPing, and the reply after the request.
use Rattle.std.specs.Prelude.{◌≡◌, ℕ, true, List, [], Result, Ok, Err}
use Rattle.jk_io.specs.declared.failures.NoMemory.{NoMemory}
use Rattle.jk_io.specs.declared.traits.streams.Awaited.{Awaited}
use Rattle.jk_io.specs.declared.traits.streams.Awaited.TheVariants as awaited
use Rattle.jk_io.specs.declared.traits.streams.Meanings.{Ghosts}
use Rattle.ajp_wire.specs.Moments.{link_at}
use Rattle.ajp_talk.specs.Moments.{Traffic}
use Rattle.ajp_talk.specs.Owed.{opening, ping_of, pong_of}
use Rattle.ajp_talk.specs.declared.ending.TalkEnd.{TalkEnd}
use Rattle.ajp_talk.specs.declared.ending.TalkEnd.TheVariants as ends
use Rattle.ajp_talk.specs.declared.plan.TalkPlan.{TalkPlan}

-- Once these bytes had come since a moment and these had gone out, the link was told that this is waited for.
pub record IsAwaitedAfter {L B : Type 0} (told : Ghosts L B) (heard : L → Awaited → L → Type 0) (s : L) (came put : List ℕ) (what : Awaited) : Type 0 where
  pub before : L
  pub after : L
  pub hears : heard before what after
  pub traffic : Traffic (link_at told s) (link_at told after) came put

-- CPong is waited for after CPing where the plan pings, and the reply after CPong and the whole request, each for as long as the
-- plan says.
pub record AwaitsReply {L B : Type 0} (told : Ghosts L B) (heard : L → Awaited → L → Type 0) (plan : TalkPlan) (s : L) : Type 0 where
  pub pong : plan.ping ≡ true → IsAwaitedAfter told heard s [] (ping_of plan) (awaited.Pong plan.limits.pong)
  pub reply : IsAwaitedAfter told heard s (pong_of plan) (opening plan) (awaited.Reply plan.limits.reply)

-- by its end a head of a reply had come, or the client or its body ended the talk after its beginning
abbrev pub HasHeard : Result TalkEnd NoMemory → Type 0
HasHeard (Ok (ends.Done told reuse bytes)) = Unit {0}
HasHeard (Ok (ends.Failed stage cause told bytes)) = stage.headers ≡ true
HasHeard (Ok (ends.ClientGone truncated keep bytes)) = Unit {0}
HasHeard (Ok (ends.BadBody status told passed bytes)) = Unit {0}
HasHeard (Err e) = ⊥
