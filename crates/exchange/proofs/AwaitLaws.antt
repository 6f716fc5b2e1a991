-- What is told before each talk, from one moment to a later one.
use Rattle.std.proofs.Common.{◌≡◌, ℕ, Bool, List, [], ◌∷◌, ◌++◌, Option, Some, Result, refl, sym, ap, ◌∙◌, inl, inr, slice_get}
use Rattle.jk_io.specs.Told.{appended}
use Rattle.jk_io.specs.Talks.{failed_talk}
use Rattle.jk_io.specs.declared.failures.NoMemory.{NoMemory}
use Rattle.jk_io.specs.declared.reaching.Beside.{Beside}
use Rattle.jk_io.specs.declared.reaching.Talk.{Talk}
use Rattle.jk_io.specs.declared.traits.streams.Awaited.{Awaited}
use Rattle.jk_io.specs.declared.traits.streams.Meanings.{Ghosts}
use Rattle.ajp_talk.specs.declared.ending.TalkEnd.{TalkEnd}
use Rattle.ajp_talk.specs.declared.plan.TalkPlan.{TalkPlan}
use Rattle.site_config.specs.declared.balancer.Lb.{Lb}
use Rattle.site_config.specs.declared.endpoint.Endpoint.{Endpoint}
use Rattle.exchange.specs.Awaits.{AwaitsDials, HaveAwaited, HearsNext}
use Rattle.exchange.specs.OneTalk.{Around, IsOneTalk, dial_for}
use Rattle.exchange.proofs.GrowLaws.{held_noted, note_of}

-- no talk was noted
pub awaits_none : {R : Type 0} (told : Ghosts R Beside) (heard : R → Awaited → R → Type 0) (lbs : List Lb) (s n : R)
    → (told.beside n).talks ≡ (told.beside s).talks → AwaitsDials told heard lbs s n
awaits_none told heard lbs s n same = record { talks = []; way = same }

noted_then : {R : Type 0} (told : Ghosts R Beside) (heard : R → Awaited → R → Type 0) (lbs : List Lb) (s m : R) (past : List Talk) (n : R)
    → HaveAwaited told heard lbs s past m → (told.beside n).talks ≡ (told.beside m).talks → HaveAwaited told heard lbs s past n
noted_then told heard lbs s m [] n way same = same ∙ way
noted_then told heard lbs s m (talk ∷ past) n (before, what, way, is, next, noted) same = (before, what, way, is, next, same ∙ noted)

noted_on : {R : Type 0} (told : Ghosts R Beside) (heard : R → Awaited → R → Type 0) (lbs : List Lb) (s m : R) (past later : List Talk) (n : R)
    → HaveAwaited told heard lbs s past m → HaveAwaited told heard lbs m later n → HaveAwaited told heard lbs s (later ++ past) n
noted_on told heard lbs s m past [] n way same = noted_then told heard lbs s m past n way same
noted_on told heard lbs s m past (talk ∷ later) n way (before, what, rest, is, next, noted) =
    (before, what, noted_on told heard lbs s m past later before way rest, is, next, noted)

pub awaits_twice : {R : Type 0} (told : Ghosts R Beside) (heard : R → Awaited → R → Type 0) (lbs : List Lb) (s m n : R)
    → AwaitsDials told heard lbs s m → AwaitsDials told heard lbs m n → AwaitsDials told heard lbs s n
awaits_twice told heard lbs s m n first second =
    record { talks = second.talks ++ first.talks; way = noted_on told heard lbs s m first.talks second.talks n first.way second.way }

-- one talk, before which the reach was told how long its dial may take
pub awaits_one : {R : Type 0} (told : Ghosts R Beside) (heard : R → Awaited → R → Type 0) (lbs : List Lb) (s n : R) (balancer : Lb)
    (lb member : ℕ) (endpoint : Endpoint) (plan : TalkPlan) (fresh : Bool) (before after : Around) (answer : Result TalkEnd NoMemory)
    → before.talks ≡ (told.beside s).talks → after.talks ≡ (told.beside n).talks
    → slice_get lbs lb ≡ Some balancer → slice_get balancer.ends member ≡ Some endpoint → HearsNext heard s (dial_for endpoint)
    → IsOneTalk lb member endpoint plan fresh before after answer → AwaitsDials told heard lbs s n
awaits_one told heard lbs s n balancer lb member endpoint plan fresh before after answer first last stands reached next (inl held) = record {
  talks = note_of lb member endpoint plan fresh before after answer held ∷ [];
  way = (
    s,
    dial_for endpoint,
    refl,
    record { balancer = balancer; endpoint = endpoint; stands = stands; reached = reached; limit = refl },
    next,
    sym last ∙ held_noted lb member endpoint plan fresh before after answer held
        ∙ ap (λ (t : Option (List Talk)). appended t (note_of lb member endpoint plan fresh before after answer held ∷ [])) first,
  );
}
awaits_one told heard lbs s n balancer lb member endpoint plan fresh before after answer first last stands reached next (inr (inl linkless)) = record {
  talks = failed_talk lb member endpoint.host endpoint.port fresh ∷ [];
  way = (
    s,
    dial_for endpoint,
    refl,
    record { balancer = balancer; endpoint = endpoint; stands = stands; reached = reached; limit = refl },
    next,
    sym last ∙ linkless.1.noted ∙ ap (λ (t : Option (List Talk)). appended t (failed_talk lb member endpoint.host endpoint.port fresh ∷ [])) first,
  );
}
awaits_one told heard lbs s n balancer lb member endpoint plan fresh before after answer first last stands reached next (inr (inr wanted)) =
    record { talks = []; way = sym last ∙ wanted.2.noted ∙ first }
