-- Each exit is one of the ends of a round; a talk after which another is allowed leaves all under way.
use Rattle.std.proofs.Common.{refl, sym, ◌∙◌, arith, inl}
use Rattle.std.proofs.lemmas.Bool.{both_ways}
use Rattle.exchange.proofs.AwaitLaws.{awaits_none, awaits_one, awaits_twice}
use Rattle.exchange.proofs.KeepingLaws.{sides_twice, sides_untouched, talks_again}
use Rattle.exchange.proofs.TalksLaws.{first_taken, goes_on, is_over, is_wanted, no_talk_yet, still_plan}
use Rattle.exchange.proofs.talks.run_talks.Goals as goal

pub loop-end-init : goal.loop-end-init
loop-end-init g c = record {
  way = rw c.in-Ok.ensures.value (no_talk_yet _ _ _ _ _ _ _ c.requires.may.taken c.requires.may.going);
  plan = c.in-Ok.ensures.plan;
  may = rw c.in-Ok.ensures.value c.requires.may;
  kept = sides_untouched _ _ _ c.requires.may.idle;
  awaits = λ reached lbs stands. awaits_none _ _ _ _ _ refl;
}

pub one_talk-requires-clause-may : goal.one_talk-requires-clause-may
one_talk-requires-clause-may g c = c.loop-end.invariant.may

pub one_talk-requires-clause-plan : goal.one_talk-requires-clause-plan
one_talk-requires-clause-plan g c = c.loop-end.invariant.plan

pub returns-in-Err-clause-ran : goal.returns-in-Err-clause-ran
returns-in-Err-clause-ran g c = inl (
  c.in-Ok.ensures.fits,
  is_wanted _ _ _ _ _ _ _ _ _ _ _ _ _ _ c.loop-end.invariant.way c.in-Err.ensures.talk,
)

pub returns-in-Err-clause-kept : goal.returns-in-Err-clause-kept
returns-in-Err-clause-kept g c = sides_twice _ _ _ _ _ c.loop-end.invariant.kept c.one_talk.ensures.kept

pub returns-in-Err-clause-awaits : goal.returns-in-Err-clause-awaits
returns-in-Err-clause-awaits g c = λ reached lbs stands. awaits_twice _ _ _ _ _ _ (c.loop-end.invariant.awaits reached lbs stands)
    (awaits_one g.R.Meanings g.R.Link.heard lbs _ _ _ _ _ _ _ _ _ _ _ refl refl stands reached c.one_talk.ensures.awaits c.one_talk.ensures.talk)

pub returns-then-not-tries_again-clause-ran : goal.returns-then-not-tries_again-clause-ran
returns-then-not-tries_again-clause-ran g c = inl (
  c.in-Ok.ensures.fits,
  is_over _ _ _ _ _ _ _ _ _ _ _ _ _ _ _ c.loop-end.invariant.way c.in-Ok-one_talk.ensures.talk
      (λ again. absurd (both_ways c.tries_again.result c.if-not-tries_again.true (c.tries_again.ensures ∙ again)))
      c.with_talk-bytes.ensures,
)

pub returns-then-not-tries_again-clause-kept : goal.returns-then-not-tries_again-clause-kept
returns-then-not-tries_again-clause-kept g c = sides_twice _ _ _ _ _ c.loop-end.invariant.kept c.one_talk.ensures.kept

pub returns-then-not-tries_again-clause-awaits : goal.returns-then-not-tries_again-clause-awaits
returns-then-not-tries_again-clause-awaits g c = λ reached lbs stands. awaits_twice _ _ _ _ _ _ (c.loop-end.invariant.awaits reached lbs stands)
    (awaits_one g.R.Meanings g.R.Link.heard lbs _ _ _ _ _ _ _ _ _ _ _ refl refl stands reached c.one_talk.ensures.awaits c.one_talk.ensures.talk)

pub returns-then-left-eq0-clause-ran : goal.returns-then-left-eq0-clause-ran
returns-then-left-eq0-clause-ran g c = inl (
  c.in-Ok.ensures.fits,
  is_over _ _ _ _ _ _ _ _ _ _ _ _ _ _ _ c.loop-end.invariant.way c.in-Ok-one_talk.ensures.talk
      (λ again. omega (arith, c.loop-end.invariant.way.some, c.if-left-eq0.true)) c.with_talk-bytes.ensures,
)

pub returns-then-left-eq0-clause-kept : goal.returns-then-left-eq0-clause-kept
returns-then-left-eq0-clause-kept g c = sides_twice _ _ _ _ _ c.loop-end.invariant.kept c.one_talk.ensures.kept

pub returns-then-left-eq0-clause-awaits : goal.returns-then-left-eq0-clause-awaits
returns-then-left-eq0-clause-awaits g c = λ reached lbs stands. awaits_twice _ _ _ _ _ _ (c.loop-end.invariant.awaits reached lbs stands)
    (awaits_one g.R.Meanings g.R.Link.heard lbs _ _ _ _ _ _ _ _ _ _ _ refl refl stands reached c.one_talk.ensures.awaits c.one_talk.ensures.talk)

pub loop-end-preserved : goal.loop-end-preserved
loop-end-preserved g c =
    let way = goes_on _ _ _ _ _ _ _ _ _ _ _ _ _ _ _ _ c.loop-end.invariant.way c.in-Ok-one_talk.ensures.talk
    (sym c.tries_again.ensures ∙ c.if-not-tries_again.false) c.with_talk-bytes.ensures
    (omega (arith, c.loop-end.invariant.way.some, c.if-left-eq0.false)) c.one_talk.ensures.plan in
    record {
      way = way;
      plan = still_plan _ _ c.one_talk.ensures.plan c.loop-end.invariant.plan;
      may = talks_again _ _ _ _ _ _ _ _ c.loop-end.invariant.may c.one_talk.ensures.kept (first_taken _ _ _ _ _ _ _ _ _ _ _ _ way) way.going;
      kept = sides_twice _ _ _ _ _ c.loop-end.invariant.kept c.one_talk.ensures.kept;
      awaits = λ reached lbs stands. awaits_twice _ _ _ _ _ _ (c.loop-end.invariant.awaits reached lbs stands)
          (awaits_one g.R.Meanings g.R.Link.heard lbs _ _ _ _ _ _ _ _ _ _ _ refl refl stands reached c.one_talk.ensures.awaits c.one_talk.ensures.talk);
    }

pub returns-in-Err-TooLarge-clause-awaits : goal.returns-in-Err-TooLarge-clause-awaits
returns-in-Err-TooLarge-clause-awaits g c = λ reached lbs stands. awaits_none _ _ _ _ _ refl

pub returns-in-Err-NoMemory-clause-awaits : goal.returns-in-Err-NoMemory-clause-awaits
returns-in-Err-NoMemory-clause-awaits g c = λ reached lbs stands. awaits_none _ _ _ _ _ refl
