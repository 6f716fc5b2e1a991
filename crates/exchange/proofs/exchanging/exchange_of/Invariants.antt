-- Members were tried, and another one is to be asked for.
use Rattle.std.proofs.Common.{◌-◌, ◌^◌}
use Rattle.exchange.specs.Awaits.{AwaitsRounds}
use Rattle.exchange.specs.Keeping.{KeepsMeans}
use Rattle.exchange.specs.Means.{scene_of}
use Rattle.exchange.specs.Requests.{errand_of}
use Rattle.exchange.proofs.ExchangeLaws.{IsSearching}
use Rattle.exchange.proofs.exchanging.exchange_of.Given as goal

abbrev pub invariant-loop-member : goal.invariant-loop-member
invariant-loop-member g l = record {
  way : IsSearching (errand_of l.request) l.first
      (scene_of g.B.Desk.state g.K.Clock.answers g.R.Meanings g.C.Meanings l.initial.means)
      (scene_of g.B.Desk.state g.K.Clock.answers g.R.Meanings g.C.Meanings l.means)
      l.ask l.fresh;
  kept : KeepsMeans g.B.Desk.state g.R.Meanings g.C.Meanings l.request l.initial.means l.means;
  awaits : AwaitsRounds g.R.Meanings g.R.Link.heard l.request l.initial.means l.means;
}

abbrev pub decreases-loop-member : goal.decreases-loop-member
decreases-loop-member g l = 2 ^ 64 - l.ask.tried
