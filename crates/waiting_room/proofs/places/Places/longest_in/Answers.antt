-- All places were gone through.
use Rattle.std.proofs.Common.{◌≡◌, ℕ, length, arith, subst}
use Rattle.waiting_room.specs.Longest.{LongestIn}
use Rattle.waiting_room.proofs.places.Places.longest_in.Goals as goal

pub returns : goal.returns
returns g c =
    let all : c.loop-at.at ≡ length c.args.self.now.places = omega (arith, c.loop-at-test.false, c.loop-at.auto.at-end, c.len-at-end.ensures) in
    subst (λ (n : ℕ). LongestIn c.args.phase c.args.self.now.places n c.loop-at.best) all c.loop-at.invariant
