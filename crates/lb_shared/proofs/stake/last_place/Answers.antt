-- From the end, the first place that is the pair is the last one.
use Rattle.std.proofs.Common.{◌≡◌, ◌+◌, ◌-◌, ◌<◌, ℕ, suc, false, length, drop, sym, ◌∙◌, subst, arith}
use Rattle.lb_book.specs.Desks.{holds}
use Rattle.lb_shared.proofs.SharedLaws.{holds_all, holds_drop}
use Rattle.lb_shared.proofs.stake.last_place.Goals as goal

pub loop-back-init : goal.loop-back-init
loop-back-init c = holds_all c.args.held.now c.args.pair (length c.args.held.now - 0) (omega arith)

pub loop-back-preserved : goal.loop-back-preserved
loop-back-preserved c =
    let place : ℕ = length c.args.held.now - 1 - c.loop-back.back in
    let next : length c.args.held.now - c.loop-back.back ≡ suc place = omega (arith, c.loop-back-test.true) in
    let now : length c.args.held.now - (c.loop-back.back + 1) ≡ place = omega (arith, c.loop-back-test.true) in
    let within : place < length c.args.held.now = omega (arith, c.loop-back-test.true) in
    let rest : holds (drop (suc place) c.args.held.now) c.args.pair ≡ false = subst (λ (n : ℕ). holds (drop n c.args.held.now) c.args.pair ≡ false) next c.loop-back.invariant in
    subst (λ (n : ℕ). holds (drop n c.args.held.now) c.args.pair ≡ false) (sym now)
    (holds_drop c.args.held.now c.args.pair (0, 0) place within (sym c.is_pair.ensures ∙ c.if-is_pair.false) rest)

pub returns-then-is_pair : goal.returns-then-is_pair
returns-then-is_pair c =
    let place : ℕ = length c.args.held.now - 1 - c.loop-back.back in
    let next : length c.args.held.now - c.loop-back.back ≡ suc place = omega (arith, c.loop-back-test.true) in
    let within : place < length c.args.held.now = omega (arith, c.loop-back-test.true) in
    (within, sym c.is_pair.ensures ∙ c.if-is_pair.true, subst (λ (n : ℕ). holds (drop n c.args.held.now) c.args.pair ≡ false) next c.loop-back.invariant)

pub returns : goal.returns
returns c =
    let none : length c.args.held.now - c.loop-back.back ≡ 0 = omega (arith, c.loop-back-test.false) in
    subst (λ (n : ℕ). holds (drop n c.args.held.now) c.args.pair ≡ false) none c.loop-back.invariant
