use Rattle.std.proofs.Common.{rules, ◌≡◌, ◌<◌, ◌^◌, ◌+◌, ◌*◌, ◌≤◌, length, get_or, arith}
use Rattle.std.proofs.lemmas.Grind.{common_steps}
use Rattle.std.specs.Char.{digit_value}
use Rattle.std.specs.Str.Parse.{digits_value}
use Rattle.journal_text.proofs.WideLemmas.{too_wide}
use Rattle.journal_text.proofs.wide.read_digits.Goals as goal

pub returns-in_err-checked_mul : goal.returns-in_err-checked_mul
returns-in_err-checked_mul c =
    let v = c.loop-byte.value in
    let i = c.loop-byte.byte-index in
    let text = c.args.text.now in
    let inside : i < length text = c.loop-byte-test.true in
    let wide : 2 ^ 128 ≤ v * 10 + digit_value (get_or text i 0) = omega (arith, c.in_err-checked_mul.ensures) in
    rw c.from_residual-in_err-checked_mul.ensures (too_wide v text i inside wide c.loop-byte.invariant.value)

pub returns-in_err-value : goal.returns-in_err-value
returns-in_err-value c =
    let v = c.loop-byte.value in
    let i = c.loop-byte.byte-index in
    let text = c.args.text.now in
    let inside : i < length text = c.loop-byte-test.true in
    let wide : 2 ^ 128 ≤ v * 10 + digit_value (get_or text i 0) =
    grind (arith, c.in_err-value.ensures, c.in_ok-checked_mul.ensures, c.from-digit.ensures, c.in_ok-digit.ensures) in
    rw c.from_residual-in_err-value.ensures (too_wide v text i inside wide c.loop-byte.invariant.value)

pub returns : goal.returns
returns c =
    let i = c.loop-byte.byte-index in
    let text = c.args.text.now in
    let at_end : i ≡ length text = omega arith in
    let same : c.loop-byte.value ≡ digits_value 10 text = grind (arith, common_steps, at_end, c.loop-byte.invariant.value) in (
      record {
        some = grind (arith, common_steps);
        digits = c.loop-byte.invariant.back (rw at_end (search (rules, common_steps)));
        small = omega (arith, same, c.loop-byte.invariant.small);
      },
      same,
    )
