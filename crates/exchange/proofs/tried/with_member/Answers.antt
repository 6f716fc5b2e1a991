-- The bit is 0, so the sum is below 2^64.
use Rattle.std.proofs.Common.{◌+◌, ◌<◌, ◌^◌, arith}
use Rattle.std.proofs.Math.Pow.{pow-lt}
use Rattle.exchange.proofs.TriedLaws.{room_for}
use Rattle.exchange.proofs.tried.with_member.Goals as goal

pub overflow_add-result : goal.overflow_add-result
overflow_add-result c =
    let sum : c.args.tried + 2 ^ c.args.member < 2 ^ 64 = room_for c.args.tried c.args.member (omega arith) c.requires.member c.requires.untried in
    let bit : 2 ^ c.args.member < 2 ^ 64 = pow-lt c.requires.member in
    omega (arith, sum, bit)
