use Rattle.std.proofs.Common.{◌≢◌, arith}
use Rattle.site_config.proofs.IgnoredLemmas.{start_is}
use Rattle.site_config.proofs.ignored.start_of.Goals as goal

pub returns : goal.returns
returns c =
    let some : c.args.place ≢ 0 = λ e. omega (arith, e, c.if-place-eq0.false) in
    start_is c.args.ends.now c.args.place _ some (omega (arith, c.requires))
