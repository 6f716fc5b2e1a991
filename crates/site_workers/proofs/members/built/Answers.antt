use Rattle.std.proofs.Common.{ℕ, List, map, arith, Bor}
use Rattle.site_config.specs.Entries.{as_properties}
use Rattle.site_workers.proofs.BuiltLemmas.{built_more}
use Rattle.site_workers.proofs.members.built.Goals as goal

pub loop-i-preserved : goal.loop-i-preserved
loop-i-preserved c =
    let routes = map (λ (r : Bor (List ℕ)). r.now) c.args.routes.now in
    rw (c.in_ok-push.ensures.items, c.in_ok-push-2.ensures.items) (built_more (as_properties c.args.entries.now) routes c.args.members.now c.args.rows.now c.loop-i.configs.items c.loop-i.ends.items c.loop-i.i _ _ c.in_ok-member.member c.in_ok-end.end (omega arith) c.requires.rows c.loop-i.invariant c.in_ok-member.ensures c.in_ok-end.ensures)
