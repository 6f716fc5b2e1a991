use Rattle.std.proofs.Common.{length, rules}
use Rattle.site_config.proofs.IgnoredLemmas.{ends_more, keys_more}
use Rattle.site_config.proofs.ignored.IgnoredList.push.Goals as goal

pub invariant_of-self-2 : goal.invariant_of-self-2
invariant_of-self-2 c =
    search (rules, ends_more 0 c.self.inside.ends.items (length c.self.inside.keys.items) c.args.line (length c.args.key.now) c.self.invariant)

pub returns-clause-ok : goal.returns-clause-ok
returns-clause-ok c =
    search (rules, keys_more 0 c.self.inside.keys.items c.args.key.now c.self.inside.ends.items c.args.line c.self.invariant)
