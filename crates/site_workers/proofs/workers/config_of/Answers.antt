use Rattle.site_config.specs.Entries.{as_properties}
use Rattle.site_workers.specs.Lists.{firsts, site_list}
use Rattle.site_workers.specs.Site.{no_workers}
use Rattle.site_workers.proofs.DraftLemmas.{sound_builds, sound_start}
use Rattle.site_workers.proofs.workers.config_of.Goals as goal

pub invariant_of-result-clause-few : goal.invariant_of-result-clause-few
invariant_of-result-clause-few c =
    let ps = as_properties c.args.given.now.entries.now in
    (sound_builds ps c.args.given.now.maintain (firsts (site_list ps)) no_workers _ c.in_ok-lbs.ensures.ok sound_start).few

pub invariant_of-result-clause-placed : goal.invariant_of-result-clause-placed
invariant_of-result-clause-placed c =
    let ps = as_properties c.args.given.now.entries.now in
    (sound_builds ps c.args.given.now.maintain (firsts (site_list ps)) no_workers _ c.in_ok-lbs.ensures.ok sound_start).placed
