use Rattle.std.proofs.Common.{length}
use Rattle.std.proofs.lemmas.List.{length-map}
use Rattle.site_config.specs.Entries.{as_property, as_properties}
use Rattle.site_workers.proofs.WayLemmas.{fresh_rows}
use Rattle.site_workers.proofs.workers.drafted.Goals as goal

pub add_workers-requires : goal.add_workers-requires
add_workers-requires c =
    let entries = c.args.given.now.entries.now in
    record { rows = fresh_rows (as_properties entries) (length entries) c.args.given.now.names.now c.in_ok-rows.rows.items (length-map entries as_property) c.in_ok-rows.ensures }
