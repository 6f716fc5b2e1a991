use Rattle.std.proofs.Common.{ℕ, [], List, sym, subst, take, arith}
use Rattle.site_config.specs.declared.values.WorkerKind.{WorkerKind}
use Rattle.site_config.specs.declared.values.WorkerKind.TheVariants as kind
use Rattle.site_reports.specs.KindTables.{as_kinds, IsKindTable}
use Rattle.site_reports.proofs.KindLemmas.{kinds_more}
use Rattle.site_reports.proofs.kinds.table_of.Goals as goal

pub loop-entry-preserved : goal.loop-entry-preserved
loop-entry-preserved c =
    let kinds = c.args.kinds.now in
    subst (λ (ks : List (List ℕ × WorkerKind)). IsKindTable c.put_kind.new.table ks) (sym (kinds_more kinds c.loop-entry.entry-index (record { ref_ptr = (0, 0); now = [] }, kind.Ajp13) (omega arith)))
    (c.in_ok-put_kind.ensures (as_kinds (take c.loop-entry.entry-index kinds)) c.loop-entry.invariant)
