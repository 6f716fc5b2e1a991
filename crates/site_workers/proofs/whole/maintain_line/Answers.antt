use Rattle.std.proofs.Common.{◌≡◌, true, false, Some, arith, sym, subst, ◌∙◌, ap}
use Rattle.std.specs.Option.{option_map}
use Rattle.site_config.specs.declared.property_line.PropertyLine.{PropertyLine}
use Rattle.site_config.specs.Entries.{as_property}
use Rattle.site_workers.specs.Site.{is_maintain_line}
use Rattle.site_workers.proofs.RowLemmas.{last_put, last_kept}
use Rattle.site_workers.proofs.whole.maintain_line.Goals as goal
use Rattle.site_workers.proofs.whole.maintain_line.Goals.{then-is_maintain, else-is_maintain}

pub loop-entry-preserved : goal.loop-entry-preserved
loop-entry-preserved c =
    let es = c.args.entries.now in
    let i = c.loop-entry.entry-index in
    let item = c.entry-item.result in
    elim c.if-is_maintain.branch [
      | then-is_maintain w ↦
          let yea = subst (λ (x : PropertyLine). is_maintain_line (as_property x) ≡ true) c.entry-item.is (sym c.is_maintain.ensures ∙ w.if-is_maintain.true) in
          rw w.last-is (ap (λ (x : PropertyLine). Some (as_property x)) c.entry-item.is ∙ last_put is_maintain_line es i item (omega arith) yea)
      | else-is_maintain w ↦
          let nay = subst (λ (x : PropertyLine). is_maintain_line (as_property x) ≡ false) c.entry-item.is (sym c.is_maintain.ensures ∙ w.if-is_maintain.false) in
          rw w.last-is (last_kept is_maintain_line es i item (option_map as_property c.loop-entry.last) (omega arith) nay c.loop-entry.invariant)
    ]
