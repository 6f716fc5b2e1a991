use Rattle.std.proofs.Common.{◌++◌, ◌∷◌, [], ◌∙◌, List, ap, arith, rules, subst, sym, take}
use Rattle.site_config.specs.Entries.{as_properties, as_property}
use Rattle.site_config.specs.declared.property.Property.{Property}
use Rattle.site_config.specs.declared.property_line.PropertyLine.{PropertyLine}
use Rattle.site_reports.specs.Again.{IsLineTable}
use Rattle.site_reports.proofs.NoteLemmas.{lines_more}
use Rattle.site_reports.proofs.again.line_table.Goals as goal

pub loop-line-init : goal.loop-line-init
loop-line-init c = λ key. search rules

pub loop-line-preserved : goal.loop-line-preserved
loop-line-preserved c =
    let es = c.args.lines.now in
    let i = c.loop-line.line-index in
    let item = c.line-item.result in
    let so_far = as_properties (take i es) in
    subst (λ (ps : List Property). IsLineTable c.put_line.new.table ps)
    (ap (λ (e : PropertyLine). so_far ++ as_property e ∷ []) c.line-item.is ∙ sym (lines_more es i item (omega arith)))
    (c.in_ok-put_line.ensures so_far c.loop-line.invariant)
