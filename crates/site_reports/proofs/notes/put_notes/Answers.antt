use Rattle.std.proofs.Common.{◌++◌, ◌∙◌, List, Option, ap, append_assoc, arith, sym, take}
use Rattle.std.specs.List.{flat_map}
use Rattle.site_config.specs.Entries.{as_properties, as_property}
use Rattle.site_config.specs.declared.property_line.PropertyLine.{PropertyLine}
use Rattle.site_reports.specs.Notes.{note_on, note_with}
use Rattle.site_reports.specs.declared.no_effect.NoEffect.{NoEffect}
use Rattle.site_reports.specs.declared.no_effect.WorkersNote.{WorkersNote}
use Rattle.site_reports.proofs.NoteLemmas.{notes_more}
use Rattle.site_reports.proofs.notes.put_notes.Goals as goal

pub loop-line-preserved : goal.loop-line-preserved
loop-line-preserved c = λ kinds ps is are.
    let es = c.args.lines.now in
    let i = c.loop-line.line-index in
    let item = c.line-item.result in
    let before = flat_map (note_on kinds ps) (as_properties (take i es)) in
    c.in_ok-put_why.ensures
    ∙ ap (λ (w : Option NoEffect). c.loop-line.notes.items ++ note_with (as_property item) w) (c.no_effect-why.ensures kinds ps is are)
    ∙ ap (λ (ns : List WorkersNote). ns ++ note_on kinds ps (as_property item)) (c.loop-line.invariant kinds ps is are)
    ∙ append_assoc c.args.notes.now.items before (note_on kinds ps (as_property item))
    ∙ ap (λ (ns : List WorkersNote). c.args.notes.now.items ++ ns)
    (ap (λ (e : PropertyLine). before ++ note_on kinds ps (as_property e)) c.line-item.is ∙ sym (notes_more kinds ps es i item (omega arith)))
