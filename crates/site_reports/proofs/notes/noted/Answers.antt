use Rattle.std.proofs.Common.{List, ap, ◌++◌, ◌∙◌}
use Rattle.site_config.specs.Entries.{as_properties}
use Rattle.site_reports.specs.Notes.{notes_of, site_kinds}
use Rattle.site_reports.specs.declared.no_effect.WorkersNote.{WorkersNote}
use Rattle.site_reports.proofs.notes.noted.Goals as goal

pub returns : goal.returns
returns c =
    let kinds = site_kinds c.args.config.now in
    let ps = as_properties c.args.lines.now in
    let noted = c.in_ok-put_notes.ensures kinds ps (c.requires, c.in_ok-redirects.ensures) c.in_ok-last.ensures in
    c.from_vec.ensures ∙ noted ∙ ap (λ (before : List WorkersNote). before ++ notes_of kinds ps) c.new-notes.ensures.items
