use Rattle.std.proofs.Common.{ℕ, Bor, List, sym, ◌∙◌}
use Rattle.std.proofs.lemmas.Map.Text.{hash_map_updates_str}
use Rattle.std.specs.HashMap.{get_by}
use Rattle.std.specs.Str.{bytes_eq}
use Rattle.site_config.specs.Entries.{as_property}
use Rattle.site_reports.proofs.AgainLemmas.{line_kept, line_put}
use Rattle.site_reports.proofs.again.put_line.Goals as goal

pub returns-in_ok-insert : goal.returns-in_ok-insert
returns-in_ok-insert c = λ ps table key.
    let found = λ (key : List ℕ). get_by (λ (k : Bor (List ℕ)). bytes_eq key k.now) c.args.table.now in
    hash_map_updates_str c.args.entry.now.key.now c.args.table.now c.insert.new.self _ c.in_ok-insert.ensures.updates key
    ∙ line_put found key ps (as_property c.args.entry.now) (sym c.is_single.ensures ∙ c.if-is_single.true) (table key)

pub returns-else-is_single : goal.returns-else-is_single
returns-else-is_single c = λ ps table key.
    table key ∙ line_kept key ps (as_property c.args.entry.now) (sym c.is_single.ensures ∙ c.if-is_single.false)
