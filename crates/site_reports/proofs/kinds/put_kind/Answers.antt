use Rattle.std.proofs.Common.{ℕ, Bor, List, ◌∙◌}
use Rattle.std.proofs.lemmas.Map.Text.{hash_map_updates_str}
use Rattle.std.specs.HashMap.{get_by}
use Rattle.std.specs.Str.{bytes_eq}
use Rattle.site_reports.proofs.KindLemmas.{kind_put}
use Rattle.site_reports.proofs.kinds.put_kind.Goals as goal

pub returns : goal.returns
returns c = λ kinds table name.
    let found = λ (key : List ℕ). get_by (λ (k : Bor (List ℕ)). bytes_eq key k.now) c.args.table.now in
    hash_map_updates_str c.args.name.now c.args.table.now c.insert.new.self _ c.in_ok-insert.ensures.updates name
    ∙ kind_put found name kinds (c.args.name.now, c.args.kind) (table name)
