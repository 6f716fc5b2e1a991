use Rattle.std.proofs.Common.{◌≡◌, ◌+◌, ℕ, List, Ok, Some, arith, sym, ◌∙◌, ap}
use Rattle.std.proofs.lemmas.List.{map-append}
use Rattle.jk_io.specs.Decimals.{trimmed}
use Rattle.site_config.specs.Entries.{as_property, as_properties}
use Rattle.site_config.specs.Lines.{lines}
use Rattle.site_config.specs.Properties.{read_lines, said, with_properties}
use Rattle.site_config.proofs.EntryLemmas.{line_more}
use Rattle.site_config.proofs.first_pass.read_entries.Goals as goal

pub loop-line-preserved-in_ok-push : goal.loop-line-preserved-in_ok-push
loop-line-preserved-in_ok-push c =
    let n = c.loop-line.number + 1 in
    let line = c.in-Some.line.now in
    let front = as_properties c.loop-line.entries.items in
    let says : said c.args.values n (trimmed line) ≡ Ok (Some (as_property c.in-Some-2.entry)) = sym (rw (c.trim.ensures, c.in-Some-2.is) at c.in_ok-entry.ensures) in
    let more = line_more c.args.values n line (lines c.in-Some.behind.now) front (as_property c.in-Some-2.entry) says in
    let split = ap (λ (ls : List (List ℕ)). with_properties front (read_lines c.args.values n ls)) (sym c.in-Some.ensures.some) in
    record {
      few = omega (arith, c.loop-line.invariant.few, c.in_ok-push.ensures.len);
      count = omega (arith, c.loop-line.invariant.count, c.in-Some.ensures.shorter);
      read = rw (c.in_ok-push.ensures.items, map-append) (more ∙ split ∙ c.loop-line.invariant.read);
    }
