use Rattle.std.proofs.Common.{◌≡◌, ℕ, ◌-◌, Bor, List, ◌∷◌, Some, length, drop, suc, sym, ◌∙◌, ap, arith, drop-cons}
use Rattle.std.proofs.lemmas.Map.Text.{hash_map_updates_str}
use Rattle.std.specs.HashMap.{get_by}
use Rattle.std.specs.Map.{update}
use Rattle.std.specs.Str.{bytes_eq}
use Rattle.site_config.specs.declared.config.Named.{Named}
use Rattle.site_config.specs.Places.{named_among}
use Rattle.site_mounts.proofs.BackLemmas.{from_back}
use Rattle.site_mounts.proofs.WorkerLemmas.{table_more}
use Rattle.site_mounts.proofs.workers.table_of.Goals as goal

pub loop-left-preserved : goal.loop-left-preserved
loop-left-preserved c =
    let listed = c.args.listed.now in
    let k = length c.loop-left.left.now - 1 in
    let entry = c.entry-item.result in
    let back = from_back listed c.loop-left.left.now c.loop-left.invariant.within c.loop-left.invariant.left c.in-len1-up.len_at_least in
    let parts : drop k listed ≡ entry ∷ drop (suc k) listed = drop-cons listed k entry back.within ∙ ap (λ (x : List ℕ × Named). x ∷ drop (suc k) listed) (sym (back.item entry c.entry-item.is)) in
    let next : suc k ≡ length c.loop-left.left.now = omega (arith, back.next) in
    let rest = ap (λ (n : ℕ). drop n listed) back.size ∙ parts ∙ ap (λ (n : ℕ). entry ∷ drop n listed) next in
    record {
      within = omega (arith, back.size, back.within);
      left = rw back.size back.front;
      table = λ name.
          let found = λ (key : List ℕ). get_by (λ (k : Bor (List ℕ)). bytes_eq key k.now) c.loop-left.table in
          hash_map_updates_str c.as_slice.result.now c.loop-left.table c.insert.new.self _ c.in_ok-insert.ensures.updates name ∙ ap (λ (key : List ℕ). update bytes_eq found key (Some entry.1) name) c.as_slice.ensures ∙ table_more found entry (drop (length c.loop-left.left.now) listed) name (c.loop-left.invariant.table name) ∙ ap (λ (xs : List (List ℕ × Named)). named_among name xs) (sym rest);
    }
