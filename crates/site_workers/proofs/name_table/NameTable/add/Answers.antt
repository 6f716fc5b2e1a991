use Rattle.std.proofs.Common.{◌≡◌, ℕ, List, None, length, map, Bor, arith, ◌++◌, ◌∷◌, []}
use Rattle.std.proofs.lemmas.List.{map-append, length-map}
use Rattle.std.proofs.lemmas.Map.Text.{hash_map_updates_str}
use Rattle.site_workers.specs.Numbers.{number_of}
use Rattle.site_workers.proofs.TableLemmas.{found_after}
use Rattle.site_workers.proofs.name_table.NameTable.add.Goals as goal

pub invariant_of-self-2 : goal.invariant_of-self-2
invariant_of-self-2 c = λ name.
    let updated = hash_map_updates_str c.args.name.now c.self.inside.numbers c.insert.new.self _ c.in_ok-insert.ensures.updates name in
    let key = c.args.name.now in
    let names = map (λ (n : Bor (List ℕ)). n.now) c.self.inside.names.items in
    let number : c.len-number.result ≡ length names = rw length-map (grind arith) in
    let items : c.push.new.self.items ≡ c.self.inside.names.items ++ c.args.name ∷ [] = grind arith in
    let fresh : number_of key names ≡ None = rw c.self.view_is c.requires in
    rw (updated, items, map-append, number, c.self.invariant name) (found_after key name names fresh)
