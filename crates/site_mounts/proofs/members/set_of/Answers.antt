use Rattle.std.proofs.Common.{◌≡◌, ℕ, ◌+◌, ◌-◌, ◌*◌, ◌<◌, Bool, List, length, drop, map, Bor, cond, sym, ◌∙◌, ap, arith}
use Rattle.site_mounts.specs.Members.{is_named, set_of}
use Rattle.site_mounts.proofs.BackLemmas.{from_back}
use Rattle.site_mounts.proofs.MemberLemmas.{bit-bool_byte, bit_small, set_of-drop, set_of-fits}
use Rattle.site_mounts.proofs.members.set_of.Goals as goal

pub loop-left-preserved : goal.loop-left-preserved
loop-left-preserved c =
    let members = c.args.members.now in
    let names = map (λ (n : Bor (List ℕ)). n.now) c.args.names.now in
    let k = length c.loop-left.left.now - 1 in
    let member = c.member-item.result in
    let back = from_back members c.loop-left.left.now c.loop-left.invariant.within c.loop-left.invariant.left c.in-len1-up.len_at_least in
    let bit : c.from.result ≡ cond (is_named names member) 1 0 = c.from.ensures ∙ bit-bool_byte c.is_named.result ∙ ap (λ (b : Bool). cond b 1 0) c.is_named.ensures in
    let rest : c.loop-left.set ≡ set_of (drop (k + 1) members) names = rw back.next c.loop-left.invariant.set in
    record {
      within = omega (arith, back.size, back.within);
      left = rw back.size back.front;
      set = rw (back.size, bit, rest) (sym (set_of-drop members names k member back.within (back.item member c.member-item.is)));
    }

small : (set from : ℕ) (b : Bool) → set < 9223372036854775808 → from ≡ cond b 1 0 → from + 2 * set < 18446744073709551616
small set from b h e = omega (arith, bit_small b)

pub overflow_mul-set : goal.overflow_mul-set
overflow_mul-set c =
    let few = set_of-fits c.args.members.now (map (λ (n : Bor (List ℕ)). n.now) c.args.names.now) (length c.loop-left.left.now) c.requires c.in-len1-up.len_at_least in
    let same = c.loop-left.invariant.set in
    omega (arith, few, same)

pub overflow_add-set : goal.overflow_add-set
overflow_add-set c =
    let few = set_of-fits c.args.members.now (map (λ (n : Bor (List ℕ)). n.now) c.args.names.now) (length c.loop-left.left.now) c.requires c.in-len1-up.len_at_least in
    let same = c.loop-left.invariant.set in
    let bit = c.from.ensures ∙ bit-bool_byte c.is_named.result in
    let at_most = bit_small c.is_named.result in
    omega (arith, few, same, bit, at_most)
