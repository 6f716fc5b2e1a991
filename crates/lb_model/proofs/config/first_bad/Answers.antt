use Rattle.std.proofs.Common.{◌≡◌, ℕ, ◌<◌, Some, length, refl, ◌∙◌, subst, arith, below_more, ◌+◌}
use Rattle.std.specs.Prelude.{slice_get}
use Rattle.std.proofs.lemmas.Option.{slice_get_within, get_or_from_slice_get}
use Rattle.lb_model.specs.Ranges.{IsInRange}
use Rattle.lb_model.specs.declared.member.MemberConfig.{MemberConfig}
use Rattle.lb_model.proofs.config.first_bad.Goals as goal

pub loop-i-preserved : goal.loop-i-preserved
loop-i-preserved c =
    let P : ℕ → Type 0 = λ j. (m : MemberConfig) → slice_get c.args.members.now j ≡ Some m
    → IsInRange (length c.args.members.now) j m in
    let here : P c.loop-i.i = λ m found.
    let same : c.index-members-i.result ≡ m =
    c.index-members-i.is ∙ get_or_from_slice_get c.args.members.now c.loop-i.i m c.index-members-i.result found in
    subst (λ (x : MemberConfig). IsInRange (length c.args.members.now) c.loop-i.i x) same (c.if-not-is_in_range.ensures.value.0 refl) in
    let all : (j : ℕ) → j < c.loop-i.i + 1 → P j = below_more P c.loop-i.i (λ j lt m found. c.loop-i.invariant j m lt found) here in
    λ j m lt found. all j lt m found

pub returns : goal.returns
returns c = record {
  value = record {
    at = λ i m found.
        let within : i < length c.args.members.now = slice_get_within c.args.members.now i m found in
        c.loop-i.invariant i m (omega arith) found;
  };
}
