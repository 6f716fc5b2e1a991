-- Members within their ranges: no factor is 0.
use Rattle.std.proofs.Common.{◌<◌, ◌≤◌, List, All, get_or, arith}
use Rattle.std.proofs.lemmas.List.Elements.{All-map}
use Rattle.std.proofs.lemmas.Option.{slice_get-get_or}
use Rattle.lb_model.specs.Ranges.{AreInRange, factors_in}
use Rattle.lb_model.specs.declared.member.MemberConfig.{MemberConfig}

-- No factor is 0.
pub factors_above : (ms : List MemberConfig) → AreInRange ms → All (λ f. 0 < f) (factors_in ms)
factors_above ms in_range =
    All-map (λ f. 0 < f) (λ (m : MemberConfig). m.factor) ms
    (λ k d lt.
    let above : 1 ≤ (get_or ms k d).factor =
    (in_range.at k (get_or ms k d) (slice_get-get_or ms k d lt)).factor_above in
    omega arith)
