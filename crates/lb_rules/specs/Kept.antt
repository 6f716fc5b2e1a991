-- Weights as they are kept: a load stays as it was put, and is halved when it is looked at.
use Rattle.std.specs.Prelude.{ℕ, ◌-◌, ◌≤◌, List, All, map}
use Rattle.lb_model.specs.Loads.{halved}
use Rattle.lb_rules.specs.declared.weight.Weight.{Weight}
use Rattle.lb_rules.specs.declared.weight.KeptWeight.{KeptWeight}

-- The weight where there have been this many halvings by now: as many were done since it was put as come after its stamp.
abbrev pub weight_now : (halvings : ℕ) → KeptWeight → Weight
weight_now halvings kept = record { distance = kept.distance; load = halved kept.load (halvings - kept.stamp) }

abbrev pub weights_now : (halvings : ℕ) → List KeptWeight → List Weight
weights_now halvings kept = map (weight_now halvings) kept

-- The same weight, kept for a count of halvings that begins anew.
abbrev pub settled : (halvings : ℕ) → KeptWeight → KeptWeight
settled halvings kept =
    record { distance = kept.distance; load = halved kept.load (halvings - kept.stamp); stamp = 0 }

-- No stamp lies ahead.
abbrev pub AreStamped : (halvings : ℕ) → List KeptWeight → Type 0
AreStamped halvings kept = All (λ one. one.stamp ≤ halvings) kept
