use Rattle.std.proofs.Common.{◌≡◌, ◌++◌, map, take, drop}
use Rattle.std.specs.Option.{option_map}
use Rattle.site_workers.specs.Settings.{shared}
use Rattle.site_workers.proofs.member.share_secret.Given as goal

-- the members so far have the secret, the others are as they were
abbrev pub invariant-loop-end : goal.invariant-loop-end
invariant-loop-end l =
    l.ends ≡ map (shared (option_map (λ t. t.now) l.common)) (take l.end-index l.initial.ends) ++ drop l.end-index l.initial.ends
