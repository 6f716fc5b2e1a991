use Rattle.std.proofs.Common.{◌≡◌, ℕ, List, map, drop, Bor}
use Rattle.site_workers.specs.Settings.{other_at}
use Rattle.site_workers.proofs.member.other_at.Given as goal

-- the place is sought among the routes that are left
abbrev pub invariant-loop-i : goal.invariant-loop-i
invariant-loop-i l = other_at l.index l.text l.i (map (λ (r : Bor (List ℕ)). r.now) (drop l.i l.routes)) ≡ other_at l.index l.text 0 (map (λ (r : Bor (List ℕ)). r.now) l.routes)
