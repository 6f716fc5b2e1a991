-- How many clients of a site may wait, by how many descriptors the process may have.
use Rattle.std.specs.Prelude.{ℕ, ◌+◌, ◌-◌, ◌*◌, Option, Some, None, length, max, min, sum_by}
use Rattle.site_config.specs.declared.config.Config.{Config}

-- how many members all balancers of a site have
abbrev pub members_in : Option Config → ℕ
members_in None = 0
members_in (Some cfg) = sum_by (λ lb. length lb.ends) cfg.lbs

-- Each worker wants one for the link to its client, and two for links to each member. 64 are for all else: standard streams, files
-- and the listener.
abbrev pub wanted_by : (workers members : ℕ) → ℕ
wanted_by workers members = workers * (1 + 2 * members) + 64

-- Each client that waits takes one of those that are left. 16 may wait at the least, and never more than was asked for.
-- 1,024 allowed, 8 workers over 4 members: 8 * 9 + 64 = 136 are wanted, and 888 clients may wait, or fewer where that was asked for.
abbrev pub waiting_by : (allowed : Option ℕ) → (wanted asked : ℕ) → ℕ
waiting_by None wanted asked = asked
waiting_by (Some allowed) wanted asked = min asked (max 16 (allowed - wanted))
