-- When the watch looks, and how it looks at the links of a member.
use Rattle.std.specs.Prelude.{ℕ, ◌/◌, ◌==◌, min, nat_lt, Bool, List, length, map, Option, Some, None, if◌then◌else◌}
use Rattle.jk_io.specs.Looks.{HavePassed}
use Rattle.site_config.specs.declared.balancer.Lb.{Lb}
use Rattle.site_config.specs.declared.endpoint.Endpoint.{Endpoint}
use Rattle.site_config.specs.Limits.{each_pong_limit}
use Rattle.conn_pool.specs.declared.watch.Watch.{Watch}

-- so many seconds passed since the last looks
abbrev pub AreLooksDue : Watch → ℕ → Type 0
AreLooksDue watch now = HavePassed watch.every watch.last now

-- a number of seconds that is set, 0 where it isn't
abbrev pub set_seconds : Option ℕ → ℕ
set_seconds None = 0
set_seconds (Some seconds) = seconds

-- the most looks that a link may stay idle for: those of the seconds that the member's directive gives, else the watch's own
abbrev pub limit_of : Watch → Endpoint → ℕ
limit_of watch end =
    let seconds = set_seconds end.limits.connection_pool_timeout in
    if seconds == 0 then watch.limit else min (seconds / watch.every) 4294967295

-- Idle links of a member are pinged at each look, or at those that pass a multiple of the member's interval.
abbrev pub is_pinged : Endpoint → ℕ → ℕ → Bool
is_pinged end last now =
    let interval = set_seconds end.limits.connection_ping_interval in
    if interval == 0 then end.ping_idle else nat_lt (last / interval) (now / interval)

-- the milliseconds for a CPong, where the links are pinged
abbrev pub ping_of : Endpoint → ℕ → ℕ → Option ℕ
ping_of end last now = if is_pinged end last now then Some (each_pong_limit end.limits) else None

-- the number of members of each balancer
abbrev pub ends_of : List Lb → List ℕ
ends_of lbs = map (λ (lb : Lb). length lb.ends) lbs
