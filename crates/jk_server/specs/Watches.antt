-- How the workers of a run look after idle links.
use Rattle.std.specs.Prelude.{ℕ, ◌==◌, Option, Some, None, if◌then◌else◌}
use Rattle.conn_pool.specs.declared.watch.Watch.{Watch}
use Rattle.jk_server.specs.declared.runs.parts.WatchPlan.{WatchPlan}

-- the looks that a link may stay idle for: 10 where no number is given
abbrev pub looks_of : Option ℕ → ℕ
looks_of None = 10
looks_of (Some looks) = looks

-- by the seconds between two looks, if these are given
abbrev pub watch_plan : (seconds looks : Option ℕ) → Option WatchPlan
watch_plan None looks = None
watch_plan (Some seconds) looks = Some (record { every = seconds; limit = looks_of looks })

-- the watch that begins at this moment; with no seconds between two looks there is none
abbrev pub watch_at : Option WatchPlan → (at : ℕ) → Option Watch
watch_at None at = None
watch_at (Some plan) at = if plan.every == 0 then None else Some (record { every = plan.every; limit = plan.limit; last = at })
