-- The roles of a rule: it mounts paths at a worker, or takes them away from one.
use Rattle.std.specs.Prelude.{Bool, true, false, Option, Some, None, ◌==◌}
use Rattle.site_config.specs.declared.config.Named.{Named}
use Rattle.site_config.specs.declared.config.Named.TheVariants as named
use Rattle.site_mounts.specs.declared.rule.Mount.{Mount}
use Rattle.site_mounts.specs.declared.rule.Role.{Role}
use Rattle.site_mounts.specs.declared.rule.Role.TheVariants as role

abbrev pub same_worker : Named → Named → Bool
same_worker (named.Balancer i) (named.Balancer j) = i == j
same_worker (named.Balancer i) (named.Status j) = false
same_worker (named.Status i) (named.Balancer j) = false
same_worker (named.Status i) (named.Status j) = i == j

-- where a rule mounts, unless it is an exclusion
abbrev pub mount_of : Role → Option Mount
mount_of (role.Mount m) = Some m
mount_of (role.Exclusion of) = None

-- an exclusion of this worker, or of every worker
abbrev pub excludes : Role → Named → Bool
excludes (role.Mount m) worker = false
excludes (role.Exclusion None) worker = true
excludes (role.Exclusion (Some other)) worker = same_worker other worker
