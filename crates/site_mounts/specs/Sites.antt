-- Whether the rules of a map name workers and members of a configuration.
use Rattle.std.specs.Prelude.{ℕ, ◌^◌, Bool, true, List, Option, Some, None, ◌&&◌, nat_lt, length, slice_get}
use Rattle.std.specs.List.{list_all}
use Rattle.lb_model.specs.declared.ask.Terms.{Terms}
use Rattle.site_config.specs.declared.balancer.Lb.{Lb}
use Rattle.site_config.specs.declared.config.Config.{Config}
use Rattle.site_config.specs.declared.config.Named.{Named}
use Rattle.site_config.specs.declared.config.Named.TheVariants as named
use Rattle.site_config.specs.Places.{is_place}
use Rattle.site_mounts.specs.declared.rule.Mount.{Mount}
use Rattle.site_mounts.specs.declared.rule.Rule.{Rule}
use Rattle.site_mounts.specs.declared.rule.Role.{Role}
use Rattle.site_mounts.specs.declared.rule.Role.TheVariants as role

-- a place of the configuration
abbrev pub is_worker : Config → Named → Bool
is_worker config worker = is_place (length config.lbs) (length config.statuses) worker

-- how many members a worker has
abbrev pub member_count : Option Lb → ℕ
member_count None = 0
member_count (Some lb) = length lb.book.members

abbrev pub members_of : Config → Named → ℕ
members_of config (named.Balancer i) = member_count (slice_get config.lbs i)
members_of config (named.Status i) = 0

-- each bit stands for one of `count` members
abbrev pub names_members : ℕ → Terms → Bool
names_members count terms = nat_lt terms.disabled (2 ^ count) && nat_lt terms.stopped (2 ^ count)

-- a mount is at a worker of the configuration, and its terms name that one's members
abbrev pub fits_in : Config → Mount → Bool
fits_in config m = is_worker config m.worker && names_members (members_of config m.worker) m.terms

abbrev pub role_stands_in : Config → Role → Bool
role_stands_in config (role.Mount m) = fits_in config m
role_stands_in config (role.Exclusion None) = true
role_stands_in config (role.Exclusion (Some worker)) = is_worker config worker

-- all that the rules name stands in the configuration
abbrev pub stands_in : Config → List Rule → Bool
stands_in config rules = list_all (λ r. role_stands_in config r.role) rules
