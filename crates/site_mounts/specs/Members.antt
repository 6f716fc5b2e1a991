-- Members of a balancer by their names.
use Rattle.std.specs.Prelude.{ℕ, ◌+◌, ◌*◌, Bool, List, [], ◌∷◌, Option, Some, None, if◌then◌else◌, slice_get}
use Rattle.std.specs.List.{list_all, list_any}
use Rattle.std.specs.Str.{bytes_eq}
use Rattle.lb_model.specs.declared.member.MemberConfig.{MemberConfig}
use Rattle.site_config.specs.declared.balancer.Lb.{Lb}
use Rattle.site_config.specs.declared.config.Config.{Config}

abbrev pub members_in : Option Lb → List MemberConfig
members_in None = []
members_in (Some lb) = lb.book.members

-- the members of the balancer at this place
abbrev pub members_at : Config → ℕ → List MemberConfig
members_at config i = members_in (slice_get config.lbs i)

abbrev pub is_member : List MemberConfig → List ℕ → Bool
is_member members name = list_any (λ m. bytes_eq m.name name) members

abbrev pub are_members : List MemberConfig → List (List ℕ) → Bool
are_members members names = list_all (is_member members) names

abbrev pub is_named : List (List ℕ) → MemberConfig → Bool
is_named names m = list_any (λ name. bytes_eq name m.name) names

-- the set of the members that have one of these names: bit m stands for member m
abbrev pub set_of : List MemberConfig → List (List ℕ) → ℕ
set_of [] names = 0
set_of (m ∷ members) names = (if is_named names m then 1 else 0) + 2 * set_of members names
