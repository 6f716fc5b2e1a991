-- The member that a request's session ids name.
use Rattle.std.specs.Prelude.{ℕ, List, [], ◌∷◌, position, Option, Some, None, bytes_eq, option_and_then}
use Rattle.std.specs.Option.{option_map}
use Rattle.lb_model.specs.declared.member.MemberConfig.{MemberConfig}
use Rattle.forwarding.specs.Ids.{cut_at}

-- the route of an id is what follows its first dot
abbrev pub route_of : List ℕ → Option (List ℕ)
route_of id = option_map (λ cut. cut.1) (cut_at 46 id)

-- the first member with this route
abbrev pub member_with : List MemberConfig → List ℕ → Option ℕ
member_with members route = position (λ m. bytes_eq m.route route) members

abbrev pub member_named : List MemberConfig → List ℕ → Option ℕ
member_named members id = option_and_then (member_with members) (route_of id)

abbrev pub first_of : Option ℕ → Option ℕ → Option ℕ
first_of None later = later
first_of (Some m) later = Some m

-- the member that the first id with a member's route names
abbrev pub routed_of : List (List ℕ) → List MemberConfig → Option ℕ
routed_of [] members = None
routed_of (id ∷ ids) members = first_of (member_named members id) (routed_of ids members)
