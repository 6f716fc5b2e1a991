-- Members that are made of the rows of their workers.
use Rattle.std.specs.Prelude.{ℕ, ◌+◌, List, [], ◌∷◌}
use Rattle.lb_model.specs.declared.member.MemberConfig.{MemberConfig}
use Rattle.site_config.specs.declared.property.Property.{Property}
use Rattle.site_config.specs.declared.directive.Directive.TheVariants as directive
use Rattle.site_config.specs.declared.endpoint.Endpoint.{Endpoint}
use Rattle.site_workers.specs.declared.row.Row.{Row}
use Rattle.site_workers.specs.Lists.{Listing}
use Rattle.site_workers.specs.Rows.{HasForce, property_at}
use Rattle.site_workers.specs.Settings.{IsEndpoint, IsMember, text_or}

-- the rows are those in force
abbrev pub HaveForce : List Property → List Listing → List Row → Type 0
HaveForce ps [] [] = Unit {0}
HaveForce ps (l ∷ ls) (row ∷ rows) = HasForce ps l.name row × HaveForce ps ls rows
HaveForce ps ls rows = ⊥

-- the routes of these rows
abbrev pub routes_at : List Property → List Listing → List Row → List (List ℕ)
routes_at ps (l ∷ ls) (row ∷ rows) = text_or l.name (property_at ps row directive.Route) ∷ routes_at ps ls rows
routes_at ps ls rows = []

-- the members of these rows, from place i on
abbrev pub AreBuilt : List Property → List (List ℕ) → ℕ → List Listing → List Row → List MemberConfig → List Endpoint → Type 0
AreBuilt ps routes i [] [] [] [] = Unit {0}
AreBuilt ps routes i (l ∷ ls) (row ∷ rows) (m ∷ ms) (e ∷ es) =
    IsMember (property_at ps row) l.name routes i m × IsEndpoint (property_at ps row) e × AreBuilt ps routes (i + 1) ls rows ms es
AreBuilt ps routes i ls rows ms es = ⊥
