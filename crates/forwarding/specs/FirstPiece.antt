-- How much of a body is sent right after the Forward Request, whichever member is chosen.
use Rattle.std.specs.Prelude.{ℕ, ◌-◌, min, List, fold}
use Rattle.http_front.specs.declared.head.BodyPlan.{BodyPlan}
use Rattle.http_front.specs.declared.head.BodyPlan.TheVariants as plan
use Rattle.site_config.specs.declared.endpoint.Endpoint.{Endpoint}

-- the most data of a body packet for a member: six bytes of the packet aren't data
abbrev pub piece_for : Endpoint → ℕ
piece_for endpoint = endpoint.packet - 6

-- The least of the body's length and of what a packet may hold, over all members. A chunked body has no first piece.
abbrev pub first_len : BodyPlan → List Endpoint → ℕ
first_len plan.None ends = 0
first_len (plan.Exact n) ends = fold (λ len endpoint. min len (piece_for endpoint)) n ends
first_len plan.Chunked ends = 0
