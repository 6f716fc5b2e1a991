-- The Forward Request of a request is one of the program, so that what holds of those holds of it.
use Rattle.std.proofs.Common.{◌≡◌, ◌∙◌, ℕ, ◌<◌, ◌≤◌, Bool, List, length, map, Option, Some, None, ap, sym, subst, rules}
use Rattle.std.proofs.lemmas.List.{length-map}
use Rattle.std.specs.List.{AllByRecursion}
use Rattle.ajp_request.specs.Parts.{told_by}
use Rattle.ajp_request.specs.Writing.{IsAttribute, IsForward}
use Rattle.ajp_request.specs.declared.attribute.Attribute.{Attribute}
use Rattle.ajp_request.specs.declared.forward.ForwardParts.{ForwardParts}
use Rattle.http_front.specs.Fields.{HeaderLine}
use Rattle.http_front.specs.declared.head.Head.{Head}
use Rattle.lb_model.specs.declared.member.MemberConfig.{MemberConfig}
use Rattle.site_config.specs.declared.endpoint.Endpoint.{Endpoint}
use Rattle.forwarding.specs.Forwards.{attributes_for, forward_for, forward_with, line_for, route_for}

pub are_attributes : (query route secret : Option (List ℕ)) → AllByRecursion IsAttribute (attributes_for query route secret)
are_attributes None None None = search rules
are_attributes None None (Some s) = search rules
are_attributes None (Some r) None = search rules
are_attributes None (Some r) (Some s) = search rules
are_attributes (Some q) None None = search rules
are_attributes (Some q) None (Some s) = search rules
are_attributes (Some q) (Some r) None = search rules
are_attributes (Some q) (Some r) (Some s) = search rules

pub forward_is_one : (head : Head) (peer : List ℕ) (direct : Bool) (member : MemberConfig) (endpoint : Endpoint)
    → head.port < 65536 → length head.headers ≤ 100 → IsForward (forward_for head peer direct member endpoint)
forward_is_one head peer direct member endpoint port few = record {
  port = port;
  few_headers = subst (λ (n : ℕ). n ≤ 100) (sym (length-map head.headers line_for)) few;
  attributes = are_attributes head.query _ endpoint.secret;
}

-- parts with the headers and attributes that go on are the request that is told
pub forward_told : (head : Head) (peer : List ℕ) (direct : Bool) (member : MemberConfig) (endpoint : Endpoint) (parts : ForwardParts) (lines : List HeaderLine) (attributes : List Attribute)
    → told_by parts ≡ forward_with head peer lines attributes → lines ≡ map line_for head.headers
    → attributes ≡ attributes_for head.query (route_for direct member) endpoint.secret → told_by parts ≡ forward_for head peer direct member endpoint
forward_told head peer direct member endpoint parts lines attributes told headers rest =
    told ∙ ap (λ (x : List HeaderLine). forward_with head peer x attributes) headers ∙ ap (λ (x : List Attribute). forward_with head peer (map line_for head.headers) x) rest
