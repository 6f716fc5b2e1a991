-- The attributes as they are written, each only where there is something to tell.
use Rattle.std.proofs.Common.{◌≡◌, ℕ, List, [], ◌++◌, Option, Some, None, refl, ap, ◌∙◌, arith}
use Rattle.std.proofs.lemmas.Grind.{common_steps}
use Rattle.ajp_request.specs.declared.attribute.Attribute.{Attribute}
use Rattle.ajp_request.specs.Writing.{attributes_bytes, with_method, written_attributes}
use Rattle.forwarding.specs.Forwards.{attribute_for, attribute_part, attributes_for, method_told}

one_written : (code : ℕ) (text : Option (List ℕ)) (rest : List Attribute)
    → attributes_bytes (attribute_for code text ++ rest) ≡ attribute_part code text ++ attributes_bytes rest
one_written code None rest = refl
one_written code (Some text) rest = refl

-- none of the three stores a method, so the method's own attribute stands after them
method_last : (method : List ℕ) (query route secret : Option (List ℕ))
    → with_method method (attributes_for query route secret)
    ≡ attribute_for 5 query ++ (attribute_for 6 route ++ (attribute_for 12 secret ++ attribute_for 13 (Some method)))
method_last method None None None = refl
method_last method None None (Some s) = refl
method_last method None (Some r) None = refl
method_last method None (Some r) (Some s) = refl
method_last method (Some q) None None = refl
method_last method (Some q) None (Some s) = refl
method_last method (Some q) (Some r) None = refl
method_last method (Some q) (Some r) (Some s) = refl

last_written : (method : Option (List ℕ)) → attributes_bytes (attribute_for 13 method) ≡ attribute_part 13 method ++ []
last_written None = refl
last_written (Some text) = refl

all_written : (query route secret method : Option (List ℕ))
    → attributes_bytes (attribute_for 5 query ++ (attribute_for 6 route ++ (attribute_for 12 secret ++ attribute_for 13 method)))
    ≡ attribute_part 5 query ++ (attribute_part 6 route ++ (attribute_part 12 secret ++ (attribute_part 13 method ++ [])))
all_written query route secret method =
    one_written 5 query _ ∙ ap (λ (t : List ℕ). attribute_part 5 query ++ t)
    (one_written 6 route _ ∙ ap (λ (t : List ℕ). attribute_part 6 route ++ t)
    (one_written 12 secret _ ∙ ap (λ (t : List ℕ). attribute_part 12 secret ++ t) (last_written method)))

pub attributes_in_order : (code : Option ℕ) (method : List ℕ) (query route secret : Option (List ℕ))
    → attributes_bytes (written_attributes code method (attributes_for query route secret))
    ≡ attribute_part 5 query ++ (attribute_part 6 route ++ (attribute_part 12 secret ++ attribute_part 13 (method_told code method)))
attributes_in_order (Some code) method query route secret = grind (arith, common_steps, all_written query route secret None)
attributes_in_order None method query route secret =
    ap attributes_bytes (method_last method query route secret) ∙ grind (arith, common_steps, all_written query route secret (Some method))
