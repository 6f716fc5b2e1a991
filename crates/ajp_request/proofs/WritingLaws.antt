-- Attributes, measured and written.
use Rattle.std.proofs.Common.{◌≡◌, ℕ, zero, suc, ◌+◌, ◌<◌, ◌≤◌, Bool, true, false, cond, List, [], ◌∷◌, ◌++◌, length, take, drop, Option, Some, None, is_some, refl, sym, ap, subst, ◌∙◌, append_assoc, arith}
use Rattle.std.specs.List.{AllByRecursion, flat_map}
use Rattle.std.proofs.lemmas.List.{length-append, take-append-drop}
use Rattle.std.proofs.lemmas.List.Concat.{flat_map-append}
use Rattle.ajp_wire.specs.Spelling.{int, string}
use Rattle.ajp_wire.specs.Names.{headers_bytes}
use Rattle.ajp_request.specs.declared.attribute.Attribute.{Attribute}
use Rattle.ajp_request.specs.declared.attribute.Attribute.TheVariants.{Plain}
use Rattle.ajp_request.specs.declared.forward.Forward.{Forward}
use Rattle.ajp_request.specs.Tables.{method_code, header_names}
use Rattle.ajp_request.specs.Spelling.{boolean}
use Rattle.ajp_request.specs.Writing.{attribute_bytes, attributes_bytes, before_stored, with_method, byte_of, written_attributes, line_bytes, ends_bytes, tail_bytes, method_size, payload_of, FitsAttribute}

pub all_behind : (P : Attribute → Type 0) (n : ℕ) (xs : List Attribute) → AllByRecursion P xs → AllByRecursion P (drop n xs)
all_behind P zero xs all = all
all_behind P (suc n) [] all = tt
all_behind P (suc n) (x ∷ xs) all = all_behind P n xs all.1

pub all_before : (P : Attribute → Type 0) (n : ℕ) (xs : List Attribute) → AllByRecursion P xs → AllByRecursion P (take n xs)
all_before P zero xs all = tt
all_before P (suc n) [] all = tt
all_before P (suc n) (x ∷ xs) all = (all.0, all_before P n xs all.1)

-- the attributes before a place fit, and their bytes and those that are left are all of them
pub record Measured (attributes : List Attribute) (at len : ℕ) : Type 0 where
  pub whole : len + length (attributes_bytes (drop at attributes)) ≡ length (attributes_bytes attributes)
  pub bound : len < 65536
  pub fit_before : AllByRecursion FitsAttribute (drop at attributes) → AllByRecursion FitsAttribute attributes
  pub fit_behind : AllByRecursion FitsAttribute attributes → AllByRecursion FitsAttribute (drop at attributes)

length_boolean : (b : Bool) → length (boolean b) ≡ 1
length_boolean false = refl
length_boolean true = refl

-- the bytes of attributes one after the other
length_joined : (xs ys : List Attribute) → length (attributes_bytes (xs ++ ys)) ≡ length (attributes_bytes xs) + length (attributes_bytes ys)
length_joined xs ys = ap length (flat_map-append attribute_bytes xs ys) ∙ length-append (attributes_bytes xs) (attributes_bytes ys)

length_split : (n : ℕ) (xs : List Attribute) → length (attributes_bytes (take n xs)) + length (attributes_bytes (drop n xs)) ≡ length (attributes_bytes xs)
length_split n xs = sym (length_joined (take n xs) (drop n xs)) ∙ ap (λ (ys : List Attribute). length (attributes_bytes ys)) (take-append-drop n xs)

length_written : (code : Option ℕ) (method : List ℕ) (attributes : List Attribute) → length (attributes_bytes (written_attributes code method attributes)) ≡ method_size code method + length (attributes_bytes attributes)
length_written (Some code) method attributes = omega arith
length_written None method attributes =
    let n : ℕ = before_stored attributes in
    let own : length (attributes_bytes (Plain 13 method ∷ drop n attributes)) ≡ length (attribute_bytes (Plain 13 method)) + length (attributes_bytes (drop n attributes)) = length-append (attribute_bytes (Plain 13 method)) (attributes_bytes (drop n attributes)) in
    omega (arith, length_joined (take n attributes) (Plain 13 method ∷ drop n attributes), own, length_split n attributes)

-- how many bytes stand before the headers
pub length_front : (f : Forward) → length (line_bytes f ++ ends_bytes f) ≡
    2 + length (string f.protocol) + length (string f.uri) + (length (string f.remote_addr) + length (string f.remote_host) + length (string f.server) + 3)
length_front f =
    let line : length (line_bytes f) ≡ 2 + length (string f.protocol) + length (string f.uri) = omega (arith, length-append (string f.protocol) (string f.uri)) in
    let ends : length (ends_bytes f) ≡ length (string f.remote_addr) + length (string f.remote_host) + length (string f.server) + 3 =
    omega (arith, length-append (string f.remote_addr) (string f.remote_host ++ (string f.server ++ (int f.port ++ boolean f.ssl))), length-append (string f.remote_host) (string f.server ++ (int f.port ++ boolean f.ssl)), length-append (string f.server) (int f.port ++ boolean f.ssl), length_boolean f.ssl) in
    omega (arith, line, ends, length-append (line_bytes f) (ends_bytes f))

-- how many bytes the payload has, by its parts
pub length_payload : (f : Forward) (code : Option ℕ) → code ≡ method_code f.method → length (payload_of f) ≡
    length (line_bytes f ++ ends_bytes f) + (2 + length (headers_bytes header_names f.headers)) + method_size code f.method + length (attributes_bytes f.attributes) + 1
unfolding payload_of
length_payload f code is =
    let tail : length (tail_bytes f) ≡ method_size code f.method + length (attributes_bytes f.attributes) + 1 =
    rw is (omega (arith, length-append (attributes_bytes (written_attributes (method_code f.method) f.method f.attributes)) (255 ∷ []), length_written (method_code f.method) f.method f.attributes)) in
    omega (
      arith,
      length-append (line_bytes f) (ends_bytes f),
      tail,
      length-append (line_bytes f) (ends_bytes f ++ (int (length f.headers) ++ (headers_bytes header_names f.headers ++ tail_bytes f))),
      length-append (ends_bytes f) (int (length f.headers) ++ (headers_bytes header_names f.headers ++ tail_bytes f)),
      length-append (headers_bytes header_names f.headers) (tail_bytes f),
    )

-- attributes that are too many for a payload, under another name
pub too_many : (xs ys : List Attribute) → xs ≡ ys → (AllByRecursion FitsAttribute xs → length (attributes_bytes xs) < 65536 → ⊥) → AllByRecursion FitsAttribute ys → length (attributes_bytes ys) < 65536 → ⊥
too_many xs ys same no_room = subst (λ (zs : List Attribute). AllByRecursion FitsAttribute zs → length (attributes_bytes zs) < 65536 → ⊥) same no_room
