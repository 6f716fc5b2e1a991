-- A written payload spells its request, with coded names in their table's spelling.
use Rattle.std.proofs.Common.{◌≡◌, ℕ, zero, suc, ◌+◌, ◌<◌, ◌≤◌, Bool, true, false, cond, not, eqb, IsTrue, List, [], ◌∷◌, ◌++◌, length, take, drop, Option, Some, None, is_some, refl, sym, ap, subst, ◌∙◌, append_assoc, arith, ◌⊎◌, inl, inr}
use Rattle.std.specs.List.{AllByRecursion, flat_map}
use Rattle.std.specs.Str.{bytes_eq}
use Rattle.std.proofs.lemmas.Bool.{ne_eqb, eq-eqb, cases_Bool}
use Rattle.std.proofs.lemmas.List.{take-append-drop}
use Rattle.std.proofs.lemmas.Slice.Eq.{bytes_eq-Decides}
use Rattle.ajp_wire.specs.Spelling.{int, string}
use Rattle.ajp_wire.specs.Names.{headers_bytes, headers_as_read}
use Rattle.ajp_wire.specs.Reading.{named_from}
use Rattle.ajp_wire.proofs.ReadingLaws.{chosen}
use Rattle.ajp_wire.proofs.WritingLaws.{headers-spelled, length-headers_as_read}
use Rattle.ajp_request.specs.declared.attribute.Attribute.{Attribute}
use Rattle.ajp_request.specs.declared.attribute.Attribute.TheVariants.{Plain, Named, KeySize}
use Rattle.ajp_request.specs.declared.forward.Forward.{Forward}
use Rattle.ajp_request.specs.Tables.{methods, method_from, method_code, header_names}
use Rattle.ajp_request.specs.Spelling.{boolean, stored_method, SpellsAttributes, Stores, IsMethod, SpellsForward}
use Rattle.ajp_request.specs.Writing.{attribute_bytes, attributes_bytes, before_stored, with_method, byte_of, written_attributes, line_bytes, ends_bytes, tail_bytes, payload_of, as_read, IsAttribute, IsForward, FitsAttribute, FitsMethod, FieldsFit}
use Rattle.ajp_request.proofs.StoredLaws.{StoreNone}
use Rattle.ajp_request.proofs.WritingLaws.{all_behind, all_before}

-- ---- the method's code

abbrev as_code : ℕ → Option ℕ
as_code code = Some code

code_is : (m n : ℕ) → as_code m ≡ as_code n → m ≡ n
code_is m n same = cc

method_step : (code found : ℕ) (known name : List ℕ) (table : List (List ℕ)) → method_from code (known ∷ table) name ≡ Some found → ((code ≡ found) × (known ≡ name)) ⊎ (method_from (code + 1) table name ≡ Some found)
method_step code found known name table e =
    elim (chosen (bytes_eq known name) (Some code) (method_from (code + 1) table name) (Some found) e) [
      | inl w ↦ inl (code_is code found w.1, (bytes_eq-Decides known name).0 w.0)
      | inr w ↦ inr w.1
    ]

not_before : (code found : ℕ) (table : List (List ℕ)) (name : List ℕ) → method_from code table name ≡ Some found → code ≤ found
not_before code found [] name e = absurd cc
not_before code found (known ∷ table) name e =
    elim (method_step code found known name table e) [
      | inl here ↦ let same : code ≡ found = here.0 in omega arith
      | inr later ↦ omega (arith, not_before (code + 1) found table name later)
    ]

named_again : (code found : ℕ) (table : List (List ℕ)) (name : List ℕ) → method_from code table name ≡ Some found → named_from code table found ≡ Some name
named_again code found [] name e = absurd cc
named_again code found (known ∷ table) name e =
    elim (method_step code found known name table e) [
      | inl here ↦ rw (eq-eqb code found here.0, here.1) refl
      | inr later ↦
          let above = not_before (code + 1) found table name later in
          rw (ne_eqb code found (λ (same : code ≡ found). absurd (omega (arith, above)))) (named_again (code + 1) found table name later)
    ]

-- ---- the stored method

passed : (o : Option (List ℕ)) (x : Attribute) (xs : List Attribute) → stored_method x ≡ o → StoreNone (take (before_stored xs) xs) → StoreNone (take (before_stored (x ∷ xs)) (x ∷ xs))
passed None x xs none later =
    let counted : 1 + before_stored xs ≡ suc (before_stored xs) = omega arith in
    rw (none, counted) (none, later)
passed (Some method) x xs stored later = rw stored tt

none_before : (xs : List Attribute) → StoreNone (take (before_stored xs) xs)
none_before [] = tt
none_before (x ∷ xs) = passed (stored_method x) x xs refl (none_before xs)

stores_written : (method : List ℕ) (attributes : List Attribute) → Stores (with_method method attributes) method attributes
stores_written method attributes = record {
  before = take (before_stored attributes) attributes;
  after = drop (before_stored attributes) attributes;
  first = none_before attributes;
  there = refl;
  others = sym (take-append-drop (before_stored attributes) attributes);
}

method_written : (method : List ℕ) (attributes : List Attribute) (code : Option ℕ) → method_code method ≡ code → IsMethod (byte_of code) (written_attributes code method attributes) method attributes
method_written method attributes (Some code) is = inl (named_again 1 code methods method is, refl)
method_written method attributes None is = inr (refl, stores_written method attributes)

-- ---- attributes

attribute_spelled : (attribute : Attribute) (rest : List Attribute) (listed : List ℕ) → IsAttribute attribute → FitsAttribute attribute → SpellsAttributes rest listed → SpellsAttributes (attribute ∷ rest) (attribute_bytes attribute ++ listed)
attribute_spelled (Plain code text) rest listed is fits later = (code ∷ string text, listed, (string text, is, inl (fits, refl), refl), later, refl)
attribute_spelled (Named name value) rest listed is fits later = (10 ∷ (string name ++ string value), listed, (string name, string value, inl (fits.0, refl), inl (fits.1, refl), refl), later, refl)
attribute_spelled (KeySize size) rest listed is fits later = (11 ∷ int size, listed, (is, refl), later, refl)

attributes_spelled : (attributes : List Attribute) → AllByRecursion IsAttribute attributes → AllByRecursion FitsAttribute attributes → SpellsAttributes attributes (attributes_bytes attributes)
attributes_spelled [] are fit = refl
attributes_spelled (x ∷ xs) are fit = attribute_spelled x xs (attributes_bytes xs) are.0 fit.0 (attributes_spelled xs are.1 fit.1)

all_joined : (P : Attribute → Type 0) (xs ys : List Attribute) → AllByRecursion P xs → AllByRecursion P ys → AllByRecursion P (xs ++ ys)
all_joined P [] ys first second = second
all_joined P (x ∷ xs) ys first second = (first.0, all_joined P xs ys first.1 second)

all_written : (P : Attribute → Type 0) (code : Option ℕ) (method : List ℕ) (attributes : List Attribute) → ((code ≡ None) → P (Plain 13 method)) → AllByRecursion P attributes → AllByRecursion P (written_attributes code method attributes)
all_written P (Some code) method attributes own all = all
all_written P None method attributes own all =
    all_joined P (take (before_stored attributes) attributes) (Plain 13 method ∷ drop (before_stored attributes) attributes)
    (all_before P (before_stored attributes) attributes all) (own refl, all_behind P (before_stored attributes) attributes all)

method_fits : (code : Option ℕ) (method : List ℕ) → FitsMethod code method → code ≡ None → length method < 65535
method_fits (Some code) method fits none = absurd cc
method_fits None method fits none = fits

-- ---- the whole

regrouped : (byte : ℕ) (a b c d e f g h i j : List ℕ)
    → (2 ∷ byte ∷ (a ++ b)) ++ ((c ++ (d ++ (e ++ (f ++ g)))) ++ (h ++ (i ++ (j ++ 255 ∷ []))))
    ≡ 2 ∷ byte ∷ (a ++ (b ++ (c ++ (d ++ (e ++ (f ++ (g ++ (h ++ (i ++ (j ++ 255 ∷ []))))))))))
regrouped byte a b c d e f g h i j = simp append_assoc

pub written_spells : (forward : Forward) → IsForward forward → FieldsFit forward → SpellsForward (as_read forward) (payload_of forward)
unfolding payload_of
written_spells forward is fits =
    let code : Option ℕ = method_code forward.method in
    let attributes : List Attribute = written_attributes code forward.method forward.attributes in
    record {
      method_byte = byte_of code;
      written = attributes;
      method = method_written forward.method forward.attributes code refl;
      protocol = string forward.protocol;
      uri = string forward.uri;
      remote_addr = string forward.remote_addr;
      remote_host = string forward.remote_host;
      server = string forward.server;
      headers = headers_bytes header_names forward.headers;
      attributes = attributes_bytes attributes;
      spells_protocol = inl (fits.protocol, refl);
      spells_uri = inl (fits.uri, refl);
      spells_remote_addr = inl (fits.remote_addr, refl);
      spells_remote_host = inl (fits.remote_host, refl);
      spells_server = inl (fits.server, refl);
      fits_port = is.port;
      few_headers = omega (arith, length-headers_as_read header_names forward.headers, is.few_headers);
      spells_headers = headers-spelled header_names false forward.headers fits.headers;
      spells_attributes = attributes_spelled attributes (all_written IsAttribute code forward.method forward.attributes (λ _. refl) is.attributes)
          (all_written FitsAttribute code forward.method forward.attributes (method_fits code forward.method fits.method) fits.attributes);
      whole = regrouped (byte_of code) (string forward.protocol) (string forward.uri) (string forward.remote_addr) (string forward.remote_host) (string forward.server) (int forward.port) (boolean forward.ssl)
          (int (length forward.headers)) (headers_bytes header_names forward.headers) (attributes_bytes attributes)
          ∙ ap (λ (count : ℕ). 2 ∷ byte_of code ∷ (string forward.protocol ++ (string forward.uri ++ (string forward.remote_addr ++ (string forward.remote_host ++ (string forward.server
          ++ (int forward.port ++ (boolean forward.ssl ++ (int count ++ (headers_bytes header_names forward.headers ++ (attributes_bytes attributes ++ 255 ∷ [])))))))))))
          (sym (length-headers_as_read header_names forward.headers));
    }
