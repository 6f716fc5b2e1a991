-- A Forward Request that was read can be written again.
use Rattle.std.proofs.Common.{◌≡◌, ℕ, ◌<◌, ◌≤◌, List, [], ◌∷◌, ◌++◌, length, sym, ◌⊎◌, inl, inr, subst}
use Rattle.std.specs.List.{AllByRecursion}
use Rattle.ajp_request.specs.declared.attribute.Attribute.{Attribute}
use Rattle.ajp_request.specs.declared.attribute.Attribute.TheVariants.{Plain, Named, KeySize}
use Rattle.ajp_request.specs.declared.forward.Forward.{Forward}
use Rattle.ajp_request.specs.Spelling.{SpellsAttribute, SpellsAttributes, Stores, IsMethod, SpellsForward}
use Rattle.ajp_request.specs.Writing.{IsAttribute, IsForward}

is_attribute : (attribute : Attribute) (bytes : List ℕ) → SpellsAttribute attribute bytes → IsAttribute attribute
is_attribute (Plain code text) bytes (held, plain, spelled, whole) = plain
is_attribute (Named name value) bytes s = tt
is_attribute (KeySize size) bytes s = s.0

are_attributes : (attributes : List Attribute) (bytes : List ℕ) → SpellsAttributes attributes bytes → AllByRecursion IsAttribute attributes
are_attributes [] bytes s = tt
are_attributes (x ∷ xs) bytes (first, rest, here, later, whole) = (is_attribute x first here, are_attributes xs rest later)

all_but : (P : Attribute → Type 0) (before : List Attribute) (x : Attribute) (after : List Attribute) → AllByRecursion P (before ++ x ∷ after) → AllByRecursion P (before ++ after)
all_but P [] x after all = all.1
all_but P (y ∷ before) x after all = (all.0, all_but P before x after all.1)

kept : (byte : ℕ) (written : List Attribute) (method : List ℕ) (attributes : List Attribute) → IsMethod byte written method attributes → AllByRecursion IsAttribute written → AllByRecursion IsAttribute attributes
kept byte written method attributes (inl m) all = subst (AllByRecursion IsAttribute) m.1 all
kept byte written method attributes (inr m) all =
    let s = m.1 in
    let there : AllByRecursion IsAttribute (s.before ++ Plain 13 method ∷ s.after) = subst (AllByRecursion IsAttribute) s.there all in
    subst (AllByRecursion IsAttribute) (sym s.others) (all_but IsAttribute s.before (Plain 13 method) s.after there)

pub is_readable : (forward : Forward) (payload : List ℕ) → SpellsForward forward payload → IsForward forward
is_readable forward payload s = record {
  port = s.fits_port;
  few_headers = s.few_headers;
  attributes = kept s.method_byte s.written forward.method forward.attributes s.method (are_attributes s.written s.attributes s.spells_attributes);
}
