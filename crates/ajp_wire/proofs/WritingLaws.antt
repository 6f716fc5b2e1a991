-- Headers one after another, measured and written in a loop.
use Rattle.std.proofs.Common.{◌≡◌, ℕ, suc, ◌+◌, ◌*◌, ◌<◌, ◌≤◌, ◌⊎◌, inl, inr, length, drop, Bool, List, [], ◌∷◌, ◌++◌, Some, None, refl, sym, ap, ◌∙◌, arith, add-zero}
use Rattle.std.specs.Prelude.{slice_get}
use Rattle.std.specs.Str.{str_eq_ignore_ascii_case}
use Rattle.std.proofs.lemmas.Bool.{cases_Bool}
use Rattle.ajp_wire.specs.Spelling.{string, SpellsHeader, SpellsHeaders}
use Rattle.ajp_wire.specs.Names.{code_from, table_spelling, name_bytes, header_bytes, headers_bytes, FitsHeader, FitsHeaders, header_as_read, headers_as_read}

-- the headers before a place fit, and their bytes and those that are left are all of them
pub record Measured (table : List (List ℕ)) (headers : List (List ℕ × List ℕ)) (at len : ℕ) : Type 0 where
  pub whole : len + length (headers_bytes table (drop at headers)) ≡ length (headers_bytes table headers)
  pub bound : len ≤ at * 131072
  pub fit_before : FitsHeaders (drop at headers) → FitsHeaders headers
  pub fit_behind : FitsHeaders headers → FitsHeaders (drop at headers)

-- what is written and what is left to write is all
pub record Written (table : List (List ℕ)) (headers : List (List ℕ × List ℕ)) (at : ℕ) (before out : List ℕ) : Type 0 where
  pub whole : out ++ headers_bytes table (drop at headers) ≡ before ++ headers_bytes table headers
  pub fit : FitsHeaders (drop at headers)

-- A name has the code of the place where its table spells it, or no code.
pub name-place : (code : ℕ) (table : List (List ℕ)) (name : List ℕ)
    → ((place : ℕ) × (slice_get table place ≡ Some (table_spelling table name)) × (code_from code table name ≡ Some (code + place)))
    ⊎ ((code_from code table name ≡ None) × (table_spelling table name ≡ name))
name-place code [] name = inr (refl, refl)
name-place code (known ∷ table) name =
    elim (cases_Bool (str_eq_ignore_ascii_case known name)) [
      | inl same ↦ inl (0, rw same refl, rw same (ap Some (sym (add-zero code))))
      | inr other ↦ elim (name-place (code + 1) table name) [
        | inl found ↦ inl (suc found.0, rw other found.1, rw other (found.2 ∙ ap Some (omega arith)))
        | inr none ↦ inr (rw other none.0, rw other none.1)
      ]
    ]

-- The bytes written of a header spell it, its name as the table spells it.
pub header-spelled : (table : List (List ℕ)) (absent_names : Bool) (header : List ℕ × List ℕ) → FitsHeader header
    → SpellsHeader table absent_names (header_as_read table header) (header_bytes table header)
header-spelled table absent_names header fits =
    elim (name-place 40961 table header.0) [
      | inl found ↦ (name_bytes table header.0, string header.1, inl (found.0, found.1, rw found.2 refl), inl (fits.value, refl), refl)
      | inr none ↦ (name_bytes table header.0, string header.1, inr (rw none.1 fits.name, inl (rw none.1 (short _ fits.name), rw (none.0, none.1) refl)), inl (fits.value, refl), refl)
    ]
  where
    short : (n : ℕ) → n < 40960 → n < 65535
    short n h = omega arith

pub headers-spelled : (table : List (List ℕ)) (absent_names : Bool) (headers : List (List ℕ × List ℕ)) → FitsHeaders headers
    → SpellsHeaders table absent_names (headers_as_read table headers) (headers_bytes table headers)
headers-spelled table absent_names [] fits = refl
headers-spelled table absent_names (header ∷ headers) fits =
    (header_bytes table header, headers_bytes table headers, header-spelled table absent_names header fits.0, headers-spelled table absent_names headers fits.1, refl)

pub length-headers_as_read : (table : List (List ℕ)) (headers : List (List ℕ × List ℕ)) → length (headers_as_read table headers) ≡ length headers
length-headers_as_read table [] = refl
length-headers_as_read table (header ∷ headers) = ap suc (length-headers_as_read table headers)
