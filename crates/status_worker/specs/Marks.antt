-- Texts within marks: what HTML would read as a mark is named, and so is what would end the value of a label of Prometheus.
use Rattle.std.specs.Prelude.{ℕ, Bool, not, ◌&&◌, ◌==◌, List, [], ◌∷◌, Option, Some, None, codes, if◌then◌else◌, unwrap_or}
use Rattle.std.specs.List.{flat_map}

-- `&`, `<`, `>`, the double and the single quote
abbrev pub html_name : ℕ → Option (List ℕ)
html_name b =
    if b == 38 then Some (codes "&amp;")
    else (if b == 60 then Some (codes "&lt;")
    else (if b == 62 then Some (codes "&gt;")
    else (if b == 34 then Some (codes "&quot;")
    else (if b == 39 then Some (codes "&#39;")
    else None))))

abbrev pub html_byte : ℕ → List ℕ
html_byte b = unwrap_or (html_name b) (b ∷ [])

-- a text as HTML has it, between tags or in a quoted value
abbrev pub html_text : List ℕ → List ℕ
html_text text = flat_map html_byte text

-- `\`, the double quote and LF
abbrev pub label_name : ℕ → Option (List ℕ)
label_name b =
    if b == 92 then Some (92 ∷ 92 ∷ [])
    else (if b == 34 then Some (92 ∷ 34 ∷ [])
    else (if b == 10 then Some (92 ∷ 110 ∷ [])
    else None))

abbrev pub label_byte : ℕ → List ℕ
label_byte b = unwrap_or (label_name b) (b ∷ [])

-- a text as the value of a label, within its quotes
abbrev pub label_text : List ℕ → List ℕ
label_text text = flat_map label_byte text

-- ---- what is kept out, and what is read back

-- none of `<`, `>` and the two quotes
abbrev pub is_no_mark : ℕ → Bool
is_no_mark b = not (b == 60) && (not (b == 62) && (not (b == 34) && not (b == 39)))

abbrev pub is_no_line_end : ℕ → Bool
is_no_line_end b = not (b == 10)

-- the text of a label's value, by Prometheus' text format: `n` after a backslash is LF, another byte is itself
unfoldable pub label_read : List ℕ → List ℕ
label_read [] = []
label_read (b ∷ []) = b ∷ []
label_read (b ∷ c ∷ bytes) =
    if b == 92 then (if c == 110 then 10 else c) ∷ label_read bytes else b ∷ label_read (c ∷ bytes)
