-- No mark of a text stands in the table, and a label's value has no line end and is read back.
use Rattle.std.proofs.Common.{ℕ, ◌≡◌, ◌==◌, ◌&&◌, Bool, true, false, List, [], ◌∷◌, ◌++◌, Some, None, unwrap_or, refl, sym, ap, ◌∙◌, codes, if◌then◌else◌}
use Rattle.std.specs.List.{list_all}
use Rattle.std.proofs.lemmas.Bool.{eqb-true}
use Rattle.std.proofs.lemmas.List.Folds.{list_all-append}
use Rattle.status_worker.specs.Marks.{html_byte, html_text, is_no_line_end, is_no_mark, label_byte, label_read, label_text}

-- ---- in the table

no_mark : (b : ℕ) (amp lt gt double single : Bool) → (b == 60) ≡ lt → (b == 62) ≡ gt → (b == 34) ≡ double → (b == 39) ≡ single
    → list_all is_no_mark (unwrap_or (if amp then Some (codes "&amp;")
    else (if lt then Some (codes "&lt;")
    else (if gt then Some (codes "&gt;")
    else (if double then Some (codes "&quot;")
    else (if single then Some (codes "&#39;") else None))))) (b ∷ [])) ≡ true
no_mark b true lt gt double single is_lt is_gt is_double is_single = refl
no_mark b false true gt double single is_lt is_gt is_double is_single = refl
no_mark b false false true double single is_lt is_gt is_double is_single = refl
no_mark b false false false true single is_lt is_gt is_double is_single = refl
no_mark b false false false false true is_lt is_gt is_double is_single = refl
no_mark b false false false false false is_lt is_gt is_double is_single = rw (is_lt, is_gt, is_double, is_single) refl

pub html-no_marks : (text : List ℕ) → list_all is_no_mark (html_text text) ≡ true
html-no_marks [] = refl
html-no_marks (b ∷ bs) =
    list_all-append is_no_mark (html_byte b) (html_text bs)
    ∙ ap (λ (x : Bool). x && list_all is_no_mark (html_text bs))
    (no_mark b (b == 38) (b == 60) (b == 62) (b == 34) (b == 39) refl refl refl refl)
    ∙ html-no_marks bs

-- ---- in a label

no_line_end : (b : ℕ) (backslash quote line_end : Bool) → (b == 10) ≡ line_end
    → list_all is_no_line_end (unwrap_or (if backslash then Some (92 ∷ 92 ∷ [])
    else (if quote then Some (92 ∷ 34 ∷ [])
    else (if line_end then Some (92 ∷ 110 ∷ []) else None))) (b ∷ [])) ≡ true
no_line_end b true quote line_end is_end = refl
no_line_end b false true line_end is_end = refl
no_line_end b false false true is_end = refl
no_line_end b false false false is_end = rw is_end refl

pub label-no_line_ends : (text : List ℕ) → list_all is_no_line_end (label_text text) ≡ true
label-no_line_ends [] = refl
label-no_line_ends (b ∷ bs) =
    list_all-append is_no_line_end (label_byte b) (label_text bs)
    ∙ ap (λ (x : Bool). x && list_all is_no_line_end (label_text bs)) (no_line_end b (b == 92) (b == 34) (b == 10) refl)
    ∙ label-no_line_ends bs

kept_byte : (b : ℕ) (ys : List ℕ) → (b == 92) ≡ false → label_read (b ∷ ys) ≡ b ∷ label_read ys
unfolding label_read
kept_byte b [] other = refl
kept_byte b (c ∷ ys) other = rw other refl

byte_read : (b : ℕ) (backslash quote line_end : Bool) (ys : List ℕ) → (b == 92) ≡ backslash → (b == 34) ≡ quote → (b == 10) ≡ line_end
    → label_read (unwrap_or (if backslash then Some (92 ∷ 92 ∷ [])
    else (if quote then Some (92 ∷ 34 ∷ [])
    else (if line_end then Some (92 ∷ 110 ∷ []) else None))) (b ∷ []) ++ ys) ≡ b ∷ label_read ys
unfolding label_read
byte_read b true quote line_end ys is_backslash is_quote is_end = ap (λ (n : ℕ). n ∷ label_read ys) (sym (eqb-true b 92 is_backslash))
byte_read b false true line_end ys is_backslash is_quote is_end = ap (λ (n : ℕ). n ∷ label_read ys) (sym (eqb-true b 34 is_quote))
byte_read b false false true ys is_backslash is_quote is_end = ap (λ (n : ℕ). n ∷ label_read ys) (sym (eqb-true b 10 is_end))
byte_read b false false false ys is_backslash is_quote is_end = kept_byte b ys is_backslash

pub label-read : (text : List ℕ) → label_read (label_text text) ≡ text
unfolding label_read
label-read [] = refl
label-read (b ∷ bs) =
    byte_read b (b == 92) (b == 34) (b == 10) (label_text bs) refl refl refl ∙ ap (λ (ys : List ℕ). b ∷ ys) (label-read bs)
