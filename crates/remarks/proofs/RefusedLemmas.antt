-- Refused lines, one after another.
use Rattle.std.proofs.Common.{◌≡◌, ℕ, Bool, true, List, [], ◌∷◌, ◌++◌, Option, Some, None, length, refl, sym, ap, ◌∙◌, append-nil, arith}
use Rattle.std.specs.Option.{is_some}
use Rattle.std.specs.Result.{result_err}
use Rattle.site_config.specs.Lines.{lines, without_mark}
use Rattle.site_config.specs.Properties.{read_text}
use Rattle.site_config.specs.declared.error.PropsRefusal.{PropsRefusal}
use Rattle.remarks.specs.Explained.{explained_workers}
use Rattle.remarks.specs.Refused.{is_refused_by_line, refused_from, refused_lines, wrong_line}
use Rattle.remarks.specs.Remarks.{together, workers_refusals}
use Rattle.remarks.proofs.FirstLemmas.{has_first, none_said, workers_first}

-- nothing is said where no line is left
pub none_refused : (wrong : ℕ → List ℕ → Option (List ℕ)) (file : List ℕ) (n : ℕ) (rest : List ℕ) → length rest ≡ 0 → refused_from wrong file n (lines rest) ≡ []
none_refused wrong file n [] none = refl
none_refused wrong file n (b ∷ bs) none = absurd (omega arith)

-- the refused lines are all that is said, where one is refused by itself
pub lines_alone : (file text : List ℕ) (r : PropsRefusal) → result_err (read_text true text) ≡ Some r → refused_lines wrong_line file text ≡ workers_refusals (file, text) r
lines_alone file text r h =
    let some : true ≡ is_refused_by_line wrong_line text = sym (ap is_some (workers_first text (Some r) h)) ∙ has_first wrong_line 1 (lines (without_mark text)) in
    sym (append-nil (refused_lines wrong_line file text)) ∙ ap (λ (b : Bool). refused_lines wrong_line file text ++ together b (file, text) r) some

-- where none is, it is what is wrong with the workers together
pub workers_alone : (file text : List ℕ) (r : PropsRefusal) → result_err (read_text true text) ≡ None → explained_workers file text r ≡ workers_refusals (file, text) r
workers_alone file text r h =
    let none = workers_first text None h in
    let said : refused_lines wrong_line file text ≡ [] = none_said wrong_line file 1 (lines (without_mark text)) none in
    let no = sym (ap is_some none) ∙ has_first wrong_line 1 (lines (without_mark text)) in
    ap (λ (b : Bool). together b (file, text) r) no ∙ ap (λ (t : List ℕ). t ++ together (is_refused_by_line wrong_line text) (file, text) r) (sym said)
