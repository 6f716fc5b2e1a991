-- Steps of a Site: their entries, the cuts of a desk, and the journals that they leave.
use Rattle.std.proofs.Common.{◌≡◌, ◌≢◌, ℕ, ◌+◌, Bool, true, false, List, [], ◌∷◌, ◌++◌, Option, Some, None, refl, sym, ap, ◌∙◌, append-nil, append_assoc, arith, eq-eqb, length, ne_eqb}
use Rattle.std.specs.Prelude.{◌==◌}
use Rattle.std.specs.List.{All}
use Rattle.std.proofs.lemmas.List.{length-append}
use Rattle.std.proofs.lemmas.List.Elements.{All-append, All-cons, All-head, All-nil, All-tail}
use Rattle.lb_model.specs.declared.journal.Entry.{Entry}
use Rattle.lb_shared.specs.Seats.{by_seat}
use Rattle.lb_shared.specs.Histories.{Step, added_steps, all_cuts, cut_here, cut_mark, cuts_from, entered, log_in, marked}
use Rattle.lb_shared.specs.Holds.{with_cut}

pub log-append : (xs ys : List (ℕ × Step)) → log_in (xs ++ ys) ≡ log_in xs ++ log_in ys
log-append [] ys = refl
log-append (x ∷ xs) ys =
    ap (λ (l : List (ℕ × (ℕ × Entry))). entered x.0 x.1.0 x.1.1 ++ l) (log-append xs ys) ∙ sym (append_assoc (entered x.0 x.1.0 x.1.1) (log_in xs) (log_in ys))

pub log-added : (n : ℕ) (es : List (ℕ × Entry)) → log_in (by_seat n (added_steps es)) ≡ by_seat n es
log-added n [] = refl
log-added n (e ∷ es) = ap (λ (l : List (ℕ × (ℕ × Entry))). (n, e) ∷ l) (log-added n es)

pub log-mark : (n lb : ℕ) (cut : Bool) → log_in (by_seat n (cut_mark lb cut)) ≡ []
log-mark n lb true = refl
log-mark n lb false = refl

entered_foreign : (n m lb : ℕ) (e : Option Entry) → m ≢ n → All (λ x. x.0 ≢ n) (entered m lb e)
entered_foreign n m lb None other = All-nil (λ (x : ℕ × (ℕ × Entry)). x.0 ≢ n)
entered_foreign n m lb (Some e) other = All-cons (λ (x : ℕ × (ℕ × Entry)). x.0 ≢ n) (m, (lb, e)) [] other (All-nil (λ (x : ℕ × (ℕ × Entry)). x.0 ≢ n))

pub log-foreign : (n : ℕ) (xs : List (ℕ × Step)) → All (λ x. x.0 ≢ n) xs → All (λ x. x.0 ≢ n) (log_in xs)
log-foreign n [] others = All-nil (λ (x : ℕ × (ℕ × Entry)). x.0 ≢ n)
log-foreign n (x ∷ xs) others =
    All-append (λ (y : ℕ × (ℕ × Entry)). y.0 ≢ n) (entered x.0 x.1.0 x.1.1) (log_in xs)
    (entered_foreign n x.0 x.1.0 x.1.1 (All-head (λ (y : ℕ × Step). y.0 ≢ n) x xs others))
    (log-foreign n xs (All-tail (λ (y : ℕ × Step). y.0 ≢ n) x xs others))

-- The cuts of a desk.
pub cuts-append : (n : ℕ) (before xs ys : List (ℕ × Step)) → cuts_from n before (xs ++ ys) ≡ cuts_from n before xs ++ cuts_from n (before ++ xs) ys
cuts-append n before [] ys = ap (λ (l : List (ℕ × Step)). cuts_from n l ys) (sym (append-nil before))
cuts-append n before (x ∷ xs) ys =
    let here = cut_here (x.0 == n) x.1.0 before x.1.1 in
    ap (λ (l : List (ℕ × List (ℕ × Step))). here ++ l)
    (cuts-append n (before ++ x ∷ []) xs ys
    ∙ ap (λ (l : List (ℕ × Step)). cuts_from n (before ++ x ∷ []) xs ++ cuts_from n l ys) (append_assoc before (x ∷ []) xs))
    ∙ sym (append_assoc here (cuts_from n (before ++ x ∷ []) xs) (cuts_from n (before ++ x ∷ xs) ys))

pub cuts-foreign : (n : ℕ) (before xs : List (ℕ × Step)) → All (λ x. x.0 ≢ n) xs → cuts_from n before xs ≡ []
cuts-foreign n before [] others = refl
cuts-foreign n before (x ∷ xs) others =
    ap (λ (b : Bool). cut_here b x.1.0 before x.1.1 ++ cuts_from n (before ++ x ∷ []) xs) (ne_eqb x.0 n (All-head (λ (y : ℕ × Step). y.0 ≢ n) x xs others))
    ∙ cuts-foreign n (before ++ x ∷ []) xs (All-tail (λ (y : ℕ × Step). y.0 ≢ n) x xs others)

here_added : (own : Bool) (lb : ℕ) (before : List (ℕ × Step)) (e : Entry) → cut_here own lb before (Some e) ≡ []
here_added true lb before e = refl
here_added false lb before e = refl

pub cuts-added : (n : ℕ) (before : List (ℕ × Step)) (es : List (ℕ × Entry)) → cuts_from n before (by_seat n (added_steps es)) ≡ []
cuts-added n before [] = refl
cuts-added n before (e ∷ es) =
    ap (λ (l : List (ℕ × List (ℕ × Step))). l ++ cuts_from n (before ++ (n, (e.0, Some e.1)) ∷ []) (by_seat n (added_steps es))) (here_added (n == n) e.0 before e.1)
    ∙ cuts-added n (before ++ (n, (e.0, Some e.1)) ∷ []) es

pub cuts-mark : (n lb : ℕ) (before : List (ℕ × Step)) → cuts_from n before (by_seat n (cut_mark lb true)) ≡ (lb, before) ∷ []
cuts-mark n lb before = ap (λ (b : Bool). cut_here b lb before None ++ []) (eq-eqb n n refl)

-- A hold's steps: its cut, and then entries.
abbrev pub hold_steps : (lb : ℕ) (cut : Bool) → List (ℕ × Entry) → List Step
hold_steps lb cut es = cut_mark lb cut ++ added_steps es

by_append : (n : ℕ) (xs ys : List Step) → by_seat n (xs ++ ys) ≡ by_seat n xs ++ by_seat n ys
by_append n [] ys = refl
by_append n (x ∷ xs) ys = ap (λ (l : List (ℕ × Step)). (n, x) ∷ l) (by_append n xs ys)

pub by-hold : (n lb : ℕ) (cut : Bool) (es : List (ℕ × Entry)) → by_seat n (hold_steps lb cut es) ≡ by_seat n (cut_mark lb cut) ++ by_seat n (added_steps es)
by-hold n lb cut es = by_append n (cut_mark lb cut) (added_steps es)

pub log-hold : (n lb : ℕ) (cut : Bool) (es : List (ℕ × Entry)) → log_in (by_seat n (hold_steps lb cut es)) ≡ by_seat n es
log-hold n lb cut es =
    ap (λ (l : List (ℕ × Step)). log_in l) (by-hold n lb cut es) ∙ log-append (by_seat n (cut_mark lb cut)) (by_seat n (added_steps es))
    ∙ ap (λ (l : List (ℕ × (ℕ × Entry))). l ++ log_in (by_seat n (added_steps es))) (log-mark n lb cut) ∙ log-added n es

pub cuts-hold : (n lb : ℕ) (before : List (ℕ × Step)) (cut : Bool) (es : List (ℕ × Entry))
    → cuts_from n before (by_seat n (hold_steps lb cut es)) ≡ cuts_from n before (by_seat n (cut_mark lb cut))
cuts-hold n lb before cut es =
    ap (λ (l : List (ℕ × Step)). cuts_from n before l) (by-hold n lb cut es)
    ∙ cuts-append n before (by_seat n (cut_mark lb cut)) (by_seat n (added_steps es))
    ∙ ap (λ (l : List (ℕ × List (ℕ × Step))). cuts_from n before (by_seat n (cut_mark lb cut)) ++ l) (cuts-added n (before ++ by_seat n (cut_mark lb cut)) es)
    ∙ append-nil (cuts_from n before (by_seat n (cut_mark lb cut)))

-- All cuts.
pub all-append : (xs ys : List (ℕ × Step)) → all_cuts (xs ++ ys) ≡ all_cuts xs ++ all_cuts ys
all-append [] ys = refl
all-append (x ∷ xs) ys =
    ap (λ (l : List (ℕ × ℕ)). marked x.0 x.1.0 x.1.1 ++ l) (all-append xs ys) ∙ sym (append_assoc (marked x.0 x.1.0 x.1.1) (all_cuts xs) (all_cuts ys))

all-added : (n : ℕ) (es : List (ℕ × Entry)) → all_cuts (by_seat n (added_steps es)) ≡ []
all-added n [] = refl
all-added n (e ∷ es) = all-added n es

mark-count : (n lb : ℕ) (cut : Bool) (count : ℕ) → count + length (all_cuts (by_seat n (cut_mark lb cut))) ≡ with_cut cut count
mark-count n lb true count = omega arith
mark-count n lb false count = omega arith

-- They are one more after a hold that cut.
pub count-hold : (n lb : ℕ) (steps : List (ℕ × Step)) (cut : Bool) (es : List (ℕ × Entry))
    → length (all_cuts (steps ++ by_seat n (hold_steps lb cut es))) ≡ with_cut cut (length (all_cuts steps))
count-hold n lb steps cut es =
    let news : all_cuts (by_seat n (hold_steps lb cut es)) ≡ all_cuts (by_seat n (cut_mark lb cut)) =
    ap (λ (l : List (ℕ × Step)). all_cuts l) (by-hold n lb cut es)
    ∙ all-append (by_seat n (cut_mark lb cut)) (by_seat n (added_steps es))
    ∙ ap (λ (l : List (ℕ × ℕ)). all_cuts (by_seat n (cut_mark lb cut)) ++ l) (all-added n es)
    ∙ append-nil (all_cuts (by_seat n (cut_mark lb cut))) in
    ap (λ (l : List (ℕ × ℕ)). length l) (all-append steps (by_seat n (hold_steps lb cut es)) ∙ ap (λ (l : List (ℕ × ℕ)). all_cuts steps ++ l) news)
    ∙ length-append (all_cuts steps) (all_cuts (by_seat n (cut_mark lb cut)))
    ∙ mark-count n lb cut (length (all_cuts steps))
