-- A page has its first line, and one for each balancer and each member.
use Rattle.std.proofs.Common.{ℕ, ◌+◌, ◌%◌, ◌<◌, ◌≡◌, ◌^◌, false, cond, ◌==◌, List, [], ◌∷◌, ◌++◌, length, slice_index_or, Option, Some, None, suc, zero, refl, ◌∙◌, codes, arith, All}
use Rattle.std.specs.Fmt.{decimal}
use Rattle.std.specs.List.{sum_by, flat_map}
use Rattle.std.proofs.lemmas.Bool.Decides.{nat_tests}
use Rattle.std.proofs.lemmas.Fmt.{decimal_by_steps_wide}
use Rattle.std.proofs.lemmas.List.Elements.{All-head, All-tail, All-map, All-weaker}
use Rattle.std.proofs.lemmas.List.Sums.{sum_by-append, sum_by-cons}
use Rattle.lb_model.specs.declared.member.Activation.{Activation}
use Rattle.lb_model.specs.declared.member.Activation.TheVariants as activation
use Rattle.lb_model.specs.declared.member.Method.{Method}
use Rattle.lb_model.specs.declared.member.Method.TheVariants as method
use Rattle.lb_model.specs.declared.state.MemberState.{MemberState}
use Rattle.lb_model.specs.declared.state.MemberState.TheVariants as state
use Rattle.lb_model.specs.declared.view.MemberRow.{MemberRow}
use Rattle.status_worker.specs.declared.page.BalancerType.{BalancerType}
use Rattle.status_worker.specs.declared.page.BalancerType.TheVariants as kind
use Rattle.status_worker.specs.declared.page.PagePart.{PagePart}
use Rattle.status_worker.specs.Lines.{line_count, IsOneLine, IsShownRow, IsShownPart, lines_of_part}
use Rattle.status_worker.specs.Page.{names_of, name_at, member_line, balancer_line, part_lines, page_of}
use Rattle.status_worker.specs.Words.{type_word, method_letter, activation_letter, state_word}

line_count-append : (xs ys : List ℕ) → line_count (xs ++ ys) ≡ line_count xs + line_count ys
unfolding line_count
line_count-append xs ys = sum_by-append (λ b. cond (b == 10) 1 0) xs ys

line_count-name : (name : List ℕ) → IsOneLine name → line_count name ≡ 0
unfolding line_count
line_count-name [] one = refl
line_count-name (b ∷ bs) one =
    let first : (b == 10) ≡ false = All-head (λ b. (b == 10) ≡ false) b bs one in
    let rest = line_count-name bs (All-tail (λ b. (b == 10) ≡ false) b bs one) in
    sum_by-cons (λ b. cond (b == 10) 1 0) b bs ∙ rw first (omega (arith, rest))

line_count-decimal : (n : ℕ) → n < 2 ^ 128 → line_count (decimal n) ≡ 0
unfolding line_count
line_count-decimal n small =
    decimal_by_steps_wide (λ n ds. line_count ds ≡ 0)
    (λ n digit. (let other : (48 + n == 10) ≡ false = grind (arith, nat_tests) in rw other refl))
    (λ n ds wide before.
    (let other : (48 + n % 10 == 10) ≡ false = grind (arith, nat_tests) in
    line_count-append ds ((48 + n % 10) ∷ []) ∙ rw (before, other) refl))
    n (omega arith)

line_count-activation : (a : Activation) → line_count (activation_letter a) ≡ 0
unfolding line_count
line_count-activation activation.Active = refl
line_count-activation activation.Disabled = refl
line_count-activation activation.Stopped = refl

line_count-state : (s : MemberState) → line_count (state_word s) ≡ 0
unfolding line_count
line_count-state state.Ok = refl
line_count-state (state.Error at) = refl
line_count-state state.Recover = refl
line_count-state (state.Probe ticket) = refl

line_count-method : (m : Method) → line_count (method_letter m) ≡ 0
unfolding line_count
line_count-method method.Request = refl
line_count-method method.Session = refl
line_count-method method.Traffic = refl
line_count-method method.Busyness = refl

line_count-type : (t : BalancerType) → line_count (type_word t) ≡ 0
unfolding line_count
line_count-type kind.Lb = refl
line_count-type kind.Ajp13 = refl

line_count-space : line_count (codes " ") ≡ 0
unfolding line_count
line_count-space = refl

line_count-end : line_count (codes "\n") ≡ 1
unfolding line_count
line_count-end = refl

line_count-dash : line_count (codes "-") ≡ 0
unfolding line_count
line_count-dash = refl

line_count-head : line_count (codes "jk status\n") ≡ 1
unfolding line_count
line_count-head = refl

line_count-at : (names : List (List ℕ)) (place : ℕ) → All IsOneLine names → line_count (slice_index_or names place (codes "-")) ≡ 0
line_count-at [] place one = line_count-dash
line_count-at (name ∷ names) zero one = line_count-name name (All-head IsOneLine name names one)
line_count-at (name ∷ names) (suc place) one = line_count-at names place (All-tail IsOneLine name names one)

line_count-name_at : (names : List (List ℕ)) (place : Option ℕ) → All IsOneLine names → line_count (name_at names place) ≡ 0
line_count-name_at names None one = line_count-dash
line_count-name_at names (Some place) one = line_count-at names place one

module _ (names : List (List ℕ)) (one : All IsOneLine names) where
  line_count-member : (row : MemberRow) → IsShownRow row → line_count (member_line names row) ≡ 1
  line_count-member row shown =
      simp (
        line_count-append,
        line_count-space,
        line_count-end,
        line_count-name row.name shown.name,
        line_count-activation row.activation,
        line_count-state row.state,
        line_count-decimal row.load shown.load,
        line_count-decimal row.busy (omega (arith, shown.busy)),
        line_count-decimal row.factor (omega (arith, shown.factor)),
        line_count-decimal row.distance (omega (arith, shown.distance)),
        line_count-name_at names row.redirect one,
      )

  line_count-members : (rows : List MemberRow) → All IsShownRow rows → line_count (flat_map (member_line names) rows) ≡ length rows
  unfolding line_count
  line_count-members [] shown = refl
  line_count-members (row ∷ rows) shown =
      let first = line_count-member row (All-head IsShownRow row rows shown) in
      let rest = line_count-members rows (All-tail IsShownRow row rows shown) in
      line_count-append (member_line names row) (flat_map (member_line names) rows) ∙ omega (arith, first, rest)

line_count-balancer : (part : PagePart) → IsShownPart part → line_count (balancer_line part) ≡ 1
line_count-balancer part shown =
    simp (
      line_count-append,
      line_count-space,
      line_count-end,
      line_count-name part.name shown.name,
      line_count-type part.type_,
      line_count-method part.method,
      line_count-decimal (length part.view.rows) (omega (arith, shown.few)),
      line_count-decimal part.view.next (omega (arith, shown.next)),
    )

line_count-part : (part : PagePart) → IsShownPart part → line_count (part_lines part) ≡ lines_of_part part
line_count-part part shown =
    let rows = part.view.rows in
    let named = All-map IsOneLine (λ (row : MemberRow). row.name) rows (All-weaker IsShownRow (λ row. IsOneLine row.name) (λ row is. is.name) rows shown.rows) in
    let first = line_count-balancer part shown in
    let rest = line_count-members (names_of rows) named rows shown.rows in
    line_count-append (balancer_line part) (flat_map (member_line (names_of rows)) rows) ∙ omega (arith, first, rest)

line_count-parts : (parts : List PagePart) → All IsShownPart parts → line_count (flat_map part_lines parts) ≡ sum_by lines_of_part parts
unfolding line_count
line_count-parts [] shown = refl
line_count-parts (part ∷ parts) shown =
    let first = line_count-part part (All-head IsShownPart part parts shown) in
    let rest = line_count-parts parts (All-tail IsShownPart part parts shown) in
    line_count-append (part_lines part) (flat_map part_lines parts) ∙ omega (arith, first, rest, sum_by-cons lines_of_part part parts)

pub line_count-page : (parts : List PagePart) → All IsShownPart parts → line_count (page_of parts) ≡ 1 + sum_by lines_of_part parts
line_count-page parts shown =
    line_count-append (codes "jk status\n") (flat_map part_lines parts) ∙ omega (arith, line_count-head, line_count-parts parts shown)
