-- The lines of openings, place by place.
use Rattle.std.proofs.Common.{◌≡◌, ℕ, suc, zero, ◌+◌, ◌<◌, ◌≤◌, List, [], ◌∷◌, ◌++◌, length, map, Some, None, Result, Ok, Err, get_or, ◌-◌, refl, sym, ap, subst, ◌∙◌, append_assoc, zero-add, length-append, arith}
use Rattle.std.specs.Prelude.{option_map, slice_get, OnOk}
use Rattle.std.proofs.lemmas.List.{length-map, map-append}
use Rattle.std.proofs.lemmas.Option.{slice_get-get_or, slice_get-map}
use Rattle.lb_model.specs.Tickets.{Ticket}
use Rattle.lb_model.specs.declared.member.MemberConfig.{MemberConfig}
use Rattle.lb_model.specs.declared.opening.Opening.{Opening}
use Rattle.lb_model.specs.declared.view.MemberRow.{MemberRow}
use Rattle.journal_text.specs.Lines.{line_text}
use Rattle.journal_text.specs.declared.line.BalancerValues.{BalancerValues}
use Rattle.journal_text.specs.declared.line.Beginning.{Beginning}
use Rattle.journal_text.specs.declared.line.Line.{Line}
use Rattle.journal_text.specs.declared.line.Line.TheVariants as line
use Rattle.journal_text.specs.SegmentText.{balancer_values, beginning, lease_lines, member_line, member_lines, opening_lines}
use Rattle.journal_verdict.specs.Verdicts.{opening_texts}

-- ---- an item of two lists joined

pub in_first : {T : Type 0} (xs ys : List T) (i : ℕ) (x : T) → slice_get xs i ≡ Some x → slice_get (xs ++ ys) i ≡ Some x
in_first [] ys i x h = absurd (let none : None ≡ Some x = h in cc)
in_first (y ∷ xs) ys zero x h = h
in_first (y ∷ xs) ys (suc i) x h = in_first xs ys i x h

pub in_second : {T : Type 0} (xs ys : List T) (i : ℕ) (x : T) → slice_get ys i ≡ Some x → slice_get (xs ++ ys) (length xs + i) ≡ Some x
in_second [] ys i x h = subst (λ n. slice_get ys n ≡ Some x) (sym (zero-add i)) h
in_second (y ∷ xs) ys i x h =
    let place : suc (length xs) + i ≡ suc (length xs + i) = omega arith in
    subst (λ n. slice_get (y ∷ (xs ++ ys)) n ≡ Some x) (sym place) (in_second xs ys i x h)

-- ---- each line of an opening

member_at : (ms : List MemberConfig) (rs : List MemberRow) (i : ℕ) (c : MemberConfig) (r : MemberRow) → slice_get ms i ≡ Some c → slice_get rs i ≡ Some r
    → slice_get (member_lines ms rs) i ≡ Some (member_line c r)
member_at [] rs i c r h k = absurd (let none : None ≡ Some c = h in cc)
member_at (x ∷ ms) [] i c r h k = absurd (let none : None ≡ Some r = k in cc)
member_at (x ∷ ms) (y ∷ rs) zero c r h k =
    let same : x ≡ c = cc in
    let row : y ≡ r = cc in
    ap (λ m. Some (member_line m y)) same ∙ ap (λ s. Some (member_line c s)) row
member_at (x ∷ ms) (y ∷ rs) (suc i) c r h k = member_at ms rs i c r h k

members_long : (ms : List MemberConfig) (rs : List MemberRow) → length rs ≡ length ms → length (member_lines ms rs) ≡ length ms
members_long [] rs h = refl
members_long (c ∷ ms) [] h = absurd (omega (arith, h))
members_long (c ∷ ms) (r ∷ rs) h = ap suc (members_long ms rs (omega (arith, h)))

text_at : (v : ℕ) (name : List ℕ) (o : Opening) (i : ℕ) (l : Line) → slice_get (opening_lines name o) i ≡ Some l
    → slice_get (opening_texts v name o) i ≡ Some (line_text v l)
unfolding opening_texts
text_at v name o i l h = slice_get-map (λ x. line_text v x) (opening_lines name o) i ∙ ap (option_map (λ x. line_text v x)) h

pub member_text : (v : ℕ) (name : List ℕ) (o : Opening) (i : ℕ) (c : MemberConfig) (r : MemberRow)
    → slice_get o.config.members i ≡ Some c → slice_get o.rows i ≡ Some r
    → slice_get (opening_texts v name o) (suc i) ≡ Some (line_text v (member_line c r))
member_text v name o i c r h k =
    text_at v name o (suc i) (member_line c r)
    (in_first (member_lines o.config.members o.rows) (lease_lines o.out ++ line.From (beginning o) ∷ []) i (member_line c r)
    (member_at o.config.members o.rows i c r h k))

pub lease_text : (v : ℕ) (name : List ℕ) (o : Opening) (i : ℕ) (x : Ticket) → length o.rows ≡ length o.config.members → slice_get o.out i ≡ Some x
    → slice_get (opening_texts v name o) (suc (length o.config.members + i)) ≡ Some (line_text v (line.Lease x.0 x.1))
lease_text v name o i x rows h =
    let ms = member_lines o.config.members o.rows in
    let rest = lease_lines o.out ++ line.From (beginning o) ∷ [] in
    let lease : slice_get (lease_lines o.out) i ≡ Some (line.Lease x.0 x.1) =
    slice_get-map (λ (y : Ticket). line.Lease y.0 y.1) o.out i ∙ ap (option_map (λ (y : Ticket). line.Lease y.0 y.1)) h in
    let at : slice_get (ms ++ rest) (length ms + i) ≡ Some (line.Lease x.0 x.1) =
    in_second ms rest i (line.Lease x.0 x.1) (in_first (lease_lines o.out) (line.From (beginning o) ∷ []) i (line.Lease x.0 x.1) lease) in
    text_at v name o (suc (length o.config.members + i)) (line.Lease x.0 x.1)
    (subst (λ n. slice_get (ms ++ rest) (n + i) ≡ Some (line.Lease x.0 x.1)) (members_long o.config.members o.rows rows) at)

pub from_text : (v : ℕ) (name : List ℕ) (o : Opening) → length o.rows ≡ length o.config.members
    → slice_get (opening_texts v name o) (suc (length o.config.members + length o.out)) ≡ Some (line_text v (line.From (beginning o)))
from_text v name o rows =
    let ms = member_lines o.config.members o.rows in
    let rest = lease_lines o.out ++ line.From (beginning o) ∷ [] in
    let last : slice_get rest (length (lease_lines o.out) + 0) ≡ Some (line.From (beginning o)) =
    in_second (lease_lines o.out) (line.From (beginning o) ∷ []) 0 (line.From (beginning o)) refl in
    let at : slice_get (ms ++ rest) (length ms + (length (lease_lines o.out) + 0)) ≡ Some (line.From (beginning o)) =
    in_second ms rest (length (lease_lines o.out) + 0) (line.From (beginning o)) last in
    let place : length ms + (length (lease_lines o.out) + 0) ≡ length o.config.members + length o.out =
    omega (arith, members_long o.config.members o.rows rows, length-map o.out (λ (y : Ticket). line.Lease y.0 y.1)) in
    text_at v name o (suc (length o.config.members + length o.out)) (line.From (beginning o))
    (subst (λ n. slice_get (ms ++ rest) n ≡ Some (line.From (beginning o))) place at)

pub opening_long : (name : List ℕ) (o : Opening) → length o.rows ≡ length o.config.members
    → length (opening_lines name o) ≡ length o.config.members + length o.out + 2
opening_long name o rows =
    omega (
      arith,
      members_long o.config.members o.rows rows,
      length-append (member_lines o.config.members o.rows) (lease_lines o.out ++ line.From (beginning o) ∷ []),
      length-append (lease_lines o.out) (line.From (beginning o) ∷ []),
      length-map o.out (λ (y : Ticket). line.Lease y.0 y.1),
    )

pub texts_long : (v : ℕ) (name : List ℕ) (o : Opening) → length o.rows ≡ length o.config.members
    → length (opening_texts v name o) ≡ length o.config.members + length o.out + 2
unfolding opening_texts
texts_long v name o rows = length-map (opening_lines name o) (λ l. line_text v l) ∙ opening_long name o rows

-- ---- the last line of an opening is like none before it

-- the line begins with an f, as the last one does alone
abbrev IsLast : List ℕ → Type 0
IsLast text = slice_get text 0 ≡ Some 102

other_byte : (a b : ℕ) → Some a ≡ Some b → a ≡ b
other_byte a b h = cc

abbrev AreBefore : List (List ℕ) → Type 0
AreBefore [] = Unit {0}
AreBefore (text ∷ texts) = (IsLast text → ⊥) × AreBefore texts

before_append : (xs ys : List (List ℕ)) → AreBefore xs → AreBefore ys → AreBefore (xs ++ ys)
before_append [] ys h k = k
before_append (x ∷ xs) ys h k = (h.0, before_append xs ys h.1 k)

members_before : (v : ℕ) (ms : List MemberConfig) (rs : List MemberRow) → AreBefore (map (λ l. line_text v l) (member_lines ms rs))
members_before v [] rs = tt
members_before v (c ∷ ms) [] = tt
members_before v (c ∷ ms) (r ∷ rs) = ((λ h. omega (arith, other_byte 109 102 h)), members_before v ms rs)

leases_before : (v : ℕ) (out : List Ticket) → AreBefore (map (λ l. line_text v l) (lease_lines out))
leases_before v [] = tt
leases_before v (x ∷ out) = ((λ h. omega (arith, other_byte 108 102 h)), leases_before v out)

-- lists that are the same as far as both go, and end with their one last line
same_whole : (xs ys : List (List ℕ)) (x y : List ℕ) → AreBefore xs → AreBefore ys → IsLast x → IsLast y
    → ((i : ℕ) → i < length (xs ++ x ∷ []) → i < length (ys ++ y ∷ []) → slice_get (xs ++ x ∷ []) i ≡ slice_get (ys ++ y ∷ []) i)
    → xs ++ x ∷ [] ≡ ys ++ y ∷ []
same_whole [] [] x y hx hy lx ly same =
    let first : Some x ≡ Some y = same 0 (omega arith) (omega arith) in
    let alike : x ≡ y = cc in
    ap (λ t. t ∷ []) alike
same_whole [] (b ∷ ys) x y hx hy lx ly same =
    let first : Some x ≡ Some b = same 0 (omega arith) (omega arith) in
    let alike : x ≡ b = cc in
    absurd (hy.0 (subst IsLast alike lx))
same_whole (a ∷ xs) [] x y hx hy lx ly same =
    let first : Some a ≡ Some y = same 0 (omega arith) (omega arith) in
    let alike : a ≡ y = cc in
    absurd (hx.0 (subst IsLast (sym alike) ly))
same_whole (a ∷ xs) (b ∷ ys) x y hx hy lx ly same =
    let first : Some a ≡ Some b = same 0 (omega arith) (omega arith) in
    let alike : a ≡ b = cc in
    ap (λ t. t ∷ (xs ++ x ∷ [])) alike
    ∙ ap (λ ts. b ∷ ts) (same_whole xs ys x y hx.1 hy.1 lx ly (λ i h k. same (suc i) (omega (arith, h)) (omega (arith, k))))

front_texts : (v : ℕ) (name : List ℕ) (o : Opening) → List (List ℕ)
front_texts v name o =
    line_text v (line.Balancer name (balancer_values o.config))
    ∷ (map (λ l. line_text v l) (member_lines o.config.members o.rows) ++ map (λ l. line_text v l) (lease_lines o.out))

front_before : (v : ℕ) (name : List ℕ) (o : Opening) → AreBefore (front_texts v name o)
unfolding front_texts
front_before v name o = (
  (λ h. omega (arith, other_byte 108 102 h)),
  before_append _ _ (members_before v o.config.members o.rows) (leases_before v o.out),
)

parts_of_texts : (v : ℕ) (name : List ℕ) (o : Opening) → opening_texts v name o ≡ front_texts v name o ++ line_text v (line.From (beginning o)) ∷ []
unfolding front_texts opening_texts
parts_of_texts v name o =
    let f : Line → List ℕ = λ l. line_text v l in
    let ms = member_lines o.config.members o.rows in
    ap (λ ts. f (line.Balancer name (balancer_values o.config)) ∷ ts)
    (map-append f ms (lease_lines o.out ++ line.From (beginning o) ∷ [])
    ∙ ap (λ ts. map f ms ++ ts) (map-append f (lease_lines o.out) (line.From (beginning o) ∷ []))
    ∙ sym (append_assoc (map f ms) (map f (lease_lines o.out)) (f (line.From (beginning o)) ∷ [])))

-- two openings whose lines are the same as far as both go have the same lines
pub same_texts : (v : ℕ) (name former : List ℕ) (o p : Opening)
    → ((i : ℕ) → i < length (opening_texts v name o) → i < length (opening_texts v former p)
    → slice_get (opening_texts v name o) i ≡ slice_get (opening_texts v former p) i)
    → opening_texts v name o ≡ opening_texts v former p
same_texts v name former o p same =
    let x = line_text v (line.From (beginning o)) in
    let y = line_text v (line.From (beginning p)) in
    parts_of_texts v name o
    ∙ same_whole (front_texts v name o) (front_texts v former p) x y (front_before v name o) (front_before v former p) refl refl
    (subst (λ (ys : List (List ℕ)). (i : ℕ) → i < length (front_texts v name o ++ x ∷ []) → i < length ys → slice_get (front_texts v name o ++ x ∷ []) i ≡ slice_get ys i)
    (parts_of_texts v former p)
    (subst (λ (xs : List (List ℕ)). (i : ℕ) → i < length xs → i < length (opening_texts v former p) → slice_get xs i ≡ slice_get (opening_texts v former p) i)
    (parts_of_texts v name o) same))
    ∙ sym (parts_of_texts v former p)

-- ---- a line that was put

pub on_ok : {T E P Q : Type 0} (r : Result T E) → (P → Q) → OnOk r P → OnOk r Q
on_ok (Ok x) f h = f h
on_ok (Err e) f h = h

put_alone : (old new text : List ℕ) → old ≡ [] → new ≡ old ++ text → new ≡ text
put_alone old new text empty is = is ∙ ap (λ t. t ++ text) empty

pub balancer_put : (v : ℕ) (name : List ℕ) (o : Opening) (place : ℕ) (b : BalancerValues) (old new : List ℕ) → place ≡ 0 → b ≡ balancer_values o.config
    → old ≡ [] → new ≡ old ++ line_text v (line.Balancer name b) → slice_get (opening_texts v name o) place ≡ Some new
balancer_put v name o place b old new first values empty is =
    subst (λ n. slice_get (opening_texts v name o) n ≡ Some new) (sym first)
    (text_at v name o 0 (line.Balancer name (balancer_values o.config)) refl
    ∙ ap (λ (x : BalancerValues). Some (line_text v (line.Balancer name x))) (sym values)
    ∙ ap Some (sym (put_alone old new (line_text v (line.Balancer name b)) empty is)))

pub member_put : (v : ℕ) (name : List ℕ) (o : Opening) (place : ℕ) (ms : List MemberConfig) (rs : List MemberRow) (c : MemberConfig) (r : MemberRow) (old new : List ℕ)
    → ms ≡ o.config.members → rs ≡ o.rows → length o.rows ≡ length o.config.members → 0 < place → place ≤ length ms
    → c ≡ get_or ms (place - 1) c → r ≡ get_or rs (place - 1) r → old ≡ [] → new ≡ old ++ line_text v (member_line c r)
    → slice_get (opening_texts v name o) place ≡ Some new
member_put v name o place ms rs c r old new same rows even some within member row empty is =
    let found : slice_get ms (place - 1) ≡ Some c = slice_get-get_or ms (place - 1) c (omega (arith, some, within)) ∙ ap Some (sym member) in
    let shown : slice_get rs (place - 1) ≡ Some r =
    slice_get-get_or rs (place - 1) r (omega (arith, some, within, ap length same, ap length rows, even)) ∙ ap Some (sym row) in
    let next : suc (place - 1) ≡ place = omega (arith, some) in
    subst (λ n. slice_get (opening_texts v name o) n ≡ Some new) next
    (member_text v name o (place - 1) c r (subst (λ (xs : List MemberConfig). slice_get xs (place - 1) ≡ Some c) same found)
    (subst (λ (xs : List MemberRow). slice_get xs (place - 1) ≡ Some r) rows shown)
    ∙ ap Some (sym (put_alone old new (line_text v (member_line c r)) empty is)))

pub lease_put : (v : ℕ) (name : List ℕ) (o : Opening) (place at : ℕ) (ts : List Ticket) (d : Ticket) (old new : List ℕ)
    → ts ≡ o.out → length o.rows ≡ length o.config.members → place ≡ suc (length o.config.members + at) → at < length ts
    → old ≡ [] → new ≡ old ++ line_text v (line.Lease (get_or ts at d).0 (get_or ts at d).1)
    → slice_get (opening_texts v name o) place ≡ Some new
lease_put v name o place at ts d old new same even here within empty is =
    let x : Ticket = get_or ts at d in
    let found : slice_get ts at ≡ Some x = slice_get-get_or ts at d within in
    subst (λ n. slice_get (opening_texts v name o) n ≡ Some new) (sym here)
    (lease_text v name o at x even (subst (λ (xs : List Ticket). slice_get xs at ≡ Some x) same found) ∙ ap Some (sym (put_alone old new (line_text v (line.Lease x.0 x.1)) empty is)))

pub from_put : (v : ℕ) (name : List ℕ) (o : Opening) (place : ℕ) (b : Beginning) (old new : List ℕ) → length o.rows ≡ length o.config.members
    → place ≡ suc (length o.config.members + length o.out) → b ≡ beginning o → old ≡ [] → new ≡ old ++ line_text v (line.From b)
    → slice_get (opening_texts v name o) place ≡ Some new
from_put v name o place b old new even here values empty is =
    subst (λ n. slice_get (opening_texts v name o) n ≡ Some new) (sym here)
    (from_text v name o even
    ∙ ap (λ (x : Beginning). Some (line_text v (line.From x))) (sym values)
    ∙ ap Some (sym (put_alone old new (line_text v (line.From b)) empty is)))
