-- The lines of an opening, and what stands past their end.
use Rattle.std.proofs.Common.{◌≡◌, ℕ, zero, suc, ◌+◌, ◌≤◌, List, [], ◌∷◌, ◌++◌, Some, None, Result, Ok, Err, IfOk, length, refl, sym, ap, ◌∙◌, arith, length-append}
use Rattle.std.specs.Prelude.{slice_get, slice_index_or}
use Rattle.std.proofs.lemmas.List.{length-map}
use Rattle.jk_io.specs.declared.failures.NoMemory.{NoMemory}
use Rattle.lb_model.specs.Validity.{IsOpening}
use Rattle.lb_model.specs.declared.member.MemberConfig.{MemberConfig}
use Rattle.lb_model.specs.declared.opening.Opening.{Opening}
use Rattle.lb_model.specs.declared.view.MemberRow.{MemberRow}
use Rattle.journal_text.specs.Lines.{line_text}
use Rattle.journal_text.specs.declared.line.Line.TheVariants as line
use Rattle.journal_text.specs.SegmentText.{beginning, lease_lines, member_lines, opening_lines}
use Rattle.journal_verdict.specs.Verdicts.{opening_texts}

at_or : (xs : List (List ℕ)) (i : ℕ) (x : List ℕ) → slice_get xs i ≡ Some x → x ≡ slice_index_or xs i []
at_or [] i x h = absurd (let none : None ≡ Some x = h in cc)
at_or (y ∷ xs) zero x h = let same : Some y ≡ Some x = h in cc
at_or (y ∷ xs) (suc i) x h = at_or xs i x h

past_or : (xs : List (List ℕ)) (i : ℕ) → length xs ≤ i → slice_index_or xs i [] ≡ []
past_or [] i h = refl
past_or (y ∷ xs) zero h = absurd (omega (arith, h))
past_or (y ∷ xs) (suc i) h = past_or xs i (omega (arith, h))

members_long : (ms : List MemberConfig) (rs : List MemberRow) → length rs ≡ length ms → length (member_lines ms rs) ≡ length ms
members_long [] rs h = refl
members_long (c ∷ ms) [] h = absurd (omega (arith, h))
members_long (c ∷ ms) (r ∷ rs) h = ap suc (members_long ms rs (omega (arith, h)))

opening_long : (v : ℕ) (name : List ℕ) (o : Opening) → length o.rows ≡ length o.config.members
    → length (opening_texts v name o) ≡ length o.config.members + length o.out + 2
unfolding opening_texts
opening_long v name o rows =
    let ms = member_lines o.config.members o.rows in
    let last = line.From (beginning o) ∷ [] in
    let all = length-map (opening_lines name o) (λ l. line_text v l) in
    omega (
      arith,
      all,
      members_long o.config.members o.rows rows,
      length-append ms (lease_lines o.out ++ last),
      length-append (lease_lines o.out) last,
      length-map o.out (λ x. line.Lease x.0 x.1),
    )

pub line_found : (v : ℕ) (name : List ℕ) (o : Opening) (at : ℕ) (r : Result (List ℕ) NoMemory)
    → IfOk r (λ line. slice_get (opening_texts v name o) at ≡ Some line) → IfOk r (λ line. line ≡ slice_index_or (opening_texts v name o) at [])
line_found v name o at (Ok line) found = at_or (opening_texts v name o) at line found
line_found v name o at (Err e) found = tt

pub line_missed : (v : ℕ) (name : List ℕ) (o : Opening) (at : ℕ) (line : List ℕ) → line ≡ [] → IsOpening o
    → length o.config.members + length o.out + 2 ≤ at → line ≡ slice_index_or (opening_texts v name o) at []
line_missed v name o at line none valid past =
    none ∙ sym (past_or (opening_texts v name o) at (omega (arith, past, opening_long v name o valid.rows.count)))
