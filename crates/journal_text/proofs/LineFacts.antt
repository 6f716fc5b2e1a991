-- The lines of the members, one by one.
use Rattle.std.proofs.Common.{◌≡◌, ℕ, suc, zero, ◌+◌, ◌<◌, List, [], ◌∷◌, ◌++◌, length, get_or, take, refl, ap, arith, add-one}
use Rattle.lb_model.specs.declared.member.MemberConfig.{MemberConfig}
use Rattle.lb_model.specs.declared.view.MemberRow.{MemberRow}
use Rattle.journal_text.specs.SegmentText.{member_line, member_lines}

more : (ms : List MemberConfig) (rs : List MemberRow) (i : ℕ) (c : MemberConfig) (r : MemberRow) → i < length ms → i < length rs
    → member_lines (take (suc i) ms) (take (suc i) rs) ≡ member_lines (take i ms) (take i rs) ++ member_line (get_or ms i c) (get_or rs i r) ∷ []
more [] rs i c r h k = absurd (omega arith)
more (m ∷ ms) [] i c r h k = absurd (omega arith)
more (m ∷ ms) (s ∷ rs) zero c r h k = refl
more (m ∷ ms) (s ∷ rs) (suc i) c r h k = ap (λ ls. member_line m s ∷ ls) (more ms rs i c r (omega arith) (omega arith))

-- the line of the next member follows those of the members before it
pub member_lines_more : (ms : List MemberConfig) (rs : List MemberRow) (i : ℕ) (c : MemberConfig) (r : MemberRow) → i < length ms → i < length rs
    → member_lines (take (i + 1) ms) (take (i + 1) rs) ≡ member_lines (take i ms) (take i rs) ++ member_line (get_or ms i c) (get_or rs i r) ∷ []
member_lines_more ms rs i c r h k = rw add-one (more ms rs i c r h k)
