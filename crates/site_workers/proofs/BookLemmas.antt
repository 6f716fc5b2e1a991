-- Why a balancer's configuration is refused, where its members are in their ranges.
use Rattle.std.proofs.Common.{◌≡◌, ℕ, ◌<◌, ◌≤◌, ◌^◌, List, [], ◌∷◌, length, Some, refl, suc, zero, arith, lit≤}
use Rattle.std.specs.List.{slice_get}
use Rattle.lb_model.specs.Multiple.{multiple_of}
use Rattle.lb_model.specs.Ranges.{AreInRange, IsPeriod, IsRefusedConfig, factors_in}
use Rattle.lb_model.specs.declared.config_error.ConfigError.{ConfigError}
use Rattle.lb_model.specs.declared.config_error.ConfigError.TheVariants as Refusal
use Rattle.lb_model.specs.declared.member.MemberConfig.{MemberConfig}
use Rattle.site_workers.proofs.WorkerLemmas.{one_factor}

-- a place of a list has a member
has_member : (ms : List MemberConfig) (i : ℕ) → i < length ms → ((m : MemberConfig) → slice_get ms i ≡ Some m → ⊥) → ⊥
has_member [] i h none = omega arith
has_member (m ∷ ms) zero h none = none m refl
has_member (m ∷ ms) (suc i) h none = has_member ms i (omega arith) none

-- members that are as many as may be, in range, and periods in range: the factors alone are refused
pub book_refused : (maintain recover : ℕ) (ms : List MemberConfig) (e : ConfigError) → 1 ≤ length ms → length ms ≤ 64 → AreInRange ms → IsPeriod maintain → IsPeriod recover → IsRefusedConfig maintain recover ms e → 2 ^ 32 ≤ multiple_of (factors_in ms)
book_refused maintain recover ms Refusal.NoMembers some few within m r h = absurd (omega arith)
book_refused maintain recover ms Refusal.TooMany some few within m r h = absurd (omega arith)
book_refused maintain recover ms (Refusal.BadMember i) some few within m r h = absurd (has_member ms i h.1.within (λ x e. h.1.bad x e (within.at i x e)))
book_refused maintain recover ms Refusal.BadTime some few within m r h = absurd (h.2 (m, r))
book_refused maintain recover ms Refusal.TooWide some few within m r h = h.4

-- one member's factor is never too wide
one_narrow : (ms : List MemberConfig) → length ms ≡ 1 → AreInRange ms → multiple_of (factors_in ms) < 2 ^ 32
one_narrow [] one within = absurd (omega arith)
one_narrow (m ∷ []) one within =
    let below = (within.at 0 m refl).factor_below in
    rw (one_factor m.factor) (omega arith)
one_narrow (m ∷ n ∷ ms) one within = absurd (omega arith)

pub one_book : (maintain : ℕ) (ms : List MemberConfig) (e : ConfigError) → length ms ≡ 1 → AreInRange ms → IsPeriod maintain → IsRefusedConfig maintain 60 ms e → ⊥
one_book maintain ms e one within m h =
    let minute : IsPeriod 60 = record { above = lit≤ tt; below = lit≤ tt } in
    let wide = book_refused maintain 60 ms e (omega arith) (omega arith) within m minute h in
    let narrow = one_narrow ms one within in
    omega arith
