-- A configuration is never refused, a value out of its range makes no opening, and lines say one opening at most.
use Rattle.std.proofs.Common.{◌≡◌, ℕ, suc, zero, ◌<◌, ◌^◌, Bool, List, [], ◌∷◌, length, Option, refl, sym, ap, subst, ◌∙◌, arith}
use Rattle.std.specs.Prelude.{Some, slice_get}
use Rattle.std.proofs.lemmas.List.{same_lists}
use Rattle.std.proofs.Props.{props}
use Rattle.lb_model.specs.Multiple.{multiple_of}
use Rattle.lb_model.specs.Ranges.{AreInRange, IsCount, IsPeriod, factors_in}
use Rattle.lb_model.specs.Tickets.{Ticket}
use Rattle.lb_model.specs.declared.member.Method.{Method}
use Rattle.lb_model.specs.declared.opening.Opening.{Opening}
use Rattle.lb_model.specs.declared.view.MemberRow.{MemberRow}
use Rattle.journal_text.specs.declared.line.Beginning.{Beginning}
use Rattle.lb_model.specs.Ranges.{IsRefusedConfig}
use Rattle.lb_model.specs.declared.config.LbConfig.{LbConfig}
use Rattle.lb_model.specs.declared.config_error.ConfigError.{ConfigError}
use Rattle.lb_model.specs.declared.config_error.ConfigError.TheVariants as refusal
use Rattle.lb_model.specs.declared.member.MemberConfig.{MemberConfig}
use Rattle.journal_text.specs.Openings.{AreCounted, IsConfigured, IsOpened}
use Rattle.journal_text.specs.declared.draft.OpeningDraft.{OpeningDraft}

nth : (xs : List MemberConfig) (m : ℕ) → m < length xs → (x : MemberConfig) × (slice_get xs m ≡ Some x)
nth [] m h = absurd (omega (arith, h))
nth (x ∷ xs) zero h = (x, refl)
nth (x ∷ xs) (suc m) h = nth xs m (omega (arith, h))

not_refused : (c : LbConfig) (e : ConfigError) → IsRefusedConfig c.maintain c.recover c.members e → ⊥
not_refused c refusal.NoMembers h = omega (arith, h, c.count.some)
not_refused c refusal.TooMany h = omega (arith, h, c.count.few)
not_refused c (refusal.BadMember i) h =
    let found = nth c.members i h.1.within in
    h.1.bad found.0 found.1 (c.in_range.at i found.0 found.1)
not_refused c refusal.BadTime h = h.2 (c.maintains, c.recovers)
not_refused c refusal.TooWide h = omega (arith, h.4, c.narrow)

-- where the values of the lines are refused, there is no configuration of them
pub refused_none : (d : OpeningDraft) (c : LbConfig) (e : ConfigError) → IsConfigured d c → IsRefusedConfig d.values.maintain d.values.recover d.members e → ⊥
refused_none d c e h refused =
    not_refused c e
    (subst (λ ms. IsRefusedConfig c.maintain c.recover ms e) (sym h.members)
    (subst (λ r. IsRefusedConfig c.maintain r d.members e) (sym h.recover)
    (subst (λ m. IsRefusedConfig m d.values.recover d.members e) (sym h.maintain) refused)))

-- ---- the opening that the lines say

same_rows : (out : List Ticket) (old a b : List MemberRow) → AreCounted out (length old) old a → AreCounted out (length old) old b → a ≡ b
same_rows out old a b h k =
    same_lists a b (h.whole ∙ sym k.whole) (λ i d below.
    let inside : i < length old = omega (arith, below, h.whole) in
    h.below i d inside inside ∙ sym (k.below i d inside inside))

opening : LbConfig → List MemberRow → List Ticket → (next at maintained : ℕ) → Option ℕ → Opening
opening config rows out next at maintained chosen =
    record { config = config; rows = rows; out = out; next = next; at = at; maintained = maintained; chosen = chosen }

-- each fact on a configuration has one proof
count_prop : (n : ℕ) → IsProp (IsCount n)
count_prop n = hlevel props

period_prop : (n : ℕ) → IsProp (IsPeriod n)
period_prop n = hlevel props

in_range_prop : (ms : List MemberConfig) → IsProp (AreInRange ms)
in_range_prop ms = hlevel props

narrow_prop : (ms : List MemberConfig) → IsProp (multiple_of (factors_in ms) < 2 ^ 32)
narrow_prop ms = hlevel props

abbrev config : (m : Method) (s f d : Bool) (mt r : ℕ) (ms : List MemberConfig) → IsCount (length ms) → AreInRange ms → IsPeriod mt → IsPeriod r
    → multiple_of (factors_in ms) < 2 ^ 32 → LbConfig
config m s f d mt r ms c i a b n = record {
  method = m;
  sticky = s;
  force = f;
  direct = d;
  maintain = mt;
  recover = r;
  members = ms;
  count = c;
  in_range = i;
  maintains = a;
  recovers = b;
  narrow = n;
}

config_same : (m : Method) (s f d : Bool) (mt r : ℕ) (ms : List MemberConfig) (c : IsCount (length ms)) (i : AreInRange ms) (a : IsPeriod mt) (b : IsPeriod r)
    (n : multiple_of (factors_in ms) < 2 ^ 32) (mt' r' : ℕ) (ms' : List MemberConfig) → mt ≡ mt' → r ≡ r' → ms ≡ ms'
    → (c' : IsCount (length ms')) (i' : AreInRange ms') (a' : IsPeriod mt') (b' : IsPeriod r') (n' : multiple_of (factors_in ms') < 2 ^ 32)
    → config m s f d mt r ms c i a b n ≡ config m s f d mt' r' ms' c' i' a' b' n'
config_same m s f d mt r ms c i a b n mt' r' ms' p q w c' i' a' b' n' =
    subst (λ x. (a' : IsPeriod x) → config m s f d mt r ms c i a b n ≡ config m s f d x r' ms' c' i' a' b' n') p (λ a'.
    subst (λ y. (b' : IsPeriod y) → config m s f d mt r ms c i a b n ≡ config m s f d mt y ms' c' i' a' b' n') q (λ b'.
    subst (λ z. (c' : IsCount (length z)) (i' : AreInRange z) (n' : multiple_of (factors_in z) < 2 ^ 32) → config m s f d mt r ms c i a b n ≡ config m s f d mt r z c' i' a' b' n') w (λ c' i' n'.
    ap (λ x. config m s f d mt r ms x i a b n) (count_prop (length ms) c c')
    ∙ ap (λ x. config m s f d mt r ms c' x a b n) (in_range_prop ms i i')
    ∙ ap (λ x. config m s f d mt r ms c' i' x b n) (period_prop mt a a')
    ∙ ap (λ x. config m s f d mt r ms c' i' a' x n) (period_prop r b b')
    ∙ ap (λ x. config m s f d mt r ms c' i' a' b' x) (narrow_prop ms n n')) c' i' n') b') a'

same_config : (d : OpeningDraft) (x y : LbConfig) → IsConfigured d x → IsConfigured d y → x ≡ y
same_config d x y h k =
    config_same x.method x.sticky x.force x.direct x.maintain x.recover x.members x.count x.in_range x.maintains x.recovers x.narrow
    y.maintain y.recover y.members (h.maintain ∙ sym k.maintain) (h.recover ∙ sym k.recover) (h.members ∙ sym k.members)
    y.count y.in_range y.maintains y.recovers y.narrow
    ∙ ap (λ m. config m x.sticky x.force x.direct y.maintain y.recover y.members y.count y.in_range y.maintains y.recovers y.narrow) (h.method ∙ sym k.method)
    ∙ ap (λ s. config y.method s x.force x.direct y.maintain y.recover y.members y.count y.in_range y.maintains y.recovers y.narrow) (h.sticky ∙ sym k.sticky)
    ∙ ap (λ f. config y.method y.sticky f x.direct y.maintain y.recover y.members y.count y.in_range y.maintains y.recovers y.narrow) (h.force ∙ sym k.force)
    ∙ ap (λ d. config y.method y.sticky y.force d y.maintain y.recover y.members y.count y.in_range y.maintains y.recovers y.narrow) (h.direct ∙ sym k.direct)

pub same_opening : (d : OpeningDraft) (b : Beginning) (o p : Opening) → IsOpened d b o → IsOpened d b p → o ≡ p
unfolding opening
same_opening d b o p h k =
    ap (λ x. opening x o.rows o.out o.next o.at o.maintained o.chosen) (same_config d o.config p.config h.config k.config)
    ∙ ap (λ x. opening p.config x o.out o.next o.at o.maintained o.chosen) (same_rows d.out d.rows o.rows p.rows h.rows k.rows)
    ∙ ap (λ x. opening p.config p.rows x o.next o.at o.maintained o.chosen) (h.out ∙ sym k.out)
    ∙ ap (λ x. opening p.config p.rows p.out x o.at o.maintained o.chosen) (h.next ∙ sym k.next)
    ∙ ap (λ x. opening p.config p.rows p.out p.next x o.maintained o.chosen) (h.at ∙ sym k.at)
    ∙ ap (λ x. opening p.config p.rows p.out p.next p.at x o.chosen) (h.maintained ∙ sym k.maintained)
    ∙ ap (λ x. opening p.config p.rows p.out p.next p.at p.maintained x) (h.chosen ∙ sym k.chosen)
