-- Segments are the same where their rules, openings and entries are; what their type says of them is known in one way.
use Rattle.std.proofs.Common.{◌≡◌, ℕ, ◌+◌, ◌*◌, ◌^◌, ◌≤◌, ◌==◌, ◌∙◌, refl, sym, List, [], ◌∷◌, length, count_by, Option, Some, None, reverse, ap, subst}
use Rattle.std.specs.Coded.{Unit-prop, le_prop}
use mathlib.Core.HLevel.{×₃_prop, Stable-paths→set}
use Rattle.std.proofs.Math.Logic.{∥∥₁_elim, ∥∥₁_prop}
use Rattle.std.proofs.Props.{props}
use Rattle.lb_model.specs.Journal.{members}
use Rattle.lb_model.specs.Limits.{most_numbers}
use Rattle.lb_model.specs.Segments.{AreKeptEntries, AreRules}
use Rattle.lb_model.specs.Tickets.{Ticket}
use Rattle.lb_model.specs.Validity.{AreOpeningRows, AreTickets, IsOpening, IsOpeningRow, IsOpeningState, IsRunning, IsWithin, ShowsMember}
use Rattle.lb_model.specs.declared.journal.Entry.{Entry}
use Rattle.lb_model.specs.declared.member.Activation.{Activation}
use Rattle.lb_model.specs.declared.member.Activation.TheVariants as activation
use Rattle.lb_model.specs.declared.member.MemberConfig.{MemberConfig}
use Rattle.lb_model.specs.declared.member.Method.{Method}
use Rattle.lb_model.specs.declared.member.Method.TheVariants as method
use Rattle.lb_model.specs.declared.opening.Opening.{Opening}
use Rattle.lb_model.specs.declared.segment.Segment.{Segment}
use Rattle.lb_model.specs.declared.state.MemberState.{MemberState}
use Rattle.lb_model.specs.declared.state.MemberState.TheVariants as state
use Rattle.lb_model.specs.declared.view.MemberRow.{MemberRow}
use Rattle.journal_text.specs.Openings.{Begins}
use Rattle.journal_text.specs.declared.draft.OpeningDraft.{OpeningDraft}
use Rattle.journal_text.specs.declared.line.Beginning.{Beginning}
use Rattle.journal_text.proofs.OpeningFacts.{same_opening}

-- ---- an opening is valid in one way

activation_stable : (x y : Activation) → ¬ (¬ (x ≡ y)) → x ≡ y
activation_stable activation.Active activation.Active f = refl
activation_stable activation.Active activation.Disabled f = absurd (f (λ e. cc))
activation_stable activation.Active activation.Stopped f = absurd (f (λ e. cc))
activation_stable activation.Disabled activation.Active f = absurd (f (λ e. cc))
activation_stable activation.Disabled activation.Disabled f = refl
activation_stable activation.Disabled activation.Stopped f = absurd (f (λ e. cc))
activation_stable activation.Stopped activation.Active f = absurd (f (λ e. cc))
activation_stable activation.Stopped activation.Disabled f = absurd (f (λ e. cc))
activation_stable activation.Stopped activation.Stopped f = refl

activation_prop : (x y : Activation) → IsProp (x ≡ y)
activation_prop x y = Stable-paths→set activation_stable x y

shows_prop : (c : MemberConfig) (r : MemberRow) → IsProp (ShowsMember c r)
shows_prop c r x y =
    let name : IsProp (r.name ≡ c.name) = hlevel props in
    let factor : IsProp (r.factor ≡ c.factor) = hlevel props in
    let distance : IsProp (r.distance ≡ c.distance) = hlevel props in
    let redirect : IsProp (r.redirect ≡ c.redirect) = hlevel props in
    λ i. record {
      name = name x.name y.name i;
      factor = factor x.factor y.factor i;
      distance = distance x.distance y.distance i;
      activation = activation_prop r.activation c.activation x.activation y.activation i;
      redirect = redirect x.redirect y.redirect i;
    }

tickets_prop : (n next : ℕ) (xs : List Ticket) → IsProp (AreTickets n next xs)
tickets_prop n next [] = Unit-prop
tickets_prop n next (x ∷ xs) = ×₃_prop le_prop le_prop (tickets_prop n x.0 xs)

state_prop : (o : Opening) (m : ℕ) (s : MemberState) → IsProp (IsOpeningState o m s)
state_prop o m state.Ok = Unit-prop
state_prop o m (state.Error at) = le_prop
state_prop o m state.Recover = Unit-prop
state_prop o m (state.Probe t) = hlevel props

running_prop : (m : Method) (running load : ℕ) → IsProp (IsRunning m running load)
running_prop method.Request running load = Unit-prop
running_prop method.Session running load = Unit-prop
running_prop method.Traffic running load = Unit-prop
running_prop method.Busyness running load = hlevel props

within_prop : (n : ℕ) (chosen : Option ℕ) → IsProp (IsWithin n chosen)
within_prop n None = Unit-prop
within_prop n (Some m) = le_prop

row_prop : (o : Opening) (m : ℕ) (c : MemberConfig) (r : MemberRow) → IsProp (IsOpeningRow o m c r)
row_prop o m c r x y =
    let busy : IsProp (r.busy ≡ count_by (λ t. t.1 == m) o.out) = hlevel props in
    let pool : IsProp (r.busy ≤ c.pool) = le_prop in
    let load : IsProp (r.load ≤ o.next * 2 ^ 76) = le_prop in
    λ i. record {
      shows = shows_prop c r x.shows y.shows i;
      busy = busy x.busy y.busy i;
      pool = pool x.pool y.pool i;
      state = state_prop o m r.state x.state y.state i;
      load = load x.load y.load i;
      running = running_prop o.config.method _ r.load x.running y.running i;
    }

rows_prop : (o : Opening) → IsProp (AreOpeningRows o)
rows_prop o x y =
    let count : IsProp (length o.rows ≡ members o) = hlevel props in
    λ i. record {
      count = count x.count y.count i;
      row = λ m c r h k. row_prop o m c r (x.row m c r h k) (y.row m c r h k) i;
    }

opening_prop : (o : Opening) → IsProp (IsOpening o)
opening_prop o x y =
    let maintained : IsProp (o.maintained ≤ o.at) = le_prop in
    let room : IsProp (o.next + length o.out ≤ most_numbers) = le_prop in
    λ i. record {
      tickets = tickets_prop (members o) o.next (reverse o.out) x.tickets y.tickets i;
      chosen = within_prop (members o) o.chosen x.chosen y.chosen i;
      rows = rows_prop o x.rows y.rows i;
      maintained = maintained x.maintained y.maintained i;
      room = room x.room y.room i;
    }

-- the opening of a segment is valid
pub opening_valid : (s : Segment) → IsOpening s.opening
opening_valid s = ∥∥₁_elim s.valid (opening_prop s.opening) (λ x. x)

-- ---- segments of the same parts

versions_prop : (v : ℕ) → IsProp (AreRules v)
versions_prop v = hlevel props

pub kept_prop : (v : ℕ) (entries : List Entry) → IsProp (AreKeptEntries v entries)
kept_prop v entries = hlevel props

abbrev segment : (v : ℕ) (o : Opening) (entries : List Entry) → AreRules v → ∥ IsOpening o ∥₁ → AreKeptEntries v entries → Segment
segment v o entries a b k = record { rules = v; opening = o; entries = entries; versions = a; valid = b; kept = k }

same_parts : (v : ℕ) (o : Opening) (entries : List Entry) (a : AreRules v) (b : ∥ IsOpening o ∥₁) (k : AreKeptEntries v entries)
    (v' : ℕ) (o' : Opening) (entries' : List Entry) → v ≡ v' → o ≡ o' → entries ≡ entries'
    → (a' : AreRules v') (b' : ∥ IsOpening o' ∥₁) (k' : AreKeptEntries v' entries') → segment v o entries a b k ≡ segment v' o' entries' a' b' k'
same_parts v o entries a b k v' o' entries' p q w a' b' k' =
    subst (λ x. (a' : AreRules x) (k' : AreKeptEntries x entries') → segment v o entries a b k ≡ segment x o' entries' a' b' k') p (λ a' k'.
    subst (λ y. (b' : ∥ IsOpening y ∥₁) → segment v o entries a b k ≡ segment v y entries' a' b' k') q (λ b'.
    subst (λ z. (k' : AreKeptEntries v z) → segment v o entries a b k ≡ segment v o z a' b' k') w (λ k'.
    ap (λ x. segment v o entries x b k) (versions_prop v a a')
    ∙ ap (λ x. segment v o entries a' x k) (∥∥₁_prop b b')
    ∙ ap (λ x. segment v o entries a' b' x) (kept_prop v entries k k')) k') b') a' k'

pub same_segment : (s t : Segment) → s.rules ≡ t.rules → s.opening ≡ t.opening → s.entries ≡ t.entries → s ≡ t
same_segment s t rules opening entries =
    same_parts s.rules s.opening s.entries s.versions s.valid s.kept t.rules t.opening t.entries rules opening entries t.versions t.valid t.kept

-- the lines of an opening begin at most one segment
pub begins_once : (rules : ℕ) (d : OpeningDraft) (b : Beginning) (s t : Segment) → Begins rules d b s → Begins rules d b t → s ≡ t
begins_once rules d b s t h k =
    same_segment s t (h.ruled ∙ sym k.ruled) (same_opening d b s.opening t.opening h.opening k.opening) (h.entries ∙ sym k.entries)
