-- The fate of each idle link at a look, in turn: some are closed, and the others are kept in their order. Read first.
use Rattle.std.specs.Prelude.{ℕ, ◌≡◌, ◌+◌, ◌<◌, Bool, true, false, List, [], ◌∷◌, Option, Some, None, IsSome, count_by}
use Rattle.std.specs.List.{flat_map}
use Rattle.jk_io.specs.Moments.{Moment, moment}
use Rattle.jk_io.specs.declared.traits.streams.Meanings.{Ghosts}
use Rattle.conn_pool.specs.declared.fate.Fate.{Fate}
use Rattle.conn_pool.specs.declared.fate.Fate.TheVariants as fate
use Rattle.conn_pool.specs.declared.idle.Idle.{Idle}
use Rattle.conn_pool.specs.declared.report.WatchReport.{WatchReport}
use Rattle.conn_pool.specs.Pings.{AnswersPing, FailsPing}

abbrev pub at : {A X : Type 0} → Ghosts A X → A → Moment
at told link = moment told.incoming told.received told.sent told.faults link

-- a kept link answered, where it was pinged; else it was left alone
abbrev pub AnsweredPing : Option ℕ → Moment → Moment → Type 0
AnsweredPing None s n = n ≡ s
AnsweredPing (Some millis) s n = AnswersPing s n

-- a kept link is its member's as before, and has one look more
pub record IsKeptLink {L X : Type 0} (told : Ghosts L X) (limit : ℕ) (ping : Option ℕ) (idle kept : Idle L) : Type 0 where
  pub young : idle.looks < limit
  pub one_more : kept.looks ≡ idle.looks + 1
  pub whose : (kept.lb ≡ idle.lb) × (kept.member ≡ idle.member)
  pub answers : AnsweredPing ping (at told idle.link.value) (at told kept.link.value)
  pub same : told.beside kept.link.value ≡ told.beside idle.link.value

-- a dead link was pinged, and didn't answer
pub record IsDead {L X : Type 0} (told : Ghosts L X) (limit : ℕ) (ping : Option ℕ) (idle : Idle L) : Type 0 where
  pub young : idle.looks < limit
  pub pinged : IsSome ping
  pub after : Moment
  pub fails : FailsPing (at told idle.link.value) after

-- memory was wanted while a link was pinged
pub record IsWanted {L : Type 0} (limit : ℕ) (ping : Option ℕ) (idle : Idle L) : Type 0 where
  pub young : idle.looks < limit
  pub pinged : IsSome ping

-- With the looks of before and this one above the limit a link is aged, and no call of it is made.
abbrev pub HasFate : {L X : Type 0} → Ghosts L X → ℕ → Option ℕ → Idle L → Fate (Idle L) → Type 0
HasFate told limit ping idle fate.Aged = limit < idle.looks + 1
HasFate told limit ping idle fate.Dead = IsDead told limit ping idle
HasFate told limit ping idle fate.Wanted = IsWanted limit ping idle
HasFate told limit ping idle (fate.Kept kept) = IsKeptLink told limit ping idle kept

-- each link has its fate
abbrev pub HaveFates : {L X : Type 0} → Ghosts L X → ℕ → Option ℕ → List (Idle L) → List (Fate (Idle L)) → Type 0
HaveFates told limit ping [] [] = Unit {0}
HaveFates told limit ping [] (f ∷ fates) = ⊥
HaveFates told limit ping (idle ∷ links) [] = ⊥
HaveFates told limit ping (idle ∷ links) (f ∷ fates) = HasFate told limit ping idle f × HaveFates told limit ping links fates

abbrev pub kept_by : {A : Type 0} → Fate A → List A
kept_by fate.Aged = []
kept_by fate.Dead = []
kept_by fate.Wanted = []
kept_by (fate.Kept kept) = kept ∷ []

abbrev pub kept_of : {A : Type 0} → List (Fate A) → List A
kept_of fates = flat_map kept_by fates

abbrev pub is_aged : {A : Type 0} → Fate A → Bool
is_aged fate.Aged = true
is_aged fate.Dead = false
is_aged fate.Wanted = false
is_aged (fate.Kept kept) = false

abbrev pub is_dead : {A : Type 0} → Fate A → Bool
is_dead fate.Aged = false
is_dead fate.Dead = true
is_dead fate.Wanted = false
is_dead (fate.Kept kept) = false

abbrev pub is_wanted : {A : Type 0} → Fate A → Bool
is_wanted fate.Aged = false
is_wanted fate.Dead = false
is_wanted fate.Wanted = true
is_wanted (fate.Kept kept) = false

abbrev pub is_kept : {A : Type 0} → Fate A → Bool
is_kept fate.Aged = false
is_kept fate.Dead = false
is_kept fate.Wanted = false
is_kept (fate.Kept kept) = true

abbrev pub report_of : {A : Type 0} → List (Fate A) → WatchReport
report_of fates = record { aged = count_by is_aged fates; dead = count_by is_dead fates; wanted = count_by is_wanted fates; kept = count_by is_kept fates }

-- the report with one more link, which had this fate
abbrev pub counted : {A : Type 0} → WatchReport → Fate A → WatchReport
counted report fate.Aged = record report { aged = report.aged + 1 }
counted report fate.Dead = record report { dead = report.dead + 1 }
counted report fate.Wanted = record report { wanted = report.wanted + 1 }
counted report (fate.Kept kept) = record report { kept = report.kept + 1 }

-- fewer than 2^32 - 1 links of each fate
pub record IsBelow (report : WatchReport) : Type 0 where
  pub aged : report.aged < 4294967295
  pub dead : report.dead < 4294967295
  pub wanted : report.wanted < 4294967295
  pub kept : report.kept < 4294967295

-- The links were looked at: those that are kept, in their order, and how many had which fate.
pub record AreLookedAt {L X : Type 0} (told : Ghosts L X) (limit : ℕ) (ping : Option ℕ) (links kept : List (Idle L)) (report : WatchReport) : Type 0 where
  pub fates : List (Fate (Idle L))
  pub each : HaveFates told limit ping links fates
  pub those : kept ≡ kept_of fates
  pub counts : report ≡ report_of fates
