-- Why an ask gets no member, in words: the laws of `picks` show that the two answers mean just this.
use Rattle.std.specs.Prelude.{◌≡◌, ℕ, ◌<◌, true, false, List, Some}
use Rattle.lb_model.specs.Choice.{is_revivable, is_usable, serves}
use Rattle.lb_model.specs.Journal.{members}
use Rattle.lb_model.specs.Laws.{HasNone}
use Rattle.lb_model.specs.Settings.{redirect_of}
use Rattle.lb_model.specs.declared.ask.Ask.{Ask}
use Rattle.lb_model.specs.declared.journal.Entry.{Entry}
use Rattle.lb_model.specs.declared.opening.Opening.{Opening}

-- Member j is the one of the ask's session, and sessions stay with theirs.
pub record IsHome (o : Opening) (ask : Ask) (j : ℕ) : Type 0 where
  pub sticky : o.config.sticky ≡ true
  pub routed : ask.routed ≡ Some j
  pub member : j < members o

-- Neither it nor its redirect serves.
pub record IsUnserved (v : ℕ) (o : Opening) (p : List Entry) (ask : Ask) (j : ℕ) : Type 0 where
  pub not_serving : serves v o p ask j ≡ false
  pub no_redirect : (r : ℕ) → redirect_of o p j ≡ Some r → serves v o p ask r ≡ false

-- No member is usable, none may be revived under rules 2, and the session's isn't served and isn't forced to stay.
pub record IsUnanswered (v : ℕ) (o : Opening) (p : List Entry) (ask : Ask) : Type 0 where
  pub none_usable : HasNone o (λ j. is_usable v o p ask j)
  pub none_revivable : v ≡ 2 → HasNone o (λ j. is_revivable v o p ask j)
  pub home : (j : ℕ) → IsHome o ask j → IsUnserved v o p ask j × (o.config.force ≡ false)

-- Sessions are forced to stay with their member, and this one's isn't served.
pub record IsForcedAsk (v : ℕ) (o : Opening) (p : List Entry) (ask : Ask) : Type 0 where
  pub force : o.config.force ≡ true
  pub home : ℕ
  pub is_home : IsHome o ask home
  pub unserved : IsUnserved v o p ask home
