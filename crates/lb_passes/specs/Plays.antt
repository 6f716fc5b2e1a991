-- The steps of callers that take turns, each by the caller before and after it.
use Rattle.std.specs.Prelude.{◌≡◌, ◌≢◌, ℕ, ◌+◌, ◌-◌, ◌%◌, ◌^◌, ◌⊎◌, false, List, [], ◌∷◌, ◌++◌, length, drop, None}
use Rattle.atomic_table.specs.Table.{Me, Step, rest}
use Rattle.lb_model.specs.declared.config.LbConfig.{LbConfig}
use Rattle.lb_model.specs.declared.journal.Entry.{Entry}
use Rattle.lb_model.specs.declared.member.Method.TheVariants as method
use Rattle.lb_model.specs.declared.opening.Opening.{Opening}
use Rattle.lb_book.specs.Journal.{Journal}
use Rattle.lb_book.specs.Histories.{BeginsWith, IsHistory, own_of}
use Rattle.lb_passes.specs.Turns.{Carries, IsBookOf}
use Rattle.lb_book.proofs.SmallConfig.{one_counts, one_in_range, one_narrow, one_period, some_member}
use Rattle.lb_passes.specs.declared.pass_view.Origin.{Origin}
use Rattle.lb_passes.specs.declared.pass_view.PassView.{PassView}
use Rattle.lb_passes.specs.declared.pass_view.Turn.{Turn}
use Rattle.lb_passes.specs.declared.pass_view.Turn.TheVariants.{Idle, Waits, Out, Spent}

-- A view with another turn, other entries seen, and other own entries.
abbrev pub turning : PassView → Turn → (seen : List Entry) → (owns : List (ℕ × List Entry)) → PassView
turning v t seen owns = record {
  origin = v.origin;
  number = v.number;
  turn = t;
  seen = seen;
  met = v.met;
  owns = owns;
  roots = v.roots;
  given = v.given;
}

-- The turn's number.
abbrev pub turn_of : Turn → ℕ
turn_of Idle = 0
turn_of (Waits t) = t
turn_of (Out t) = t
turn_of Spent = 0

-- Own entries that grew.
abbrev pub grown_owns : (new : List Entry) → List (ℕ × List Entry) → List (ℕ × List Entry)
grown_owns new [] = []
grown_owns new (x ∷ xs) = (x.0, x.1 ++ new) ∷ xs

-- The last k entries of the Book in hand.
abbrev pub last_in : (k : ℕ) → List (ℕ × Journal) → List Entry
last_in k [] = []
last_in k (x ∷ xs) = drop (length x.1.entries - k) x.1.entries

-- It drew a turn.
pub record Drew (s : Step Journal) (me : Me Journal PassView) (found : ℕ) (after : Me Journal PassView) : Type 0 where
  pub turn : ℕ
  pub word : found ≡ turn % 2 ^ 64
  pub is : after ≡ (turning me.0 (Waits turn) me.0.seen me.0.owns, me.1)

-- It has its turn and the Book, whose history it has seen whole.
pub record Took (me : Me Journal PassView) (t : ℕ) (after : Me Journal PassView) : Type 0 where
  pub log : List Entry
  pub book : Journal
  pub is : after ≡ (turning me.0 (Out t) log me.0.owns, (0, book) ∷ me.1)
  pub begins : BeginsWith log me.0.seen
  pub history : IsHistory me.0.origin.opening log
  pub stands : IsBookOf me.0.origin log book
  pub own : (n : ℕ) (es : List Entry) → Carries me.0.owns n es → es ≡ own_of n log

-- It looked whether its turn has come.
pub record Polled (s : Step Journal) (me : Me Journal PassView) (found : ℕ) (after : Me Journal PassView) : Type 0 where
  pub came : found ≡ turn_of me.0.turn % 2 ^ 64 → Took me (turn_of me.0.turn) after
  pub waits : found ≢ turn_of me.0.turn % 2 ^ 64 → after ≡ me

-- It told the last entries of the Book in hand, as many as the step's operand, which are its own.
abbrev pub Counted : Step Journal → Me Journal PassView → ℕ → Me Journal PassView → Type 0
Counted s me found after =
    let new = last_in s.first me.1 in after ≡ (turning me.0 me.0.turn (me.0.seen ++ new) (grown_owns new me.0.owns), me.1)

-- It gave the Book back, and its turn ended.
abbrev pub Left : Step Journal → Me Journal PassView → ℕ → Me Journal PassView → Type 0
Left s me found after = after ≡ (turning me.0 Idle me.0.seen me.0.owns, rest me.1)

-- The new caller of a split, with the next number.
abbrev pub next_caller : PassView → PassView
next_caller v = record {
  origin = v.origin;
  number = v.given;
  turn = Idle;
  seen = v.seen;
  met = [];
  owns = (v.given, []) ∷ [];
  roots = false;
  given = 0;
}

-- The caller that splits it off gave one number more.
abbrev pub giver_after : PassView → PassView
giver_after v = record {
  origin = v.origin;
  number = v.number;
  turn = v.turn;
  seen = v.seen;
  met = v.met;
  owns = v.owns;
  roots = v.roots;
  given = v.given + 1;
}

-- The view on a note: what was seen, and no number.
abbrev pub noted : PassView → PassView
noted v = record {
  origin = v.origin;
  number = 0;
  turn = Idle;
  seen = v.seen;
  met = [];
  owns = [];
  roots = false;
  given = 0;
}

-- A caller to which another was joined: it carries the numbers of both, and was told what the other saw.
abbrev pub joined : PassView → PassView → PassView
joined v w = record {
  origin = v.origin;
  number = v.number;
  turn = v.turn;
  seen = v.seen;
  met = w.seen;
  owns = v.owns ++ w.owns;
  roots = v.roots;
  given = v.given;
}

-- It put together what it has seen and what it was told of: both are parts of one history, so the longer has the other.
pub record PutTogether (s : Step Journal) (me : Me Journal PassView) (found : ℕ) (after : Me Journal PassView) : Type 0 where
  pub all : List Entry
  pub is : after ≡ (turning me.0 me.0.turn all me.0.owns, me.1)
  pub own : BeginsWith all me.0.seen
  pub told : BeginsWith all me.0.met
  pub one : (all ≡ me.0.seen) ⊎ (all ≡ me.0.met)

-- The rest of a caller that was joined to another: a view that says nothing.
abbrev pub no_config : LbConfig
no_config = record {
  method = method.Request;
  sticky = false;
  force = false;
  direct = false;
  maintain = 1;
  recover = 1;
  members = some_member ∷ [];
  count = one_counts;
  in_range = one_in_range;
  maintains = one_period;
  recovers = one_period;
  narrow = one_narrow;
}

abbrev pub no_opening : Opening
no_opening = record { config = no_config; rows = []; out = []; next = 0; at = 0; maintained = 0; chosen = None }

abbrev pub no_origin : Origin
no_origin = record { opening = no_opening; added = 0; cut_at = 0 }

abbrev pub spent : PassView
spent = record {
  origin = no_origin;
  number = 0;
  turn = Spent;
  seen = [];
  met = [];
  owns = [];
  roots = false;
  given = 0;
}
