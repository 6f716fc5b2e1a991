-- A log that is written row by row, after one row: a line more, or a front of one, and then it is broken.
use Rattle.std.proofs.Common.{ℕ, ◌≡◌, ◌≤◌, [], ◌∷◌, Option, Some, None, Err, false, true≢false, refl, sym, ap, subst, ◌∙◌}
use Rattle.std.proofs.lemmas.List.{append-nil}
use Rattle.std.proofs.Math.Nat.{le_refl}
use Rattle.std.specs.Option.{is_some as has_some}
use Rattle.jk_io.specs.Told.{appended, HasCause, PutsFront}
use Rattle.jk_io.specs.declared.failures.IoError.{IoError}
use Rattle.jk_io.specs.declared.failures.IoError.TheVariants as io
use Rattle.jk_io.specs.declared.traits.streams.Meanings.{Ghosts}
use Rattle.lb_model.specs.declared.served.Served.{Served}
use Rattle.request_log.specs.declared.seen.Seen.{Seen}
use Rattle.request_log.specs.Lines.{line_of}
use Rattle.request_log.specs.LogRules.{is_some, not_both, one_log}
use Rattle.request_log.specs.LogStates.{GainsRows, LogState}

pub is_none : (broken : Option IoError) → has_some broken ≡ false → broken ≡ None
is_none None _ = refl
is_none (Some error) some = absurd (true≢false some)

-- a row's line was written whole
pub puts_row : {G X : Type 0} (told : Ghosts G X) (s t : LogState G) (row : Served) (seen : Seen)
    → s.broken ≡ None → t.format ≡ s.format → t.addr ≡ s.addr → t.broken ≡ s.broken → seen.addr ≡ s.addr
    → told.sent t.sink ≡ appended (told.sent s.sink) (line_of s.format row seen)
    → told.faults t.sink ≡ told.faults s.sink → GainsRows told s (row ∷ []) t
puts_row told s t row seen none format addr same seen_addr put steady = record {
  same_format = format;
  same_addr = addr;
  adds = λ _. record {
    text = line_of s.format row seen;
    front = line_of s.format row seen;
    rest = [];
    is_log = one_log s.format s.addr row seen seen_addr;
    parts = sym (append-nil _);
    put = put;
    whole = λ _. refl;
  };
  over = λ some. absurd (not_both none some);
  no_fewer = subst (λ (n : ℕ). told.faults s.sink ≤ n) (sym steady) (le_refl _);
  failed = λ _ failed. absurd (not_both (same ∙ none) (is_some failed));
  calm = λ _ _. steady;
}

-- what didn't fail wanted memory
wanted_only : (error : IoError) (before now : ℕ) → HasCause {T = Unit {0}} before now (Err error) → (error ≡ io.Failed → ⊥) → now ≡ before
wanted_only io.Failed before now cause sound = absurd (sound refl)
wanted_only io.NoMemory before now cause sound = cause.wanted refl

-- a front of a row's line was written, and the log is broken
pub breaks_row : {G X : Type 0} (told : Ghosts G X) (s t : LogState G) (row : Served) (seen : Seen) (error : IoError)
    → s.broken ≡ None → t.format ≡ s.format → t.addr ≡ s.addr → t.broken ≡ Some error → seen.addr ≡ s.addr
    → PutsFront (told.sent s.sink) (told.sent t.sink) (line_of s.format row seen)
    → HasCause {T = Unit {0}} (told.faults s.sink) (told.faults t.sink) (Err error) → GainsRows told s (row ∷ []) t
breaks_row told s t row seen error none format addr broken seen_addr put cause = record {
  same_format = format;
  same_addr = addr;
  adds = λ _. record {
    text = line_of s.format row seen;
    front = put.front;
    rest = put.rest;
    is_log = one_log s.format s.addr row seen seen_addr;
    parts = put.whole;
    put = put.put;
    whole = λ whole. absurd (not_both whole (is_some broken));
  };
  over = λ some. absurd (not_both none some);
  no_fewer = cause.no_fewer;
  failed = λ _ failed. cause.failed (ap Err (cc));
  calm = λ _ sound. wanted_only error _ _ cause (λ is. sound (broken ∙ ap Some is));
}
