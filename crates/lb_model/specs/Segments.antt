-- The entries that a segment of a journal may keep, whether or not they are legal.
use Rattle.std.specs.Prelude.{◌≡◌, ℕ, ◌≤◌, Bool, List, Some, slice_get}
use Rattle.lb_model.specs.Limits.{most_bytes}
use Rattle.lb_model.specs.declared.ask.Ask.{Ask}
use Rattle.lb_model.specs.declared.journal.Answer.TheVariants as answer
use Rattle.lb_model.specs.declared.journal.Call.TheVariants as call
use Rattle.lb_model.specs.declared.journal.Entry.{Entry}
use Rattle.lb_model.specs.declared.journal.How.{How}
use Rattle.lb_model.specs.declared.journal.Outcome.{Outcome}

-- Rules 1 or 2.
pub record AreRules (v : ℕ) : Type 0 where
  pub first : 1 ≤ v
  pub last : v ≤ 2

pub record IsKeptEntry (v : ℕ) (e : Entry) : Type 0 where
  pub ticket : (m t : ℕ) (how : How) (probe : Bool) → e.answer ≡ answer.Chosen m t how probe → t ≡ e.seq
  pub bytes : (t : ℕ) (w : Outcome) → e.call ≡ call.Return t w → w.bytes ≤ most_bytes
  pub disabled : (ask : Ask) → v ≡ 1 → e.call ≡ call.Select ask → ask.disabled ≡ 0
  pub stopped : (ask : Ask) → v ≡ 1 → e.call ≡ call.Select ask → ask.stopped ≡ 0

pub record AreKeptEntries (v : ℕ) (entries : List Entry) : Type 0 where
  pub at : (i : ℕ) (e : Entry) → slice_get entries i ≡ Some e → IsKeptEntry v e
