-- A write that was refused, by the count of the bytes that were taken.
use Rattle.std.proofs.Common.{◌≡◌, ℕ, ◌-◌, ◌≤◌, Bool, true, false, ◌||◌, List, [], length, take, drop, refl, sym, arith, Option, length-take}
use Rattle.std.specs.Prelude.{nat_lt}
use Rattle.std.proofs.lemmas.List.{take-append-drop}
use Rattle.jk_io.proofs.ToldLaws.{appended-nil}
use Rattle.jk_io.specs.Told.{appended}
use Rattle.http_out.specs.declared.passage.Passage.{Passage}
use Rattle.http_out.specs.Passage.{IsBroken}

pub broken : (piece : List ℕ) (before after : Passage) (sent now : Option (List ℕ)) (n : ℕ) → n ≤ length piece
    → now ≡ appended sent (take (n - 0) piece) → after.passed ≡ (before.passed || nat_lt 0 n) → after.failed ≡ true
    → IsBroken piece before after sent now
broken piece before after sent now n within put passed failed =
    let count : length (take (n - 0) piece) ≡ n = grind (arith, length-take) in
    record {
      puts = record { front = take (n - 0) piece; rest = drop (n - 0) piece; whole = sym (take-append-drop (n - 0) piece); put = put };
      passed = rw count passed;
      failed = failed;
    }

-- for want of memory before any byte was written
pub nothing_sent : (piece : List ℕ) (before after : Passage) (sent : Option (List ℕ)) → after ≡ record before { failed = true }
    → IsBroken piece before after sent sent
nothing_sent piece before after sent is = rw is (record {
  puts = record { front = []; rest = piece; whole = refl; put = sym (appended-nil sent) };
  passed = sym (or-false before.passed);
  failed = refl;
})
  where
    or-false : (b : Bool) → (b || nat_lt 0 (length {A = ℕ} [])) ≡ b
    or-false true = refl
    or-false false = refl
