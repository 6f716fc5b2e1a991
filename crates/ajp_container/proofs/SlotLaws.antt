-- Slots of a run, each served at its own door: the same, told of the lists of doors and ends.
use Rattle.std.proofs.Common.{ℕ, suc, ◌≡◌, ◌<◌, List, [], ◌∷◌, ◌++◌, length, map, take, sym, subst, arith}
use Rattle.std.specs.Prelude.{slice_index_or}
use Rattle.std.specs.List.{AllZip}
use Rattle.std.proofs.Math.Seq.{take-append_seam}
use Rattle.jk_io.specs.declared.traits.streams.Meanings.{Ghosts}
use Rattle.jk_io.specs.Doors.{DoorSide}
use Rattle.ajp_container.specs.declared.app_config.AppConfig.{AppConfig}
use Rattle.ajp_container.specs.Served.{AreEachServed, ServesAt}
use Rattle.ajp_container.specs.declared.worker_ends.ContainerWorker.{ContainerWorker}
use Rattle.ajp_container.specs.declared.workers.Slot.{Slot}

-- what was done in each slot, by its place
abbrev pub EachDone : {Q : Type 0} → (Q → Q → ContainerWorker → Type 0) → (slots after : List (Slot Q)) → Type 0
EachDone {Q} Serves slots after = (i : ℕ) (d : Slot Q) → i < length slots
    → Serves (slice_index_or slots i d).holder (slice_index_or after i d).holder (slice_index_or after i d).end

each_served : {Q D C X : Type 0} → (app : AppConfig) (told : Ghosts C X) (at : D → DoorSide C) (door : Q → D) (with : Q → D → Q) (slots after : List (Slot Q))
    → length after ≡ length slots → EachDone (ServesAt app told at door with) slots after
    → AreEachServed app told (map (λ (q : Q). at (door q)) (map (λ (s : Slot Q). s.holder) slots)) (map (λ (q : Q). at (door q)) (map (λ (s : Slot Q). s.holder) after)) (map (λ (s : Slot Q). s.end) after)
each_served app told at door with [] [] len each = tt
each_served app told at door with [] (b ∷ after) len each = absurd (omega (arith, len))
each_served app told at door with (a ∷ slots) [] len each = absurd (omega (arith, len))
each_served app told at door with (a ∷ slots) (b ∷ after) len each =
    ((each 0 a (omega arith)).served, each_served app told at door with slots after (omega (arith, len)) (λ i d l. each (suc i) d (omega (arith, l))))

each_kept : {Q D C X : Type 0} → (app : AppConfig) (told : Ghosts C X) (at : D → DoorSide C) (door : Q → D) (with : Q → D → Q) (slots after : List (Slot Q))
    → length after ≡ length slots → EachDone (ServesAt app told at door with) slots after
    → AllZip (λ (b a : Q). a ≡ with b (door a)) (map (λ (s : Slot Q). s.holder) slots) (map (λ (s : Slot Q). s.holder) after)
each_kept app told at door with [] [] len each = tt
each_kept app told at door with [] (b ∷ after) len each = absurd (omega (arith, len))
each_kept app told at door with (a ∷ slots) [] len each = absurd (omega (arith, len))
each_kept app told at door with (a ∷ slots) (b ∷ after) len each =
    ((each 0 a (omega arith)).kept, each_kept app told at door with slots after (omega (arith, len)) (λ i d l. each (suc i) d (omega (arith, l))))

-- what was written through a slice of a whole list is the list after it
pub written_back : {X : Type 0} → (n : ℕ) (new rest : List X) → n ≡ length new → take n (new ++ rest) ≡ new
written_back n new rest all = subst (λ (k : ℕ). take k (new ++ rest) ≡ new) (sym all) (take-append_seam new rest)

-- and so it is of the lists that the slots were filled from and emptied into
pub run_served : {Q D C X : Type 0} → (app : AppConfig) (told : Ghosts C X) (at : D → DoorSide C) (door : Q → D) (with : Q → D → Q) (first slots after back : List (Slot Q))
    (holders left : List Q) (workers : List ContainerWorker)
    → map (λ (s : Slot Q). s.holder) first ≡ holders → slots ≡ first → back ≡ after
    → left ≡ map (λ (s : Slot Q). s.holder) back → workers ≡ map (λ (s : Slot Q). s.end) back → length after ≡ length slots
    → EachDone (ServesAt app told at door with) slots after
    → AreEachServed app told (map (λ (q : Q). at (door q)) holders) (map (λ (q : Q). at (door q)) left) workers
run_served app told at door with first slots after back holders left workers filled lent written emptied ended len each =
    rw (sym filled, sym lent, emptied, ended, written) (each_served app told at door with slots after len each)

pub run_kept : {Q D C X : Type 0} → (app : AppConfig) (told : Ghosts C X) (at : D → DoorSide C) (door : Q → D) (with : Q → D → Q) (first slots after back : List (Slot Q))
    (holders left : List Q)
    → map (λ (s : Slot Q). s.holder) first ≡ holders → slots ≡ first → back ≡ after
    → left ≡ map (λ (s : Slot Q). s.holder) back → length after ≡ length slots
    → EachDone (ServesAt app told at door with) slots after
    → AllZip (λ (b a : Q). a ≡ with b (door a)) holders left
run_kept app told at door with first slots after back holders left filled lent written emptied len each =
    rw (sym filled, sym lent, emptied, written) (each_kept app told at door with slots after len each)
