-- How many gears a run gives back.
use Rattle.std.proofs.Common.{ℕ, suc, ◌≡◌, ◌+◌, ◌≤◌, List, [], ◌∷◌, length, map, Option, refl, ap, arith}
use Rattle.std.proofs.lemmas.List.{length-map}
use Rattle.client_session.specs.Requests.{Visit}
use Rattle.ajp_container.specs.declared.worker_ends.ContainerWorker.{ContainerWorker}
use Rattle.jk_io.specs.declared.traits.streams.Meanings.{Ghosts}
use Rattle.jk_io.specs.declared.traits.surroundings.Peer.{Peer}
use Rattle.lb_model.specs.declared.segment.Segment.{Segment}
use Rattle.ajp_container.specs.declared.app_config.AppConfig.{AppConfig}
use Rattle.lb_shared.specs.Histories.{SeatNote}
use Rattle.site_config.specs.declared.balancer.Lb.{Lb}
use Rattle.request_log.specs.declared.format.Part.{Part as FormatPart}
use Rattle.request_log.specs.LogStates.{LogState}
use Rattle.gear_parts.specs.Gears.{GearSide}
use Rattle.lb_book.specs.Journal.{Journal}
use Rattle.jk_server.specs.Closings.{Closes, KeepsFirst}
use Rattle.gear_parts.specs.Containers.{IsContainerRun, SameButDoors}
use Rattle.jk_server.specs.Runs.{AreServedGears, IsSiteRun}
use Rattle.gear_parts.specs.Starts.{AreStarted}
use Rattle.jk_server.specs.declared.runs.ends.Closing.{Closing}
use Rattle.jk_server.specs.declared.runs.ends.Closing.TheVariants as closing
use Rattle.jk_server.specs.declared.part.WorkerEnd.{WorkerEnd}
use Rattle.jk_server.specs.Ends.{returned}
use Rattle.jk_server.specs.Worker.{WorkerTells}

all_started : {C S O : Type 0} (before begun : List (GearSide C S O)) → AreStarted before begun → length begun ≡ length before
all_started [] begun e = ap length e
all_started (first ∷ rest) [] e = absurd e
all_started (first ∷ rest) (first' ∷ rest') e = ap (λ (l : List _). length (first ∷ l)) e.3

-- as many gears as there were
pub all_begun : {G C S O : Type 0} (at : G → GearSide C S O) (before begun : List G) → AreStarted (map at before) (map at begun) → length begun ≡ length before
all_begun at before begun started =
    let n = all_started (map at before) (map at begun) started in
    omega (arith, length-map before at, length-map begun at)

all_left : {C S O L X : Type 0} (visits : ℕ → Peer → Visit) (told : Ghosts C X) (of : WorkerTells S (Option (LogState O))) (format : List FormatPart) (number : ℕ) (begun left : List (GearSide C S O)) (seats : List SeatNote) (ends : List (WorkerEnd L))
    → AreServedGears visits told of format number begun left seats ends → length left ≡ length begun
all_left visits told of format number [] [] [] [] s = refl
all_left visits told of format number (b ∷ begun) (a ∷ left) (seat ∷ seats) (e ∷ ends) s = ap (λ (n : ℕ). suc n) (all_left visits told of format (number + 1) begun left seats ends s.1)
all_left visits told of format number [] [] [] (e ∷ ends) s = absurd s
all_left visits told of format number [] [] (seat ∷ seats) ends s = absurd s
all_left visits told of format number [] (a ∷ left) seats ends s = absurd s
all_left visits told of format number (b ∷ begun) [] seats ends s = absurd s
all_left visits told of format number (b ∷ begun) (a ∷ left) [] ends s = absurd s
all_left visits told of format number (b ∷ begun) (a ∷ left) (seat ∷ seats) [] s = absurd s

all_kept : {C S O : Type 0} (Kept : S → S → Type 0) (left back : List (GearSide C S O)) → KeepsFirst Kept left back → length back ≡ length left
all_kept Kept (first ∷ rest) (first' ∷ rest') k = ap (λ (l : List _). length (first ∷ l)) k.2
all_kept Kept [] back k = absurd k
all_kept Kept (first ∷ rest) [] k = absurd k

few_closed : {G C S O L : Type 0} (at : G → GearSide C S O) (shelved : S → Option (List (ℕ × Segment))) (faults : S → ℕ) (lbs : List Lb) (moment : ℕ) (seats : List SeatNote) (books : List Journal) (left : List (GearSide C S O)) (back : List G) (closed : Closing L)
    → Closes shelved faults lbs moment seats books left (map at back) closed → length (returned closed back) ≤ length left
few_closed at shelved faults lbs moment seats books left back closing.Kept c = let n = all_kept _ left (map at back) c in omega (arith, length-map back at)
few_closed at shelved faults lbs moment seats books left back closing.ShelfFault c = let n = all_kept _ left (map at back) c in omega (arith, length-map back at)
few_closed at shelved faults lbs moment seats books left back (closing.Differs d) c = let n = ap length c.1 in omega (arith, length-map back at)
few_closed at shelved faults lbs moment seats books left back closing.NoMemory c = omega arith

-- no more gears come back of a run than it had
pub few_returned : {G C S O L X : Type 0} (at : G → GearSide C S O) (visits : ℕ → Peer → Visit) (told : Ghosts C X) (shelved : S → Option (List (ℕ × Segment))) (of : WorkerTells S (Option (LogState O))) (format : List FormatPart) (lbs : List Lb) (gears back : List G) (ends : List (WorkerEnd L)) (closed : Closing L)
    → IsSiteRun visits told shelved of format lbs (map at gears) (map at back) ends closed → length (returned closed back) ≤ length gears
few_returned at visits told shelved of format lbs gears back ends closed run =
    let a = all_started _ _ run.started in
    let b = all_left visits told of format 0 _ _ _ ends run.served in
    let c = few_closed at shelved of.shelf_faults lbs run.at run.seats run.books run.left back closed run.closed in
    omega (arith, length-map gears at)

same_count : {C S O : Type 0} (before back : List (GearSide C S O)) → SameButDoors before back → length back ≡ length before
same_count [] [] s = refl
same_count (b ∷ before) (a ∷ back) s = ap (λ (n : ℕ). suc n) (same_count before back s.1)
same_count [] (a ∷ back) s = absurd s
same_count (b ∷ before) [] s = absurd s

-- each gear of a container comes back
pub all_returned : {G C S O X : Type 0} (at : G → GearSide C S O) (app : AppConfig) (told : Ghosts C X) (gears back : List G) (ends : List ContainerWorker)
    → IsContainerRun app told (map at gears) (map at back) ends → length back ≡ length gears
all_returned at app told gears back ends run =
    let n = same_count (map at gears) (map at back) run.same in
    omega (arith, length-map gears at, length-map back at)
