-- The slots of a run, told of its gears: each gear was served by its worker.
use Rattle.std.proofs.Common.{ℕ, ◌≡◌, ◌+◌, List, [], ◌∷◌, length, map, Option, refl, subst, arith}
use Rattle.std.specs.Prelude.{sum_by}
use Rattle.std.specs.List.{All}
use Rattle.std.proofs.lemmas.List.Elements.{All-cons, All-head, All-nil, All-tail}
use Rattle.std.proofs.lemmas.List.Sums.{sum_by-cons}
use Rattle.jk_io.specs.declared.traits.streams.Meanings.{Ghosts}
use Rattle.jk_io.specs.declared.traits.surroundings.Peer.{Peer}
use Rattle.client_session.specs.Requests.{Visit}
use Rattle.request_log.specs.declared.format.Part.{Part as FormatPart}
use Rattle.request_log.specs.LogStates.{LogState}
use Rattle.gear_parts.specs.Gears.{GearSide}
use Rattle.jk_server.specs.Parts.{AreEach}
use Rattle.jk_server.specs.declared.part.WorkerEnd.{WorkerEnd}
use Rattle.lb_shared.specs.Histories.{SeatNote}
use Rattle.jk_server.specs.Runs.{AreServedGears, IsServedGear}
use Rattle.jk_server.specs.Worker.{WorkerTells}

-- Each gear was served by its worker, where that follows of its slot, of what was left of it and of how the worker ended.
pub gears_served : {P O V C S L X Z : Type 0} → (visits : ℕ → Peer → Visit) (told : Ghosts C X) (of : WorkerTells S (Option (LogState Z))) (format : List FormatPart) (Fresh : P → Type 0) (Is : ℕ → P → O → V → WorkerEnd L → Type 0)
    (was : P → GearSide C S Z) (is_now : O → GearSide C S Z) (seat : V → SeatNote)
    (n : ℕ) (ps : List P) (os : List O) (vs : List V) (es : List (WorkerEnd L)) → All Fresh ps → AreEach Is n ps os vs es
    → ((k : ℕ) (p : P) (o : O) (v : V) (e : WorkerEnd L) → Fresh p → Is k p o v e → IsServedGear (visits k) told of format (was p) (is_now o) (seat v) e)
    → AreServedGears visits told of format n (map was ps) (map is_now os) (map seat vs) es
gears_served visits told of format Fresh Is was is_now seat n [] [] [] [] fresh each join = tt
gears_served visits told of format Fresh Is was is_now seat n [] [] [] (e ∷ es) fresh each join = absurd each
gears_served visits told of format Fresh Is was is_now seat n [] [] (v ∷ vs) es fresh each join = absurd each
gears_served visits told of format Fresh Is was is_now seat n [] (o ∷ os) vs es fresh each join = absurd each
gears_served visits told of format Fresh Is was is_now seat n (p ∷ ps) [] vs es fresh each join = absurd each
gears_served visits told of format Fresh Is was is_now seat n (p ∷ ps) (o ∷ os) [] es fresh each join = absurd each
gears_served visits told of format Fresh Is was is_now seat n (p ∷ ps) (o ∷ os) (v ∷ vs) [] fresh each join = absurd each
gears_served visits told of format Fresh Is was is_now seat n (p ∷ ps) (o ∷ os) (v ∷ vs) (e ∷ es) fresh each join = (
  join n p o v e (All-head Fresh p ps fresh) each.0,
  gears_served visits told of format Fresh Is was is_now seat (n + 1) ps os vs es (All-tail Fresh p ps fresh) each.1 join,
)

-- So of a gear, a seat and an end that are the same.
pub served_same : {G C S L X Z : Type 0} → (visit : Peer → Visit) (told : Ghosts C X) (of : WorkerTells S (Option (LogState Z))) (format : List FormatPart) (before : GearSide C S Z) (at : G → GearSide C S Z)
    (gear gear' : G) (seat seat' : SeatNote) (end end' : WorkerEnd L) → gear' ≡ gear → seat' ≡ seat → end' ≡ end
    → IsServedGear visit told of format before (at gear) seat end → IsServedGear visit told of format before (at gear') seat' end'
served_same visit told of format before at gear gear' seat seat' end end' same_gear same_seat same_end is = rw (same_gear, same_seat, same_end) is

-- So of gears that were the same before.
pub served_from : {C S L X Z : Type 0} → (visits : ℕ → Peer → Visit) (told : Ghosts C X) (of : WorkerTells S (Option (LogState Z))) (format : List FormatPart) (n : ℕ) (before before' after : List (GearSide C S Z))
    (seats : List SeatNote) (ends : List (WorkerEnd L)) → before ≡ before' → AreServedGears visits told of format n before after seats ends
    → AreServedGears visits told of format n before' after seats ends
served_from {C} {S} {L} {Z = Z} visits told of format n before before' after seats ends same served =
    subst (λ (gs : List (GearSide C S Z)). AreServedGears visits told of format n gs after seats ends) same served

-- Where each worker's share has one part, all have as many as there are workers.
pub parts_whole : {P O V E : Type 0} → (Fresh : P → Type 0) (Is : ℕ → P → O → V → E → Type 0) (part : V → ℕ)
    (n : ℕ) (ps : List P) (os : List O) (vs : List V) (es : List E) → All Fresh ps → AreEach Is n ps os vs es
    → ((k : ℕ) (p : P) (o : O) (v : V) (e : E) → Fresh p → Is k p o v e → part v ≡ 1) → sum_by part vs ≡ length ps
parts_whole Fresh Is part n [] [] [] [] fresh each one = refl
parts_whole Fresh Is part n [] [] [] (e ∷ es) fresh each one = absurd each
parts_whole Fresh Is part n [] [] (v ∷ vs) es fresh each one = absurd each
parts_whole Fresh Is part n [] (o ∷ os) vs es fresh each one = absurd each
parts_whole Fresh Is part n (p ∷ ps) [] vs es fresh each one = absurd each
parts_whole Fresh Is part n (p ∷ ps) (o ∷ os) [] es fresh each one = absurd each
parts_whole Fresh Is part n (p ∷ ps) (o ∷ os) (v ∷ vs) [] fresh each one = absurd each
parts_whole Fresh Is part n (p ∷ ps) (o ∷ os) (v ∷ vs) (e ∷ es) fresh each one =
    let here : part v ≡ 1 = one n p o v e (All-head Fresh p ps fresh) each.0 in
    let rest : sum_by part vs ≡ length ps = parts_whole Fresh Is part (n + 1) ps os vs es (All-tail Fresh p ps fresh) each.1 one in
    omega (arith, sum_by-cons part v vs, here, rest)

-- So each worker left a desk of which this holds.
pub each_left : {P O V E : Type 0} → (Fresh : P → Type 0) (Is : ℕ → P → O → V → E → Type 0) (Left : V → Type 0)
    (n : ℕ) (ps : List P) (os : List O) (vs : List V) (es : List E) → All Fresh ps → AreEach Is n ps os vs es
    → ((k : ℕ) (p : P) (o : O) (v : V) (e : E) → Fresh p → Is k p o v e → Left v) → All Left vs
each_left Fresh Is Left n [] [] [] [] fresh each so = All-nil Left
each_left Fresh Is Left n [] [] [] (e ∷ es) fresh each so = absurd each
each_left Fresh Is Left n [] [] (v ∷ vs) es fresh each so = absurd each
each_left Fresh Is Left n [] (o ∷ os) vs es fresh each so = absurd each
each_left Fresh Is Left n (p ∷ ps) [] vs es fresh each so = absurd each
each_left Fresh Is Left n (p ∷ ps) (o ∷ os) [] es fresh each so = absurd each
each_left Fresh Is Left n (p ∷ ps) (o ∷ os) (v ∷ vs) [] fresh each so = absurd each
each_left Fresh Is Left n (p ∷ ps) (o ∷ os) (v ∷ vs) (e ∷ es) fresh each so =
    All-cons Left v vs (so n p o v e (All-head Fresh p ps fresh) each.0) (each_left Fresh Is Left (n + 1) ps os vs es (All-tail Fresh p ps fresh) each.1 so)

-- There is an item for each worker in each list.
pub as_many : {P O V E : Type 0} → (Is : ℕ → P → O → V → E → Type 0) (n : ℕ) (ps : List P) (os : List O) (vs : List V) (es : List E)
    → AreEach Is n ps os vs es → (length os ≡ length ps) × (length vs ≡ length ps)
as_many Is n [] [] [] [] each = (refl, refl)
as_many Is n [] [] [] (e ∷ es) each = absurd each
as_many Is n [] [] (v ∷ vs) es each = absurd each
as_many Is n [] (o ∷ os) vs es each = absurd each
as_many Is n (p ∷ ps) [] vs es each = absurd each
as_many Is n (p ∷ ps) (o ∷ os) [] es each = absurd each
as_many Is n (p ∷ ps) (o ∷ os) (v ∷ vs) [] each = absurd each
as_many Is n (p ∷ ps) (o ∷ os) (v ∷ vs) (e ∷ es) each =
    let rest = as_many Is (n + 1) ps os vs es each.1 in (omega (arith, rest.0), omega (arith, rest.1))
