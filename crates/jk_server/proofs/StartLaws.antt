-- Workers that begin, said of their gears.
use Rattle.std.proofs.Common.{ℕ, ◌≡◌, List, [], ◌∷◌, length, refl, map, IfErr, IfOk, Result, Ok, Err, Option, Some, None, sym, ap, ◌∙◌, subst}
use Rattle.std.specs.List.{All}
use Rattle.std.proofs.lemmas.List.{length-map}
use Rattle.std.proofs.lemmas.List.Elements.{All-map}
use Rattle.conn_pool.specs.Idle.{counts}
use Rattle.exchange.specs.Requests.{sizes_of}
use Rattle.conn_pool.specs.Looks.{ends_of}
use Rattle.atomic_table.specs.Seated.{TableId}
use Rattle.jk_io.specs.declared.reaching.Talk.{Talk}
use Rattle.jk_io.specs.declared.traits.streams.Awaited.{Awaited}
use Rattle.jk_io.specs.declared.traits.streams.Meanings.{Ghosts}
use Rattle.jk_io.specs.declared.traits.surroundings.Peer.{Peer}
use Rattle.lb_model.specs.declared.segment.Segment.{Segment}
use Rattle.lb_book.specs.Journal.{Journal}
use Rattle.client_session.specs.Requests.{Visit}
use Rattle.jk_io.specs.Doors.{DoorSide}
use Rattle.site_config.specs.declared.balancer.Lb.{Lb}
use Rattle.request_log.specs.declared.format.Part.{Part as FormatPart}
use Rattle.request_log.specs.LogStates.{LogState}
use Rattle.gear_parts.specs.GearLogs.{broken_by, new_log, sink_of}
use Rattle.gear_parts.specs.Gears.{GearSide, gear_side}
use Rattle.gear_parts.specs.declared.world.Gear.{Gear}
use Rattle.jk_server.specs.Awaits.{link_tells}
use Rattle.jk_server.specs.Headline.{HaveCut, told_in}
use Rattle.jk_server.specs.Served.{IsServed}
use Rattle.jk_server.specs.Worker.{WorkerTells, WorkerSide}
use Rattle.jk_server.specs.declared.part.WorkerEnd.{WorkerEnd}
use Rattle.gear_parts.specs.GearParts.{Start, start_of, unnumbered}
use Rattle.conn_pool.specs.declared.watch.Watch.{Watch}
use Rattle.jk_server.specs.Closings.{Closes}
use Rattle.jk_server.specs.Runs.{AreServedGears, IsNew, IsSiteRun, IsServedGear, WorksWith}
use Rattle.lb_shared.specs.Histories.{SeatNote, noted, own_in}
use Rattle.lb_shared.specs.SharedDesks.{SharedState}
use Rattle.gear_parts.specs.Starts.{AreStarted, GivesFirst}
use Rattle.jk_server.specs.ServedGears.{IsBeginning, start_side}
use Rattle.jk_server.specs.Started.{IsStartedRun, pool_table}
use Rattle.jk_server.specs.declared.runs.ends.Closing.{Closing}
use Rattle.gear_parts.proofs.ListLaws.{all_of_map, map_map}
use Rattle.gear_parts.proofs.StartLaws.{gives_back}
use Rattle.jk_server.proofs.AwaitLaws.{served_unheard}
use Rattle.jk_server.proofs.HeadlineLaws.{headline_of}

-- A log that begins is written to what it was given, and isn't broken.
pub sink_new : {O : Type 0} → (format : List FormatPart) (log : Option O) → sink_of (new_log format log) ≡ log
sink_new format None = refl
sink_new format (Some sink) = refl

pub new_unbroken : {O : Type 0} → (format : List FormatPart) (log : Option O) → broken_by (new_log format log) ≡ None
new_unbroken format None = refl
new_unbroken format (Some sink) = refl

pub new_so : {O : Type 0} → (format : List FormatPart) (log : Option O) → new_log format log ≡ new_log format (sink_of (new_log format log))
new_so format log = ap (λ (l : Option _). new_log format l) (sym (sink_new format log))

-- Gears are told as their workers begin.
begun_told : {D G T K S O C : Type 0} → (X : Type 0) (at : D → DoorSide C) (talks : T → Option (List Talk)) (answers : K → Option (List ℕ)) (lock : TableId) (sizes pools : List ℕ)
    (watch : Option Watch) (format : List FormatPart) (gears : List (Gear D G T K S O))
    → map (λ (g : Gear D G T K S O). start_side {X = X} at talks answers (start_of lock sizes pools watch format g)) gears ≡ map (gear_side at talks answers) gears
begun_told X at talks answers lock sizes pools watch format [] = refl
begun_told {D} {G} {T} {K} {S} {O} {C} X at talks answers lock sizes pools watch format (g ∷ gears) =
    ap (λ (l : Option O). record (gear_side at talks answers g) { log = l } ∷ map (λ (x : Gear D G T K S O). start_side {X = X} at talks answers (start_of lock sizes pools watch format x)) gears) (sink_new format g.log)
    ∙ ap (λ (rest : List (GearSide C S O)). gear_side at talks answers g ∷ rest) (begun_told X at talks answers lock sizes pools watch format gears)

-- Parts that begin so are told as their gears are.
pub starts_told : {P D G T K S O C X : Type 0} → (at : D → DoorSide C) (talks : T → Option (List Talk)) (answers : K → Option (List ℕ)) (lock : TableId) (sizes pools : List ℕ)
    (watch : Option Watch) (format : List FormatPart) (start : P → Start D G T K S O X) (parts : List P) (gears : List (Gear D G T K S O))
    → map start parts ≡ map (start_of lock sizes pools watch format) gears
    → map (λ (p : P). start_side at talks answers (start p)) parts ≡ map (gear_side at talks answers) gears
starts_told {C = C} {X = X} at talks answers lock sizes pools watch format start parts gears same =
    sym (map_map (start_side at talks answers) start parts)
    ∙ ap (map (start_side at talks answers)) same
    ∙ map_map (start_side at talks answers) (start_of lock sizes pools watch format) gears
    ∙ begun_told X at talks answers lock sizes pools watch format gears

-- A fact of each start is one of the parts.
pub starts_are : {P D G T K S O X : Type 0} → (lock : TableId) (sizes pools : List ℕ) (watch : Option Watch) (format : List FormatPart) (Q : Start D G T K S O X → Type 0)
    (start : P → Start D G T K S O X) (parts : List P) (gears : List (Gear D G T K S O))
    → map start parts ≡ map (start_of lock sizes pools watch format) gears → All (λ (g : Gear D G T K S O). Q (start_of lock sizes pools watch format g)) gears
    → All (λ (p : P). Q (start p)) parts
starts_are lock sizes pools watch format Q start parts gears same each =
    all_of_map Q start parts (subst (λ xs. All Q xs) (sym same) (All-map Q (start_of lock sizes pools watch format) gears each))

-- A desk that begins, whatever its number.
pub begins_seated : {S : Type 0} (lock : TableId) (d : SharedState S) → IsBeginning lock (unnumbered d) → IsBeginning lock d
begins_seated lock d is = (
  record {
    no_receipt = is.0.no_receipt;
    none_held = is.0.none_held;
    none_forgotten = is.0.none_forgotten;
    no_stray = is.0.no_stray;
    none_seen = is.0.none_seen;
    no_step = is.0.no_step;
  },
  is.1,
  is.2,
)

pub one_part : (was now : Option ℕ) (n : ℕ) → now ≡ Some n → now ≡ was → was ≡ Some 1 → n ≡ 1
one_part was now n is same one = cc

-- The run from its start: its workers, each with its end, and its closing.
pub run_done : {C S O L X : Type 0} → (visits : ℕ → Peer → Visit) (told : Ghosts C X) (shelved : S → Option (List (ℕ × Segment))) (of : WorkerTells S (Option (LogState O))) (format : List FormatPart) (lbs : List Lb) (moment : ℕ)
    (begun left back : List (GearSide C S O)) (seats : List SeatNote) (ends ends' : List (WorkerEnd L)) (closing : Closing L)
    → AreServedGears visits told of format 0 begun left seats ends → ends' ≡ ends → (books : List Journal) × Closes shelved of.shelf_faults lbs moment seats books left back closing
    → IsStartedRun visits told shelved of format lbs moment begun back ends' closing
run_done {L = L} visits told shelved of format lbs moment begun left back seats ends ends' closing served same closed = record {
  left = left;
  seats = seats;
  served = subst (λ (es : List (WorkerEnd L)). AreServedGears visits told of format 0 begun left seats es) (sym same) served;
  books = closed.0;
  closed = closed.1;
}

pub served_gear : {C S O L X : Type 0} → (visit : Peer → Visit) (told : Ghosts C X) (heard : C → Awaited → C → Type 0) (of : WorkerTells S (Option (LogState O))) (format : List FormatPart) (before after : GearSide C S O) (seat : SeatNote) (from to : WorkerSide S (Option (LogState O))) (end : WorkerEnd L)
    → (served : IsServed visit (link_tells told heard) of before.door after.door from to end) → WorksWith before from → IsNew from.desk → WorksWith after to
    → from.log ≡ new_log format before.log → sink_of to.log ≡ after.log
    → own_in seat.number seat.seen ≡ noted (told_in served.runs) → HaveCut seat served.runs → IsServedGear visit told of format before after seat end
served_gear visit told heard of format before after seat from to end served first fresh last begun left own cut = record {
  from = from;
  to = to;
  first = first;
  fresh = fresh;
  last = last;
  begun = begun;
  left = left;
  served = served_unheard visit told heard of before.door after.door from to end served;
  own = own;
  cut = cut;
}

-- The run, from before its start.
pub started_run : {D G T K S O C L X : Type 0} → (visits : ℕ → Peer → Visit) (told : Ghosts C X) (shelved : S → Option (List (ℕ × Segment))) (of : WorkerTells S (Option (LogState O))) (format : List FormatPart) (lbs : List Lb) (moment : ℕ)
    (at : Gear D G T K S O → GearSide C S O) (gears lent new begun back : List (Gear D G T K S O)) (ends : List (WorkerEnd L)) (closing : Closing L)
    → lent ≡ gears → begun ≡ new → AreStarted (map at lent) (map at new) → GivesFirst moment (map at lent) (map at new)
    → IsStartedRun visits told shelved of format lbs moment (map at begun) (map at back) ends closing
    → IsSiteRun visits told shelved of format lbs (map at gears) (map at back) ends closing
started_run {D} {G} {T} {K} {S} {O} visits told shelved of format lbs moment at gears lent new begun back ends closing same written started given run = record {
  begun = map at begun;
  left = run.left;
  started =
      subst (λ (gs : List (Gear D G T K S O)). AreStarted (map at gs) (map at begun)) same
      (subst (λ (gs : List (Gear D G T K S O)). AreStarted (map at lent) (map at gs)) (sym written) started);
  at = moment;
  given = gives_back moment at gears lent new begun same written given;
  seats = run.seats;
  served = run.served;
  books = run.books;
  closed = run.closed;
  headline = headline_of visits told of format shelved of.shelf_faults lbs moment (map at begun) run.left (map at back) run.seats run.books ends closing run.served run.closed;
}

pub ok_weaker : {T E : Type 0} (P Q : T → Type 0) (r : Result T E) → IfOk r P → ((x : T) → P x → Q x) → IfOk r Q
ok_weaker P Q (Ok x) is then = then x is
ok_weaker P Q (Err e) is then = is

-- gears that came back as they were at the start
pub err_started : {D G T K S O C R V : Type 0} (at : Gear D G T K S O → GearSide C S O) (items : V → List (Gear D G T K S O)) (gears begun : List (Gear D G T K S O)) (r : Result R V)
    → AreStarted (map at gears) (map at begun) → IfErr r (λ back. items back ≡ begun) → IfErr r (λ back. AreStarted (map at gears) (map at (items back)))
err_started at items gears begun (Ok run) started same = same
err_started {D} {G} {T} {K} {S} {O} at items gears begun (Err back) started same =
    subst (λ (gs : List (Gear D G T K S O)). AreStarted (map at gears) (map at gs)) (sym same) started

-- a balancer's pools are as many as its members
pub table_counts : (lbs : List Lb) → counts (pool_table lbs) ≡ sizes_of lbs
table_counts [] = refl
table_counts (lb ∷ lbs) =
    ap (λ (n : ℕ). n ∷ counts (pool_table lbs)) (length-map lb.book.members (λ m. m.pool))
    ∙ ap (λ (ns : List ℕ). length lb.book.members ∷ ns) (table_counts lbs)

-- a balancer has as many ends as members
pub table_ends : (lbs : List Lb) → sizes_of lbs ≡ ends_of lbs
table_ends [] = refl
table_ends (lb ∷ lbs) =
    ap (λ (n : ℕ). n ∷ sizes_of lbs) (sym lb.paired)
    ∙ ap (λ (ns : List ℕ). length lb.ends ∷ ns) (table_ends lbs)
