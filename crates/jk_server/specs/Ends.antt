-- How a command ends by the ends of its workers.
use Rattle.std.specs.Prelude.{ℕ, List, [], ◌∷◌}
use Rattle.ajp_container.specs.declared.worker_ends.ContainerWorker.{ContainerWorker}
use Rattle.ajp_container.specs.declared.worker_ends.ContainerWorker.TheVariants as container
use Rattle.jk_io.specs.declared.failures.IoError.{IoError}
use Rattle.jk_io.specs.declared.failures.IoError.TheVariants as io
use Rattle.jk_server.specs.declared.runs.ends.Closing.{Closing}
use Rattle.jk_server.specs.declared.runs.ends.Closing.TheVariants as closing
use Rattle.jk_server.specs.declared.part.WorkerEnd.{WorkerEnd}
use Rattle.jk_server.specs.declared.part.WorkerEnd.TheVariants as worker
use Rattle.jk_server.specs.declared.orders.ends.CommandEnd.{CommandEnd}
use Rattle.jk_server.specs.declared.orders.ends.CommandEnd.TheVariants as end

-- the program's status
abbrev pub status_of : {L : Type 0} → CommandEnd L → ℕ
status_of (end.Status status) = status
status_of (end.Discord discord) = 1
status_of (end.Stray stray) = 7

-- a fault of what is read or used, or want of memory
abbrev pub end_by : {L : Type 0} → IoError → CommandEnd L
end_by io.Failed = end.Status 4
end_by io.NoMemory = end.Status 6

abbrev pub end_of_closing : {L : Type 0} → Closing L → CommandEnd L
end_of_closing closing.Kept = end.Status 0
end_of_closing closing.ShelfFault = end.Status 4
end_of_closing (closing.Differs discord) = end.Discord discord
end_of_closing closing.NoMemory = end.Status 6

-- A run of `serve` ends by the first worker that didn't close, else by its closing.
abbrev pub end_of_run : {L : Type 0} → List (WorkerEnd L) → Closing L → CommandEnd L
end_of_run [] closed = end_of_closing closed
end_of_run (worker.Closed sessions ∷ workers) closed = end_of_run workers closed
end_of_run (worker.DoorFault ∷ workers) closed = end.Status 4
end_of_run (worker.ShelfFault ∷ workers) closed = end.Status 4
end_of_run (worker.LogFault ∷ workers) closed = end.Status 4
end_of_run (worker.Stray stray ∷ workers) closed = end.Stray stray
end_of_run (worker.NoMemory ∷ workers) closed = end.Status 6

-- A run of `container` ends by the first worker that didn't close.
abbrev pub end_of_container : {L : Type 0} → List ContainerWorker → CommandEnd L
end_of_container [] = end.Status 0
end_of_container (container.Closed links ∷ workers) = end_of_container workers
end_of_container (container.DoorFault ∷ workers) = end.Status 4
end_of_container (container.NoMemory ∷ workers) = end.Status 6

-- the gears that a run gives back: all, but none where its closing wanted memory
abbrev pub returned : {L G : Type 0} → Closing L → List G → List G
returned closing.Kept gears = gears
returned closing.ShelfFault gears = gears
returned (closing.Differs discord) gears = gears
returned closing.NoMemory gears = []
