-- How much a command may ask for.
use Rattle.std.specs.Prelude.{ℕ}

-- of threads
abbrev pub most_threads : ℕ
most_threads = 64

-- of a drill's requests
abbrev pub most_requests : ℕ
most_requests = 1000000

-- of bytes of a container's route
abbrev pub most_route_bytes : ℕ
most_route_bytes = 1024
