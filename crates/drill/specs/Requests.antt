-- The requests of a drill: which they are by the seed, and which thread makes each. Requests are numbered from 0.
use Rattle.std.specs.Prelude.{ℕ, zero, suc, ◌+◌, ◌*◌, ◌/◌, ◌%◌, ◌^◌, ◌==◌, List, ◌++◌, codes, decimal, filter, flat_map, sum_by}
use Rattle.std.specs.List.{range_with_len}

-- the number after this one
abbrev pub following : ℕ → ℕ
following x = (6364136223846793005 * x + 1442695040888963407) % 2 ^ 64

-- The seed is number 0, and each number comes from the one before it.
abbrev pub number_at : (seed i : ℕ) → ℕ
number_at seed zero = seed
number_at seed (suc i) = following (number_at seed i)

-- How many bytes the body of the reply to request i has, below 1,024: number i + 1 divided by 2^54.
abbrev pub size_at : (seed i : ℕ) → ℕ
size_at seed i = following (number_at seed i) / 2 ^ 54

-- request i is made by thread i mod THREADS: those of thread t, of n requests from i on, in order
abbrev pub requests_from : (threads t : ℕ) → (i n : ℕ) → List ℕ
requests_from threads t i n = filter (λ j. j % threads == t) (range_with_len i n)

-- the requests of thread t
abbrev pub requests_of : (threads requests t : ℕ) → List ℕ
requests_of threads requests t = requests_from threads t 0 requests

-- the sizes of all requests together
abbrev pub bodies_of : (seed requests : ℕ) → ℕ
bodies_of seed requests = sum_by (λ i. size_at seed i) (range_with_len 0 requests)

-- a request for a body of this size
abbrev pub request_text : (size : ℕ) → List ℕ
request_text size = codes "GET /size/" ++ (decimal size ++ codes " HTTP/1.1\r\nHost: drill\r\n\r\n")

-- these requests, one after the other
abbrev pub texts_of : (seed : ℕ) → List ℕ → List ℕ
texts_of seed requests = flat_map (λ i. request_text (size_at seed i)) requests

-- The seed, and the requests that a thread has still to make.
pub record RequestsState : Type 0 where
  pub seed : ℕ
  pub left : List ℕ
