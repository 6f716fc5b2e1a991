-- The least of a length and of what packets hold is within each of them, and nothing greater is.
use Rattle.std.proofs.Common.{ℕ, zero, suc, ◌<◌, ◌≤◌, min, List, [], ◌∷◌, length, get_or, arith}
use Rattle.std.specs.List.{All, fold}
use Rattle.site_config.specs.declared.endpoint.Endpoint.{Endpoint}
use Rattle.forwarding.specs.FirstPiece.{piece_for}

abbrev least : ℕ → List Endpoint → ℕ
least n ends = fold (λ len endpoint. min len (piece_for endpoint)) n ends

pub within_length : (n : ℕ) (ends : List Endpoint) → least n ends ≤ n
within_length n [] = omega arith
within_length n (e ∷ ends) = let further : least (min n (piece_for e)) ends ≤ min n (piece_for e) = within_length (min n (piece_for e)) ends in omega (arith, further)

pub within_each : (n : ℕ) (ends : List Endpoint) (k : ℕ) (d : Endpoint) → k < length ends → least n ends ≤ piece_for (get_or ends k d)
within_each n [] k d lt = absurd (omega (arith, lt))
within_each n (e ∷ ends) zero d lt = let further : least (min n (piece_for e)) ends ≤ min n (piece_for e) = within_length (min n (piece_for e)) ends in omega (arith, further)
within_each n (e ∷ ends) (suc k) d lt = within_each (min n (piece_for e)) ends k d (omega (arith, lt))

pub nothing_greater : (n : ℕ) (ends : List Endpoint) (len : ℕ) → len ≤ n → All (λ endpoint. len ≤ piece_for endpoint) ends → len ≤ least n ends
nothing_greater n [] len below all = below
nothing_greater n (e ∷ ends) len below all =
    let first : len ≤ piece_for e = all zero e (omega arith) in
    nothing_greater (min n (piece_for e)) ends len (omega (arith, below, first)) (λ k d lt. all (suc k) d (omega (arith, lt)))
