-- A body in pieces.
use Rattle.std.proofs.Common.{◌≡◌, ℕ, zero, suc, ◌<◌, ◌≤◌, List, [], ◌∷◌, ◌++◌, length, take, drop, map, refl, sym, ap, ◌∙◌, append_assoc, arith, length-append, length-drop}
use Rattle.std.proofs.lemmas.List.{length-take, take-append-drop}
use Rattle.std.specs.List.{concat, AllByRecursion}
use Rattle.ajp_container.specs.Reply.{AreFull, IsCutBody}
use Rattle.ajp_reply.specs.declared.message.Message.{Message}
use Rattle.ajp_reply.specs.declared.message.Message.TheVariants.{Chunk}
use Rattle.ajp_container.specs.Answer.{pieces, cut}

-- more room than bytes changes nothing
pub pieces-enough : (m n size : ℕ) (body : List ℕ) → 0 < size → length body ≤ m → length body ≤ n → pieces m size body ≡ pieces n size body
pieces-enough zero zero size body some p q = refl
pieces-enough zero (suc n) size [] some p q = refl
pieces-enough zero (suc n) size (b ∷ body) some p q = absurd (omega arith)
pieces-enough (suc m) zero size [] some p q = refl
pieces-enough (suc m) zero size (b ∷ body) some p q = absurd (omega arith)
pieces-enough (suc m) (suc n) size [] some p q = refl
pieces-enough (suc m) (suc n) size (b ∷ body) some p q =
    ap (λ (more : List (List ℕ)). take size (b ∷ body) ∷ more)
    (pieces-enough m n size (drop size (b ∷ body)) some (omega (arith, length-drop size (b ∷ body))) (omega (arith, length-drop size (b ∷ body))))

-- the first piece, and those of what is left
pub cut-step : (size : ℕ) (body : List ℕ) → 0 < size → 0 < length body → cut size body ≡ take size body ∷ cut size (drop size body)
cut-step size [] some any = absurd (omega arith)
cut-step size (b ∷ body) some any =
    ap (λ (more : List (List ℕ)). take size (b ∷ body) ∷ more)
    (pieces-enough (length body) (length (drop size (b ∷ body))) size (drop size (b ∷ body)) some
    (omega (arith, length-drop size (b ∷ body))) (omega arith))

-- one chunk more, and those of what is left
pub chunks-step : (messages : List Message) (size : ℕ) (rest : List ℕ) → 0 < size → 0 < length rest
    → (messages ++ Chunk (take size rest) ∷ []) ++ map Chunk (cut size (drop size rest)) ≡ messages ++ map Chunk (cut size rest)
chunks-step messages size rest some any =
    append_assoc messages (Chunk (take size rest) ∷ []) (map Chunk (cut size (drop size rest)))
    ∙ ap (λ (later : List (List ℕ)). messages ++ map Chunk later) (sym (cut-step size rest some any))

pieces-joined : (most size : ℕ) (body : List ℕ) → 0 < size → length body ≤ most → concat (pieces most size body) ≡ body
pieces-joined zero size [] some enough = refl
pieces-joined zero size (b ∷ body) some enough = absurd (omega arith)
pieces-joined (suc most) size [] some enough = refl
pieces-joined (suc most) size (b ∷ body) some enough =
    ap (λ (more : List ℕ). take size (b ∷ body) ++ more)
    (pieces-joined most size (drop size (b ∷ body)) some (omega (arith, length-drop size (b ∷ body))))
    ∙ take-append-drop size (b ∷ body)

-- a piece before full ones is full, unless nothing is left
full-before : (size : ℕ) (body : List ℕ) (later : List (List ℕ)) → 0 < size → 0 < length body → AreFull size later
    → concat later ≡ drop size body → AreFull size (take size body ∷ later)
full-before size body [] some any full joined =
    (omega (arith, length-take size body), omega (arith, length-take size body))
full-before size body (next ∷ later) some any full joined =
    let left : 0 < length (drop size body) = omega (arith, ap length joined, length-append next (concat later), full-some size next later full some) in
    (omega (arith, length-take size body, length-drop size body), full)
  where
    full-some : (size : ℕ) (next : List ℕ) (later : List (List ℕ)) → AreFull size (next ∷ later) → 0 < size → 0 < length next
    full-some size next [] full some = full.0
    full-some size next (other ∷ later) full some = omega (arith, full.0)

pieces-full : (most size : ℕ) (body : List ℕ) → 0 < size → length body ≤ most → AreFull size (pieces most size body)
pieces-full zero size body some enough = tt
pieces-full (suc most) size [] some enough = tt
pieces-full (suc most) size (b ∷ body) some enough =
    let less : length (drop size (b ∷ body)) ≤ most = omega (arith, length-drop size (b ∷ body)) in
    full-before size (b ∷ body) (pieces most size (drop size (b ∷ body))) some (omega arith)
    (pieces-full most size (drop size (b ∷ body)) some less) (pieces-joined most size (drop size (b ∷ body)) some less)

pub cut-is : (size : ℕ) (body : List ℕ) → 0 < size → IsCutBody size body (cut size body)
cut-is size body some = record {
  joined = pieces-joined (length body) size body some (omega arith);
  full = pieces-full (length body) size body some (omega arith);
}

pub cut-short : (size : ℕ) (body : List ℕ) → AllByRecursion (λ (piece : List ℕ). length piece ≤ size) (cut size body)
cut-short size body = pieces-short (length body) size body
  where
    pieces-short : (most size : ℕ) (body : List ℕ) → AllByRecursion (λ (piece : List ℕ). length piece ≤ size) (pieces most size body)
    pieces-short zero size body = tt
    pieces-short (suc most) size [] = tt
    pieces-short (suc most) size (b ∷ body) =
        (omega (arith, length-take size (b ∷ body)), pieces-short most size (drop size (b ∷ body)))
