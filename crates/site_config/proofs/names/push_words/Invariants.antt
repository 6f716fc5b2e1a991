use Rattle.std.proofs.Common.{◌≡◌, ℕ, List, ◌++◌, map, length, Bor}
use Rattle.site_config.specs.Names.{words}
use Rattle.site_config.proofs.names.push_words.Given as goal

-- the words so far, and those of the rest
abbrev pub invariant-loop-word : goal.invariant-loop-word
invariant-loop-word l = map (λ (w : Bor (List ℕ)). w.now) l.out.items ++ words l.rest ≡ map (λ (w : Bor (List ℕ)). w.now) l.fn.out.items ++ words l.text

abbrev pub decreases-loop-word : goal.decreases-loop-word
decreases-loop-word l = length l.rest
