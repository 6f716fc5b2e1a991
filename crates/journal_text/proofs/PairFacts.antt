-- Segments that are taken off the end of a list, one by one.
use Rattle.std.proofs.Common.{◌≡◌, ℕ, List, [], ◌∷◌, ◌++◌, map, reverse, sym, ap, ◌∙◌, append_assoc}
use Rattle.std.proofs.lemmas.List.{map-append}
use Rattle.lb_model.proofs.ListFacts.{reverse_snoc}
use Rattle.lb_model.specs.declared.segment.Segment.{Segment}
use Rattle.journal_text.specs.Pairs.{pair_of}
use Rattle.journal_text.specs.declared.counted.Counted.{Counted}

-- those that are left, and those that were taken off, whose pairs stand newest first
abbrev pub IsSplit : (all left : List Counted) → (pairs : List (List ℕ × Segment)) → Type 0
IsSplit all left pairs = map pair_of all ≡ map pair_of left ++ reverse pairs

pub split_more : (all left further : List Counted) (c : Counted) (pairs : List (List ℕ × Segment)) → IsSplit all left pairs
    → left ≡ further ++ c ∷ [] → IsSplit all further (pairs ++ pair_of c ∷ [])
split_more all left further c pairs h last =
    h
    ∙ ap (λ (cs : List Counted). map pair_of cs ++ reverse pairs) last
    ∙ ap (λ (ps : List (List ℕ × Segment)). ps ++ reverse pairs) (map-append pair_of further (c ∷ []))
    ∙ append_assoc (map pair_of further) (pair_of c ∷ []) (reverse pairs)
    ∙ ap (λ (ps : List (List ℕ × Segment)). map pair_of further ++ ps) (sym (reverse_snoc pairs (pair_of c)))
