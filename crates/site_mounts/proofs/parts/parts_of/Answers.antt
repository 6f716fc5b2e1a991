use Rattle.std.proofs.Common.{◌≡◌, ◌==◌, ℕ, ◌++◌, ◌∷◌, [], List, Some, None, sym, ◌∙◌, ap, rules}
use Rattle.std.proofs.lemmas.List.{map-append}
use Rattle.std.specs.Option.{option_map}
use Rattle.site_config.proofs.CutLemmas.{cut_shorter}
use Rattle.site_mounts.specs.PartViews.{as_part, as_parts}
use Rattle.site_mounts.specs.Parts.{before, part_of, parts_of, pieces_of}
use Rattle.site_mounts.proofs.PartLemmas.{front_more, front_none, pieces_cut, pieces_one}
use Rattle.site_mounts.proofs.parts.parts_of.Goals as goal

pub returns-in_default : goal.returns-in_default
returns-in_default c =
    let cut = pieces_cut c.loop-piece.rest.now c.in-Some.piece.now c.in-Some.more.now (sym c.in-Some.ensures) in
    let none : part_of c.in-Some.piece.now ≡ None = search rules in
    sym (front_none (as_parts c.loop-piece.parts.items) c.in-Some.piece.now (pieces_of c.in-Some.more.now) none) ∙ rw cut at c.loop-piece.invariant

pub loop-piece-smaller : goal.loop-piece-smaller
loop-piece-smaller c =
    cut_shorter (λ (b : ℕ). b == 59) c.loop-piece.rest.now c.in-Some.piece.now c.in-Some.more.now (sym c.in-Some.ensures)

pub loop-piece-preserved : goal.loop-piece-preserved
loop-piece-preserved c =
    let old = as_parts c.loop-piece.parts.items in
    let part = as_part c.in-Some-part_of.part in
    let rest = pieces_of c.in-Some.more.now in
    let cut = pieces_cut c.loop-piece.rest.now c.in-Some.piece.now c.in-Some.more.now (sym c.in-Some.ensures) in
    let items : as_parts c.push.new.self.items ≡ old ++ part ∷ [] = ap as_parts c.in_ok-push-in-Some.ensures.items ∙ map-append as_part c.loop-piece.parts.items (c.in-Some-part_of.part ∷ []) in
    let there : part_of c.in-Some.piece.now ≡ Some part = sym c.in-Some-part_of.ensures in
    let known : option_map (λ (more : List (List ℕ × List ℕ)). old ++ more) (before (part_of c.in-Some.piece.now) (parts_of rest)) ≡ parts_of (pieces_of c.args.text.now) = rw cut at c.loop-piece.invariant in
    rw items (sym (front_more old part (parts_of rest)) ∙ rw there at known)

pub returns-in_default-part_of : goal.returns-in_default-part_of
returns-in_default-part_of c =
    let one = pieces_one c.loop-piece.rest.now (sym c.in-None.ensures) in
    let none : part_of c.loop-piece.rest.now ≡ None = search rules in
    sym (front_none (as_parts c.loop-piece.parts.items) c.loop-piece.rest.now [] none) ∙ rw one at c.loop-piece.invariant

pub returns-in-None : goal.returns-in-None
returns-in-None c =
    let old = as_parts c.loop-piece.parts.items in
    let part = as_part c.in-Some-part_of-2.part in
    let one = pieces_one c.loop-piece.rest.now (sym c.in-None.ensures) in
    let items : as_parts c.push-in-None.new.self.items ≡ old ++ part ∷ [] = ap as_parts c.in_ok-push-in-None.ensures.items ∙ map-append as_part c.loop-piece.parts.items (c.in-Some-part_of-2.part ∷ []) in
    let there : part_of c.loop-piece.rest.now ≡ Some part = sym c.in-Some-part_of-2.ensures in
    let known : option_map (λ (more : List (List ℕ × List ℕ)). old ++ more) (before (part_of c.loop-piece.rest.now) (Some [])) ≡ parts_of (pieces_of c.args.text.now) = rw one at c.loop-piece.invariant in
    rw items (rw there at known)
