use Rattle.std.proofs.Common.{◌≡◌, Some, None, sym, ◌∙◌, rules}
use Rattle.site_config.proofs.CutLemmas.{cut_shorter}
use Rattle.site_mounts.specs.Patterns.{is_star}
use Rattle.site_mounts.specs.Pieces.{first_behind}
use Rattle.site_mounts.proofs.MatchLemmas.{some_end_front}
use Rattle.site_mounts.proofs.matching.end_matches.Goals as goal

pub returns-in_default-first_behind : goal.returns-in_default-first_behind
returns-in_default-first_behind c =
    let front = some_end_front c.loop-piece.pattern.now c.in-Some.piece.now c.in-Some.more.now c.loop-piece.path.now (sym c.in-Some.ensures) in
    let none : first_behind c.in-Some.piece.now c.loop-piece.path.now ≡ None = search rules in
    sym (rw none at front) ∙ c.loop-piece.invariant

pub loop-piece-smaller : goal.loop-piece-smaller
loop-piece-smaller c =
    cut_shorter is_star c.loop-piece.pattern.now c.in-Some.piece.now c.in-Some.more.now (sym c.in-Some.ensures)

pub loop-piece-preserved : goal.loop-piece-preserved
loop-piece-preserved c =
    let front = some_end_front c.loop-piece.pattern.now c.in-Some.piece.now c.in-Some.more.now c.loop-piece.path.now (sym c.in-Some.ensures) in
    let found : first_behind c.in-Some.piece.now c.loop-piece.path.now ≡ Some c.in-Some-first_behind.rest.now = sym c.in-Some-first_behind.ensures in
    sym (rw found at front) ∙ c.loop-piece.invariant
