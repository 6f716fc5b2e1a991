use Rattle.std.proofs.Common.{◌-◌, List, ℕ, Option, length, sym, ◌∙◌, ap, arith}
use Rattle.std.proofs.lemmas.List.{take_rest}
use Rattle.std.specs.Option.{is_some}
use Rattle.site_mounts.specs.Pieces.{behind}
use Rattle.site_mounts.proofs.MatchLemmas.{found_so, some_end_last, some_end_short}
use Rattle.site_mounts.proofs.matching.ends_with.Goals as goal

pub returns-then-piece-path : goal.returns-then-piece-path
returns-then-piece-path c =
    let path = c.args.path.now in
    let last = some_end_last c.args.piece.now path c.requires c.if-piece-path.true in
    let same = ap (λ (t : List ℕ). is_some (behind c.args.piece.now t)) (take_rest path (length path - length c.args.piece.now)) in
    c.is_some.ensures ∙ found_so c.behind.result ∙ ap (λ (o : Option (List ℕ)). is_some o) c.behind.ensures ∙ same ∙ sym last

pub returns-else-piece-path : goal.returns-else-piece-path
returns-else-piece-path c =
    let short = some_end_short c.args.piece.now c.args.path.now c.requires c.if-piece-path.false in
    rw short (grind arith)
