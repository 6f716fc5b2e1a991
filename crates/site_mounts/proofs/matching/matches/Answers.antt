use Rattle.std.proofs.Common.{◌≡◌, ℕ, List, Option, Some, None, sym, ◌∙◌, ap, rules, arith}
use Rattle.std.specs.Option.{is_some}
use Rattle.site_config.specs.Cut.{cut_at}
use Rattle.site_mounts.specs.Pieces.{behind}
use Rattle.site_mounts.proofs.MatchLemmas.{found_so, matches_front, matches_same_length, matches_other_length}
use Rattle.site_mounts.proofs.matching.matches.Goals as goal

pub returns-then-pattern-path : goal.returns-then-pattern-path
returns-then-pattern-path c =
    let none : cut_at 42 c.args.pattern.now ≡ None = search rules in
    let same = matches_same_length c.args.pattern.now c.args.path.now none c.if-pattern-path.true in
    c.is_some.ensures ∙ found_so c.behind.result ∙ ap (λ (o : Option (List ℕ)). is_some o) c.behind.ensures ∙ sym same

pub returns-else-pattern-path : goal.returns-else-pattern-path
returns-else-pattern-path c =
    let none : cut_at 42 c.args.pattern.now ≡ None = search rules in
    rw (matches_other_length c.args.pattern.now c.args.path.now none c.if-pattern-path.false) (grind arith)

pub returns-in-Some-behind : goal.returns-in-Some-behind
returns-in-Some-behind c =
    let front = matches_front c.args.pattern.now c.in-Some.front.now c.in-Some.more.now c.args.path.now (sym c.in-Some.ensures) in
    let there : behind c.in-Some.front.now c.args.path.now ≡ Some c.in-Some-behind.rest.now = sym c.in-Some-behind.ensures in
    c.end_matches.ensures ∙ sym (rw there at front)

pub returns-in-None : goal.returns-in-None
returns-in-None c =
    let front = matches_front c.args.pattern.now c.in-Some.front.now c.in-Some.more.now c.args.path.now (sym c.in-Some.ensures) in
    let none : behind c.in-Some.front.now c.args.path.now ≡ None = sym c.in-None.ensures in
    sym (rw none at front)
