use Rattle.std.proofs.Common.{◌≡◌, ◌+◌, ◌-◌, ℕ, List, drop, ap, ◌∙◌, arith, take, Some, append-nil, ◌==◌, []}
use Rattle.std.specs.List.{list_any}
use Rattle.http_front.specs.Host.{split_port}
use Rattle.http_front.proofs.HostLemmas.{split-here, split-front, none-here}
use Rattle.http_front.proofs.hosts.split_port.Goals as goal

pub returns-then-host-at-eq58-clause-found : goal.returns-then-host-at-eq58-clause-found
returns-then-host-at-eq58-clause-found c =
    let host = c.args.host.now in
    let i = c.loop-at.at - 1 in
    let next : i + 1 ≡ c.loop-at.at = omega arith in
    let here = split-here host i (omega arith) c.if-host-at-eq58.true (ap (λ (n : ℕ). split_port (drop n host)) next ∙ c.loop-at.invariant.none) (ap (λ (n : ℕ). list_any (λ c. c == 93) (drop n host)) next ∙ c.loop-at.invariant.open_end) in
    split-front host i [] (drop (i + 1) host) here ∙ ap (λ (l : List ℕ). Some (l, drop (i + 1) host)) (append-nil (take i host))

pub returns-then-host-at-eq93-clause-none : goal.returns-then-host-at-eq93-clause-none
returns-then-host-at-eq93-clause-none c =
    let host = c.args.host.now in
    let i = c.loop-at.at - 1 in
    let next : i + 1 ≡ c.loop-at.at = omega arith in
    none-here host i (omega arith) c.if-host-at-eq93.true (ap (λ (n : ℕ). split_port (drop n host)) next ∙ c.loop-at.invariant.none)
