use Rattle.std.proofs.Common.{sym, ◌∙◌}
use Rattle.site_config.specs.Directives.{worker_part}
use Rattle.site_workers.proofs.MemberListLemmas.{gives_number, number_within}
use Rattle.site_workers.proofs.member_lists.lister.Goals as goal

pub returns-then-gives-clause-within : goal.returns-then-gives-clause-within
returns-then-gives-clause-within c = number_within c.in_ok-name.name.now c.args.names.now c.find.result c.find.ensures

pub returns-then-gives-clause-value : goal.returns-then-gives-clause-value
returns-then-gives-clause-value c = λ name i num.
    let parts = c.in_ok-name.ensures.some in
    rw c.find.ensures (gives_number (worker_part c.args.entry.now.key.now) c.in_ok-name.name.now parts.0 name c.args.names.now i (sym parts.1) (rw parts.1 at (sym c.gives.ensures ∙ c.if-gives.true)) num)
