use Rattle.std.proofs.Common.{ℕ, List, subst, sym, arith}
use Rattle.std.specs.List.{between}
use Rattle.real_io.specs.Heads.{EndsHead}
use Rattle.real_io.proofs.tcp_link.TcpLink.lacks_head.Goals as goal

pub returns-in-None-clause-lacks : goal.returns-in-None-clause-lacks
returns-in-None-clause-lacks c = λ _. record {
  none = λ n e. c.in-None.ensures.none n (subst (λ (l : List ℕ). EndsHead (between c.args.self.now.from c.args.self.now.to l) n) (sym c.deref.ensures.value) e);
  short = omega arith;
}
