-- The steps of a begin, told of the reach as it was and as it is.
use Rattle.std.proofs.Common.{◌≡◌, ◌∙◌, Bool, false, None, Result, Ok, Err, ap, subst, sym}
use Rattle.std.proofs.lemmas.Result.{err_from_is_err_and, on_err_weaker}
use Rattle.jk_io.specs.declared.failures.IoError.{IoError}
use Rattle.jk_io.specs.declared.failures.IoError.TheVariants as Io
use Rattle.conn_pool.specs.Begins.{sight_of}
use Rattle.conn_pool.specs.Reaches.{PooledState}
use Rattle.conn_pool.proofs.BeginLaws.{BeginFacts, dialled_facts, idle_facts, never_kept, wants_facts}
use Rattle.conn_pool.proofs.pooled.PooledReachReach.begin.Goals as goal

pub returns-in_err-begin_idle : goal.returns-in_err-begin_idle
returns-in_err-begin_idle g c =
    let p = err_from_is_err_and c.from_residual.result c.from_residual.ensures.1 in
    let is : c.from_residual.result ≡ Err Io.NoMemory = cc (p.1, p.2) in
    let f = subst (λ (s : PooledState _ _ _). BeginFacts (λ before link after. g.D.Dial.gives before c.args.asked.now.host.now c.args.asked.now.port link after) g.D.Dial.faults c.args.asked.now s.dial (g.T.Tape.talks s.tape) s.faults c.self.inside.dial (sight_of g.T.Tape.talks g.T.Tape.begun g.T.Tape.sent g.T.Tape.received c.begin_idle.new.tape) c.begin_idle.new.lent c.self.inside.failed c.from_residual.result) c.self.view_is
    (wants_facts _ _ _ _ _ _ _ _ _ is c.in_err-begin_idle.ensures.err.0 c.begin_idle.ensures.empty c.begin_idle.ensures.same) in
    record {
      runs = f.runs;
      whose = f.whose;
      begins = f.begins;
      new_link = f.new_link;
      dialled = f.dialled;
      given = f.given;
      begun = f.begun;
      nothing_yet = f.nothing_yet;
      idle = f.idle;
      quiet = λ ok. absurd (cc (ok, is));
      clean = f.clean;
      dial_failed = f.dial_failed;
      ok = f.ok;
      failed = f.failed;
      wanted = f.wanted;
      same_sizes = ap (λ (s : PooledState _ _ _). s.sizes) c.self.view_is;
      same_back = ap (λ (s : PooledState _ _ _). s.back) c.self.view_is;
      cause = f.cause;
      steady = f.steady;
      want_of_memory = f.want_of_memory;
    }

pub returns-then-branch : goal.returns-then-branch
returns-then-branch g c =
    let e = c.in_ok-begin_idle.ensures in
    let f = subst (λ (s : PooledState _ _ _). BeginFacts (λ before link after. g.D.Dial.gives before c.args.asked.now.host.now c.args.asked.now.port link after) g.D.Dial.faults c.args.asked.now s.dial (g.T.Tape.talks s.tape) s.faults c.self.inside.dial (sight_of g.T.Tape.talks g.T.Tape.begun g.T.Tape.sent g.T.Tape.received c.begin_idle.new.tape) c.begin_idle.new.lent c.self.inside.failed (Ok false)) c.self.view_is
    (idle_facts _ _ _ _ _ _ _ _ _ c.if-branch.true e.there c.begin_idle.ensures.whose c.begin_idle.ensures.begins c.begin_idle.ensures.idle_link
    e.fresh e.begun c.begin_idle.ensures.empty c.begin_idle.ensures.same) in
    record {
      runs = f.runs;
      whose = f.whose;
      begins = f.begins;
      new_link = f.new_link;
      dialled = f.dialled;
      given = f.given;
      begun = f.begun;
      nothing_yet = f.nothing_yet;
      idle = f.idle;
      quiet = λ _. c.begin_idle.ensures.quiet;
      clean = f.clean;
      dial_failed = f.dial_failed;
      ok = f.ok;
      failed = f.failed;
      wanted = f.wanted;
      same_sizes = ap (λ (s : PooledState _ _ _). s.sizes) c.self.view_is;
      same_back = ap (λ (s : PooledState _ _ _). s.back) c.self.view_is;
      cause = f.cause;
      steady = f.steady;
      want_of_memory = f.want_of_memory;
    }

pub returns : goal.returns
returns g c =
    let e = c.begin_dialled-begun.ensures in
    let d = c.dial-answer.ensures in
    let n = c.counted.ensures in
    let begun = subst (λ (s : PooledState _ _ _). BeginFacts (λ before link after. g.D.Dial.gives before c.args.asked.now.host.now c.args.asked.now.port link after) g.D.Dial.faults c.args.asked.now s.dial (g.T.Tape.talks s.tape) s.faults c.dial-answer.new.self (sight_of g.T.Tape.talks g.T.Tape.begun g.T.Tape.sent g.T.Tape.received c.begin_dialled-begun.new.tape) c.begin_dialled-begun.new.lent c.counted.new.failed c.begin_dialled-begun.result) c.self.view_is
    (dialled_facts _ _ _ _ _ _ _ _ _ _ _ c.dial-answer.result _ c.begin_idle.ensures.same e.new_link e.began e.refused
    (on_err_weaker {P = (c.begin_dialled-begun.new.lent ≡ None) × g.T.Tape.is_idle c.begin_dialled-begun.new.tape} {Q = c.begin_dialled-begun.new.lent ≡ None} c.begin_dialled-begun.result (λ x. x.0) e.idle) e.given e.fails d.gave d.clean d.cause
    (rw n.same at n.cause) (rw n.same at n.steady) (rw n.same at n.cause.wanted)) in
    let f = subst (λ (r : Result Bool IoError). BeginFacts (λ before link after. g.D.Dial.gives before c.args.asked.now.host.now c.args.asked.now.port link after) g.D.Dial.faults c.args.asked.now c.args.self.now.dial (g.T.Tape.talks c.args.self.now.tape) c.args.self.now.faults c.dial-answer.new.self (sight_of g.T.Tape.talks g.T.Tape.begun g.T.Tape.sent g.T.Tape.received c.begin_dialled-begun.new.tape) c.begin_dialled-begun.new.lent c.counted.new.failed r) (sym n.same) begun in
    record {
      runs = f.runs;
      whose = f.whose;
      begins = f.begins;
      new_link = f.new_link;
      dialled = f.dialled;
      given = f.given;
      begun = f.begun;
      nothing_yet = f.nothing_yet;
      idle = f.idle;
      quiet = λ kept. never_kept _ e.new_link (sym n.same ∙ kept);
      clean = f.clean;
      dial_failed = f.dial_failed;
      ok = f.ok;
      failed = f.failed;
      wanted = f.wanted;
      same_sizes = ap (λ (s : PooledState _ _ _). s.sizes) c.self.view_is;
      same_back = ap (λ (s : PooledState _ _ _). s.back) c.self.view_is;
      cause = f.cause;
      steady = f.steady;
      want_of_memory = f.want_of_memory;
    }
