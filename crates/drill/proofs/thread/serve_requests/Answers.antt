use Rattle.std.proofs.Common.{◌++◌, ℕ, List, length, length-drop, refl, take, ap, ◌∙◌, arith}
use Rattle.status_worker.proofs.DeskLaws.{twice, untouched}
use Rattle.drill.specs.Requests.{texts_of}
use Rattle.drill.proofs.CountLaws.{none_so_far, one_more}
use Rattle.drill.proofs.thread.serve_requests.Goals as goal

pub sessions-init : goal.sessions-init
sessions-init g c = record {
  kept = untouched _ _;
  ready = c.requires.ready;
  seed = refl;
  counted = none_so_far _ _ _ _ _;
}

pub sessions-smaller : goal.sessions-smaller
sessions-smaller g c =
    let left = ap length c.in_ok-put_session.ensures.ok.1 in
    let dropped = length-drop 1000 c.sessions.requests.left in
    let some = c.in_ok-put_session.ensures.some.0 c.if-not-branch.false in
    omega (arith, left, dropped, some)

pub sessions-preserved : goal.sessions-preserved
sessions-preserved g c =
    let inv = c.sessions.invariant in
    let kept = c.serve_text.ensures.kept in
    record {
      kept = twice _ _ _ _ inv.kept kept;
      ready = c.serve_text.ensures.ready;
      seed = c.in_ok-put_session.ensures.seed ∙ inv.seed;
      counted =
          one_more _ _ _ _ _ _ _ _ _ _ _ _ inv.counted c.in_ok-put_session.ensures.ok.1
          (c.in_ok-put_session.ensures.ok.0 ∙ ap (λ (xs : List ℕ). xs ++ texts_of c.sessions.requests.seed (take 1000 c.sessions.requests.left)) c.new-text.ensures
          ∙ ap (λ (n : ℕ). texts_of n (take 1000 c.sessions.requests.left)) inv.seed) c.serve_text.ensures.rows;
    }

pub returns-in_err-serve_text-clause-kept : goal.returns-in_err-serve_text-clause-kept
returns-in_err-serve_text-clause-kept g c = twice _ _ _ _ c.sessions.invariant.kept c.serve_text.ensures.kept
