use Rattle.std.proofs.Common.{refl, ◌∙◌, arith}
use Rattle.ajp_container.proofs.TurnLaws.{talk-starts, turn-told, talk-stops, talk-given_up, talk-rose, talk-calm}
use Rattle.ajp_container.proofs.serving.serve_ajp.Goals as goal

pub turns-init : goal.turns-init
turns-init g c = record { so_far = talk-starts _ _; few = omega arith; same = refl }

pub overflow_add-requests : goal.overflow_add-requests
overflow_add-requests g c =
    let few = c.turns.invariant.few in
    let most = c.requests_of-requests.ensures.most in
    let test = c.turns-test.true in
    omega arith

pub turns-preserved : goal.turns-preserved
turns-preserved g c =
    let few = c.turns.invariant.few in
    let most = c.requests_of-requests.ensures.most in
    record {
      so_far = turn-told _ _ _ _ _ _ _ c.turns.invariant.so_far c.in-Ok.ensures.took c.requests_of-requests.ensures.value;
      few = omega arith;
      same = c.in-Ok.ensures.same ∙ c.turns.invariant.same;
    }

pub returns-in-Err-clause-talk : goal.returns-in-Err-clause-talk
returns-in-Err-clause-talk g c = rw c.end_of.ensures (talk-stops _ _ _ _ _ _ c.turns.invariant.so_far c.in-Err.ensures.took)

pub returns-in-Err-clause-fault : goal.returns-in-Err-clause-fault
returns-in-Err-clause-fault g c = talk-rose _ _ _ _ (returns-in-Err-clause-talk g c)

pub returns-in-Err-clause-wanted : goal.returns-in-Err-clause-wanted
returns-in-Err-clause-wanted g c = talk-calm _ _ _ _ (returns-in-Err-clause-talk g c)

pub returns-clause-talk : goal.returns-clause-talk
returns-clause-talk g c = talk-given_up _ _ _ _ c.turns.invariant.so_far

pub returns-clause-fault : goal.returns-clause-fault
returns-clause-fault g c = talk-rose _ _ _ _ (returns-clause-talk g c)

pub returns-clause-wanted : goal.returns-clause-wanted
returns-clause-wanted g c = talk-calm _ _ _ _ (returns-clause-talk g c)
