-- The exchange went by the terms of the mount, and what its end means to the session.
use Rattle.std.proofs.Common.{refl, sym}
use Rattle.std.proofs.lemmas.Option.{get_or_from_slice_get}
use Rattle.exchange.proofs.SizeLaws.{size_in, within_sizes}
use Rattle.client_session.specs.Answers.{errand_at}
use Rattle.client_session.specs.Requests.{visit_in}
use Rattle.client_session.specs.Standings.{standing}
use Rattle.client_session.specs.Surroundings.{standing_of}
use Rattle.client_session.proofs.ConcludeLaws.{concluded_by, forwards, goes_on, meets, rises, within}
use Rattle.client_session.proofs.DeskLaws.{after_exchange}
use Rattle.client_session.proofs.SessionLaws.{ready_again}
use Rattle.client_session.proofs.SurroundingsLaws.{forwarded_back}
use Rattle.client_session.proofs.answering.forward.Goals as goal

pub exchange_of-end-requires-clause-may : goal.exchange_of-end-requires-clause-may
exchange_of-end-requires-clause-may g c =
    let e = c.request_at-request.ensures in
    let there = sym (get_or_from_slice_get c.args.of.now.site.now.cfg.now.lbs c.args.lb c.request_at-request.result.balancer.now c.request_at-request.result.balancer.now e.balancer) in
    record {
      lb = rw e.lb (within_sizes _ _ _ c.requires.ready.desk_sizes c.requires.worker);
      caller = rw e.session c.requires.ready.caller;
      desk_size = rw e.lb (size_in _ _ _ _ c.requires.ready.desk_sizes c.requires.worker there);
      reach_size = rw e.lb (size_in _ _ _ _ c.requires.ready.reach_sizes c.requires.worker there);
      idle = c.requires.ready.idle;
    }

pub exchange_of-end-requires-clause-whole : goal.exchange_of-end-requires-clause-whole
exchange_of-end-requires-clause-whole g c =
    record { place = rw c.request_at-request.ensures.head c.requires.fresh.place; taken = c.requires.fresh.taken; going = c.requires.fresh.going }

pub conclude-requires : goal.conclude-requires
conclude-requires g c =
    let v = visit_in c.args.of.now in
    let s = standing_of g.B.Desk.state g.K.Clock.answers g.R.Meanings g.C.Meanings c.args.around.now in
    let q = c.request_at-request.ensures in
    let balancer = c.request_at-request.result.balancer.now in
    let x = c.exchange_of-end.ensures in
    let means = c.exchange_of-end.new.means in
    let did = x.exchange in
    let forwarded = forwarded_back g.B.Desk.state g.K.Clock.answers g.R.Meanings g.C.Meanings means.desk.now means.clock.now means.sides.reach.now means.sides.reach.now
    means.sides.client.now means.sides.client.now means.sides.inbox.now means.sides.inbox.now v _ (errand_at v c.args.of.now.head.now c.args.of.now.last c.args.lb balancer)
    s c.args.body.now means.sides.body.now means.sides.body.now c.exchange_of-end.result refl refl refl refl q.errand
    (record {
      exchange = did;
      gives = x.client _ _ did;
      noted = x.noted _ _ did;
      used = x.used _ _ did;
      whole_once = x.whole_once _ _ did;
      complete = x.complete _ _ did;
      kept = x.kept.kept;
      met = x.met _ _ did;
      calm = x.calm _ _ did;
      no_fewer = (x.kept.sides.reach_faults, x.kept.sides.client_faults);
    }) in
    rw c.as_slice-members.ensures
    (within v c.args.of.now.head.now c.args.of.now.last s _ c.args.body.now means.sides.body.now c.args.lb balancer c.requires.room.0 _ c.exchange_of-end.result q.balancer
    c.requires.room.2 c.requires.room.1.room forwarded)

pub returns : goal.returns
returns g c =
    let v = visit_in c.args.of.now in
    let head = c.args.of.now.head.now in
    let last = c.args.of.now.last in
    let s = standing_of g.B.Desk.state g.K.Clock.answers g.R.Meanings g.C.Meanings c.args.around.now in
    let q = c.request_at-request.ensures in
    let balancer = c.request_at-request.result.balancer.now in
    let end = c.exchange_of-end.result in
    let x = c.exchange_of-end.ensures in
    let means = c.exchange_of-end.new.means in
    let did = x.exchange in
    let reach = c.around-3-1.given.1 (sym x.kept.sides.same.0) in
    let client = c.around-2-1.given.1 (sym x.kept.sides.same.1) in
    let inbox = c.around-1.given.1 (sym x.kept.sides.same.3) in
    let body = c.body-1.given.1 (sym x.kept.sides.same.2) in
    let n = standing g.B.Desk.state g.K.Clock.answers g.R.Meanings g.C.Meanings means.desk.now means.clock.now c.around-3-1.given.0 c.around-2-1.given.0 c.around-1.given.0 in
    let forwarded = forwarded_back g.B.Desk.state g.K.Clock.answers g.R.Meanings g.C.Meanings means.desk.now means.clock.now means.sides.reach.now c.around-3-1.given.0
    means.sides.client.now c.around-2-1.given.0 means.sides.inbox.now c.around-1.given.0 v _ (errand_at v head last c.args.lb balancer)
    s c.args.body.now means.sides.body.now c.body-1.given.0 end reach client inbox body q.errand
    (record {
      exchange = did;
      gives = x.client _ _ did;
      noted = x.noted _ _ did;
      used = x.used _ _ did;
      whole_once = x.whole_once _ _ did;
      complete = x.complete _ _ did;
      kept = x.kept.kept;
      met = x.met _ _ did;
      calm = x.calm _ _ did;
      no_fewer = (x.kept.sides.reach_faults, x.kept.sides.client_faults);
    }) in
    let concluded = concluded_by end c.as_slice-members.result.now balancer c.is_head.result head c.args.row.asked c.conclude.result c.as_slice-members.ensures c.is_head.ensures
    c.requires.room.1.asked' c.conclude.ensures in
    let kept = rw q.session at (after_exchange _ _ _ _ x.kept.kept x.kept.held) in
    record {
      going = goes_on v head last s n c.args.body.now c.body-1.given.0 c.args.lb balancer end c.conclude.result forwarded concluded;
      answer = record {
        answer = forwards v head last s n c.args.body.now c.body-1.given.0 c.args.lb balancer end c.conclude.result c.requires.mounted q.balancer forwarded concluded;
        met = meets v head last s n c.args.body.now c.body-1.given.0 c.args.lb balancer end c.conclude.result forwarded concluded;
        fault = rises v head last s n c.args.body.now c.body-1.given.0 c.args.lb balancer end c.conclude.result forwarded concluded;
        kept = record {
          ready = rw reach (ready_again _ _ _ _ _ c.requires.ready kept x.kept.sides.sizes x.kept.sides.idle);
          kept = kept;
          beside = rw client x.kept.sides.beside;
          reach_faults = rw reach x.kept.sides.reach_faults;
          client_faults = rw client x.kept.sides.client_faults;
          same = (refl, refl, refl, refl, refl);
        };
        dials = rw reach (x.awaits.dials c.args.of.now.site.now.cfg.now.lbs (rw q.lb q.balancer));
      };
    }
