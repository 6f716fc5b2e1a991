-- The first piece was taken and rounds were gone through; or there was none. Each exit is one of the ends of an exchange.
use Rattle.ajp_wire.specs.Moments.{link_at}
use Rattle.std.proofs.Common.{ℕ, List, slice_index, inl, inr, refl, sym, ap, ◌∙◌, arith}
use Rattle.lb_model.specs.declared.ask.Ask.{Ask}
use Rattle.exchange.specs.Requests.{ask_for, errand_of}
use Rattle.exchange.proofs.AwaitLaws.{awaits_none, awaits_twice}
use Rattle.exchange.proofs.CalmLaws.{calm_at}
use Rattle.exchange.proofs.CauseLaws.{met_at}
use Rattle.exchange.proofs.ClientLaws.{gives}
use Rattle.exchange.proofs.CompleteLaws.{completes, exchange_grows}
use Rattle.exchange.proofs.DeskLaws.{untouched}
use Rattle.exchange.proofs.ExchangeLaws.{begins, first_fits_each, goes_own, goes_through, is_another, is_exchange, never_began, same_body, searches_on}
use Rattle.exchange.proofs.KeepingLaws.{asks_again, means_twice, means_untouched}
use Rattle.exchange.proofs.MeansLaws.{as_many}
use Rattle.exchange.proofs.TriedLaws.{fewer_left}
use Rattle.exchange.proofs.UsedLaws.{unasked, uses_all}
use Rattle.exchange.proofs.WholeLaws.{sends_once}
use Rattle.exchange.proofs.exchanging.exchange_of.Goals as goal

pub take_first-requires : goal.take_first-requires
take_first-requires g c = record { whole = c.requires.whole }

-- ---- round by round

pub loop-member-init : goal.loop-member-init
loop-member-init g c = record {
  way = begins _ _ _ _ c.in-Ok.ensures;
  kept = means_untouched _ _ _ _ _ c.requires.may.idle;
  awaits = λ lbs stands. awaits_none _ _ _ _ _ refl;
}

pub one_round-requires-clause-ask : goal.one_round-requires-clause-ask
one_round-requires-clause-ask g c =
    let way = c.loop-member.invariant.way in
    way.ask_is ∙ ap (λ (t : ℕ). ask_for (errand_of c.args.request.now) t) (sym (ap (λ (a : Ask). a.tried) way.ask_is))

pub one_round-requires-clause-may : goal.one_round-requires-clause-may
one_round-requires-clause-may g c =
    asks_again _ _ _ _ _ _
    (record {
      lb = c.requires.may.lb;
      caller = c.requires.may.caller;
      desk_size = c.requires.may.desk_size;
      reach_size = c.requires.may.reach_size;
      idle = c.requires.may.idle;
    }) c.loop-member.invariant.kept

pub one_round-requires-clause-first : goal.one_round-requires-clause-first
one_round-requires-clause-first g c = record {
  short = first_fits_each _ _ _ _ _ c.in-Ok-take_first.ensures.ok;
  taken = c.loop-member.invariant.way.unmoved.taken ∙ omega (arith, c.in-Ok-take_first.ensures.ok.takes.counted, c.requires.whole.taken);
  going = c.loop-member.invariant.way.unmoved.going c.in-Ok-take_first.ensures.ok.takes.going;
}

pub with_member-requires-clause-member : goal.with_member-requires-clause-member
with_member-requires-clause-member g c =
    (is_another _ _ _ _ _ _ _ _ (ap (λ (sizes : List ℕ). slice_index sizes c.args.request.now.lb) c.loop-member.invariant.kept.kept.sizes ∙ c.requires.may.desk_size)
    c.args.request.now.balancer.now.book.count.few c.in-Again.ensures.step).0

pub with_member-requires-clause-untried : goal.with_member-requires-clause-untried
with_member-requires-clause-untried g c =
    (is_another _ _ _ _ _ _ _ _ (ap (λ (sizes : List ℕ). slice_index sizes c.args.request.now.lb) c.loop-member.invariant.kept.kept.sizes ∙ c.requires.may.desk_size)
    c.args.request.now.balancer.now.book.count.few c.in-Again.ensures.step).1

pub loop-member-preserved : goal.loop-member-preserved
loop-member-preserved g c = record {
  way = searches_on _ _ _ _ _ _ _ _ _ c.loop-member.invariant.way c.in-Again.ensures.step
      (ap (λ (t : ℕ). record c.loop-member.ask { tried = t }) c.with_member.ensures);
  kept = means_twice _ _ _ _ _ _ _ c.loop-member.invariant.kept c.in-Again.ensures.kept;
  awaits = λ lbs stands. awaits_twice _ _ _ _ _ _ (c.loop-member.invariant.awaits lbs stands) (c.in-Again.ensures.awaits lbs stands);
}

pub loop-member-smaller : goal.loop-member-smaller
loop-member-smaller g c = fewer_left _ _ _ c.with_member.ensures (omega arith)

-- ---- the exits

pub returns-in-Answer-clause-exchange : goal.returns-in-Answer-clause-exchange
returns-in-Answer-clause-exchange g c =
    is_exchange _ _ _ _ _ _ _ c.in-Ok-take_first.ensures.ok c.take_first.ensures.same.0 c.in-Ok-take_first.ensures.steady
    (goes_own _ _ _ _ _ _ _ c.in-Answer.own
    (link_at g.C.Meanings c.write_own.new.client) _ c.write_own.result
    c.loop-member.invariant.way c.in-Answer.ensures.step (same_body _ _ _ _ c.write_own.ensures.same.0) c.write_own.ensures.no_fewer
    (rw c.own_kind.ensures at c.write_own.ensures.written))

-- after the last round just the client was written to
pub returns-in-Answer-clause-kept : goal.returns-in-Answer-clause-kept
returns-in-Answer-clause-kept g c =
    means_twice _ _ _ _ _ _ _
    (record {
      held = refl;
      kept = untouched _ _ _;
      desk = refl;
      clock = refl;
      sides = record {
        idle = c.requires.may.idle;
        sizes = refl;
        beside = c.take_first.ensures.same.1;
        reach_faults = as_many _;
        client_faults = c.take_first.ensures.no_fewer;
        same = (refl, refl, refl, refl);
      };
    })
    (means_twice _ _ _ _ _ _ _ c.loop-member.invariant.kept
    (means_twice _ _ _ _ _ _ _ c.in-Answer.ensures.kept
    (record {
      held = refl;
      kept = untouched _ _ _;
      desk = refl;
      clock = refl;
      sides = record {
        idle = c.in-Answer.ensures.kept.sides.idle;
        sizes = refl;
        beside = c.write_own.ensures.same.1;
        reach_faults = as_many _;
        client_faults = c.write_own.ensures.no_fewer;
        same = (refl, refl, refl, refl);
      };
    })))

pub returns-in-End-clause-exchange : goal.returns-in-End-clause-exchange
returns-in-End-clause-exchange g c =
    is_exchange _ _ _ _ _ _ _ c.in-Ok-take_first.ensures.ok c.take_first.ensures.same.0 c.in-Ok-take_first.ensures.steady
    (goes_through _ _ _ _ _ _ _ _ _ _ c.loop-member.invariant.way c.in-End.ensures.step (refl, refl))

pub returns-in-End-clause-kept : goal.returns-in-End-clause-kept
returns-in-End-clause-kept g c =
    means_twice _ _ _ _ _ _ _
    (record {
      held = refl;
      kept = untouched _ _ _;
      desk = refl;
      clock = refl;
      sides = record {
        idle = c.requires.may.idle;
        sizes = refl;
        beside = c.take_first.ensures.same.1;
        reach_faults = as_many _;
        client_faults = c.take_first.ensures.no_fewer;
        same = (refl, refl, refl, refl);
      };
    })
    (means_twice _ _ _ _ _ _ _ c.loop-member.invariant.kept c.in-End.ensures.kept)

pub returns-in-Err-take_first-clause-exchange : goal.returns-in-Err-take_first-clause-exchange
returns-in-Err-take_first-clause-exchange g c =
    never_began _ _ _ _ c.in-Err-take_first.ensures.err refl refl refl refl c.take_first.ensures.same.0 c.in-Err-take_first.ensures.calm
    c.in-Err-take_first.ensures.used

pub returns-in-Err-take_first-clause-kept : goal.returns-in-Err-take_first-clause-kept
returns-in-Err-take_first-clause-kept g c = record {
  held = refl;
  kept = untouched _ _ _;
  desk = refl;
  clock = refl;
  sides = record {
    idle = c.requires.may.idle;
    sizes = refl;
    beside = c.take_first.ensures.same.1;
    reach_faults = as_many _;
    client_faults = c.take_first.ensures.no_fewer;
    same = (refl, refl, refl, refl);
  };
}

pub returns-in-Err-clause-exchange : goal.returns-in-Err-clause-exchange
returns-in-Err-clause-exchange g c = unasked _ _

pub returns-in-Err-clause-kept : goal.returns-in-Err-clause-kept
returns-in-Err-clause-kept g c = means_untouched _ _ _ _ _ c.requires.may.idle

pub returns-in-Answer-clause-client : goal.returns-in-Answer-clause-client
returns-in-Answer-clause-client g c = λ s n did. gives _ s n _ did

pub returns-in-End-clause-client : goal.returns-in-End-clause-client
returns-in-End-clause-client g c = λ s n did. gives _ s n _ did

pub returns-in-Answer-clause-whole_once : goal.returns-in-Answer-clause-whole_once
returns-in-Answer-clause-whole_once g c = λ s n did. sends_once _ s n _ did

pub returns-in-End-clause-whole_once : goal.returns-in-End-clause-whole_once
returns-in-End-clause-whole_once g c = λ s n did. sends_once _ s n _ did

pub returns-in-Answer-clause-complete : goal.returns-in-Answer-clause-complete
returns-in-Answer-clause-complete g c = λ s n did. completes _ s n _ did

pub returns-in-End-clause-complete : goal.returns-in-End-clause-complete
returns-in-End-clause-complete g c = λ s n did. completes _ s n _ did

pub returns-in-Answer-clause-used : goal.returns-in-Answer-clause-used
returns-in-Answer-clause-used g c = λ s n did. uses_all _ s n _ did

pub returns-in-End-clause-used : goal.returns-in-End-clause-used
returns-in-End-clause-used g c = λ s n did. uses_all _ s n _ did

pub returns-in-Answer-clause-met : goal.returns-in-Answer-clause-met
returns-in-Answer-clause-met g c = λ s n did. met_at _ s n _ did

pub returns-in-End-clause-met : goal.returns-in-End-clause-met
returns-in-End-clause-met g c = λ s n did. met_at _ s n _ did

pub returns-in-Answer-clause-calm : goal.returns-in-Answer-clause-calm
returns-in-Answer-clause-calm g c = λ s n did. calm_at _ s n _ did

pub returns-in-End-clause-calm : goal.returns-in-End-clause-calm
returns-in-End-clause-calm g c = λ s n did. calm_at _ s n _ did

pub returns-in-Err-take_first-clause-client : goal.returns-in-Err-take_first-clause-client
returns-in-Err-take_first-clause-client g c = λ s n did. gives _ s n _ did

pub returns-in-Err-take_first-clause-whole_once : goal.returns-in-Err-take_first-clause-whole_once
returns-in-Err-take_first-clause-whole_once g c = λ s n did. sends_once _ s n _ did

pub returns-in-Err-take_first-clause-complete : goal.returns-in-Err-take_first-clause-complete
returns-in-Err-take_first-clause-complete g c = λ s n did. completes _ s n _ did

pub returns-in-Err-take_first-clause-used : goal.returns-in-Err-take_first-clause-used
returns-in-Err-take_first-clause-used g c = λ s n did. uses_all _ s n _ did

pub returns-in-Err-take_first-clause-met : goal.returns-in-Err-take_first-clause-met
returns-in-Err-take_first-clause-met g c = λ s n did. met_at _ s n _ did

pub returns-in-Err-take_first-clause-calm : goal.returns-in-Err-take_first-clause-calm
returns-in-Err-take_first-clause-calm g c = λ s n did. calm_at _ s n _ did

pub returns-in-Err-clause-client : goal.returns-in-Err-clause-client
returns-in-Err-clause-client g c = λ s n did. gives _ s n _ did

pub returns-in-Err-clause-whole_once : goal.returns-in-Err-clause-whole_once
returns-in-Err-clause-whole_once g c = λ s n did. sends_once _ s n _ did

pub returns-in-Err-clause-complete : goal.returns-in-Err-clause-complete
returns-in-Err-clause-complete g c = λ s n did. completes _ s n _ did

pub returns-in-Err-clause-used : goal.returns-in-Err-clause-used
returns-in-Err-clause-used g c = λ s n did. uses_all _ s n _ did

pub returns-in-Err-clause-met : goal.returns-in-Err-clause-met
returns-in-Err-clause-met g c = λ s n did. met_at _ s n _ did

pub returns-in-Err-clause-calm : goal.returns-in-Err-clause-calm
returns-in-Err-clause-calm g c = λ s n did. calm_at _ s n _ did

pub returns-in-Answer-clause-noted : goal.returns-in-Answer-clause-noted
returns-in-Answer-clause-noted g c = λ s n did. exchange_grows _ s n _ did

pub returns-in-End-clause-noted : goal.returns-in-End-clause-noted
returns-in-End-clause-noted g c = λ s n did. exchange_grows _ s n _ did

pub returns-in-Err-take_first-clause-noted : goal.returns-in-Err-take_first-clause-noted
returns-in-Err-take_first-clause-noted g c = λ s n did. exchange_grows _ s n _ did

pub returns-in-Err-clause-noted : goal.returns-in-Err-clause-noted
returns-in-Err-clause-noted g c = λ s n did. exchange_grows _ s n _ did

-- ---- what was waited for

pub returns-in-Answer-clause-awaits : goal.returns-in-Answer-clause-awaits
returns-in-Answer-clause-awaits g c = record {
  body = λ some. inr (c.take_first.ensures.awaits some);
  dials = λ lbs stands. awaits_twice _ _ _ _ _ _ (c.loop-member.invariant.awaits lbs stands) (c.in-Answer.ensures.awaits lbs stands);
}

pub returns-in-End-clause-awaits : goal.returns-in-End-clause-awaits
returns-in-End-clause-awaits g c = record {
  body = λ some. inr (c.take_first.ensures.awaits some);
  dials = λ lbs stands. awaits_twice _ _ _ _ _ _ (c.loop-member.invariant.awaits lbs stands) (c.in-End.ensures.awaits lbs stands);
}

pub returns-in-Err-take_first-clause-awaits : goal.returns-in-Err-take_first-clause-awaits
returns-in-Err-take_first-clause-awaits g c = record {
  body = λ some. inr (c.take_first.ensures.awaits some);
  dials = λ lbs stands. awaits_none _ _ _ _ _ refl;
}

pub returns-in-Err-clause-awaits : goal.returns-in-Err-clause-awaits
returns-in-Err-clause-awaits g c = record { body = λ some. inl refl; dials = λ lbs stands. awaits_none _ _ _ _ _ refl }
