use Rattle.std.proofs.Common.{ap, inl, inr, refl, sym, ◌∙◌, arith}
use Rattle.gear_parts.specs.Wants.{GearWants}
use Rattle.gear_parts.specs.Worlds.{world_side}
use Rattle.jk_server.specs.Commands.{Ran}
use Rattle.jk_server.proofs.CommandLaws.{all_came_back, lacks_log, may_come_back, some_asked, still_taken, works_err}
use Rattle.gear_parts.proofs.ListLaws.{few_so}
use Rattle.gear_parts.proofs.WorldLaws.{then_back}
use Rattle.jk_server.proofs.ReturnLaws.{all_begun, few_returned}
use Rattle.jk_server.proofs.orders.serve.serve_site.Goals as goal

pub returns-in-Err-clause-works : goal.returns-in-Err-clause-works
returns-in-Err-clause-works g c =
    rw (← c.get-threads.ensures.value) (works_err _ _ _ _ c.in-Err.error _ c.in-Err.ensures.refused c.in-Err.ensures.cause c.end_by.ensures)

pub log_gears-requires-clause-out : goal.log_gears-requires-clause-out
log_gears-requires-clause-out g c κs within = omega (arith, c.in-Ok.ensures.taken.counted, c.in-Ok.gears.ok.0)

pub log_gears-requires-clause-count : goal.log_gears-requires-clause-count
log_gears-requires-clause-count g c κs within = c.in-Ok.ensures.count

pub returns-in-Err-log_gears-clause-works : goal.returns-in-Err-log_gears-clause-works
returns-in-Err-log_gears-clause-works g c =
    rw (← c.get-threads.ensures.value) (Ran (inl (lacks_log _ _ _ _ c.in-Ok.gears.items c.in-Err-log_gears.error _ c.in-Ok.ensures.taken (c.in-Ok.ensures.steady refl)
    (sym c.in-Ok.gears.ok.0 ∙ c.in-Ok.ensures.count) c.in-Err-log_gears.ensures.refused c.in-Err-log_gears.ensures.cause c.end_by-in-Err-log_gears.ensures)))

pub serve_gears-requires-clause-some : goal.serve_gears-requires-clause-some
serve_gears-requires-clause-some g c κs within = some_asked _ _ c.in-Ok-log_gears.ensures.len c.get-threads.ensures.range.0

pub serve_gears-requires-clause-few : goal.serve_gears-requires-clause-few
serve_gears-requires-clause-few g c κs within = few_so _ _ _ c.in-Ok-log_gears.ensures.len c.get-threads.ensures.range.1

pub serve_gears-requires-clause-stands : goal.serve_gears-requires-clause-stands
serve_gears-requires-clause-stands g c κs within = c.args.site.now.stands

pub serve_gears-requires-clause-idle : goal.serve_gears-requires-clause-idle
serve_gears-requires-clause-idle g c κs within = c.in-Ok-log_gears.ensures.idle c.in-Ok.ensures.idle

pub give_back-requires-clause-out : goal.give_back-requires-clause-out
give_back-requires-clause-out g c κs within =
    let begun = c.in-Ok-log_gears.gears in
    let back = c.in-Err-serve_gears.gears in
    let same = c.in-Ok-log_gears.ensures.same in
    may_come_back _ _ c.in-Ok.gears.items back.items _
    (still_taken _ _ (world_side g.W.World c.log_gears.new.world) c.in-Ok.gears.items c.in-Ok.ensures.taken same.0 same.1 same.2 (c.in-Ok-log_gears.ensures.steady refl)) back.ok.0
    (all_begun _ begun.items back.items c.in-Err-serve_gears.ensures.unasked ∙ sym begun.ok.0 ∙ c.in-Ok-log_gears.ensures.len ∙ sym c.in-Ok.ensures.count ∙ c.in-Ok.gears.ok.0)

pub returns-in-Err-serve_gears-clause-works : goal.returns-in-Err-serve_gears-clause-works
returns-in-Err-serve_gears-clause-works g c =
    let begun = c.in-Ok-log_gears.gears in
    let back = c.in-Err-serve_gears.gears in
    let same = c.in-Ok-log_gears.ensures.same in
    let calm = c.in-Ok-log_gears.ensures.steady refl in
    Ran (inr (inl (record {
      gears = c.in-Ok.gears.items;
      begun = begun.items;
      back = back.items;
      count = sym c.in-Ok.gears.ok.0 ∙ c.in-Ok.ensures.count ∙ c.get-threads.ensures.value;
      logged = rw (ap (λ (w : GearWants). w.log) c.gear_order-asked.ensures.wanted) at c.in-Ok-log_gears.ensures.given;
      unasked = c.in-Err-serve_gears.ensures.unasked;
      passed =
          all_came_back _ _ _ c.in-Ok.gears.items back.items _
          (still_taken _ _ (world_side g.W.World c.log_gears.new.world) c.in-Ok.gears.items c.in-Ok.ensures.taken same.0 same.1 same.2 calm)
          c.give_back.ensures.came_back c.give_back.ensures.fewer back.ok.0 c.give_back.ensures.same.0 c.give_back.ensures.same.1;
      calm = c.give_back.ensures.same.1 ∙ calm ∙ c.in-Ok.ensures.steady refl;
      status = refl;
    })))

pub settle-requires-clause-out : goal.settle-requires-clause-out
settle-requires-clause-out g c κs within =
    let ran = c.in-Ok-serve_gears.ran in
    let begun = c.in-Ok-log_gears.gears in
    let few = few_returned _ _ _ _ _ _ _ begun.items ran.gears.items ran.workers ran.closing c.in-Ok-serve_gears.ensures.ran in
    omega (arith, few, begun.ok.0, c.in-Ok.gears.ok.0, c.in-Ok-log_gears.ensures.len, c.in-Ok.ensures.count, c.in-Ok.ensures.taken.counted, c.in-Ok-log_gears.ensures.same.2)

pub returns-in-Ok-serve_gears-clause-works : goal.returns-in-Ok-serve_gears-clause-works
returns-in-Ok-serve_gears-clause-works g c =
    let ran = c.in-Ok-serve_gears.ran in
    let same = c.in-Ok-log_gears.ensures.same in
    let calm = c.in-Ok-log_gears.ensures.steady refl in
    Ran (inr (inr (record {
      gears = c.in-Ok.gears.items;
      begun = c.in-Ok-log_gears.gears.items;
      left = ran.gears.items;
      count = sym c.in-Ok.gears.ok.0 ∙ c.in-Ok.ensures.count ∙ c.get-threads.ensures.value;
      made = rw (ap (λ (w : GearWants). w.clients) c.gear_order-asked.ensures.wanted) at c.in-Ok.ensures.made;
      suited = rw (c.gear_order-asked.ensures.wanted, c.gear_order-asked.ensures.site.0) at c.in-Ok.ensures.suited;
      logged = rw (ap (λ (w : GearWants). w.log) c.gear_order-asked.ensures.wanted) at c.in-Ok-log_gears.ensures.given;
      ends = ran.workers;
      closing = ran.closing;
      run = c.in-Ok-serve_gears.ensures.ran;
      passed =
          then_back _ _ _ _ _ (still_taken _ _ (world_side g.W.World c.log_gears.new.world) c.in-Ok.gears.items c.in-Ok.ensures.taken same.0 same.1 same.2 calm)
          c.settle.ensures.given;
      calm = c.settle.ensures.calm ∙ calm ∙ c.in-Ok.ensures.steady refl;
      status = c.settle.ensures.ended;
    })))
