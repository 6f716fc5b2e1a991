use Rattle.std.proofs.Common.{length, ap, refl, sym, ◌∙◌}
use Rattle.jk_io.specs.Doors.{side}
use Rattle.gear_parts.proofs.ContainerLaws.{container_ran}
use Rattle.jk_server.specs.Commands.{Ran}
use Rattle.jk_server.proofs.CommandLaws.{all_came_back, may_come_back, wants_back, works_err}
use Rattle.jk_server.proofs.ReturnLaws.{all_returned}
use Rattle.jk_server.proofs.orders.container.contain_links.Goals as goal

pub returns-in-Err : goal.returns-in-Err
returns-in-Err g c = works_err _ _ _ _ c.in-Err.error _ c.in-Err.ensures.refused c.in-Err.ensures.cause c.end_by.ensures

pub give_back-requires-in-Err-serve_doors-clause-out : goal.give_back-requires-in-Err-serve_doors-clause-out
give_back-requires-in-Err-serve_doors-clause-out g c κs within =
    let back = c.in-Err-serve_doors.gears in
    may_come_back _ _ c.in-Ok.gears.items back.items _ c.in-Ok.ensures.taken back.ok.0 (ap length c.in-Err-serve_doors.ensures.unasked)

pub returns-in-Err-serve_doors : goal.returns-in-Err-serve_doors
returns-in-Err-serve_doors g c =
    let back = c.in-Err-serve_doors.gears in
    wants_back _ _ _ _ c.in-Ok.gears.items back.items
    (all_came_back _ _ _ _ back.items _ c.in-Ok.ensures.taken c.give_back-in-Err-serve_doors.ensures.came_back c.give_back-in-Err-serve_doors.ensures.fewer back.ok.0
    c.give_back-in-Err-serve_doors.ensures.same.0 c.give_back-in-Err-serve_doors.ensures.same.1)
    c.in-Err-serve_doors.ensures.unasked (sym c.in-Ok.gears.ok.0 ∙ c.in-Ok.ensures.count) (c.give_back-in-Err-serve_doors.ensures.same.1 ∙ c.in-Ok.ensures.steady refl)

pub give_back-requires-clause-out : goal.give_back-requires-clause-out
give_back-requires-clause-out g c κs within =
    let left = c.in-Ok-serve_doors.field-0.back in
    may_come_back _ _ c.in-Ok.gears.items left.items _ c.in-Ok.ensures.taken left.ok.0
    (all_returned _ c.args.app.now g.W.D.L.Meanings c.in-Ok.gears.items left.items c.in-Ok-serve_doors.field-0.workers
    (container_ran c.args.app.now g.W.D.L.Meanings (side g.W.D.Door.coming g.W.D.Door.left g.W.D.Door.faults) g.W.T.Tape.talks g.W.K.Clock.answers
    c.in-Ok.gears.items left.items _ c.in-Ok-serve_doors.ensures.served c.in-Ok-serve_doors.ensures.kept))

pub returns-in-Ok-serve_doors : goal.returns-in-Ok-serve_doors
returns-in-Ok-serve_doors g c =
    let left = c.in-Ok-serve_doors.field-0.back in
    Ran (record {
      gears = c.in-Ok.gears.items;
      left = left.items;
      count = sym c.in-Ok.gears.ok.0 ∙ c.in-Ok.ensures.count;
      made = c.in-Ok.ensures.made;
      suited = rw c.requires.none.1 at c.in-Ok.ensures.suited;
      ends = c.in-Ok-serve_doors.field-0.workers;
      run =
          container_ran c.args.app.now g.W.D.L.Meanings (side g.W.D.Door.coming g.W.D.Door.left g.W.D.Door.faults) g.W.T.Tape.talks g.W.K.Clock.answers
          c.in-Ok.gears.items left.items _ c.in-Ok-serve_doors.ensures.served c.in-Ok-serve_doors.ensures.kept;
      rests = c.in-Ok-serve_doors.ensures.kept;
      passed =
          all_came_back _ _ _ _ left.items _ c.in-Ok.ensures.taken c.give_back.ensures.came_back c.give_back.ensures.fewer left.ok.0
          c.give_back.ensures.same.0 c.give_back.ensures.same.1;
      calm = c.give_back.ensures.same.1 ∙ c.in-Ok.ensures.steady refl;
      status = rw c.as_slice.ensures at c.end_of_container.ensures;
    })
