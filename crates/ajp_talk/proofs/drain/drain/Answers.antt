-- The draining, message by message.
use Rattle.std.proofs.Common.{refl, ◌∙◌, arith, Ok, Err, Some, None}
use Rattle.ajp_talk.proofs.DrainLaws.{course-of, drains-first, drained_on, drop_more}
use Rattle.ajp_talk.proofs.drain.drain.Goals as goal

pub loop-keep-init : goal.loop-keep-init
loop-keep-init g c = record {
  draining = drains-first c.args.plan.now _ _ c.args.course.now c.requires.lost c.requires.below;
  incoming = refl;
  line_beside = refl;
  client_beside = refl;
  line_faults = omega arith;
  client_faults = omega arith;
}

pub drop_next-requires : goal.drop_next-requires
drop_next-requires g c = course-of c.loop-keep.course c.loop-keep.invariant.draining.lost

pub loop-keep-preserved : goal.loop-keep-preserved
loop-keep-preserved g c =
    let i = c.loop-keep.invariant in
    let dropped = rw c.in-Ok-None.field-0-is at c.in-Ok-None.ensures.dropped in
    record {
      draining = drained_on c.args.plan.now _ _ _ _ _ _ c.args.course.now c.loop-keep.course c.drop_next.new.course (Ok None) c.requires.plan i.draining dropped;
      incoming = c.drop_next.ensures.incoming ∙ i.incoming;
      line_beside = c.drop_next.ensures.keeps.0.beside ∙ i.line_beside;
      client_beside = c.drop_next.ensures.keeps.1.beside ∙ i.client_beside;
      line_faults = omega (arith, c.drop_next.ensures.keeps.0.no_fewer, i.line_faults);
      client_faults = omega (arith, c.drop_next.ensures.keeps.1.no_fewer, i.client_faults);
    }

pub loop-keep-smaller : goal.loop-keep-smaller
loop-keep-smaller g c =
    let i = c.loop-keep.invariant in
    let dropped = rw c.in-Ok-None.field-0-is at c.in-Ok-None.ensures.dropped in
    let more = drop_more c.args.plan.now _ _ _ _ _ _ c.args.course.now c.loop-keep.course c.drop_next.new.course c.requires.plan i.draining dropped in
    omega (arith, more, i.draining.below)

pub returns-in-Ok-Some-clause-drained : goal.returns-in-Ok-Some-clause-drained
returns-in-Ok-Some-clause-drained g c =
    let dropped = rw c.in-Ok-Some.field-0-is at c.in-Ok-Some.ensures.dropped in
    drained_on c.args.plan.now _ _ _ _ _ _ c.args.course.now c.loop-keep.course c.drop_next.new.course (Ok (Some c.in-Ok-Some.keep)) c.requires.plan c.loop-keep.invariant.draining dropped

pub returns-in-Err-clause-drained : goal.returns-in-Err-clause-drained
returns-in-Err-clause-drained g c =
    drained_on c.args.plan.now _ _ _ _ _ _ c.args.course.now c.loop-keep.course c.drop_next.new.course (Err (record {})) c.requires.plan c.loop-keep.invariant.draining c.in-Err.ensures.dropped

pub returns-in-Ok-Some-clause-keeps : goal.returns-in-Ok-Some-clause-keeps
returns-in-Ok-Some-clause-keeps g c =
    let i = c.loop-keep.invariant in
    let k = c.drop_next.ensures.keeps in (
      record { beside = k.0.beside ∙ i.line_beside; no_fewer = omega (arith, k.0.no_fewer, i.line_faults) },
      record { beside = k.1.beside ∙ i.client_beside; no_fewer = omega (arith, k.1.no_fewer, i.client_faults) },
    )

pub returns-in-Err-clause-keeps : goal.returns-in-Err-clause-keeps
returns-in-Err-clause-keeps g c =
    let i = c.loop-keep.invariant in
    let k = c.drop_next.ensures.keeps in (
      record { beside = k.0.beside ∙ i.line_beside; no_fewer = omega (arith, k.0.no_fewer, i.line_faults) },
      record { beside = k.1.beside ∙ i.client_beside; no_fewer = omega (arith, k.1.no_fewer, i.client_faults) },
    )
