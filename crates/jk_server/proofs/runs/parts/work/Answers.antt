use Rattle.std.proofs.Common.{◌≡◌, ◌∙◌, List, map, refl, subst, sym}
use denote.Exit.{no}
use denote.Param.{param}
use mir.Syntax.{named}
use denote.Param.Send.{arg_send, param_send}
use Rattle.std.proofs.lemmas.List.Elements.{All-weaker}
use Rattle.client_session.specs.Requests.{visit}
use Rattle.jk_io.specs.Doors.{side}
use Rattle.conn_pool.specs.Idle.{counts}
use Rattle.conn_pool.specs.Reaches.{beside_of}
use Rattle.conn_pool.proofs.SendLaws.{watched_send}
use Rattle.lb_shared.specs.Locks.{lock_of}
use Rattle.request_log.specs.declared.format.Part.{Part as FormatPart}
use Rattle.gear_parts.specs.GearLogs.{broken_by}
use Rattle.gear_parts.specs.GearParts.{start_of, unnumbered}
use Rattle.gear_parts.specs.Gears.{gear_side}
use Rattle.gear_parts.proofs.ListLaws.{as_long, few_so}
use Rattle.jk_server.specs.Parts.{WorkerIsOver, slot_start}
use Rattle.jk_server.specs.RunTells.{logging}
use Rattle.jk_server.specs.ServedGears.{BeginsSo, start_side}
use Rattle.jk_server.specs.Worker.{MayBegin}
use Rattle.jk_server.proofs.GearRunLaws.{as_many, each_left, gears_served, parts_whole, served_from, served_same}
use Rattle.jk_server.proofs.SlotLaws.{as_many_done, each_done, over_after, room_so}
use Rattle.jk_server.proofs.StartLaws.{begins_seated, new_so, new_unbroken, one_part, served_gear, starts_are, starts_told}
use Rattle.jk_server.proofs.ShelfLaws.{cut_left, cut_served}
use Rattle.jk_server.proofs.ToldLaws.{lock_left, told_left, told_served}
use Rattle.jk_server.proofs.runs.parts.work.Goals as goal

pub fill_slots-requires-clause-none : goal.fill_slots-requires-clause-none
fill_slots-requires-clause-none g c = λ κs within. c.in-Ok.ensures.slots.0

pub fill_slots-requires-clause-room : goal.fill_slots-requires-clause-room
fill_slots-requires-clause-room g c = λ κs within. few_so _ _ _ (sym c.len.ensures) c.in-Ok.ensures.slots.1

pub fill_slots-requires-clause-parts : goal.fill_slots-requires-clause-parts
fill_slots-requires-clause-parts g c = λ κs within. c.requires.ready.each

pub fill_slots-requires-clause-amount : goal.fill_slots-requires-clause-amount
fill_slots-requires-clause-amount g c = λ κs within. c.requires.amount

pub fill_slots-requires-clause-idle : goal.fill_slots-requires-clause-idle
fill_slots-requires-clause-idle g c = λ κs within. c.requires.ready.idle

pub serve_slots-requires-clause-few : goal.serve_slots-requires-clause-few
serve_slots-requires-clause-few g c = λ κs within.
    few_so _ _ _ (c.fill_slots.new.slots.ok.0 ∙ as_long _ _ _ _ c.fill_slots.ensures.starts ∙ sym c.args.gears.ok.0) c.requires.ready.few

pub serve_slots-requires-clause-ready : goal.serve_slots-requires-clause-ready
serve_slots-requires-clause-ready g c = λ κs within.
    starts_are (lock_of c.args.common.now.site.now) g.L.SiteName.sizes (counts c.args.common.now.pools.now)
    c.args.common.now.watch c.args.common.now.format.now
    (λ s. MayBegin c.args.plan.cfg.now c.args.plan.map.now s.desk.desk (beside_of g.T.Tape.begun g.T.Tape.talks s.reach.pooled) (broken_by s.log))
    slot_start c.fill_slots.new.slots.items c.args.gears.items c.fill_slots.ensures.starts
    (λ k d lt. record {
      fit = record {
        stands = c.requires.ready.stands;
        caller = refl;
        desk_sizes = c.requires.desk_sizes;
        reach_sizes = c.requires.pool_sizes;
        none_held = refl;
        idle = refl;
      };
      logged = new_unbroken c.args.common.now.format.now _;
    })

pub serve_slots-requires-send-R : goal.serve_slots-requires-send-R
serve_slots-requires-send-R g c κs within =
    param_send 2 _
    (arg_send _ no _
    (watched_send (record { mir = named 15; lft = κs.1.1.1.1.1.1.1.1.1.1.1.1.1.1.1.0 }) (record { mir = named 16; lft = κs.1.1.1.1.1.1.1.1.1.1.1.1.1.1.1.1.0 })
    (param 2 g.row.G) (param 3 g.row.T) (param 7 g.row.R) (param 10 g.row.G-L) (param 11 g.row.G-L-Beside) g.G.Dial g.G.L.Link g.G.L.Meanings g.T.Tape
    c.type_bounds.send-G c.type_bounds.send-T c.type_bounds.sync-R c.type_bounds.send-G-L))

pub empty_slots-requires-clause-over : goal.empty_slots-requires-clause-over
empty_slots-requires-clause-over g c = λ κs within.
    over_after _ (λ s. WorkerIsOver s) 0 c.fill_slots.new.slots.items c.serve_slots.new.slots.items c.serve_slots.ensures.served
    (λ k a b did. (did.fit.none_held, did.fit.idle))

pub empty_slots-requires-clause-room : goal.empty_slots-requires-clause-room
empty_slots-requires-clause-room g c = λ κs within.
    room_so _ _ _
    (c.serve_slots.new.slots.ok.0 ∙ as_many_done _ 0 c.fill_slots.new.slots.items c.serve_slots.new.slots.items c.serve_slots.ensures.served
    ∙ as_long _ _ _ _ c.fill_slots.ensures.starts ∙ sym c.args.gears.ok.0 ∙ sym c.len.ensures)
    c.in-Ok.ensures.room

pub returns-clause-ran : goal.returns-clause-ran
returns-clause-ran g c =
    let at = side g.D.Door.coming g.D.Door.left g.D.Door.faults in
    let lock = lock_of c.args.common.now.site.now in
    let sizes = g.L.SiteName.sizes in
    let pools = counts c.args.common.now.pools.now in
    let watch = c.args.common.now.watch in
    let format = c.args.plan.format.now in
    let slots = c.fill_slots.new.slots.items in
    let gears = c.empty_slots.new.ran.gears.items in
    let leaving = c.empty_slots.new.ran.leaving.items in
    let ends = c.empty_slots.new.ran.workers.items in
    let starts =
    subst (λ (f : List FormatPart). map slot_start c.fill_slots.new.slots.items
    ≡ map (start_of (lock_of c.args.common.now.site.now) g.L.SiteName.sizes (counts c.args.common.now.pools.now) c.args.common.now.watch f) c.args.gears.items)
    c.requires.format c.fill_slots.ensures.starts in
    let begun =
    starts_are lock sizes pools watch format (λ s. BeginsSo lock format s.desk s.log) slot_start slots c.args.gears.items starts
    (λ k d lt. ((record { no_receipt = refl; none_held = refl; none_forgotten = refl; no_stray = (refl, refl); none_seen = refl; no_step = refl }, refl, refl), new_so format _)) in
    let fresh =
    All-weaker (λ s. BeginsSo lock format (unnumbered s.part.desk) s.part.log) (λ s. BeginsSo lock format s.part.desk s.part.log)
    (λ s is. (begins_seated lock s.part.desk is.0, is.1)) slots begun in
    let each = each_done _ _ 0 slots c.serve_slots.new.slots.items gears leaving ends c.serve_slots.ensures.served c.empty_slots.ensures in
    let many = as_many _ 0 slots gears leaving ends each in
    let all = as_long _ _ slots c.args.gears.items starts in
    record {
      served =
          served_from _ _ _ _ 0 _ _ _ _ _
          (starts_told at g.T.Tape.talks g.K.Clock.answers lock sizes pools watch format slot_start slots c.args.gears.items starts)
          (gears_served (visit c.args.plan.cfg.now c.args.plan.map.now) g.D.L.Meanings (logging g.S.Shelf.shelved g.S.Shelf.faults g.O.Meanings g.D.L.Link.may_wait) format
          (λ s. BeginsSo lock format s.part.desk s.part.log) _ (λ s. start_side at g.T.Tape.talks g.K.Clock.answers (slot_start s))
          (gear_side at g.T.Tape.talks g.K.Clock.answers) (λ v. v.seat)
          0 slots gears leaving ends fresh each
          (λ k s o v e new is.
          served_same _ _ _ _ _ (gear_side at g.T.Tape.talks g.K.Clock.answers) _ o _ v.seat _ e is.leaves.gear_left is.leaves.desk.seat_left is.leaves.ended
          (served_gear _ _ _ _ _ _ _ _ _ _ _ is.did.served (record { shelf = refl; clock = refl; talks = refl }) new.0.0
          (record { shelf = refl; clock = refl; talks = refl }) new.1 refl
          (told_left _ _ _ _ (told_served _ _ _ _ _ _ _ _ is.did.served) new.0.0.none_seen refl)
          (cut_left _ _ _ _ (cut_served _ _ _ _ _ _ _ _ is.did.served) new.0.0.no_step refl))));
      here =
          each_left (λ s. BeginsSo lock format s.part.desk s.part.log) _ (λ v. v.seat.lock ≡ lock) 0 slots gears leaving ends fresh each
          (λ k s o v e new is. lock_left _ _ _ _ lock (told_served _ _ _ _ _ _ _ _ is.did.served) new.0.2 is.leaves.desk.seat_left);
      whole =
          parts_whole (λ s. BeginsSo lock format s.part.desk s.part.log) _ (λ v. v.share.parts) 0 slots gears leaving ends fresh each
          (λ k s o v e new is. one_part _ _ _ is.leaves.desk.parts_left is.did.parts new.0.1)
          ∙ all;
      each = (many.0 ∙ all, many.1 ∙ all);
    }
