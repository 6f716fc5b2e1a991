-- The commands were done or refused, and then a page or a refusal was written, or a front of it.
use Rattle.std.proofs.Common.{refl, sym, subst, ◌∙◌}
use Rattle.lb_book.specs.Desks.{DeskState, MeetsNone}
use Rattle.status_worker.specs.Desks.{KeepsTickets, desk_side}
use Rattle.client_session.specs.Requests.{visit_in}
use Rattle.client_session.specs.Standings.{client_at}
use Rattle.client_session.specs.Surroundings.{standing_of}
use Rattle.client_session.proofs.KeepingLaws.{keeps_by}
use Rattle.client_session.proofs.StatusLaws.{never_done, page_sent, refusal_answered}
use Rattle.client_session.proofs.SurroundingsLaws.{keeps_still}
use Rattle.client_session.proofs.status.serve_status.Goals as goal

pub returns-in-Ok-clause-answer : goal.returns-in-Ok-clause-answer
returns-in-Ok-clause-answer g c =
    page_sent c.args.of.now c.args.status.now (standing_of g.B.Desk.state g.K.Clock.answers g.R.Meanings g.C.Meanings c.args.around.now)
    (g.B.Desk.state c.change.new.desk) (g.B.Desk.state c.send_page.new.desk) (g.K.Clock.answers c.change.new.clock) (client_at g.C.Meanings c.send_page.new.client)
    c.in-Ok.only c.send_page.result c.send_page.ensures.seen c.in-Ok.ensures.ok c.send_page.ensures.sent.step

pub returns-in-Ok-clause-met : goal.returns-in-Ok-clause-met
returns-in-Ok-clause-met g c = subst (λ (d : DeskState). MeetsNone (g.B.Desk.state c.args.around.now.desk.now) d) (sym c.send_page.ensures.seen) c.change.ensures.met

pub returns-in-Err-Refused-clause-answer : goal.returns-in-Err-Refused-clause-answer
returns-in-Err-Refused-clause-answer g c =
    let failed = rw c.in-Err-Refused.field-0-is at c.in-Err-Refused.ensures.err in
    refusal_answered (visit_in c.args.of.now) c.args.status.now c.args.of.now.head.now c.args.of.now.last (standing_of g.B.Desk.state g.K.Clock.answers g.R.Meanings g.C.Meanings c.args.around.now)
    (desk_side g.B.Desk.state g.K.Clock.answers c.change.new.desk c.change.new.clock) (client_at g.C.Meanings c.write_refusal.new.client)
    c.in-Err-Refused.refusal c.write_refusal.result failed (rw (c.own_kind_of.ensures, c.in-Err-Refused.refusal-is) at c.write_refusal.ensures.step)

pub send_page-requires-clause-within : goal.send_page-requires-clause-within
send_page-requires-clause-within g c = c.in-Ok.ensures.within

pub send_page-requires-clause-sizes : goal.send_page-requires-clause-sizes
send_page-requires-clause-sizes g c = c.change.ensures.kept.sizes ∙ c.requires.ready.desk_sizes

pub returns-in-Err-Refused-clause-met : goal.returns-in-Err-Refused-clause-met
returns-in-Err-Refused-clause-met g c = c.change.ensures.met

pub returns-in-Err-NoMemory-clause-answer : goal.returns-in-Err-NoMemory-clause-answer
returns-in-Err-NoMemory-clause-answer g c =
    never_done (visit_in c.args.of.now) c.args.status.now c.args.of.now.head.now c.args.of.now.last
    (standing_of g.B.Desk.state g.K.Clock.answers g.R.Meanings g.C.Meanings c.args.around.now)
    (desk_side g.B.Desk.state g.K.Clock.answers c.change.new.desk c.change.new.clock) (rw c.in-Err-NoMemory.field-0-is at c.in-Err-NoMemory.ensures.err)

pub returns-in-Err-NoMemory-clause-met : goal.returns-in-Err-NoMemory-clause-met
returns-in-Err-NoMemory-clause-met g c = c.change.ensures.met

pub change-requires-clause-caller : goal.change-requires-clause-caller
change-requires-clause-caller g c = c.requires.ready.caller

pub change-requires-clause-sizes : goal.change-requires-clause-sizes
change-requires-clause-sizes g c = c.requires.ready.desk_sizes

pub returns-in-Ok-clause-kept : goal.returns-in-Ok-clause-kept
returns-in-Ok-clause-kept g c =
    keeps_by _ _ _ _ _ _ c.requires.ready
    (subst (λ (d : DeskState). KeepsTickets c.args.of.now.site.now.session (g.B.Desk.state c.args.around.now.desk.now) d) (sym c.send_page.ensures.seen) c.change.ensures.kept)
    refl refl c.send_page.ensures.sent.kept (refl, refl, refl, refl, refl)

pub returns-in-Err-Refused-clause-kept : goal.returns-in-Err-Refused-clause-kept
returns-in-Err-Refused-clause-kept g c =
    keeps_by _ _ _ _ _ _ c.requires.ready c.change.ensures.kept refl refl c.write_refusal.ensures.kept
    (refl, refl, refl, refl, refl)

pub returns-in-Err-NoMemory-clause-kept : goal.returns-in-Err-NoMemory-clause-kept
returns-in-Err-NoMemory-clause-kept g c =
    keeps_by _ _ _ _ _ _ c.requires.ready c.change.ensures.kept refl refl (keeps_still g.C.Meanings _) (refl, refl, refl, refl, refl)
