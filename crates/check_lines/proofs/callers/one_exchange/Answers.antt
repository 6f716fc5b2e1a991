-- The ticket that the choice made is the one that came back.
use Rattle.std.proofs.Common.{ℕ, ◌<◌, List, length, ap, subst, sym}
use Rattle.lb_book.specs.Desks.{LeaseNote, pair_of}
use Rattle.lb_book.proofs.DeskLaws.{held_again, held_made}
use Rattle.check_lines.proofs.DueLaws.{chosen_up_to_date, returned_up_to_date, stray_up_to_date}
use Rattle.check_lines.proofs.OnceLaws.{ends_refused, ends_returned, ends_stray, gains_as_many, gains_none, gains_twice, keeps_twice}
use Rattle.check_lines.proofs.callers.one_exchange.Goals as goal

pub hand_back-requires-clause-held : goal.hand_back-requires-clause-held
hand_back-requires-clause-held g c =
    let chose = (rw c.in-Ok-Chosen.field-0-is at c.in-Ok-Chosen.ensures.ok).answered in
    held_made (g.D.Desk.state c.args.desk.now).held (g.D.Desk.state c.choose.new.self).held _ _ chose.4 (ap pair_of chose.3)

pub returns-in-Ok-clause-held : goal.returns-in-Ok-clause-held
returns-in-Ok-clause-held g c =
    let chose = (rw c.in-Ok-Chosen.field-0-is at c.in-Ok-Chosen.ensures.ok).answered in
    held_again (g.D.Desk.state c.args.desk.now).held (g.D.Desk.state c.choose.new.self).held
    (g.D.Desk.state c.hand_back.new.self).held _ _ chose.4 (ap pair_of chose.3) c.hand_back.ensures.held

pub returns-in-Err-hand_back-clause-held : goal.returns-in-Err-hand_back-clause-held
returns-in-Err-hand_back-clause-held g c =
    let chose = (rw c.in-Ok-Chosen.field-0-is at c.in-Ok-Chosen.ensures.ok).answered in
    held_again (g.D.Desk.state c.args.desk.now).held (g.D.Desk.state c.choose.new.self).held
    (g.D.Desk.state c.hand_back.new.self).held _ _ chose.4 (ap pair_of chose.3) c.hand_back.ensures.held

pub returns-in-Ok-clause-due : goal.returns-in-Ok-clause-due
returns-in-Ok-clause-due g c =
    let chose = rw c.in-Ok-Chosen.field-0-is at c.in-Ok-Chosen.ensures.ok in
    returned_up_to_date (g.D.Desk.state c.choose.new.self) (g.D.Desk.state c.hand_back.new.self) c.args.lb c.args.session c.args.at _ c.args.outcome
    (ap (λ (n : LeaseNote). n.lb) chose.answered.3)
    (subst (λ (ns : List ℕ). c.args.lb < length ns) (sym c.choose.ensures.kept.sizes) c.requires.known)
    c.choose.ensures.kept.sound c.in-Ok.ensures.ok
    (chosen_up_to_date g.D.Desk.note (g.D.Desk.state c.args.desk.now) (g.D.Desk.state c.choose.new.self) c.args.lb c.args.session c.args.at c.args.ask.now
    _ c.requires.known c.choose.ensures.kept.sound_before chose)

pub returns-in-Err-hand_back-clause-due : goal.returns-in-Err-hand_back-clause-due
returns-in-Err-hand_back-clause-due g c =
    let chose = rw c.in-Ok-Chosen.field-0-is at c.in-Ok-Chosen.ensures.ok in
    stray_up_to_date (g.D.Desk.state c.choose.new.self) (g.D.Desk.state c.hand_back.new.self) c.args.lb c.args.at _ _
    c.in-Err-hand_back.ensures.err
    (chosen_up_to_date g.D.Desk.note (g.D.Desk.state c.args.desk.now) (g.D.Desk.state c.choose.new.self) c.args.lb c.args.session c.args.at c.args.ask.now
    _ c.requires.known c.choose.ensures.kept.sound_before chose)

pub returns-in-Ok-NoMember-clause-due : goal.returns-in-Ok-NoMember-clause-due
returns-in-Ok-NoMember-clause-due g c =
    chosen_up_to_date g.D.Desk.note (g.D.Desk.state c.args.desk.now) (g.D.Desk.state c.choose.new.self) c.args.lb c.args.session c.args.at c.args.ask.now
    _ c.requires.known c.choose.ensures.kept.sound_before c.in-Ok-NoMember.ensures.ok

pub returns-in-Ok-clause-ends : goal.returns-in-Ok-clause-ends
returns-in-Ok-clause-ends g c =
    let chose = rw c.in-Ok-Chosen.field-0-is at c.in-Ok-Chosen.ensures.ok in
    ends_returned g.D.Desk.note (g.D.Desk.state c.args.desk.now) (g.D.Desk.state c.choose.new.self) (g.D.Desk.state c.hand_back.new.self)
    c.args.lb c.args.session c.args.at c.args.ask.now c.args.outcome _ _ chose c.in-Ok.ensures.ok

pub returns-in-Ok-clause-added : goal.returns-in-Ok-clause-added
returns-in-Ok-clause-added g c =
    gains_twice (g.D.Desk.state c.args.desk.now) (g.D.Desk.state c.choose.new.self) (g.D.Desk.state c.hand_back.new.self)
    (gains_as_many (g.D.Desk.state c.args.desk.now) (g.D.Desk.state c.choose.new.self) _ _ _ _ c.in-Ok-Chosen.ensures.ok.gains.gains)
    (gains_as_many (g.D.Desk.state c.choose.new.self) (g.D.Desk.state c.hand_back.new.self) _ _ _ _ c.in-Ok.ensures.ok.gains)

pub returns-in-Ok-clause-kept : goal.returns-in-Ok-clause-kept
returns-in-Ok-clause-kept g c =
    keeps_twice (g.D.Desk.state c.args.desk.now) (g.D.Desk.state c.choose.new.self) (g.D.Desk.state c.hand_back.new.self)
    c.choose.ensures.kept c.hand_back.ensures.kept

pub returns-in-Err-hand_back-clause-ends : goal.returns-in-Err-hand_back-clause-ends
returns-in-Err-hand_back-clause-ends g c =
    let chose = rw c.in-Ok-Chosen.field-0-is at c.in-Ok-Chosen.ensures.ok in
    ends_stray g.D.Desk.note (g.D.Desk.state c.args.desk.now) (g.D.Desk.state c.choose.new.self) (g.D.Desk.state c.hand_back.new.self)
    c.args.lb c.args.session c.args.at c.args.ask.now c.args.outcome _ _ _ chose c.in-Err-hand_back.ensures.err

pub returns-in-Err-hand_back-clause-added : goal.returns-in-Err-hand_back-clause-added
returns-in-Err-hand_back-clause-added g c =
    gains_twice (g.D.Desk.state c.args.desk.now) (g.D.Desk.state c.choose.new.self) (g.D.Desk.state c.hand_back.new.self)
    (gains_as_many (g.D.Desk.state c.args.desk.now) (g.D.Desk.state c.choose.new.self) _ _ _ _ c.in-Ok-Chosen.ensures.ok.gains.gains)
    (gains_none (g.D.Desk.state c.choose.new.self) (g.D.Desk.state c.hand_back.new.self) c.in-Err-hand_back.ensures.err.receipts c.in-Err-hand_back.ensures.err.added)

pub returns-in-Err-hand_back-clause-kept : goal.returns-in-Err-hand_back-clause-kept
returns-in-Err-hand_back-clause-kept g c =
    keeps_twice (g.D.Desk.state c.args.desk.now) (g.D.Desk.state c.choose.new.self) (g.D.Desk.state c.hand_back.new.self)
    c.choose.ensures.kept c.hand_back.ensures.kept

pub returns-in-Ok-NoMember-clause-added : goal.returns-in-Ok-NoMember-clause-added
returns-in-Ok-NoMember-clause-added g c =
    gains_as_many (g.D.Desk.state c.args.desk.now) (g.D.Desk.state c.choose.new.self) _ _ _ _ c.in-Ok-NoMember.ensures.ok.gains.gains

pub returns-in-Ok-NoMember-clause-kept : goal.returns-in-Ok-NoMember-clause-kept
returns-in-Ok-NoMember-clause-kept g c = c.choose.ensures.kept

pub returns-in-Err-clause-held : goal.returns-in-Err-clause-held
returns-in-Err-clause-held g c = c.in-Err.ensures.err.held

pub returns-in-Err-clause-ends : goal.returns-in-Err-clause-ends
returns-in-Err-clause-ends g c =
    ends_refused g.D.Desk.numbers (g.D.Desk.state c.args.desk.now) (g.D.Desk.state c.choose.new.self)
    c.args.lb c.args.session c.args.at c.args.ask.now c.args.outcome _ c.in-Err.ensures.err

pub returns-in-Err-clause-added : goal.returns-in-Err-clause-added
returns-in-Err-clause-added g c =
    gains_as_many (g.D.Desk.state c.args.desk.now) (g.D.Desk.state c.choose.new.self) _ _ _ _ c.in-Err.ensures.err.gains.gains

pub returns-in-Err-clause-kept : goal.returns-in-Err-clause-kept
returns-in-Err-clause-kept g c = c.choose.ensures.kept

pub returns-in-Err-clause-refused : goal.returns-in-Err-clause-refused
returns-in-Err-clause-refused g c = c.in-Err.ensures.err
