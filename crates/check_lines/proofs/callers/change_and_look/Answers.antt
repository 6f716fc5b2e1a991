-- The command leaves no Maintain due, and the look leaves all as it is.
use Rattle.std.proofs.Common.{ap, subst, sym, ◌∙◌}
use Rattle.lb_book.specs.Desks.{DeskState, KeepsDesk}
use Rattle.check_lines.specs.Once.{GainsAsMany, IsUpToDate}
use Rattle.check_lines.proofs.DueLaws.{commanded_up_to_date}
use Rattle.check_lines.proofs.OnceLaws.{gains_as_many, page_after}
use Rattle.check_lines.proofs.callers.change_and_look.Goals as goal

pub returns-clause-page : goal.returns-clause-page
returns-clause-page g c =
    page_after (g.D.Desk.state c.args.desk.now) (g.D.Desk.state c.command.new.self) (g.D.Desk.state c.look.new.self)
    c.args.lb c.args.session c.args.at c.args.command.now _ c.look.ensures.same c.in_ok-command.ensures.ok c.in_ok-look.ensures.shown

pub returns-clause-due : goal.returns-clause-due
returns-clause-due g c =
    subst (λ (d : DeskState). IsUpToDate d c.args.lb c.args.at) (sym c.look.ensures.same)
    (commanded_up_to_date (g.D.Desk.state c.args.desk.now) (g.D.Desk.state c.command.new.self) c.args.lb c.args.session c.args.at c.args.command.now
    c.requires.known c.command.ensures.kept.sound_before c.in_ok-command.ensures.ok)

pub returns-clause-held : goal.returns-clause-held
returns-clause-held g c = ap (λ (d : DeskState). d.held) c.look.ensures.same ∙ c.command.ensures.held

pub returns-clause-added : goal.returns-clause-added
returns-clause-added g c =
    subst (λ (d : DeskState). GainsAsMany (g.D.Desk.state c.args.desk.now) d) (sym c.look.ensures.same)
    (gains_as_many (g.D.Desk.state c.args.desk.now) (g.D.Desk.state c.command.new.self) _ _ _ _ c.in_ok-command.ensures.ok.gains.gains)

pub returns-clause-kept : goal.returns-clause-kept
returns-clause-kept g c =
    subst (λ (d : DeskState). KeepsDesk (g.D.Desk.state c.args.desk.now) d) (sym c.look.ensures.same) c.command.ensures.kept
