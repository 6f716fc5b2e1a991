-- The ways out of a status worker's commands.
use Rattle.std.specs.Prelude.{ℕ, ◌≡◌, List, Option}
use Rattle.lb_model.specs.declared.change.Command.{Command}
use Rattle.lb_model.specs.declared.refusal.AdminError.{AdminError}
use Rattle.lb_model.specs.declared.refusal.AdminError.TheVariants as admin
use Rattle.lb_model.specs.declared.refusal.FullMark.{FullMark}
use Rattle.site_config.specs.declared.config.Config.{Config}
use Rattle.site_config.specs.declared.config.Status.{Status}
use Rattle.status_worker.specs.Commands.{IsBrokenCommand, IsDone, RefusesOne, StopsAtRefused, TurnsAway}
use Rattle.status_worker.specs.Desks.{DeskSide}
use Rattle.status_worker.specs.declared.asking.NoPage.{NoPage}
use Rattle.status_worker.specs.declared.asking.NoPage.TheVariants as no_page
use Rattle.status_worker.specs.declared.asking.Work.{Work}
use Rattle.status_worker.specs.declared.refusal.PageRefusal.{PageRefusal}
use Rattle.status_worker.specs.declared.request.PageRequest.{PageRequest}

-- what a command's refusal makes of the request
abbrev pub no_page_by : {M : Type 0} → AdminError M → NoPage
no_page_by admin.UnknownMember = no_page.Refused PageRefusal.UnknownName
no_page_by admin.BadValue = no_page.Refused PageRefusal.BadValue
no_page_by (admin.TooWide mark) = no_page.Refused PageRefusal.TooWide
no_page_by (admin.Full mark) = no_page.Refused PageRefusal.Full
no_page_by admin.NoMemory = no_page.NoMemory

-- the command was refused, with what that makes of the request
abbrev pub FailsOne : (session lb : ℕ) → Command → DeskSide → DeskSide → NoPage → Type 0
FailsOne session lb c s n why = (error : AdminError FullMark) × RefusesOne session lb c s n error × (why ≡ no_page_by error)

-- a command was refused, after those before it
abbrev pub FailsWork : (session : ℕ) → Work → DeskSide → DeskSide → NoPage → Type 0
FailsWork session work s n why = (error : AdminError FullMark) × StopsAtRefused session work s n error × (why ≡ no_page_by error)

-- there is no page
abbrev pub FailsChange : Config → (session : ℕ) → Status → (query : Option (List ℕ)) → DeskSide → DeskSide → NoPage → Type 0
FailsChange cfg session status query s n (no_page.Refused refusal) = TurnsAway cfg session status query s n refusal
FailsChange cfg session status query s n no_page.NoMemory = IsBrokenCommand cfg session status query s n

-- what a request asks for was done
abbrev pub IsDoneFor : PageRequest → DeskSide → DeskSide → (only : Option ℕ) → Type 0
IsDoneFor r s n only = IsDone r.cfg.now r.session r.status.now r.query.now s n only

-- there is no page for it
abbrev pub FailsFor : PageRequest → DeskSide → DeskSide → NoPage → Type 0
FailsFor r s n why = FailsChange r.cfg.now r.session r.status.now r.query.now s n why
