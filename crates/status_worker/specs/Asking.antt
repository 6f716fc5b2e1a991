-- The steps from a query to what it asks for.
use Rattle.std.specs.Prelude.{ℕ, ◌≡◌, ◌⊎◌, true, List, Option, Some, None}
use Rattle.site_config.specs.declared.balancer.Lb.{Lb}
use Rattle.site_config.specs.declared.config.Config.{Config}
use Rattle.site_config.specs.declared.config.Status.{Status}
use Rattle.status_worker.specs.Effects.{is_change, worker_of}
use Rattle.status_worker.specs.declared.command.StatusCommand.{StatusCommand}
use Rattle.status_worker.specs.Commands.{IsAllowed, IsNamed, IsWorkFor, NamesNone}
use Rattle.status_worker.specs.declared.asking.NoPage.{NoPage}
use Rattle.status_worker.specs.declared.asking.NoPage.TheVariants as no_page
use Rattle.status_worker.specs.declared.asking.Work.{Work}
use Rattle.status_worker.specs.declared.refusal.PageRefusal.{PageRefusal}

-- P holds of why the request is refused
abbrev pub IfRefused : (PageRefusal → Type 0) → NoPage → Type 0
IfRefused P (no_page.Refused why) = P why
IfRefused P no_page.NoMemory = Unit {0}

-- the place of the balancer that the command names, or none where it names none
abbrev pub IsNamedBalancer : Config → StatusCommand → Option ℕ → Type 0
IsNamedBalancer cfg c None = worker_of c ≡ None
IsNamedBalancer cfg c (Some place) = (name : List ℕ) × (lb : Lb) × (worker_of c ≡ Some name) × IsNamed cfg name place lb

-- what the command asks for, where the status worker may do it
abbrev pub AsksBy : Config → Status → StatusCommand → Work → Type 0
AsksBy cfg status c work = IsAllowed status c × IsWorkFor cfg c work

-- why it is not done: it is a change and the worker is read only; or else a name is nobody's
abbrev pub IsRefusedBy : Config → Status → StatusCommand → PageRefusal → Type 0
IsRefusedBy cfg status c why =
    ((why ≡ PageRefusal.ReadOnly) × (is_change c ≡ true) × (status.read_only ≡ true))
    ⊎ ((why ≡ PageRefusal.UnknownName) × IsAllowed status c × NamesNone cfg c)
