-- The commands that a status worker's request asks of the desk, or why it asks none, and how they are done.
use Rattle.std.specs.Prelude.{ℕ, ◌≡◌, ◌⊎◌, Bool, true, false, List, [], ◌∷◌, ◌++◌, Option, Some, None, slice_get}
use Rattle.jk_io.specs.Answers.{Answers}
use Rattle.lb_model.specs.declared.change.Command.{Command}
use Rattle.lb_model.specs.declared.refusal.AdminError.{AdminError}
use Rattle.lb_model.specs.declared.refusal.AdminError.TheVariants as admin
use Rattle.lb_model.specs.declared.refusal.FullMark.{FullMark}
use Rattle.lb_book.specs.Desks.{Commands, MeetsNone, RefusesCommand}
use Rattle.site_config.specs.Places.{named_among}
use Rattle.site_config.specs.declared.balancer.Lb.{Lb}
use Rattle.site_config.specs.declared.config.Config.{Config}
use Rattle.site_config.specs.declared.config.Named.TheVariants as named
use Rattle.site_config.specs.declared.config.Status.{Status}
use Rattle.status_worker.specs.BookCommands.{commands_for}
use Rattle.status_worker.specs.Effects.{is_change, worker_of}
use Rattle.status_worker.specs.Meaning.{meaning_of}
use Rattle.status_worker.specs.declared.command.StatusCommand.{StatusCommand}
use Rattle.status_worker.specs.Desks.{DeskSide}
use Rattle.status_worker.specs.declared.asking.Work.{Work}
use Rattle.status_worker.specs.declared.refusal.PageRefusal.{PageRefusal}

-- ---- what a query asks for

-- the status worker may do the command: it changes nothing, or the worker is not read only
abbrev pub IsAllowed : Status → StatusCommand → Type 0
IsAllowed status c = (is_change c ≡ false) ⊎ (status.read_only ≡ false)

-- The name is that of this balancer.
pub record IsNamed (cfg : Config) (name : List ℕ) (place : ℕ) (lb : Lb) : Type 0 where
  pub named : named_among name cfg.listed ≡ Some (named.Balancer place)
  pub stands : slice_get cfg.lbs place ≡ Some lb

-- The work of a command: the commands of a balancer, in order, where its names are those of a balancer and its members;
-- or none, where the page is of all.
abbrev pub IsWorkFor : Config → StatusCommand → Work → Type 0
IsWorkFor cfg c work =
    ((worker_of c ≡ None) × (work.only ≡ None) × (work.commands ≡ []))
    ⊎ ((name : List ℕ) × (place : ℕ) × (lb : Lb) × (worker_of c ≡ Some name) × IsNamed cfg name place lb
    × (work.only ≡ Some place) × (commands_for lb.book.members c ≡ Some work.commands))

-- The work of a query, where the status worker is open and may do it.
abbrev pub AsksOpen : Config → Status → (query : Option (List ℕ)) → Work → Type 0
AsksOpen cfg status query work = (c : StatusCommand) × (meaning_of query ≡ Some c) × IsAllowed status c × IsWorkFor cfg c work

-- A status worker whose directives name users is closed, and is asked nothing.
abbrev pub AsksDesk : Config → Status → (query : Option (List ℕ)) → Work → Type 0
AsksDesk cfg status query work = (status.closed ≡ false) × AsksOpen cfg status query work

-- a name is that of no balancer, or one of a member is that of none of the balancer's
abbrev pub NamesNone : Config → StatusCommand → Type 0
NamesNone cfg c =
    (name : List ℕ) × (worker_of c ≡ Some name)
    × (((place : ℕ) → named_among name cfg.listed ≡ Some (named.Balancer place) → ⊥)
    ⊎ ((place : ℕ) × (lb : Lb) × IsNamed cfg name place lb × (commands_for lb.book.members c ≡ None)))

-- Why nothing is asked of an open one, in this order: the query means no command; it is a change and the worker is read only;
-- a name is no balancer's or no member's.
abbrev pub IsRefusedOpen : Config → Status → (query : Option (List ℕ)) → PageRefusal → Type 0
IsRefusedOpen cfg status query why =
    ((why ≡ PageRefusal.BadQuery) × (meaning_of query ≡ None))
    ⊎ (((c : StatusCommand) × (why ≡ PageRefusal.ReadOnly) × (meaning_of query ≡ Some c) × (is_change c ≡ true) × (status.read_only ≡ true))
    ⊎ ((c : StatusCommand) × (why ≡ PageRefusal.UnknownName) × (meaning_of query ≡ Some c) × IsAllowed status c × NamesNone cfg c))

-- Why nothing is asked: the status worker is closed, whatever the query says; and else for what the query says.
abbrev pub IsRefusedQuery : Config → Status → (query : Option (List ℕ)) → PageRefusal → Type 0
IsRefusedQuery cfg status query why =
    ((why ≡ PageRefusal.Closed) × (status.closed ≡ true)) ⊎ ((status.closed ≡ false) × IsRefusedOpen cfg status query why)

-- ---- how it is done

abbrev pub same_mark : FullMark → FullMark
same_mark mark = mark

-- one command was done, at the clock's next answer
pub record Does (session lb : ℕ) (c : Command) (s n : DeskSide) : Type 0 where
  pub at : ℕ
  pub asked_at : Answers s.clock at n.clock
  pub done : Commands s.state n.state lb session at c
  pub held : n.state.held ≡ s.state.held

-- one command was refused, and nothing but a Maintain that was due was done
pub record RefusesOne (session lb : ℕ) (c : Command) (s n : DeskSide) (error : AdminError FullMark) : Type 0 where
  pub at : ℕ
  pub asked_at : Answers s.clock at n.clock
  pub refused : RefusesCommand same_mark s.state n.state lb session at c error
  pub held : n.state.held ≡ s.state.held

-- these commands were done, in order
abbrev pub DoesAll : (session lb : ℕ) → List Command → DeskSide → DeskSide → Type 0
DoesAll session lb [] s n = n ≡ s
DoesAll session lb (c ∷ rest) s n = (mid : DeskSide) × Does session lb c s mid × DoesAll session lb rest mid n

-- the commands of the work were done
abbrev pub WorksOn : (session : ℕ) → Work → DeskSide → DeskSide → Type 0
WorksOn session work s n = ((work.only ≡ None) × (n ≡ s)) ⊎ ((lb : ℕ) × (work.only ≡ Some lb) × DoesAll session lb work.commands s n)

-- those before the first refused one were done
pub record StopsAtRefused (session : ℕ) (work : Work) (s n : DeskSide) (error : AdminError FullMark) : Type 0 where
  pub lb : ℕ
  pub only : work.only ≡ Some lb
  pub done : List Command
  pub refused : Command
  pub rest : List Command
  pub order : work.commands ≡ done ++ refused ∷ rest
  pub mid : DeskSide
  pub worked : DoesAll session lb done s mid
  pub stops : RefusesOne session lb refused mid n error

-- why the request of a refused command is refused
abbrev pub refusal_by : AdminError FullMark → Option PageRefusal
refusal_by admin.UnknownMember = Some PageRefusal.UnknownName
refusal_by admin.BadValue = Some PageRefusal.BadValue
refusal_by (admin.TooWide mark) = Some PageRefusal.TooWide
refusal_by (admin.Full mark) = Some PageRefusal.Full
refusal_by admin.NoMemory = None

-- Why there is no page: nothing is asked, or a command was refused.
abbrev pub TurnsAway : Config → (session : ℕ) → Status → (query : Option (List ℕ)) → DeskSide → DeskSide → PageRefusal → Type 0
TurnsAway cfg session status query s n why =
    (IsRefusedQuery cfg status query why × (n ≡ s))
    ⊎ ((work : Work) × (error : AdminError FullMark) × AsksDesk cfg status query work × StopsAtRefused session work s n error × (refusal_by error ≡ Some why))

-- All that was asked was done.
abbrev pub IsDone : Config → (session : ℕ) → Status → (query : Option (List ℕ)) → DeskSide → DeskSide → (only : Option ℕ) → Type 0
IsDone cfg session status query s n only =
    (work : Work) × AsksDesk cfg status query work × WorksOn session work s n × (only ≡ work.only)

-- Memory was wanted before anything was asked, or by a command after those before it.
abbrev pub IsBrokenCommand : Config → (session : ℕ) → Status → (query : Option (List ℕ)) → DeskSide → DeskSide → Type 0
IsBrokenCommand cfg session status query s n =
    (n ≡ s) ⊎ ((work : Work) × AsksDesk cfg status query work × StopsAtRefused session work s n admin.NoMemory)
