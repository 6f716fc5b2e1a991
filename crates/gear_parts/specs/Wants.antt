-- The wants of a gear: its address, its clients, its directories, its limits, and how it is told to stop.
use Rattle.std.specs.Prelude.{ℕ, ◌+◌, List, [], ◌∷◌, Option, None}
use Rattle.std.specs.Option.{option_copied}
use Rattle.jk_io.specs.declared.client_limits.ClientLimits.{ClientLimits}
use Rattle.gear_parts.specs.declared.order.GearOrder.{GearOrder}

-- Where its clients are waited for, after how many of them its worker ends, the directories of a journal that is kept and of
-- the logs, what a client may take, where the run is told to stop, and for how many seconds the requests under way are then waited for.
pub record GearWants : Type 0 where
  pub address : List ℕ
  pub clients : Option ℕ
  pub journal : Option (List ℕ)
  pub log : Option (List ℕ)
  pub limits : ClientLimits
  pub control : Option (List ℕ)
  pub grace : ℕ

abbrev pub wants : (address : List ℕ) → (clients : Option ℕ) → (journal log : Option (List ℕ)) → (limits : ClientLimits) → (control : Option (List ℕ)) → (grace : ℕ) → GearWants
wants address clients journal log limits control grace =
    record { address = address; clients = clients; journal = journal; log = log; limits = limits; control = control; grace = grace }

-- what gears are ordered for
abbrev pub wants_of : GearOrder → GearWants
wants_of asked = record {
  address = asked.address.now;
  clients = asked.clients;
  journal = option_copied asked.journal;
  log = option_copied asked.log;
  limits = asked.limits;
  control = option_copied asked.control;
  grace = asked.grace;
}

-- what a container's gears are wanted for: no journal, no log, no limits, and nothing that tells it to stop
abbrev pub container_wants : (address : List ℕ) → (clients : Option ℕ) → GearWants
container_wants address clients = record {
  address = address;
  clients = clients;
  journal = None;
  log = None;
  limits = record { head = 0; keep = 0; rate = 0; waiting = 0 };
  control = None;
  grace = 0;
}

-- Each gear suits the worker of its place, the first of which has this number.
abbrev pub AreSuited : {G : Type 0} → (Suits : ℕ → G → Type 0) → (number : ℕ) → List G → Type 0
AreSuited Suits number [] = Unit {0}
AreSuited Suits number (gear ∷ gears) = Suits number gear × AreSuited Suits (number + 1) gears
