-- A command that was done in a world round another was done in the one within.
use Rattle.std.proofs.Common.{ℕ, ◌⊎◌, List, inl, inr}
use Rattle.jk_cli.specs.declared.order.Order.{Order}
use Rattle.jk_cli.specs.declared.order.Order.TheVariants as order
use Rattle.jk_commands.specs.Commands.{DoesOrder}
use Rattle.jk_commands.specs.declared.ends.EndOf.{EndOf}
use Rattle.gear_parts.specs.Wants.{GearWants}
use Rattle.gear_parts.specs.Worlds.{shown_to, Tells, WorldSide}
use Rattle.jk_server.specs.Commands.{CommandSide, Contains, DoesServe, Formatted, NoFormat, NoGear, NoRoom, Ran, Refused, RunsContainer, RunsLogged, RunsSite, Served, ServesFiles, ServesSite, Unformatted, Unread, WantsStart, Works}
use Rattle.jk_server.specs.declared.orders.ends.CommandEnd.{CommandEnd}
use Rattle.site_reports.specs.Readings.{CommandOutside}

-- what is told of a world whose parts tell what those of another do, by this telling of it
abbrev pub within : {V W G C S O X Z : Type 0} → Tells V G C S O X Z → (W → WorldSide G) → Tells W G C S O X Z
within told world = record {
  world = world;
  gear = told.gear;
  link = told.link;
  shelved = told.shelved;
  shelf_faults = told.shelf_faults;
  log = told.log;
  may_wait = told.may_wait;
  are_given = told.are_given;
  keeps_rest = told.keeps_rest;
  suits = told.suits;
}

works_within : {G L : Type 0} (threads : ℕ) (Runs Runs' : WorldSide G → WorldSide G → CommandEnd L → Type 0) (s n : WorldSide G) (ended : CommandEnd L)
    → (Runs s n ended → Runs' s n ended) → Works threads Runs s n ended → Works threads Runs' s n ended
works_within threads Runs Runs' s n ended turn (NoGear lacks) = NoGear lacks
works_within threads Runs Runs' s n ended turn (NoRoom wants) = NoRoom wants
works_within threads Runs Runs' s n ended turn (Ran runs) = Ran (turn runs)

start_within : {V W G C S O X Z L : Type 0} (told : Tells V G C S O X Z) (world : W → WorldSide G) (threads : ℕ) (wanted : GearWants) (s n : WorldSide G) (ended : CommandEnd L)
    → WantsStart told threads wanted s n ended → WantsStart (within told world) threads wanted s n ended
start_within told world threads wanted s n ended wants = record {
  gears = wants.gears;
  begun = wants.begun;
  back = wants.back;
  count = wants.count;
  logged = wants.logged;
  unasked = wants.unasked;
  passed = wants.passed;
  calm = wants.calm;
  status = wants.status;
}

site_within : {V W G C S O X Z L : Type 0} (told : Tells V G C S O X Z) (world : W → WorldSide G) (cfg : _) (rules : _) (format : _) (threads : ℕ) (wanted : GearWants) (s n : WorldSide G) (ended : CommandEnd L)
    → RunsSite told cfg rules format threads wanted s n ended → RunsSite (within told world) cfg rules format threads wanted s n ended
site_within told world cfg rules format threads wanted s n ended runs = record {
  gears = runs.gears;
  begun = runs.begun;
  left = runs.left;
  count = runs.count;
  made = runs.made;
  suited = runs.suited;
  logged = runs.logged;
  ends = runs.ends;
  closing = runs.closing;
  run = runs.run;
  passed = runs.passed;
  calm = runs.calm;
  status = runs.status;
}

logged_within : {V W G C S O X Z L : Type 0} (told : Tells V G C S O X Z) (world : W → WorldSide G) (cfg : _) (rules : _) (format : _) (threads : ℕ) (wanted : GearWants) (s n : WorldSide G) (ended : CommandEnd L)
    → RunsLogged told cfg rules format threads wanted s n ended → RunsLogged (within told world) cfg rules format threads wanted s n ended
logged_within told world cfg rules format threads wanted s n ended (inl lacks) = inl lacks
logged_within told world cfg rules format threads wanted s n ended (inr (inl wants)) = inr (inl (start_within told world threads wanted s n ended wants))
logged_within told world cfg rules format threads wanted s n ended (inr (inr runs)) = inr (inr (site_within told world cfg rules format threads wanted s n ended runs))

container_within : {V W G C S O X Z L : Type 0} (told : Tells V G C S O X Z) (world : W → WorldSide G) (app : _) (threads : ℕ) (wanted : GearWants) (s n : WorldSide G) (ended : CommandEnd L)
    → RunsContainer told app threads wanted s n ended → RunsContainer (within told world) app threads wanted s n ended
container_within told world app threads wanted s n ended runs = record {
  gears = runs.gears;
  left = runs.left;
  count = runs.count;
  made = runs.made;
  suited = runs.suited;
  ends = runs.ends;
  run = runs.run;
  rests = runs.rests;
  passed = runs.passed;
  calm = runs.calm;
  status = runs.status;
}

serves_within : {V W G C S O X Z L : Type 0} (told : Tells V G C S O X Z) (world : W → WorldSide G) (outside : CommandOutside) (workers map : List ℕ) (format : _) (threads : ℕ) (wanted : GearWants) (s n : CommandSide G) (ended : CommandEnd L)
    → ServesFiles told outside workers map format threads wanted s n ended → ServesFiles (within told world) outside workers map format threads wanted s n ended
serves_within told world outside workers map format threads wanted s n ended (Unread lacks) = Unread lacks
serves_within told world outside workers map format threads wanted s n ended (Refused refuses) = Refused refuses
serves_within told world outside workers map format threads wanted s n ended (Served serves) = Served (record {
  site = serves.site;
  is = serves.is;
  read = serves.read;
  shown = serves.shown;
  works = works_within threads _ _ (shown_to s.world serves.site) n.world ended
      (λ runs. logged_within told world serves.site.workers.config serves.site.rules format threads wanted (shown_to s.world serves.site) n.world ended runs) serves.works;
  output = serves.output;
})

does_within : {V W G C S O X Z L : Type 0} (told : Tells V G C S O X Z) (world : W → WorldSide G) (outside : CommandOutside) (workers map text : List ℕ) (threads : ℕ) (wanted : GearWants) (s n : CommandSide G) (ended : CommandEnd L)
    → DoesServe told outside workers map text threads wanted s n ended → DoesServe (within told world) outside workers map text threads wanted s n ended
does_within told world outside workers map text threads wanted s n ended (NoFormat lacks) = NoFormat lacks
does_within told world outside workers map text threads wanted s n ended (Unformatted refuses) = Unformatted refuses
does_within told world outside workers map text threads wanted s n ended (Formatted format is serves) =
    Formatted format is (serves_within told world outside workers map format threads wanted s n ended serves)

contains_within : {V W G C S O X Z L : Type 0} (told : Tells V G C S O X Z) (world : W → WorldSide G) (route : List ℕ) (threads : ℕ) (wanted : GearWants) (s n : CommandSide G) (ended : CommandEnd L)
    → Contains told route threads wanted s n ended → Contains (within told world) route threads wanted s n ended
contains_within told world route threads wanted s n ended contains = record {
  contained = record {
    app = contains.contained.app;
    is = contains.contained.is;
    works = works_within threads _ _ s.world n.world ended
        (λ runs. container_within told world contains.contained.app threads wanted s.world n.world ended runs) contains.contained.works;
  };
  output = contains.output;
}

-- an order that asks for workers or threads
pub order_within : {V W G C S O X Z L : Type 0} (told : Tells V G C S O X Z) (world : W → WorldSide G) (outside : CommandOutside) (o : Order) (s n : CommandSide G) (ended : EndOf L)
    → DoesOrder told outside o s n ended → DoesOrder (within told world) outside o s n ended
order_within told world outside (order.Serve o) s n ended does =
    record { by = does.by; said = does_within told world outside _ _ _ _ _ s n does.by does.said; turned = does.turned }
order_within told world outside (order.Container route address threads clients) s n ended does =
    record { by = does.by; said = contains_within told world _ _ _ s n does.by does.said; turned = does.turned }
order_within told world outside (order.Drill seed threads requests text passes) s n ended does = does
order_within told world outside order.Play s n ended does = does
order_within told world outside (order.Dry request reply site) s n ended does = does
order_within told world outside (order.Config workers map) s n ended does = does
order_within told world outside (order.Match workers map verbose) s n ended does = does
order_within told world outside order.Check s n ended does = does
order_within told world outside (order.Log format request reply workers map) s n ended does = does
order_within told world outside order.Follow s n ended does = does
order_within told world outside (order.Stop path) s n ended does = does
order_within told world outside (order.Demo address) s n ended does = does
