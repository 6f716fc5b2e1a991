-- The demo: two containers, a and b, and a front before them. The front is `serve` over the two texts that stand here,
-- and each container is `container` of its route.
use Rattle.std.specs.Prelude.{◌≡◌, ℕ, List, [], ◌∷◌, ◌++◌, ◌⊎◌, Some, None, codes, decimal}
use Rattle.jk_cli.specs.declared.order.Order.{Order}
use Rattle.jk_cli.specs.declared.order.Order.TheVariants as order
use Rattle.jk_server.specs.Commands.{command_side, CommandTells}
use Rattle.jk_commands.specs.Commands.{DoesOrder}
use Rattle.jkd.specs.declared.demo.DemoContainer.{DemoContainer}
use Rattle.jkd.specs.declared.demo.DemoContainer.TheVariants as container
use Rattle.jk_commands.specs.declared.ends.EndOf.{EndOf}
use Rattle.jk_commands.specs.declared.ends.EndOf.TheVariants as end

-- the demo's workers.properties: a balancer that keeps sessions, over containers at these ports of this machine, of which b
-- gets twice as many requests as a, and a status worker
abbrev pub demo_workers : (a b : ℕ) → List ℕ
demo_workers a b =
    codes "worker.list=demo,jk-status\nworker.demo.type=lb\nworker.demo.balance_workers=a,b\nworker.demo.sticky_session=true\nworker.a.host=127.0.0.1\nworker.a.lbfactor=1\nworker.a.port="
    ++ decimal a ++ codes "\nworker.b.host=127.0.0.1\nworker.b.lbfactor=2\nworker.b.port=" ++ decimal b ++ codes "\nworker.jk-status.type=status\n"

-- its uriworkermap.properties
abbrev pub demo_map : List ℕ
demo_map = codes "/*=demo\n/jk-status=jk-status\n"

-- its files, each a name and a text
abbrev pub demo_files : (a b : ℕ) → List (List ℕ × List ℕ)
demo_files a b = (codes "workers.properties", demo_workers a b) ∷ (codes "uriworkermap.properties", demo_map) ∷ []

-- `serve` of the demo's front, with the limits that `serve` has without options
abbrev pub demo_front : (address : List ℕ) → Order
demo_front address =
    order.Serve (record {
      workers = codes "workers.properties";
      map = codes "uriworkermap.properties";
      address = address;
      threads = 8;
      clients = None;
      journal = None;
      watch = None;
      idle = None;
      log = None;
      format = None;
      cut = None;
      limits = record { head = 20; keep = 60; rate = 500; waiting = 10000 };
      control = None;
      grace = 30;
    })

abbrev pub route_of : DemoContainer → List ℕ
route_of (container.A port) = codes "a"
route_of (container.B port) = codes "b"

abbrev pub port_of : DemoContainer → ℕ
port_of (container.A port) = port
port_of (container.B port) = port

-- `container` of one of the demo's containers, at its port of this machine
abbrev pub demo_container : DemoContainer → Order
demo_container which = order.Container (route_of which) (codes "127.0.0.1:" ++ decimal (port_of which)) 8 None

-- the status of a demo that isn't begun: an address can't be had, or memory is wanted
abbrev pub IsUnopened : ℕ → Type 0
IsUnopened status = (status ≡ 4) ⊎ (status ≡ 6)

-- A part of the demo does what this order asks for, over these files; or memory was wanted before anything was done.
abbrev pub DoesPart : {F O W G C S Y X Z L : Type 0} → CommandTells F O W G C S Y X Z → List (List ℕ × List ℕ) → Order → (before after : F × O × W) → EndOf L → Type 0
DoesPart told files o before after ended =
    ((ended ≡ end.Status 6) × (after ≡ before))
    ⊎ DoesOrder told.world (record { files = Some files; incoming = None }) o (command_side told before) (command_side told after) ended

-- The front of the demo does its part for clients at this address, over the files of any two ports.
abbrev pub ServesDemo : {F O W G C S Y X Z L : Type 0} → CommandTells F O W G C S Y X Z → (address : List ℕ) → (before after : F × O × W) → EndOf L → Type 0
ServesDemo told address before after ended =
    (a b : ℕ) → told.files before.0 ≡ Some (demo_files a b) → DoesPart told (demo_files a b) (demo_front address) before after ended

-- A container of the demo does its part, over any files.
abbrev pub ContainsDemo : {F O W G C S Y X Z L : Type 0} → CommandTells F O W G C S Y X Z → DemoContainer → (before after : F × O × W) → EndOf L → Type 0
ContainsDemo told which before after ended =
    (held : List (List ℕ × List ℕ)) → told.files before.0 ≡ Some held → DoesPart told held (demo_container which) before after ended
