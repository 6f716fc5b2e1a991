-- `serve`, `container` and `drill`, by what each does with the outside and how it ends. Read this first; a call of the server
-- is in jk_server's specs/Commands.antt, one of a drill in drill's specs/Written.antt, which orders are which command in
-- specs/Orders.antt, and which words are which order in jk_cli's specs/Orders.antt.
use Rattle.std.specs.Prelude.{◌≡◌, ℕ, Bool, List, Option, None}
use Rattle.drill.specs.Written.{RunsDrill}
use Rattle.drill.specs.declared.writing.DrillEnd.{DrillEnd}
use Rattle.jk_cli.specs.declared.order.Order.{Order}
use Rattle.jk_cli.specs.declared.order.Order.TheVariants as order
use Rattle.jk_server.specs.Commands.{command_side, CommandSide, CommandTells, Contains, format_text, DoesServe, HandsOnSite, wants_by}
use Rattle.gear_parts.specs.Wants.{container_wants}
use Rattle.gear_parts.specs.Worlds.{Tells}
use Rattle.jk_server.specs.declared.orders.ends.CommandEnd.{CommandEnd}
use Rattle.site_reports.specs.Readings.{CommandOutside, OfFiles}
use Rattle.site_reports.specs.declared.found.SiteFound.{SiteFound}
use Rattle.jk_commands.specs.Ends.{jkd_end, of_drill}
use Rattle.jk_commands.specs.declared.ends.EndOf.{EndOf}

-- The server was called, `Said` holds of how its call ended, and the command ended by that.
pub record EndsServed {L : Type 0} (Said : CommandEnd L → Type 0) (ended : EndOf L) : Type 0 where
  pub by : CommandEnd L
  pub said : Said by
  pub turned : ended ≡ jkd_end by

-- A drill was called, `Said` holds of how its call ended, and the command ended by that.
pub record EndsDrilled {L : Type 0} (Said : DrillEnd → Type 0) (ended : EndOf L) : Type 0 where
  pub by : DrillEnd
  pub said : Said by
  pub turned : ended ≡ of_drill by

-- `drill SEED THREADS REQUESTS`, or these and `journal` or `passes`. The world isn't asked.
pub record Drills {G L : Type 0} (seed threads requests : ℕ) (text passes : Bool) (s n : CommandSide G) (ended : EndOf L) : Type 0 where
  pub runs : EndsDrilled (RunsDrill seed threads requests text passes s.sent n.sent s.output_faults n.output_faults) ended
  pub world : n.world ≡ s.world

-- An order that asks for workers or threads, by what it does.
abbrev pub DoesOrder : {W G C S O X Z L : Type 0} → Tells W G C S O X Z → CommandOutside → Order → (s n : CommandSide G) → EndOf L → Type 0
DoesOrder told outside (order.Serve o) s n ended =
    EndsServed (DoesServe told outside o.workers o.map (format_text o.format) o.threads (wants_by o) s n) ended
DoesOrder told outside (order.Container route address threads clients) s n ended = EndsServed (Contains told route threads (container_wants address clients) s n) ended
DoesOrder told outside (order.Drill seed threads requests text passes) s n ended = Drills seed threads requests text passes s n ended
DoesOrder told outside other s n ended = ⊥

-- ---- the same of what a command goes over, as it was before and is after it

-- An order that asks for workers or threads, whatever the input.
abbrev pub DoesAsked : {F O W G C S Y X Z L : Type 0} → CommandTells F O W G C S Y X Z → Order → (before after : F × O × W) → EndOf L → Type 0
DoesAsked told o before after ended =
    OfFiles (told.files before.0) (λ outside. DoesOrder told.world outside o (command_side told before) (command_side told after) ended)

-- What such an order hands on of a site, by the status with which it ended: `serve` what it refused, and the others nothing.
abbrev pub HandsOnOrder : {F O W G C S Y X Z : Type 0} → CommandTells F O W G C S Y X Z → Order → (before after : F × O × W) → (status : ℕ) → Option SiteFound → Type 0
HandsOnOrder told (order.Serve o) before after status site = HandsOnSite told o before after status site
HandsOnOrder told other before after status site = site ≡ None
