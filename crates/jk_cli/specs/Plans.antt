-- The order of a plan, whose texts still stand in the words.
use Rattle.std.specs.Prelude.{option_map}
use Rattle.std.specs.Option.{option_copied}
use Rattle.jk_cli.specs.declared.order.Order.{Order}
use Rattle.jk_cli.specs.declared.order.Order.TheVariants as order
use Rattle.jk_cli.specs.declared.plan.Plan.{Plan}
use Rattle.jk_cli.specs.declared.plan.Plan.TheVariants as plan
use Rattle.jk_cli.specs.declared.plan.Options.{Options}
use Rattle.jk_cli.specs.declared.plan.LogPlan.{LogPlan}
use Rattle.jk_cli.specs.declared.plan.ServePlan.{ServePlan}
use Rattle.jk_cli.specs.declared.plan.Front.{Front}
use Rattle.jk_cli.specs.declared.plan.ContainerPlan.{ContainerPlan}
use Rattle.jk_cli.specs.Orders.{serve_order_of, FrontOptions, ServeOptions}

abbrev pub options_in : Options → ServeOptions
options_in given = record {
  clients = given.clients;
  journal = option_copied given.journal;
  watch = given.watch;
  idle = given.idle;
  log = option_copied given.log;
  format = option_copied given.format;
}

abbrev pub front_in : Front → FrontOptions
front_in f = record { cut = f.cut; limits = f.limits; control = option_copied f.control; grace = f.grace }

abbrev pub log_order : LogPlan → Order
log_order p = order.Log p.format.now p.request.now p.reply.now p.workers.now p.map.now

abbrev pub serve_order : ServePlan → Order
serve_order p =
    order.Serve (serve_order_of p.workers.now p.map.now p.address.now p.threads (options_in p.given) (front_in p.front))

abbrev pub container_order : ContainerPlan → Order
container_order p = order.Container p.route p.address.now p.threads p.clients

abbrev pub order_in : Plan → Order
order_in plan.Play = order.Play
order_in (plan.Dry request reply site) =
    order.Dry request.now reply.now (option_map (λ s. (s.0.now, s.1.now)) site)
order_in (plan.Config workers map) = order.Config workers.now (option_copied map)
order_in (plan.Match workers map verbose) = order.Match workers.now map.now verbose
order_in plan.Check = order.Check
order_in (plan.Log p) = log_order p
order_in plan.Follow = order.Follow
order_in (plan.Drill seed threads requests text passes) = order.Drill seed threads requests text passes
order_in (plan.Serve p) = serve_order p
order_in (plan.Container p) = container_order p
order_in (plan.Stop path) = order.Stop path.now
order_in (plan.Demo address) = order.Demo address.now
