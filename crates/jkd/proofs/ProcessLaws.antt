-- What a command did over files, an input and an output that tell nothing and had no fault before, and over the world round another,
-- told of the process and of the world within.
use Rattle.std.proofs.Common.{ℕ, ◌≡◌, Option, Result, Ok, Err, None}
use Rattle.gear_parts.specs.Worlds.{Tells, WorldSide}
use Rattle.jk_cli.specs.declared.order.Order.{Order}
use Rattle.jk_cli.specs.declared.order.Order.TheVariants as order
use Rattle.jk_cli.specs.declared.order.WordsError.{WordsError}
use Rattle.jk_commands.specs.Commands.{DoesAsked, HandsOnOrder}
use Rattle.jk_commands.specs.Ends.{status_of}
use Rattle.jk_commands.specs.Orders.{IfPlain, IfServed}
use Rattle.jk_commands.specs.Plain.{EndsPlain}
use Rattle.jk_commands.specs.declared.ends.EndOf.{EndOf}
use Rattle.jk_server.specs.Commands.{command_side, CommandTells}
use Rattle.plain_commands.specs.Endings.{PlainSide}
use Rattle.site_reports.specs.declared.found.SiteFound.{SiteFound}
use Rattle.jkd.proofs.WithinLaws.{order_within, within}
use Rattle.jkd.specs.Process.{edge, EndsProcess, plain_edge, ServesProcess}

hands_within : {F O V W G C S Y X Z : Type 0} (told : CommandTells F O V G C S Y X Z) (of_world : Tells W G C S Y X Z) (o : Order) (before after : F × O × V) (first last : ℕ × ℕ × W) (status : ℕ) (site : Option SiteFound)
    → told.files before.0 ≡ None → command_side told before ≡ command_side (edge of_world) first → command_side told after ≡ command_side (edge of_world) last
    → HandsOnOrder told o before after status site → HandsOnOrder (edge of_world) o first last status site
hands_within told of_world (order.Serve o) before after first last status site none was is hands = rw (none, was, is) at hands
hands_within told of_world (order.Container route address threads clients) before after first last status site none was is hands = hands
hands_within told of_world (order.Drill seed threads requests text passes) before after first last status site none was is hands = hands
hands_within told of_world order.Play before after first last status site none was is hands = hands
hands_within told of_world (order.Dry request reply files) before after first last status site none was is hands = hands
hands_within told of_world (order.Config workers map) before after first last status site none was is hands = hands
hands_within told of_world (order.Match workers map verbose) before after first last status site none was is hands = hands
hands_within told of_world order.Check before after first last status site none was is hands = hands
hands_within told of_world (order.Log format request reply workers map) before after first last status site none was is hands = hands
hands_within told of_world order.Follow before after first last status site none was is hands = hands
hands_within told of_world (order.Stop path) before after first last status site none was is hands = hands
hands_within told of_world (order.Demo address) before after first last status site none was is hands = hands

-- an order that asks for workers or threads
pub serves_process : {F O V W G C S Y X Z L : Type 0} (told : CommandTells F O V G C S Y X Z) (world : W → WorldSide G) (asked : Result Order WordsError) (before after : F × O × V) (world_before world_after : W) (ended : EndOf L) (site : Option SiteFound)
    → IfServed asked (λ o. DoesAsked told o before after ended) → IfServed asked (λ o. HandsOnOrder told o before after (status_of ended) site) → told.files before.0 ≡ None
    → command_side told before ≡ command_side (edge (within told.world world)) (0, 0, world_before)
    → command_side told after ≡ command_side (edge (within told.world world)) (told.file_faults after.0, told.output_faults after.1, world_after)
    → IfServed asked (λ o. ServesProcess (within told.world world) o world_before world_after ended site)
serves_process told world (Ok o) before after world_before world_after ended site does hands none was is = λ served. record {
  files = told.file_faults after.0;
  output = told.output_faults after.1;
  does = λ incoming. rw (none, was, is) at (order_within told.world world _ o _ _ ended (does served incoming));
  hands_on = hands_within told (within told.world world) o before after (0, 0, world_before) (told.file_faults after.0, told.output_faults after.1, world_after) (status_of ended) site none was is (hands served);
}
serves_process told world (Err e) before after world_before world_after ended site does hands none was is = does

-- any other order
pub ends_process : {L : Type 0} (asked : Result Order WordsError) (s n : PlainSide) (files input output : ℕ) (ended : EndOf L) (site : Option SiteFound)
    → IfPlain asked (λ o. EndsPlain o s n ended site) → s ≡ plain_edge 0 0 0 → n ≡ plain_edge files input output
    → IfPlain asked (λ o. EndsProcess o ended site)
ends_process (Ok o) s n files input output ended site ends first last = λ plain. record {
  files = files;
  input = input;
  output = output;
  ends = rw (first, last) at (ends plain);
}
ends_process (Err e) s n files input output ended site ends first last = ends
