-- A plain command, by the status of its end and the site that it judged.
use Rattle.std.specs.Prelude.{◌≡◌, ℕ, Option}
use Rattle.jk_cli.specs.declared.order.Order.{Order}
use Rattle.plain_commands.specs.Endings.{number_of, EndsSo, PlainSide}
use Rattle.plain_commands.specs.declared.plain.PlainEnd.{PlainEnd}
use Rattle.site_reports.specs.declared.found.SiteFound.{SiteFound}
use Rattle.jk_commands.specs.declared.ends.EndOf.{EndOf}
use Rattle.jk_commands.specs.declared.ends.EndOf.TheVariants as end

-- An order that asks for no workers, by an end of a plain command that has this status, and the site that it hands on.
pub record RunsPlain (command : Order) (s n : PlainSide) (status : ℕ) (site : Option SiteFound) : Type 0 where
  pub by : PlainEnd
  pub numbered : status ≡ number_of by
  pub said : EndsSo command s n site by

-- A command ends with a status, and hands a site on, of which `RunsPlain` holds.
abbrev pub EndsPlain : {L : Type 0} → (command : Order) → (s n : PlainSide) → EndOf L → Option SiteFound → Type 0
EndsPlain command s n ended site = (status : ℕ) × (ended ≡ end.Status status) × RunsPlain command s n status site
