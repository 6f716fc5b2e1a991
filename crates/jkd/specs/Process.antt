-- What the process does over the system's files, input and output, of which nothing is told but how often each failed, and over a
-- world; and how it ends. Read jk_commands' specs/Commands.antt first.
use Rattle.std.specs.Prelude.{ℕ, Option, None}
use Rattle.gear_parts.specs.Worlds.{Tells}
use Rattle.jk_cli.specs.declared.order.Order.{Order}
use Rattle.jk_commands.specs.Commands.{DoesAsked, HandsOnOrder}
use Rattle.jk_commands.specs.Ends.{status_of}
use Rattle.jk_commands.specs.Plain.{EndsPlain}
use Rattle.jk_commands.specs.declared.ends.EndOf.{EndOf}
use Rattle.jk_server.specs.Commands.{CommandTells}
use Rattle.plain_commands.specs.Endings.{PlainSide}
use Rattle.site_reports.specs.declared.found.SiteFound.{SiteFound}

-- The tellings of the system's files and of its output, each by the count of its faults alone, and of a world: a file that is read
-- has some content, and the output takes what it takes.
abbrev pub edge : {W G C S O X Z : Type 0} → Tells W G C S O X Z → CommandTells ℕ ℕ W G C S O X Z
edge told = record { files = λ _. None; file_faults = λ n. n; sent = λ _. None; output_faults = λ n. n; world = told }

-- what a plain command uses, where each failed this often
abbrev pub plain_edge : (files input output : ℕ) → PlainSide
plain_edge files input output = record {
  outside = record { files = None; incoming = None };
  sent = None;
  faults = record { files = files; input = input; output = output };
}

-- An order that asks for workers or threads was done, between the world before and the world after, and this is how it ended and
-- what it hands on of a site. Nothing else had failed before.
pub record ServesProcess {W G C S O X Z L : Type 0} (told : Tells W G C S O X Z) (o : Order) (before after : W) (ended : EndOf L) (site : Option SiteFound) : Type 0 where
  pub files : ℕ
  pub output : ℕ
  pub does : DoesAsked (edge told) o (0, 0, before) (files, output, after) ended
  pub hands_on : HandsOnOrder (edge told) o (0, 0, before) (files, output, after) (status_of ended) site

-- A plain command was done, or an order that is none. Nothing had failed before.
pub record EndsProcess {L : Type 0} (o : Order) (ended : EndOf L) (site : Option SiteFound) : Type 0 where
  pub files : ℕ
  pub input : ℕ
  pub output : ℕ
  pub ends : EndsPlain o (plain_edge 0 0 0) (plain_edge files input output) ended site
