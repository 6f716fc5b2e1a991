-- What of a workers.properties is refused: a line by itself, or else the workers that its lines give together.
use Rattle.std.specs.Prelude.{◌≡◌, ℕ, true, List, Option, Some, None}
use Rattle.std.specs.Result.{result_err}
use Rattle.site_config.specs.Properties.{read_text}
use Rattle.site_config.specs.declared.error.PropsRefusal.{PropsRefusal}
use Rattle.site_reports.specs.declared.refused_part.RefusedPart.{RefusedPart}
use Rattle.site_reports.specs.declared.refused_part.RefusedPart.TheVariants as part

-- the refusal of a line by itself, if it is one
abbrev pub line_refusal : RefusedPart → PropsRefusal → Option PropsRefusal
line_refusal part.Line r = Some r
line_refusal part.Workers r = None

-- the lines, each judged by itself, have just this refusal, or none
abbrev pub IsRefusedPart : RefusedPart → (text : List ℕ) → PropsRefusal → Type 0
IsRefusedPart part text r = result_err (read_text true text) ≡ line_refusal part r
