-- The judgement of a workers.properties alone, of this text.
use Rattle.std.specs.Prelude.{ℕ, List}
use Rattle.site_config.specs.declared.error.PropsRefusal.{PropsRefusal}
use Rattle.site_workers.specs.Site.{IsConfig, IsRefusedText}
use Rattle.site_reports.specs.Notes.{AreNotes}
use Rattle.site_reports.specs.RefusedParts.{IsRefusedPart}
use Rattle.site_reports.specs.declared.judging.Judgement.{Judgement}
use Rattle.site_reports.specs.declared.judging.Judgement.TheVariants as judgement
use Rattle.site_reports.specs.declared.refused_part.RefusedPart.{RefusedPart}

-- refused for this, and this of it
abbrev pub IsRefusedAs : (text : List ℕ) → RefusedPart → PropsRefusal → Type 0
IsRefusedAs text part r = IsRefusedText text r × IsRefusedPart part text r

abbrev pub IsJudgement : (text : List ℕ) → Judgement → Type 0
IsJudgement text (judgement.Accepted config notes) = IsConfig text config × AreNotes text config notes
IsJudgement text (judgement.Refused refusal part) = IsRefusedAs text part refusal
