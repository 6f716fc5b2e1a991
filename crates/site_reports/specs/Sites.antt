-- The site of two files, and what they are judged to be.
use Rattle.std.specs.Prelude.{◌≡◌, ℕ, true, List, [], ◌∷◌, Option, Some, None, IsSomeAnd}
use Rattle.site_reports.specs.Readings.{CommandOutside, File, AreRead, StopsLong}
use Rattle.site_reports.specs.Found.{FindsSite, is_refused}
use Rattle.site_reports.specs.declared.found.SiteFound.{SiteFound}
use Rattle.site_reports.specs.declared.found.SiteFound.TheVariants as found
use Rattle.site_reports.specs.declared.reading.Judged.{Judged}
use Rattle.site_reports.specs.declared.reading.Judged.TheVariants as judged

-- What the files WORKERS and MAP are found to be: each is read whole before one is judged, and these texts give just what is found.
pub record AreFound (outside : CommandOutside) (workers map : List ℕ) (f : SiteFound) : Type 0 where
  pub workers_text : List ℕ
  pub map_text : List ℕ
  pub read : AreRead outside (File workers ∷ File map ∷ []) (workers_text ∷ map_text ∷ [])
  pub finds : FindsSite workers_text map_text f

-- the files of these names are refused by what is found of both, or one is too long to be judged
abbrev pub IsFoundRefused : CommandOutside → (workers map : List ℕ) → Option SiteFound → Type 0
IsFoundRefused outside workers map None = StopsLong outside (File workers ∷ File map ∷ [])
IsFoundRefused outside workers map (Some f) = AreFound outside workers map f × (is_refused f ≡ true)

-- two texts that were read
abbrev pub Judges : (workers map : List ℕ) → Judged → Type 0
Judges workers map (judged.Site site) = FindsSite workers map (found.Site site)
Judges workers map (judged.Refused f) = IsSomeAnd f (λ f. FindsSite workers map f × (is_refused f ≡ true))

-- the files of these names
abbrev pub IsJudgedSite : CommandOutside → (workers map : List ℕ) → Judged → Type 0
IsJudgedSite outside workers map (judged.Site site) = AreFound outside workers map (found.Site site)
IsJudgedSite outside workers map (judged.Refused f) = IsFoundRefused outside workers map f
