use Rattle.std.proofs.Common.{◌≡◌, ◌∙◌, ℕ, true, List, Result, Ok, Err, IfOk}
use Rattle.site_config.specs.Entries.{as_properties}
use Rattle.site_config.specs.Properties.{read_text}
use Rattle.site_config.specs.declared.config.Config.{Config}
use Rattle.site_config.specs.declared.error.WorkersError.{WorkersError}
use Rattle.site_config.specs.declared.property.Property.{Property}
use Rattle.site_workers.specs.Lists.{firsts, site_list}
use Rattle.site_workers.specs.Site.{Builds, IsConfig, draft_of, ignored_of, maintain_of, no_workers}
use Rattle.site_workers.proofs.workers.configure.Goals as goal

-- what the lines give is what the text gives
config_gives : (text : List ℕ) (ps : List Property) (ignored : List (ℕ × List ℕ)) (r : Result Config WorkersError) → read_text true text ≡ Ok ps → ignored ≡ ignored_of ps
    → IfOk r (λ c. Builds ps (maintain_of ps) (firsts (site_list ps)) no_workers (draft_of c)) → IfOk r (λ c. c.maintain ≡ maintain_of ps) → IfOk r (λ c. c.ignored ≡ ignored)
    → IfOk r (IsConfig text)
config_gives text ps ignored (Ok c) read none workers maintain others =
    record { properties = ps; read = read; maintain = maintain; workers = workers; ignored = others ∙ none }
config_gives text ps ignored (Err e) read none workers maintain others = tt

pub returns-clause-ok : goal.returns-clause-ok
returns-clause-ok c = λ text read.
    config_gives text (as_properties c.args.entries.now) c.in_ok-ignored.ignored c.workers_of.result read c.in_ok-ignored.ensures c.workers_of.ensures.ok c.workers_of.ensures.maintain c.workers_of.ensures.ignored
