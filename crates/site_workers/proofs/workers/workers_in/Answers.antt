use Rattle.std.proofs.Common.{◌≡◌, ℕ, true, List, Result, Ok, Err, IfErr, inl, inr}
use Rattle.std.proofs.lemmas.Result.{err_from_is_err_and}
use Rattle.site_config.specs.Entries.{as_properties}
use Rattle.site_config.specs.Properties.{read_text}
use Rattle.site_config.specs.Refusals.{AnswersWorkers, IsRefusal}
use Rattle.site_config.specs.declared.config.Config.{Config}
use Rattle.site_config.specs.declared.error.WorkersError.{WorkersError}
use Rattle.site_config.specs.declared.error.WorkersError.TheVariants as errors
use Rattle.site_config.specs.declared.property.Property.{Property}
use Rattle.site_workers.specs.Site.{IsRefusedText, RefusesWorkers}
use Rattle.site_workers.proofs.workers.workers_in.Goals as goal

-- a line by itself is refused
by_line : (text : List ℕ) (e : WorkersError) → AnswersWorkers {X = List Property} (λ ps. ps) (Err e) (read_text true text) → IsRefusal (IsRefusedText text) e
by_line text (errors.Refused r) h = inl h
by_line text errors.NoMemory h = tt

-- the workers are
by_workers : (text : List ℕ) (ps : List Property) (r : Result Config WorkersError) → read_text true text ≡ Ok ps → IfErr r (IsRefusal (RefusesWorkers ps)) → IfErr r (IsRefusal (IsRefusedText text))
by_workers text ps (Ok c) read stops = tt
by_workers text ps (Err (errors.Refused r)) read stops = inr (ps, read, stops)
by_workers text ps (Err errors.NoMemory) read stops = tt

pub returns-in_err-entries-clause-refused : goal.returns-in_err-entries-clause-refused
returns-in_err-entries-clause-refused c =
    let p = err_from_is_err_and c.from_residual.result c.from_residual.ensures.1 in
    rw (p.1, p.2) (by_line c.args.text.now _ c.in_err-entries.ensures.entries)

pub returns-clause-ok : goal.returns-clause-ok
returns-clause-ok c =
    let read : read_text true c.args.text.now ≡ Ok (as_properties c.as_slice.result.now) = rw c.as_slice.ensures.value c.in_ok-entries.ensures.entries in
    c.configure.ensures.ok c.args.text.now read

pub returns-clause-refused : goal.returns-clause-refused
returns-clause-refused c =
    let read : read_text true c.args.text.now ≡ Ok (as_properties c.as_slice.result.now) = rw c.as_slice.ensures.value c.in_ok-entries.ensures.entries in
    by_workers c.args.text.now (as_properties c.as_slice.result.now) c.configure.result read c.configure.ensures.refused
