-- Rows that a gear's log gains one after another are gained together, and it breaks by a fault just where the faults rose.
use Rattle.std.proofs.Common.{◌≡◌, List, [], ◌++◌, Option, Some, None, inl, inr, refl, sym, ◌∙◌}
use Rattle.std.specs.Prelude.{IsSome}
use Rattle.jk_io.specs.declared.failures.IoError.{IoError}
use Rattle.jk_io.specs.declared.failures.IoError.TheVariants as io
use Rattle.jk_io.specs.declared.traits.streams.Meanings.{Ghosts}
use Rattle.lb_model.specs.declared.served.Served.{Served}
use Rattle.request_log.specs.LogRules.{gains_nothing, gains_on, is_some}
use Rattle.request_log.specs.LogStates.{GainsRows, LogState}
use Rattle.gear_parts.specs.GearLogs.{broken_by, LogGains, log_faults}
use Rattle.gear_parts.specs.Logs.{BreaksCalmly, BreaksLoudly}

pub nothing_gained : {O X : Type 0} (told : Ghosts O X) (s : Option (LogState O)) → LogGains told s [] s
nothing_gained told None = tt
nothing_gained told (Some s) = gains_nothing told s

pub gained_on : {O X : Type 0} (told : Ghosts O X) (s t u : Option (LogState O)) (xs ys : List Served) → LogGains told s xs t → LogGains told t ys u → LogGains told s (xs ++ ys) u
gained_on told None None None xs ys first then = tt
gained_on told None None (Some u) xs ys first then = absurd then
gained_on told None (Some t) u xs ys first then = absurd first
gained_on told (Some s) None u xs ys first then = absurd first
gained_on told (Some s) (Some t) None xs ys first then = absurd then
gained_on told (Some s) (Some t) (Some u) xs ys first then = gains_on told s t u xs ys first then

-- a log that wasn't broken, or was
breaks_by : {O X : Type 0} (told : Ghosts O X) (s t : LogState O) (rows : List Served) (was : Option IoError) → s.broken ≡ was → GainsRows told s rows t
    → BreaksLoudly was t.broken (told.faults s.sink) (told.faults t.sink)
breaks_by told s t rows None is gains failed = inr (gains.failed is failed)
breaks_by told s t rows (Some error) is gains failed = inl (sym is ∙ sym (gains.over (is_some is)).0 ∙ failed)

pub breaks_loudly : {O X : Type 0} (told : Ghosts O X) (s t : Option (LogState O)) (rows : List Served) → LogGains told s rows t
    → BreaksLoudly (broken_by s) (broken_by t) (log_faults told.faults s) (log_faults told.faults t)
breaks_loudly told None None rows gains failed = absurd cc
breaks_loudly told None (Some t) rows gains failed = absurd gains
breaks_loudly told (Some s) None rows gains failed = absurd gains
breaks_loudly told (Some s) (Some t) rows gains failed = breaks_by told s t rows s.broken refl gains failed

calm_by : {O X : Type 0} (told : Ghosts O X) (s t : LogState O) (rows : List Served) (was : Option IoError) → s.broken ≡ was → GainsRows told s rows t
    → BreaksCalmly t.broken (told.faults s.sink) (told.faults t.sink)
calm_by told s t rows None is gains sound = gains.calm is sound
calm_by told s t rows (Some error) is gains sound = (gains.over (is_some is)).2

pub breaks_calmly : {O X : Type 0} (told : Ghosts O X) (s t : Option (LogState O)) (rows : List Served) → LogGains told s rows t
    → BreaksCalmly (broken_by t) (log_faults told.faults s) (log_faults told.faults t)
breaks_calmly told None None rows gains sound = refl
breaks_calmly told None (Some t) rows gains sound = absurd gains
breaks_calmly told (Some s) None rows gains sound = absurd gains
breaks_calmly told (Some s) (Some t) rows gains sound = calm_by told s t rows s.broken refl gains sound
