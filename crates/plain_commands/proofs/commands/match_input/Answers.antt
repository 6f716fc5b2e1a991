use Rattle.std.proofs.Common.{[], ◌∷◌, inl}
use Rattle.plain_commands.specs.Plain.{MatchesRead}
use Rattle.site_reports.specs.Found.{FindsSite}
use Rattle.site_reports.specs.Readings.{Input}
use Rattle.site_reports.specs.Reports.{ReportsMatches}
use Rattle.plain_commands.proofs.PlainLemmas.{just_kept, long_ok, printed_ok, read_ok}
use Rattle.plain_commands.proofs.commands.match_input.Goals as goal

pub returns-in-None-clause-ok : goal.returns-in-None-clause-ok
returns-in-None-clause-ok g c =
    long_ok (λ files. record { files = files; incoming = g.S.Meanings.incoming c.args.input.now }) (Input ∷ []) (MatchesRead c.args.workers c.args.map c.args.verbose) c.too_long.result c.too_long.ensures.said
    (λ files. inl (rw c.in-None.is at c.in_ok-read_input.ensures.long))

pub returns-in-None-clause-cause : goal.returns-in-None-clause-cause
returns-in-None-clause-cause g c = just_kept _ _ _ _ c.in_ok-read_input.ensures.cause c.too_long.ensures.failed

pub returns-in-Some-clause-ok : goal.returns-in-Some-clause-ok
returns-in-Some-clause-ok g c =
    read_ok (λ files. record { files = files; incoming = g.S.Meanings.incoming c.args.input.now }) (Input ∷ []) (c.in-Some.paths ∷ []) (MatchesRead c.args.workers c.args.map c.args.verbose) c.printed.result
    (λ files. ((rw c.in-Some.is at c.in_ok-read_input.ensures.there, rw c.in-Some.is at c.in_ok-read_input.ensures.short), tt))
    (printed_ok (FindsSite c.args.workers c.args.map) (ReportsMatches c.args.workers c.args.map c.in-Some.paths c.args.verbose) c.report_matches.result c.printed.result
    c.report_matches.ensures.found (rw c.as_slice.ensures at c.report_matches.ensures.text) c.printed.ensures.ok)

pub returns-in-Some-clause-cause : goal.returns-in-Some-clause-cause
returns-in-Some-clause-cause g c = just_kept _ _ _ _ c.in_ok-read_input.ensures.cause c.printed.ensures.failed
