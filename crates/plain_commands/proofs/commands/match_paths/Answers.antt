use Rattle.std.proofs.Common.{[], ◌∷◌, None, inr}
use Rattle.plain_commands.specs.Plain.{AnswersOrder}
use Rattle.jk_cli.specs.declared.order.Order.TheVariants as order
use Rattle.site_reports.specs.Readings.{CommandOutside, File, Input}
use Rattle.plain_commands.proofs.PlainLemmas.{long_at, match_due, match_ok, stops_early}
use Rattle.plain_commands.proofs.commands.match_paths.Goals as goal

pub returns-in-None-clause-ok : goal.returns-in-None-clause-ok
returns-in-None-clause-ok g c =
    let outside : CommandOutside = record { files = g.F.Files.files c.args.files.now; incoming = g.S.Meanings.incoming c.args.input.now } in
    long_at outside (File c.args.workers.now ∷ File c.args.map.now ∷ Input ∷ []) (AnswersOrder (order.Match c.args.workers.now c.args.map.now c.args.verbose)) c.too_long.result c.too_long.ensures.said
    (stops_early outside (File c.args.workers.now) (File c.args.map.now) (Input ∷ []) (rw c.in-None.is at (c.in_ok-read_pair.ensures.long outside.incoming)))

pub match_input-requires : goal.match_input-requires
match_input-requires g c =
    let read = rw c.in-Some.is at (c.in_ok-read_pair.ensures.there None) in
    record { short = (read.0.1, read.1.0.1) }

pub returns-in-Some-clause-ok : goal.returns-in-Some-clause-ok
returns-in-Some-clause-ok g c =
    let read = rw c.in-Some.is at (c.in_ok-read_pair.ensures.there (g.S.Meanings.incoming c.args.input.now)) in
    match_ok _ _ _ _ _ _ read.0 read.1.0 c.match_input.result c.match_input.ensures.ok

pub returns-in-Some-clause-input : goal.returns-in-Some-clause-input
returns-in-Some-clause-input g c =
    let read = rw c.in-Some.is at (c.in_ok-read_pair.ensures.there (g.S.Meanings.incoming c.args.input.now)) in
    inr (match_due (record { files = g.F.Files.files c.args.files.now; incoming = g.S.Meanings.incoming c.args.input.now }) _ _ c.args.verbose _ _ read.0 read.1.0)
