use Rattle.std.proofs.Common.{◌≡◌, [], unwrap_or, sym, ap, rules, ◌∙◌}
use Rattle.std.specs.Option.{option_copied}
use Rattle.status_worker.specs.Fields.{fields_of}
use Rattle.status_worker.specs.Meaning.{command_in, meaning_of}
use Rattle.status_worker.specs.Values.{◌>>=◌}
use Rattle.status_worker.proofs.meaning.read_command.Goals as goal

pub returns-clause-ok : goal.returns-clause-ok
returns-clause-ok c =
    let bytes : c.unwrap_or.result.now ≡ unwrap_or (option_copied c.args.query) [] = search rules in
    let means : meaning_of (option_copied c.args.query) ≡ command_in c.as_slice.result.now =
    ap (λ text. fields_of text >>= command_in) (sym bytes) ∙ ap (λ fields. fields >>= command_in) c.in_ok-fields.ensures.ok ∙ ap command_in (sym c.as_slice.ensures) in
    rw means c.command_in.ensures.ok
