use Rattle.std.proofs.Common.{◌≡◌, true, Err, Ok, ap, arith, inl}
use Rattle.std.specs.Result.{result_err}
use Rattle.site_config.specs.Entries.{as_properties}
use Rattle.site_config.specs.Properties.{read_text}
use Rattle.site_reports.proofs.judging.judge_text.Goals as goal

pub judge_lines-requires : goal.judge_lines-requires
judge_lines-requires c = omega (arith, c.in-Ok.ensures.few, c.as_slice.ensures.len, c.requires)

pub returns-in-Ok : goal.returns-in-Ok
returns-in-Ok c =
    let read : read_text true c.args.text.now ≡ Ok (as_properties c.as_slice.result.now) = rw c.as_slice.ensures.value c.in-Ok.ensures.entries in
    c.judge_lines.ensures c.args.text.now read

pub returns-in-Err-Refused : goal.returns-in-Err-Refused
returns-in-Err-Refused c =
    let bad : read_text true c.args.text.now ≡ Err c.in-Err-Refused.refusal =
    rw c.in-Err-Refused.field-0-is at c.in-Err-Refused.ensures.entries in
    rw c.in-Err-Refused.field-0-is (inl bad, ap result_err bad)
