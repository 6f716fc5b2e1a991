use Rattle.std.proofs.Common.{length, take, drop, ◌-◌}
use Rattle.std.proofs.lemmas.List.{take_rest}
use Rattle.http_front.proofs.CutLemmas.{whole-made, part-made}
use Rattle.http_front.proofs.reading.look_at.Goals as goal

pub returns-in-Ends : goal.returns-in-Ends
returns-in-Ends c =
    let bytes = c.args.bytes.now in
    let begin = c.skip_empty_lines-begin in
    whole-made bytes (take (length bytes - begin.result) (drop begin.result bytes)) begin.result c.in-Ends.len (take_rest bytes begin.result) begin.ensures.within.1 begin.ensures.skipped begin.ensures.stops c.in-Ends.ensures

pub returns-in-Open : goal.returns-in-Open
returns-in-Open c =
    let bytes = c.args.bytes.now in
    let begin = c.skip_empty_lines-begin in
    part-made bytes (take (length bytes - begin.result) (drop begin.result bytes)) begin.result c.in-Open.at (take_rest bytes begin.result) begin.ensures.within.1 begin.ensures.skipped begin.ensures.stops c.in-Open.ensures
