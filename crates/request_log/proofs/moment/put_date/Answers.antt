use Rattle.request_log.proofs.MomentLaws.{day_at, month_at, time_at, year_at}
use Rattle.request_log.proofs.moment.put_date.Goals as goal

pub returns : goal.returns
returns c =
    let date = c.args.date in
    let text = c.to_bytes-text.result in
    let is = c.to_bytes-text.ensures in
    rw (time_at date text is) at (rw (year_at date text is) at (rw (month_at date text is) at (rw (day_at date text is) at c.put_pieces.ensures)))
