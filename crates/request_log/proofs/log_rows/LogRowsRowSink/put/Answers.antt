use Rattle.std.proofs.Common.{refl, sym, ◌∙◌}
use Rattle.request_log.specs.declared.seen.Seen.{Seen}
use Rattle.request_log.proofs.LogLaws.{breaks_row, is_none, puts_row}
use Rattle.request_log.proofs.log_rows.LogRowsRowSink.put.Goals as goal

pub returns-in-Err : goal.returns-in-Err
returns-in-Err g c =
    let seen : Seen = record { addr = c.self.inside.seen.addr; at = c.self.inside.seen.at; took = c.between-self-inside.result } in
    let none = is_none c.self.inside.broken (sym c.is_some.ensures ∙ c.if-is_some.false) in
    rw (← c.self.view_is) (breaks_row g.G.Meanings _ _ c.args.row seen c.in-Err.error none refl refl refl refl c.in-Err.ensures.front c.in-Err.ensures.cause)

pub returns : goal.returns
returns g c =
    let seen : Seen = record { addr = c.self.inside.seen.addr; at = c.self.inside.seen.at; took = c.between-self-inside.result } in
    let none = is_none c.self.inside.broken (sym c.is_some.ensures ∙ c.if-is_some.false) in
    rw (← c.self.view_is) (puts_row g.G.Meanings _ _ c.args.row seen none refl refl refl refl c.in_default.ensures.put (c.in_default.ensures.steady refl))
