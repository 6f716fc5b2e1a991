-- The desk is back, as the session left it.
use Rattle.std.proofs.Common.{◌≡◌, rules}
use Rattle.jk_server.proofs.client.serve_seated.Goals as goal

pub returns-clause-session : goal.returns-clause-session
returns-clause-session g c =
    let back : c.desk-1.given.0 ≡ c.unwrap-back.result.now = search rules in
    record {
      ran = search rules;
      parts = search rules;
      each = search rules;
      fault = search rules;
      met = search rules;
      kept = search rules;
      ready = search rules;
      idle_only = search rules;
      awaits = rw back (rw c.unwrap-back.ensures at c.serve_lent-end.ensures.session.awaits);
      dials = search rules;
    }
