use Rattle.std.proofs.Common.{◌≡◌, sym, ◌∙◌}
use Rattle.std.specs.Prelude.{◌==◌, ◌&&◌}
use Rattle.std.specs.List.{list_any}
use Rattle.lb_model.proofs.validity.is_opening_state.Goals as goal

pub returns-in-Probe : goal.returns-in-Probe
returns-in-Probe c =
    let same : c.is_out_on.result ≡ list_any (λ x. (x.0 == c.in-Probe.ticket) && (x.1 == c.args.member)) c.args.opening.now.out =
    rw c.as_slice.ensures at c.is_out_on.ensures.value in
    record { value = rw c.in-Probe.is (λ h. sym same ∙ h, λ h. same ∙ h) }
