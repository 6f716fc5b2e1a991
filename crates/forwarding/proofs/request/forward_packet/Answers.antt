-- The parts are those of the request that is told.
use Rattle.std.proofs.Common.{◌≡◌, ◌∙◌, false, IfOk, OnOk, ap, arith, subst, sym}
use Rattle.ajp_wire.specs.Packet.{packet}
use Rattle.ajp_request.specs.Spelling.{SpellsForward}
use Rattle.ajp_request.specs.Writing.{FitsForward, IsForward, as_read, payload_of}
use Rattle.ajp_request.specs.declared.forward.Forward.{Forward}
use Rattle.forwarding.proofs.ForwardLaws.{forward_is_one, forward_told}
use Rattle.forwarding.proofs.request.forward_packet.Goals as goal

pub encode_parts-requires : goal.encode_parts-requires
encode_parts-requires c =
    let a = c.args in
    let told = forward_told a.head.now a.peer.now.addr a.direct a.member.now a.endpoint.now c.parts_for-parts.result _ _ c.parts_for-parts.ensures c.headers_in-headers.ensures (c.as_slice.ensures ∙ c.in_ok-attributes.ensures) in
    subst (λ (f : Forward). IsForward f) (sym told) (forward_is_one a.head.now a.peer.now.addr a.direct a.member.now a.endpoint.now (omega (arith, ap (λ (f : Forward). f.port) told)) c.trimmed_lines.ensures.few)

pub returns-clause-ok : goal.returns-clause-ok
returns-clause-ok c =
    let a = c.args in
    let told = forward_told a.head.now a.peer.now.addr a.direct a.member.now a.endpoint.now c.parts_for-parts.result _ _ c.parts_for-parts.ensures c.headers_in-headers.ensures (c.as_slice.ensures ∙ c.in_ok-attributes.ensures) in
    subst (λ (f : Forward). IfOk c.encode_parts.result (λ bytes. bytes ≡ packet false (payload_of f))) told c.encode_parts.ensures.ok

pub returns-clause-fits : goal.returns-clause-fits
returns-clause-fits c =
    let a = c.args in
    let told = forward_told a.head.now a.peer.now.addr a.direct a.member.now a.endpoint.now c.parts_for-parts.result _ _ c.parts_for-parts.ensures c.headers_in-headers.ensures (c.as_slice.ensures ∙ c.in_ok-attributes.ensures) in
    subst (λ (f : Forward). OnOk c.encode_parts.result (FitsForward a.endpoint.now.packet f)) told c.encode_parts.ensures.fits

pub returns-clause-spelled : goal.returns-clause-spelled
returns-clause-spelled c =
    let a = c.args in
    let told = forward_told a.head.now a.peer.now.addr a.direct a.member.now a.endpoint.now c.parts_for-parts.result _ _ c.parts_for-parts.ensures c.headers_in-headers.ensures (c.as_slice.ensures ∙ c.in_ok-attributes.ensures) in
    subst (λ (f : Forward). OnOk c.encode_parts.result (SpellsForward (as_read f) (payload_of f))) told c.encode_parts.ensures.spelled

pub returns-clause-too_large : goal.returns-clause-too_large
returns-clause-too_large c =
    let a = c.args in
    let told = forward_told a.head.now a.peer.now.addr a.direct a.member.now a.endpoint.now c.parts_for-parts.result _ _ c.parts_for-parts.ensures c.headers_in-headers.ensures (c.as_slice.ensures ∙ c.in_ok-attributes.ensures) in
    λ is fits. c.encode_parts.ensures.too_large is (subst (λ (f : Forward). FitsForward a.endpoint.now.packet f) (sym told) fits)
