use Rattle.std.proofs.Common.{◌≡◌, ℕ, ◌+◌, ◌<◌, List, ap, ◌∙◌, length, arith, refl}
use Rattle.ajp_wire.specs.Names.{headers_bytes}
use Rattle.ajp_request.specs.Parts.{told_by}
use Rattle.ajp_request.specs.Tables.{header_names}
use Rattle.ajp_request.specs.Writing.{attributes_bytes}
use Rattle.ajp_request.proofs.WritingLaws.{length_payload, too_many}
use Rattle.ajp_request.proofs.encoding.payload_len.Goals as goal

pub returns-in_err-attributes-clause-none : goal.returns-in_err-attributes-clause-none
returns-in_err-attributes-clause-none c =
    let f = told_by c.args.parts.now in
    rw c.from_residual-in_err-attributes.ensures (λ fits small.
    too_many f.attributes f.attributes refl c.in_err-attributes.ensures.none fits.attributes
    (omega (arith, length_payload f c.args.code c.requires.coded, small)))

pub returns-clause-value : goal.returns-clause-value
returns-clause-value c =
    let f = told_by c.args.parts.now in
    let headers : c.in_ok-headers.field-0 ≡ length (headers_bytes header_names f.headers) =
    c.in_ok-headers.ensures.value ∙ ap (λ (names : List (List ℕ)). length (headers_bytes names f.headers)) c.header_names.ensures.names in
    let attributes : c.in_ok-attributes.attributes ≡ length (attributes_bytes f.attributes) = c.in_ok-attributes.ensures.value in
    omega (
      arith,
      length_payload f c.args.code c.requires.coded,
      c.in_ok-front.ensures.value,
      headers,
      c.in_ok-method.ensures.value,
      attributes,
    )
