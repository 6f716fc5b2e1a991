use Rattle.std.proofs.Common.{◌≡◌, drop}
use Rattle.ajp_container.specs.Request.{has_text}
use Rattle.ajp_container.proofs.request.contains.Given as goal

-- the text stands somewhere from here on, or nowhere
abbrev pub invariant-loop-at : goal.invariant-loop-at
invariant-loop-at l = has_text l.text (drop l.at l.bytes) ≡ has_text l.text l.bytes
