-- The copied bytes are the next ones of the wire.
use Rattle.std.proofs.Common.{List, ℕ, ◌++◌, take, Some, ap, sym, ◌∙◌}
use Rattle.jk_io.proofs.PieceLaws.{gave_front, got_front}
use Rattle.drill.specs.Wires.{WireState}
use Rattle.drill.proofs.wire.WireSource.read.Goals as goal

pub returns-clause-gave : goal.returns-clause-gave
returns-clause-gave c =
    ap (λ (bytes : List ℕ). Some bytes)
    (sym (ap (λ (w : WireState). w.coming) c.self.view_is)
    ∙ gave_front _ _ c.copy_front-n.new.buf c.self.inside.done c.copy_front-n.result c.as_slice.ensures c.copy_front-n.ensures.copied)

pub returns-clause-got : goal.returns-clause-got
returns-clause-got c =
    ap (λ (bytes : List ℕ). Some bytes)
    (got_front _ _ c.copy_front-n.new.buf c.self.inside.done c.copy_front-n.result c.as_slice.ensures c.copy_front-n.ensures.copied
    ∙ ap (λ (w : WireState). w.done ++ take c.copy_front-n.result c.copy_front-n.new.buf) c.self.view_is)
