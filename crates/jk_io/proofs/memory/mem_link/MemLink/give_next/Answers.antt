-- The copied bytes are the next ones of the link.
use Rattle.std.proofs.Common.{◌++◌, take, ap, sym, ◌∙◌}
use Rattle.jk_io.specs.Memory.{MemLinkState}
use Rattle.jk_io.proofs.PieceLaws.{gave_front, got_front}
use Rattle.jk_io.proofs.memory.mem_link.MemLink.give_next.Goals as goal

pub returns-then-n-gt0-clause-gave : goal.returns-then-n-gt0-clause-gave
returns-then-n-gt0-clause-gave c =
    sym (ap (λ (l : MemLinkState). l.incoming) c.self.view_is)
    ∙ gave_front _ _ c.copy_front-n.new.buf c.self.inside.at c.copy_front-n.result c.as_slice.ensures c.copy_front-n.ensures.copied

pub returns-then-n-gt0-clause-got : goal.returns-then-n-gt0-clause-got
returns-then-n-gt0-clause-got c =
    got_front _ _ c.copy_front-n.new.buf c.self.inside.at c.copy_front-n.result c.as_slice.ensures c.copy_front-n.ensures.copied
    ∙ ap (λ (l : MemLinkState). l.received ++ take c.copy_front-n.result c.copy_front-n.new.buf) c.self.view_is
