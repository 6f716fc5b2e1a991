use Rattle.std.proofs.Common.{ℕ, List, [], ◌∷◌, ◌++◌, ◌+◌, drop, take, get_or, refl, subst, ◌∙◌, append_assoc, arith}
use Rattle.std.proofs.lemmas.List.{take_all}
use Rattle.journal_verdict.specs.Followed.{IsStoppedText}
use Rattle.journal_verdict.specs.Machines.{Knows}
use Rattle.journal_verdict.specs.declared.known.Known.TheVariants as known
use Rattle.journal_verdict.proofs.CutLaws.{stopped_more, with_byte, with_rest}
use Rattle.journal_verdict.proofs.EntryLaws.{told_err}
use Rattle.journal_verdict.proofs.follower.follow.Goals as goal

pub take_byte-requires : goal.take_byte-requires
take_byte-requires c =
    (c.requires.0 ++ take c.loop-byte.byte-index c.args.piece.now, c.loop-byte.invariant c.requires.0 c.requires.1)

pub returns-in_err-take_byte-clause-err : goal.returns-in_err-take_byte-clause-err
returns-in_err-take_byte-clause-err c bytes k =
    let i = c.loop-byte.byte-index in
    let byte = get_or c.args.piece.now i 0 in
    let before = bytes ++ take i c.args.piece.now in
    let later = drop (i + 1) c.args.piece.now in
    let error = c.in_err-take_byte.field-0.0 in
    told_err c.from_residual.result error (IsStoppedText (bytes ++ c.args.piece.now)) c.from_residual.ensures.1
    (subst (λ (all : List ℕ). IsStoppedText all error) (append_assoc before (byte ∷ []) later ∙ with_rest bytes c.args.piece.now i byte c.loop-byte-test.true refl)
    (stopped_more (before ++ byte ∷ []) later error (c.in_err-take_byte.ensures.err before (c.loop-byte.invariant bytes k))))

pub loop-byte-preserved : goal.loop-byte-preserved
loop-byte-preserved c bytes k =
    let i = c.loop-byte.byte-index in
    subst (λ (all : List ℕ). Knows (known.Going c.take_byte.new.machine c.take_byte.new.number) c.take_byte.new.part all)
    (with_byte bytes c.args.piece.now i (get_or c.args.piece.now i 0) c.loop-byte-test.true refl)
    (c.in_ok-take_byte.ensures.ok (bytes ++ take i c.args.piece.now) (c.loop-byte.invariant bytes k))

pub returns-clause-ok : goal.returns-clause-ok
returns-clause-ok c bytes k =
    subst (λ (part : List ℕ). Knows (known.Going c.loop-byte.machine c.loop-byte.number) c.loop-byte.part (bytes ++ part))
    (take_all c.loop-byte.byte-index c.args.piece.now (omega (arith, c.loop-byte-test.false))) (c.loop-byte.invariant bytes k)
