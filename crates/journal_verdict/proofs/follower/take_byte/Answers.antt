use Rattle.std.proofs.Common.{ℕ, List, [], ◌∷◌, ◌++◌, sym, subst, subst₂}
use Rattle.journal_verdict.specs.Followed.{IsStoppedText}
use Rattle.journal_verdict.specs.Lines.{RefusesLineAt, Stand, StandTakes}
use Rattle.journal_verdict.specs.Machines.{KnowsAs, Knows}
use Rattle.journal_verdict.specs.declared.known.Known.TheVariants as known
use Rattle.journal_verdict.proofs.CutLaws.{knows_line, knows_stop}
use Rattle.journal_verdict.proofs.EntryLaws.{told_err}
use Rattle.journal_verdict.proofs.follower.take_byte.Goals as goal

pub returns-in_err-take-clause-err : goal.returns-in_err-take-clause-err
returns-in_err-take-clause-err c bytes k =
    let error = c.in_err-take.field-0.0 in
    told_err c.from_residual-in_err-take.result error (IsStoppedText (bytes ++ c.args.byte ∷ [])) c.from_residual-in_err-take.ensures.1
    (subst (λ (b : ℕ). IsStoppedText (bytes ++ b ∷ []) error) (sym c.if-byte-ne10.false)
    (knows_stop c.args.machine.now c.args.number.now c.args.part.now bytes [] error k
    (λ s at. subst (λ (part : List ℕ). RefusesLineAt s c.args.number.now part error) c.as_slice.ensures (c.in_err-take.ensures.err s at))))

pub returns-clause-ok : goal.returns-clause-ok
returns-clause-ok c bytes k =
    subst₂ (λ (part : List ℕ) (b : ℕ). Knows (known.Going c.take.new.self c.in-Some.next) part (bytes ++ b ∷ [])) (sym c.clear.ensures) (sym c.if-byte-ne10.false)
    (knows_line c.args.machine.now c.take.new.self c.args.number.now c.in-Some.next c.args.part.now bytes c.in-Some.ensures.1 k
    (λ s at. subst (λ (part : List ℕ). (t : Stand) × StandTakes s part t × KnowsAs c.take.new.self t) c.as_slice.ensures (c.in_ok-take.ensures.ok s at)))
