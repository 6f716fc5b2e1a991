use Rattle.std.proofs.Common.{◌≡◌, ℕ, List, ◌∷◌, None, Ok, Err, length, sym, ap, subst, ◌∙◌, ◌==◌, arith}
use Rattle.std.specs.Prelude.{Result, IsErrAnd}
use Rattle.std.proofs.lemmas.List.Splits.{length-slice_split}
use Rattle.play_script.specs.Parts.{parts_of}
use Rattle.journal_text.specs.Reading.{TextOutcome, ReadsLines, ReadsText, RefusesTextLine, TellsOutcome, at_start, unreadable}
use Rattle.journal_text.specs.declared.counted.Counted.{Counted}
use Rattle.journal_text.specs.declared.reader.Reader.{Reader}
use Rattle.journal_text.specs.declared.text_error.TextError.{TextError}
use Rattle.journal_text.specs.declared.text_error.TextError.TheVariants as error
use Rattle.journal_text.proofs.reading.read_counted.Goals as goal

-- a line that isn't taken is where the text can't be read
refused_tells : (r : Reader) (number : ℕ) (text next : List ℕ) (lines : List (List ℕ)) (e : TextError) (whole : List ℕ) → RefusesTextLine r number text e
    → ((o : TextOutcome) → ReadsLines r number (text ∷ next ∷ lines) o → ReadsText whole o) → TellsOutcome (Err e) (ReadsText whole)
refused_tells r number text next lines (error.Unreadable line) whole is reads = reads (unreadable line) (None, is.1, ap unreadable is.0)
refused_tells r number text next lines error.NoMemory whole is reads = tt

tells_error : (r : Result (List Counted) TextError) (only : TextError) (Says : TextOutcome → Type 0) → IsErrAnd r (λ e. e ≡ only) → TellsOutcome (Err only) Says → TellsOutcome r Says
tells_error (Ok x) only Says is told = absurd is
tells_error (Err e) only Says is told = subst (λ (x : TextError). TellsOutcome (Err x) Says) (sym is) told

-- a text has a part
pub returns-in-None : goal.returns-in-None
returns-in-None c =
    let none : length (parts_of 10 c.args.text.now) ≡ 0 = ap length (sym c.of-lines.ensures.value ∙ c.in-None.ensures.0) in
    absurd (omega (arith, none, length-slice_split (λ b. b == 10) c.args.text.now))

pub lines-init : goal.lines-init
lines-init c =
    let parts : parts_of 10 c.args.text.now ≡ c.in-Some.first.now ∷ c.next.new.self = sym c.of-lines.ensures.value ∙ c.in-Some.ensures in
    record {
      few = omega (arith, c.of-lines.ensures.few, ap length c.in-Some.ensures, c.requires);
      room = rw c.new-reader.ensures (omega arith);
      reads = λ o h. subst (λ ps. ReadsLines at_start 1 ps o) (sym parts)
          (subst (λ (r : Reader). ReadsLines r 1 (c.in-Some.first.now ∷ c.next.new.self) o) c.new-reader.ensures h);
    }

pub returns-in_err-reader : goal.returns-in_err-reader
returns-in_err-reader c =
    tells_error c.from_residual.result c.in_err-reader.field-0.0 _ c.from_residual.ensures.1
    (refused_tells c.lines.reader c.lines.number c.lines.line.now c.in-Some-next.next.now c.next-in-lines.new.self c.in_err-reader.field-0.0 c.args.text.now
    c.in_err-reader.ensures.err
    (subst (λ (ps : List (List ℕ)). (o : TextOutcome) → ReadsLines c.lines.reader c.lines.number (c.lines.line.now ∷ ps) o → ReadsText c.args.text.now o)
    c.in-Some-next.ensures c.lines.invariant.reads))
