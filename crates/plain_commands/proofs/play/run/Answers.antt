use Rattle.std.proofs.Common.{suc, ◌+◌, ◌≡◌, ◌++◌, ◌∷◌, length, sym, subst, ap, arith}
use Rattle.lb_book.specs.Journal.{past_of}
use Rattle.play_script.specs.Play.{Runs}
use Rattle.plain_commands.proofs.TurnLemmas.{goes_on, goes_on_runs, comes_to_end, comes_to_stop}
use Rattle.plain_commands.proofs.play.run.Goals as goal

pub returns-in-Err-Refused : goal.returns-in-Err-Refused
returns-in-Err-Refused c =
    let refuses = rw c.in-Err-Refused.field-0-is at c.in-Err-Refused.ensures.refused in
    comes_to_stop c.args.names.now c.args.book.now c.lines.book c.args.first.number c.args.first.at c.lines.number c.lines.at
    (c.args.line.now ∷ c.args.lines.now) c.lines.line.now c.lines.lines c.args.out.now c.lines.out c.lines.invariant.text
    c.lines.invariant.put c.lines.invariant.runs c.in-Err-Refused.reason c.take_line.new.out c.put_refusal.new.out
    refuses c.in_ok-put_refusal-in-Err-Refused.ensures

pub returns-in-None : goal.returns-in-None
returns-in-None c =
    comes_to_end c.args.names.now c.args.book.now c.lines.book c.args.first.number c.args.first.at c.lines.number c.lines.at
    (c.args.line.now ∷ c.args.lines.now) c.lines.line.now c.lines.lines c.args.out.now c.lines.out c.lines.invariant.text
    c.lines.invariant.put c.lines.invariant.runs c.take_line.new.book c.in-Ok.moment c.take_line.new.out
    c.in-Ok.ensures.ok c.in-None.ensures.0

pub lines-preserved : goal.lines-preserved
lines-preserved c =
    let t = c.in-Ok.ensures.ok in
    let names = c.args.names.now in
    let begun = c.args.line.now ∷ c.args.lines.now in
    let behind : length c.lines.lines ≡ suc (length c.next.new.self) = ap length c.in-Some.ensures in
    record {
      played = t.keeps.played;
      few = omega (arith, c.lines.invariant.few);
      entries = omega (arith, c.lines.invariant.entries, t.keeps.few);
      text = c.lines.invariant.text ++ t.part;
      put = goes_on names c.args.book.now c.lines.book c.args.first.number c.args.first.at c.lines.number c.lines.at begun c.lines.line.now c.lines.lines
          c.args.out.now c.lines.out c.lines.invariant.text c.lines.invariant.put c.lines.invariant.runs
          c.take_line.new.book c.in-Ok.moment c.take_line.new.out t;
      runs = λ rest status h.
          goes_on_runs names c.args.book.now c.lines.book c.args.first.number c.args.first.at c.lines.number c.lines.at begun c.lines.line.now c.lines.lines
          c.args.out.now c.lines.out c.lines.invariant.text c.lines.invariant.put c.lines.invariant.runs
          c.take_line.new.book c.in-Ok.moment c.take_line.new.out t rest status
          (subst (λ ls. Runs names c.take_line.new.book.opening ls (c.lines.number + 1) c.in-Ok.moment (past_of c.take_line.new.book) rest status)
          (sym c.in-Some.ensures) h);
    }
