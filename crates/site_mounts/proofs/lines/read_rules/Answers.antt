use Rattle.std.proofs.Common.{◌+◌, sym, ◌∙◌, append_assoc, arith}
use Rattle.jk_io.specs.Decimals.{trimmed}
use Rattle.site_config.specs.Lines.{lines}
use Rattle.site_mounts.specs.Lines.{read_lines, said}
use Rattle.site_mounts.proofs.LineLemmas.{handed_on, read_ended, read_stands, refused_line, with_line}
use Rattle.site_mounts.proofs.NoteLemmas.{noted_ended}
use Rattle.site_mounts.proofs.lines.read_rules.Goals as goal

pub loop-line-preserved : goal.loop-line-preserved
loop-line-preserved c =
    let config = c.args.config.now in
    let number = c.loop-line.number + 1 in
    let read = rw (c.in_ok-workers.ensures, c.trim.ensures) at c.in_ok-push_line.ensures.read in
    let known = rw c.in-Some.ensures.some at c.loop-line.invariant.read in
    let step = with_line c.loop-line.read.rules.items c.push_line.new.out.rules.items (said config number (trimmed c.in-Some.line.now)) (read_lines config (number + 1) (lines c.in-Some.behind.now)) read in
    let added = rw (c.in_ok-workers.ensures, c.trim.ensures) at c.in_ok-push_line.ensures.noted in
    let owed = rw c.in-Some.ensures.some at c.loop-line.invariant.noted in
    record {
      numbers = omega (arith, c.in-Some.ensures.shorter, c.loop-line.invariant.numbers);
      count = omega (arith, c.in_ok-push_line.ensures.count, c.loop-line.invariant.count);
      read = sym step ∙ known;
      noted = rw (added, append_assoc) owed;
    }

pub returns-in_err-push_line-clause-read : goal.returns-in_err-push_line-clause-read
returns-in_err-push_line-clause-read c =
    let config = c.args.config.now in
    let number = c.loop-line.number + 1 in
    let refused = rw (c.in_ok-workers.ensures, c.trim.ensures) at c.in_err-push_line.ensures.read in
    let known = rw c.in-Some.ensures.some at c.loop-line.invariant.read in
    let given = refused_line (λ _. c.push_line.new.out.rules.items) c.loop-line.read.rules.items (said config number (trimmed c.in-Some.line.now)) (read_lines config (number + 1) (lines c.in-Some.behind.now)) c.in_err-push_line.field-0.0 refused in
    handed_on (λ noted. noted.map) c.from_residual-in_err-push_line.result c.in_err-push_line.field-0.0 _ c.from_residual-in_err-push_line.ensures.1 (rw known at given)

pub returns-clause-stands : goal.returns-clause-stands
returns-clause-stands c =
    rw c.from_vec.ensures (read_stands c.args.config.now c.args.text.now c.loop-line.read.rules.items (read_ended c.args.config.now c.loop-line.read.rules.items (c.loop-line.number + 1) c.args.text.now c.loop-line.rest.now c.in_default.ensures.none c.loop-line.invariant.read))

pub returns-clause-read : goal.returns-clause-read
returns-clause-read c =
    rw c.from_vec.ensures (read_ended c.args.config.now c.loop-line.read.rules.items (c.loop-line.number + 1) c.args.text.now c.loop-line.rest.now c.in_default.ensures.none c.loop-line.invariant.read)

pub returns-clause-noted : goal.returns-clause-noted
returns-clause-noted c =
    rw c.from_vec-2.ensures (noted_ended c.args.config.now c.loop-line.read.notes.items (c.loop-line.number + 1) c.args.text.now c.loop-line.rest.now c.in_default.ensures.none c.loop-line.invariant.noted)
