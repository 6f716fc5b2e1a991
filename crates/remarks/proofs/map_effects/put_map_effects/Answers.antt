use Rattle.std.proofs.Common.{◌++◌, refl, rules}
use Rattle.remarks.specs.MapNotices.{empty_words, map_notices}
use Rattle.remarks.proofs.AddedLemmas.{adds_then, cause_after, failed, front_more, steady_after}
use Rattle.remarks.proofs.map_effects.put_map_effects.Goals as goal

pub returns : goal.returns
returns g c = record {
  added =
      let first = map_notices c.args.file.now c.args.notes.now in
      let second = empty_words c.args.file.now c.args.rules.now in
      adds_then c.put_empty.result c.args.out.now.said _ _ first second c.in_ok-put_notices.ensures.added c.put_empty.ensures.added;
  cause = cause_after c.put_empty.result _ _ _ (c.in_ok-put_notices.ensures.steady refl) c.put_empty.ensures.cause;
  steady = steady_after c.put_empty.result _ _ _ (c.in_ok-put_notices.ensures.steady refl) c.put_empty.ensures.steady;
}

pub returns-in_err-put_notices : goal.returns-in_err-put_notices
returns-in_err-put_notices g c = record {
  added =
      let first = map_notices c.args.file.now c.args.notes.now in
      let second = empty_words c.args.file.now c.args.rules.now in
      failed c.from_residual.result _ c.args.out.now.said c.put_notices.new.out.said (first ++ second) c.from_residual.ensures.1
      (front_more c.args.out.now.said c.put_notices.new.out.said first second c.in_err-put_notices.ensures.added);
  cause = search rules;
  steady = search rules;
}
