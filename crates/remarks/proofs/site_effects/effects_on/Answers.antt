use Rattle.std.proofs.Common.{◌++◌, refl, rules, true}
use Rattle.remarks.specs.Remarks.{effect_words, workers_remarks}
use Rattle.remarks.proofs.AddedLemmas.{adds_then, cause_after, failed, front_more, steady_after}
use Rattle.remarks.proofs.site_effects.effects_on.Goals as goal

pub returns : goal.returns
returns g c = record {
  added =
      let site = c.args.site.now in
      let names = c.args.names.now in
      let first = workers_remarks true names.workers.now site.workers.notes in
      let second = effect_words names.map.now site.notes site.rules in
      adds_then c.put_map_effects.result c.args.out.now.said _ _ first second c.in_ok-put_workers.ensures.added (rw c.as_slice.ensures at c.put_map_effects.ensures.added);
  cause = cause_after c.put_map_effects.result _ _ _ (c.in_ok-put_workers.ensures.steady refl) c.put_map_effects.ensures.cause;
  steady = steady_after c.put_map_effects.result _ _ _ (c.in_ok-put_workers.ensures.steady refl) c.put_map_effects.ensures.steady;
}

pub returns-in_err-put_workers : goal.returns-in_err-put_workers
returns-in_err-put_workers g c = record {
  added =
      let site = c.args.site.now in
      let names = c.args.names.now in
      let first = workers_remarks true names.workers.now site.workers.notes in
      let second = effect_words names.map.now site.notes site.rules in
      failed c.from_residual.result _ c.args.out.now.said c.put_workers.new.out.said (first ++ second) c.from_residual.ensures.1
      (front_more c.args.out.now.said c.put_workers.new.out.said first second c.in_err-put_workers.ensures.added);
  cause = search rules;
  steady = search rules;
}
