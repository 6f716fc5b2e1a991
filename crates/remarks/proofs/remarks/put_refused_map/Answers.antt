use Rattle.std.proofs.Common.{◌++◌, refl, rules}
use Rattle.remarks.specs.Refused.{refused_lines, wrong_rule}
use Rattle.remarks.specs.Remarks.{workers_remarks}
use Rattle.remarks.proofs.AddedLemmas.{adds_then, cause_after, failed, front_more, steady_after}
use Rattle.remarks.proofs.remarks.put_refused_map.Goals as goal

pub returns : goal.returns
returns g c = record {
  added =
      let workers = c.args.refused.now.workers in
      let first = workers_remarks c.args.effects c.args.names.now.workers.now workers.notes in
      let second = refused_lines (wrong_rule workers.config) c.args.names.now.map.now c.args.refused.now.text in
      adds_then c.put_map_refusals.result c.args.out.now.said _ _ first second c.in_ok-put_workers.ensures.added
      (rw c.as_slice.ensures at c.put_map_refusals.ensures.added);
  cause = cause_after c.put_map_refusals.result _ _ _ (c.in_ok-put_workers.ensures.steady refl) c.put_map_refusals.ensures.cause;
  steady = steady_after c.put_map_refusals.result _ _ _ (c.in_ok-put_workers.ensures.steady refl) c.put_map_refusals.ensures.steady;
}

pub returns-in_err-put_workers : goal.returns-in_err-put_workers
returns-in_err-put_workers g c = record {
  added =
      let workers = c.args.refused.now.workers in
      let first = workers_remarks c.args.effects c.args.names.now.workers.now workers.notes in
      let second = refused_lines (wrong_rule workers.config) c.args.names.now.map.now c.args.refused.now.text in
      failed c.from_residual.result _ c.args.out.now.said c.put_workers.new.out.said (first ++ second) c.from_residual.ensures.1
      (front_more c.args.out.now.said c.put_workers.new.out.said first second c.in_err-put_workers.ensures.added);
  cause = search rules;
  steady = search rules;
}
