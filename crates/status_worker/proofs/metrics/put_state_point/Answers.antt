-- The five pieces of the line on a state, one after the other.
use Rattle.std.proofs.Common.{codes}
use Rattle.std.specs.Str.{bytes_eq}
use Rattle.status_worker.specs.Metrics.{label_pair, member_labels, one_if}
use Rattle.status_worker.specs.Words.{state_word}
use Rattle.status_worker.proofs.PutLaws.{put_five}
use Rattle.status_worker.proofs.metrics.put_state_point.Goals as goal

pub returns : goal.returns
returns c =
    put_five c.extend-3.result c.args.out.now c.extend.new.self c.put_member_labels.new.out c.put_pair.new.out c.extend-2.new.self c.extend-3.new.self
    (codes "jkd_member_state") (member_labels c.args.lb.now c.args.row.now) (label_pair (codes ",state") c.args.word.now) (codes "} ")
    (one_if (bytes_eq (state_word c.args.row.now.state) c.args.word.now))
    c.in_ok-extend.ensures.ok c.in_ok-put_member_labels.ensures c.in_ok-put_pair.ensures c.in_ok-extend-2.ensures.ok
    (rw c.state_flag.ensures at c.extend-3.ensures.ok)
