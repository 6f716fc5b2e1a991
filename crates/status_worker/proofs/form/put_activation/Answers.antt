-- The three options between the field's ends.
use Rattle.std.proofs.Common.{codes}
use Rattle.lb_model.specs.declared.member.Activation.TheVariants as activation
use Rattle.status_worker.specs.Form.{activation_option}
use Rattle.status_worker.proofs.PutLaws.{put_five}
use Rattle.status_worker.proofs.form.put_activation.Goals as goal

pub returns : goal.returns
returns c =
    put_five c.extend-2.result c.args.out.now c.extend.new.self c.put_option.new.out c.put_option-2.new.out c.put_option-3.new.out c.extend-2.new.self
    (codes "<label>Activation <select name='vwa'>") (activation_option c.args.row.now activation.Active)
    (activation_option c.args.row.now activation.Disabled) (activation_option c.args.row.now activation.Stopped) (codes "</select></label> ")
    c.in_ok-extend.ensures.ok c.in_ok-put_option.ensures c.in_ok-put_option-2.ensures c.in_ok-put_option-3.ensures c.extend-2.ensures.ok
