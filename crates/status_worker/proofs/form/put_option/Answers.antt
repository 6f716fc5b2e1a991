-- The five pieces of an option, one after the other.
use Rattle.std.proofs.Common.{ℕ, List, ◌++◌, codes, ap, ◌∙◌}
use Rattle.std.specs.Str.{bytes_eq}
use Rattle.status_worker.specs.Form.{selected}
use Rattle.status_worker.specs.Words.{activation_letter, activation_word}
use Rattle.status_worker.proofs.PutLaws.{put_five}
use Rattle.status_worker.proofs.form.put_option.Goals as goal

pub returns : goal.returns
returns c =
    put_five c.extend-5.result c.args.out.now c.extend.new.self c.extend-2.new.self c.extend-3.new.self c.extend-4.new.self c.extend-5.new.self
    (codes "<option value='") (activation_letter c.args.to)
    (selected (bytes_eq (activation_letter c.args.row.now.activation) (activation_letter c.args.to)))
    (activation_word c.args.to) (codes "</option>")
    c.in_ok-extend.ensures.ok (c.in_ok-extend-2.ensures.ok ∙ ap (λ (t : List ℕ). c.extend.new.self ++ t) c.activation_letter.ensures)
    (c.in_ok-extend-3.ensures.ok ∙ ap (λ (t : List ℕ). c.extend-2.new.self ++ t) c.selected_for.ensures)
    (c.in_ok-extend-4.ensures.ok ∙ ap (λ (t : List ℕ). c.extend-3.new.self ++ t) c.activation_word.ensures) c.extend-5.ensures.ok
