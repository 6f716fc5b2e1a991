use Rattle.std.proofs.Common.{◌≡◌, ◌==◌, ◌+◌, ◌-◌, length, take, drop, arith}
use Rattle.std.proofs.lemmas.Grind.{common_steps}
use Rattle.play_script.proofs.PartsLemmas.{slice_split_whole, slice_split_cut}
use Rattle.play_script.proofs.parts.cut.Goals as goal

pub returns-in-None : goal.returns-in-None
returns-in-None c = slice_split_whole (λ b. b == c.args.byte) c.args.text.now cc

pub returns-in-Some : goal.returns-in-Some
returns-in-Some c =
    let text = c.args.text.now in
    let rest : take (length text - (c.in-Some.at + 1)) (drop (c.in-Some.at + 1) text) ≡ drop (c.in-Some.at + 1) text = grind (arith, common_steps) in
    rw rest (slice_split_cut (λ b. b == c.args.byte) text c.in-Some.at cc)
