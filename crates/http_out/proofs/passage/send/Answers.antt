use Rattle.std.proofs.Common.{refl, arith, ◌∙◌}
use Rattle.http_out.proofs.PassageLaws.{broken}
use Rattle.http_out.proofs.passage.send.Goals.{in-Ok, in_default-2, in_default}
use Rattle.http_out.proofs.passage.send.Goals as goal

pub returns-in-Err-Failed-clause-sent : goal.returns-in-Err-Failed-clause-sent
returns-in-Err-Failed-clause-sent g c =
    broken c.args.piece.now c.args.passage.now _ _ _ c.write_counted.new.written (omega (arith, c.write_counted.ensures.most))
    (elim c.match-write_counted.branch [
      | in-Ok w ↦ rw w.client-is (w.flush-answer.ensures.same_sent ∙ c.write_counted.ensures.put)
      | in_default-2 w ↦ rw w.client-is c.write_counted.ensures.put
      | in_default w ↦ rw w.client-is c.write_counted.ensures.put
    ]) c.either-passage.ensures refl

pub returns-in-Err-NoMemory-clause-sent : goal.returns-in-Err-NoMemory-clause-sent
returns-in-Err-NoMemory-clause-sent g c =
    broken c.args.piece.now c.args.passage.now _ _ _ c.write_counted.new.written (omega (arith, c.write_counted.ensures.most))
    (elim c.match-write_counted.branch [
      | in-Ok w ↦ rw w.client-is (w.flush-answer.ensures.same_sent ∙ c.write_counted.ensures.put)
      | in_default-2 w ↦ rw w.client-is c.write_counted.ensures.put
      | in_default w ↦ rw w.client-is c.write_counted.ensures.put
    ]) c.either-passage.ensures refl
