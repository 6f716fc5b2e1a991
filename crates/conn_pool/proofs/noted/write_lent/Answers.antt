-- The write of the talk's link, noted: there is no memory for it, it is refused, or it is done.
use Rattle.std.proofs.Common.{◌≡◌, ◌∙◌, ℕ, List, Ok, Err, refl, ap, take}
use Rattle.std.specs.Prelude.{Option}
use Rattle.std.proofs.lemmas.Result.{err_from_is_err_and}
use Rattle.jk_io.specs.Told.{appended}
use Rattle.conn_pool.proofs.NotedLaws.{write_done, write_refused, unwritten}
use Rattle.conn_pool.proofs.noted.write_lent.Goals as goal

pub returns-in_err-room : goal.returns-in_err-room
returns-in_err-room g c =
    let room = c.room.ensures in
    let noted = unwritten c.args.lent.now (g.T.Tape.sent c.args.tape.now) (g.T.Tape.sent c.room.new.self) c.args.failed.now c.args.piece.now c.from_residual.result
    room.same.2 c.from_residual.ensures.1 in
    record {
      noted = noted;
      same = (room.same.0, room.same.1, room.same.3);
      running = room.running;
    }

pub returns-in_err-n : goal.returns-in_err-n
returns-in_err-n g c =
    let room = c.room.ensures in
    let e = c.write.ensures in
    let told = c.counted.ensures in
    let p = err_from_is_err_and c.from_residual-in_err-n.result c.from_residual-in_err-n.ensures.1 in
    let ends : c.from_residual-in_err-n.result ≡ Err c.in_err-n.field-0.0 = cc (p.1, p.2) in
    let noted = write_refused c.args.lent.now c.write.new.self (g.T.Tape.sent c.args.tape.now) (g.T.Tape.sent c.room.new.self) c.args.failed.now c.counted.new.failed
    c.args.piece.now c.write.result c.counted.result c.from_residual-in_err-n.result c.in_err-n.field-0.0 told.same e.count e.link e.marks told.cause told.steady
    c.in_err-n.was ends room.same.2 in
    record {
      noted = noted;
      same = (room.same.0, room.same.1, room.same.3);
      running = room.running;
    }

pub returns : goal.returns
returns g c =
    let room = c.room.ensures in
    let e = c.write.ensures in
    let told = c.counted.ensures in
    let note = c.sent.ensures in
    let noted = write_done c.args.lent.now c.write.new.self (g.T.Tape.sent c.args.tape.now) (g.T.Tape.sent c.sent.new.self) c.args.failed.now c.counted.new.failed
    c.args.piece.now c.write.result c.counted.result (Ok c.in_ok-n.n) c.in_ok-n.n told.same e.count e.link e.marks told.cause told.steady
    c.in_ok-n.was refl (note.added ∙ ap (λ (r : Option (List ℕ)). appended r (take c.in_ok-n.n c.args.piece.now)) room.same.2) in
    record {
      noted = noted;
      same = (note.same.0 ∙ room.same.0, note.same.1 ∙ room.same.1, note.same.2 ∙ room.same.3);
      running = note.running;
    }
