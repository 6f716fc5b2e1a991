-- The dial was refused, there is no memory for the note of the talk, or it begins over the new link.
use Rattle.std.proofs.Common.{◌≡◌, ◌∙◌, true, Err, refl}
use Rattle.std.proofs.lemmas.Result.{err_from_is_err_and}
use Rattle.jk_io.specs.Talks.{failed_talk_of}
use Rattle.conn_pool.specs.Begins.{sight_of}
use Rattle.conn_pool.specs.Reaches.{told_begun}
use Rattle.conn_pool.proofs.DialLaws.{noted_dial, refused_dial, unnoted_dial}
use Rattle.conn_pool.proofs.beginning.begin_dialled.Goals as goal

pub returns-in_err-link : goal.returns-in_err-link
returns-in_err-link g c =
    let d = c.dialled.ensures in
    let p = err_from_is_err_and c.from_residual.result c.from_residual.ensures.1 in
    let ends : c.from_residual.result ≡ Err c.in_err-link.field-0.0 = cc (p.1, p.2) in
    let f = refused_dial (g.T.Tape.is_running c.dialled.new.tape) (g.T.Tape.is_idle c.dialled.new.tape) (told_begun c.args.asked.now true)
    (failed_talk_of c.args.asked.now) (g.T.Tape.talks c.args.tape.now)
    (sight_of g.T.Tape.talks g.T.Tape.begun g.T.Tape.sent g.T.Tape.received c.dialled.new.tape) c.args.lent.now c.args.answer c.dialled.result
    c.from_residual.result c.in_err-link.field-0.0 c.in_err-link.was ends d.refused d.failed d.wanted d.empty (c.requires.none, d.idle) in
    record {
      new_link = f.new_link;
      began = f.began;
      refused = f.refused;
      running = f.running;
      idle = f.idle;
      given = f.given;
      fails = f.fails;
    }

pub returns-in_err-begin_new : goal.returns-in_err-begin_new
returns-in_err-begin_new g c =
    let f = unnoted_dial (g.T.Tape.is_running c.begin_new.new.tape) (g.T.Tape.is_idle c.begin_new.new.tape) (told_begun c.args.asked.now true)
    (failed_talk_of c.args.asked.now) (g.T.Tape.talks c.args.tape.now) (g.T.Tape.talks c.dialled.new.tape)
    (sight_of g.T.Tape.talks g.T.Tape.begun g.T.Tape.sent g.T.Tape.received c.begin_new.new.tape) c.begin_new.new.lent c.args.answer
    c.from_residual-in_err-begin_new.result c.from_residual-in_err-begin_new.ensures.1 c.in_ok-link.ensures.ok c.begin_new.ensures.same
    c.begin_new.ensures.empty c.in_err-begin_new.ensures.err in
    record {
      new_link = f.new_link;
      began = f.began;
      refused = f.refused;
      running = f.running;
      idle = f.idle;
      given = f.given;
      fails = f.fails;
    }

pub returns : goal.returns
returns g c =
    let n = c.begin_new.ensures in
    let f = noted_dial (g.T.Tape.is_running c.begin_new.new.tape) (g.T.Tape.is_idle c.begin_new.new.tape) (told_begun c.args.asked.now true)
    (failed_talk_of c.args.asked.now) (g.T.Tape.talks c.args.tape.now) (g.T.Tape.talks c.dialled.new.tape)
    (sight_of g.T.Tape.talks g.T.Tape.begun g.T.Tape.sent g.T.Tape.received c.begin_new.new.tape) c.begin_new.new.lent c.args.answer c.dialled.result
    c.in_ok-link.link refl c.in_ok-link.was (c.in_ok-link.was ∙ c.in_ok-link.ensures.link refl) c.in_ok-link.ensures.ok n.same n.empty c.in_ok-begin_new.ensures.there n.whose n.begins n.new_link
    c.in_ok-begin_new.ensures.running c.in_ok-begin_new.ensures.begun in
    record {
      new_link = f.new_link;
      began = f.began;
      refused = f.refused;
      running = f.running;
      idle = f.idle;
      given = f.given;
      fails = f.fails;
    }
