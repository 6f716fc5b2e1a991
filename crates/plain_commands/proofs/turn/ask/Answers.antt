use Rattle.std.proofs.Common.{◌≡◌, ◌++◌, [], refl, rules}
use Rattle.plain_commands.proofs.TurnLemmas.{maintained_asks}
use Rattle.plain_commands.proofs.turn.ask.Goals as goal

pub returns-in-Ok-clause-ok : goal.returns-in-Ok-clause-ok
returns-in-Ok-clause-ok c =
    let a = c.in-Ok.ensures.ok in
    let put : c.args.out.now ≡ c.args.out.now ++ [] = search rules in
    rw c.in-Return.is (record { part = []; asks = (a.entry, a.adds, refl, a.past); put = put; keeps = a.keeps })

pub returns-in_ok-maintain-in-Maintain-clause-ok :
    goal.returns-in_ok-maintain-in-Maintain-clause-ok
returns-in_ok-maintain-in-Maintain-clause-ok c =
    rw c.in-Maintain.is (maintained_asks c.args.names.now c.args.book.now c.maintain.new.book c.args.at c.args.out.now c.requires.played
    c.in_ok-maintain-in-Maintain.ensures)
