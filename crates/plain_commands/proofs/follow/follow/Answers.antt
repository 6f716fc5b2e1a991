use Rattle.std.proofs.Common.{ℕ, List, [], Result, Ok, Err, IfOk, inr}
use Rattle.jk_io.specs.declared.failures.NoMemory.{NoMemory}
use Rattle.journal_verdict.specs.Followed.{IsStoppedText}
use Rattle.journal_verdict.specs.declared.error.FollowError.{FollowError}
use Rattle.plain_commands.specs.Endings.{status_of}
use Rattle.plain_commands.specs.FollowedTexts.{FollowsText, RefusesText}
use Rattle.plain_commands.specs.declared.play.Output.{Output}
use Rattle.plain_commands.proofs.follow.follow.Goals as goal

-- what is printed of a refusal is of the text
refused_so : (text : List ℕ) (e : FollowError) (result : Result Output NoMemory) → IsStoppedText text e
    → IfOk result (λ o. RefusesText e o.text (status_of o.ending)) → IfOk result (λ o. FollowsText text o.text (status_of o.ending))
refused_so text e (Ok o) stopped says = inr (e, stopped, says)
refused_so text e (Err w) stopped says = tt

pub returns : goal.returns
returns c =
    refused_so c.args.text.now c.in-Err.error c.refused.result (c.in-Err.ensures.said [] c.new-follower.ensures) c.refused.ensures
