use Rattle.std.proofs.Common.{◌≡◌, take, map}
use Rattle.play_script.specs.Drafts.{configs_of}
use Rattle.play_script.specs.Words.{words_of_member}
use Rattle.play_script.proofs.draft.configs_of.Given as goal

abbrev pub invariant-loop-member : goal.invariant-loop-member
invariant-loop-member l = l.configs.items ≡ configs_of l.names (map words_of_member (take l.member-index l.members))
