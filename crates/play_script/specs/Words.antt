-- A line of the balancer in words, without where its names lie in memory.
use Rattle.std.specs.Prelude.{ℕ, List}
use Rattle.std.specs.Option.{option_copied}
use Rattle.play_script.specs.declared.head.MemberLine.{MemberLine}
use Rattle.play_script.specs.declared.head.ScriptHead as source
use Rattle.play_script.specs.declared.head.ScriptHead.TheVariants as given
use Rattle.play_script.specs.Heads.{MemberWords, HeadWords, At, Rule, Member}

abbrev pub words_of_member : MemberLine → MemberWords
words_of_member m = record {
  name = m.name.now;
  factor = m.factor;
  activation = m.activation;
  distance = m.distance;
  redirect = option_copied m.redirect;
  pool = m.pool;
}

abbrev pub words_of_head : source.ScriptHead → HeadWords
words_of_head (given.At n) = At n
words_of_head (given.Rule r) = Rule r
words_of_head (given.Member m) = Member (words_of_member m)
