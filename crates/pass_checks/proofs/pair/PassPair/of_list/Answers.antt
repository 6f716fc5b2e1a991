-- Two passes come off the end of their list.
use Rattle.std.proofs.Common.{rules, ◌≡◌, ◌∙◌, ◌∷◌, [], ◌++◌, sym}
use Rattle.pass_checks.proofs.NoteLaws.{first_off, second_off}
use Rattle.pass_checks.proofs.pair.PassPair.of_list.Goals as goal

pub invariant_of-first : goal.invariant_of-first
invariant_of-first g c =
    let last : c.into_vec-list.result.items ≡ c.pop.new.self.items ++ c.in-Some-Some.second ∷ [] = search rules in
    let before : c.pop.new.self.items ≡ c.pop-2.new.self.items ++ c.in-Some-Some.first ∷ [] = search rules in
    record {
      of = c.requires.pair.of;
      unused = (first_off _ _ _ c.args.passes _ _ _ _ c.requires.pair.dealt c.requires.pair.two (sym c.into_vec-list.ensures ∙ last) before).0;
    }

pub invariant_of-second : goal.invariant_of-second
invariant_of-second g c =
    let last : c.into_vec-list.result.items ≡ c.pop.new.self.items ++ c.in-Some-Some.second ∷ [] = search rules in
    record {
      of = c.requires.pair.of;
      unused = (second_off _ _ _ c.args.passes _ _ c.requires.pair.dealt c.requires.pair.two (sym c.into_vec-list.ensures ∙ last)).0;
    }

pub invariant_of-result : goal.invariant_of-result
invariant_of-result g c =
    let last : c.into_vec-list.result.items ≡ c.pop.new.self.items ++ c.in-Some-Some.second ∷ [] = search rules in
    let before : c.pop.new.self.items ≡ c.pop-2.new.self.items ++ c.in-Some-Some.first ∷ [] = search rules in
    record {
      zero = (first_off _ _ _ c.args.passes _ _ _ _ c.requires.pair.dealt c.requires.pair.two (sym c.into_vec-list.ensures ∙ last) before).1;
      one = (second_off _ _ _ c.args.passes _ _ c.requires.pair.dealt c.requires.pair.two (sym c.into_vec-list.ensures ∙ last)).1;
      two = c.requires.pair.two;
    }
