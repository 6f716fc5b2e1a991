use Rattle.std.proofs.Common.{◌≡◌, false, map, inl, inr, sym, ◌∙◌}
use Rattle.play_script.specs.Drafts.{has_targets}
use Rattle.play_script.specs.Words.{words_of_member}
use Rattle.play_script.proofs.draft.Draft.config.Goals as goal

pub returns-in-Err-clause-refused : goal.returns-in-Err-clause-refused
returns-in-Err-clause-refused c = λ _.
    rw (← c.self.view_is) (inr (
      c.in-Err.field-0,
      rw (c.in_ok-configs.ensures, c.as_slice-members.ensures.value, c.self.invariant) at c.in-Err.ensures.refused,
    ))

pub returns-then-not-has_targets-clause-refused : goal.returns-then-not-has_targets-clause-refused
returns-then-not-has_targets-clause-refused c = λ _.
    let none : has_targets c.self.inside.names (map words_of_member c.as_slice-members.result.now) ≡ false = sym c.has_targets.ensures ∙ c.if-not-has_targets.true in
    rw (← c.self.view_is) (inl (rw (c.as_slice-members.ensures.value, c.self.invariant) at none))
