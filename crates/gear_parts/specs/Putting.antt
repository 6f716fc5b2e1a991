-- One more item of a list.
use Rattle.std.specs.Prelude.{◌≡◌, List, [], ◌∷◌, ◌++◌}

-- An item of this kind was put at the end.
pub record PutsOne {C : Type 0} (Is : C → Type 0) (before after : List C) : Type 0 where
  pub item : C
  pub added : after ≡ before ++ item ∷ []
  pub is : Is item
