-- The members of a draft, as lines and as words.
use Rattle.std.proofs.Common.{ℕ, ◌≡◌, List, [], ◌∷◌, map, ◌&&◌, refl, ap}
use Rattle.std.specs.List.{list_all}
use Rattle.play_script.specs.declared.head.MemberLine.{MemberLine}
use Rattle.play_script.specs.Words.{words_of_member}
use Rattle.play_script.specs.Drafts.{leads_to_member, has_targets}

pub all_lead_of : (names : List (List ℕ)) (members : List MemberLine) → has_targets names (map words_of_member members) ≡ list_all (λ m. leads_to_member names (words_of_member m).redirect) members
all_lead_of names [] = refl
all_lead_of names (m ∷ ms) = ap (λ b. leads_to_member names (words_of_member m).redirect && b) (all_lead_of names ms)
