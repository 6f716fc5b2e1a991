-- Statuses of words that follow others.
use Rattle.std.proofs.Common.{◌≡◌, ℕ, Bool, List, [], ◌∷◌, ◌++◌, Option, Some, None, refl}
use Rattle.site_config.specs.Values.{statuses_after, status_after, status_of}

pub statuses_after-append : (before : Option (List (ℕ × Bool))) (ws more : List (List ℕ)) → statuses_after before (ws ++ more) ≡ statuses_after (statuses_after before ws) more
statuses_after-append None ws more = refl
statuses_after-append (Some before) [] more = refl
statuses_after-append (Some before) (w ∷ ws) more = statuses_after-append (status_after before (status_of w)) ws more

pub statuses_after-none : (ws : List (List ℕ)) → statuses_after None ws ≡ None
statuses_after-none ws = refl
