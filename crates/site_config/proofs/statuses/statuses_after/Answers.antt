use Rattle.std.proofs.Common.{◌≡◌, ◌++◌, ℕ, Bool, List, [], sym, ◌∙◌, refl, Some, None, Option}
use Rattle.site_config.specs.Cut.{is_separator}
use Rattle.site_config.specs.Names.{words, word_first}
use Rattle.site_config.specs.Values.{statuses_after}
use Rattle.site_config.proofs.CutLemmas.{cut_shorter}
use Rattle.site_config.proofs.WordLemmas.{words_split, words_one}
use Rattle.site_config.proofs.StatusLemmas.{statuses_after-append}
use Rattle.site_config.proofs.statuses.statuses_after.Goals as goal

-- the statuses of the first word, and then those after it
split : (before : List (ℕ × Bool)) (text front back : List ℕ) (after : Option (List (ℕ × Bool))) → words text ≡ word_first front [] ++ words back → after ≡ statuses_after (Some before) (word_first front []) → statuses_after (Some before) (words text) ≡ statuses_after after (words back)
split before text front back after e h = rw (e, statuses_after-append, h) refl

pub returns-in_err-statuses-in-Some : goal.returns-in_err-statuses-in-Some
returns-in_err-statuses-in-Some c =
    let first = words_split c.loop-word.rest.now c.in-Some.word.now c.in-Some.behind.now (sym c.in-Some.ensures) in
    let none = split c.loop-word.statuses c.loop-word.rest.now c.in-Some.word.now c.in-Some.behind.now None first c.in_err-statuses-in-Some.ensures in
    rw c.from_residual.ensures (sym none ∙ c.loop-word.invariant)

pub loop-word-smaller : goal.loop-word-smaller
loop-word-smaller c =
    cut_shorter is_separator c.loop-word.rest.now c.in-Some.word.now c.in-Some.behind.now (sym c.in-Some.ensures)

pub loop-word-preserved : goal.loop-word-preserved
loop-word-preserved c =
    let first = words_split c.loop-word.rest.now c.in-Some.word.now c.in-Some.behind.now (sym c.in-Some.ensures) in
    let some = split c.loop-word.statuses c.loop-word.rest.now c.in-Some.word.now c.in-Some.behind.now (Some c.in_ok-statuses-in-Some.statuses) first c.in_ok-statuses-in-Some.ensures in
    sym some ∙ c.loop-word.invariant

pub returns-in-None : goal.returns-in-None
returns-in-None c =
    let last = words_one c.loop-word.rest.now (sym c.in-None.ensures) in
    c.word_after-in-None.ensures ∙ rw (← last) c.loop-word.invariant
