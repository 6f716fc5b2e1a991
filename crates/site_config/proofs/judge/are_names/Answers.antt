use Rattle.std.proofs.Common.{◌≡◌, ◌&&◌, ◌++◌, ℕ, Bool, true, false, List, [], sym, ◌∙◌, refl}
use Rattle.std.proofs.lemmas.List.Folds.{list_all-append}
use Rattle.std.specs.List.{list_all}
use Rattle.site_config.specs.Cut.{is_separator}
use Rattle.site_config.specs.Names.{words, word_first, is_name}
use Rattle.site_config.specs.Properties.{are_names}
use Rattle.site_config.proofs.CutLemmas.{cut_shorter}
use Rattle.site_config.proofs.WordLemmas.{words_split, words_one}
use Rattle.site_config.proofs.judge.are_names.Goals as goal

-- a list is of names where its first word and those after it are
split : (text front back : List ℕ) (good : Bool) → words text ≡ word_first front [] ++ words back → good ≡ list_all is_name (word_first front []) → are_names text ≡ (good && are_names back)
split text front back good e h = rw (e, list_all-append, h) refl

pub returns-then-not-is_word_a_name : goal.returns-then-not-is_word_a_name
returns-then-not-is_word_a_name c =
    let first = words_split c.loop-word.rest.now c.in-Some.word.now c.in-Some.behind.now (sym c.in-Some.ensures) in
    let nay = split c.loop-word.rest.now c.in-Some.word.now c.in-Some.behind.now false first c.if-not-is_word_a_name.ensures in
    sym nay ∙ c.loop-word.invariant

pub loop-word-smaller : goal.loop-word-smaller
loop-word-smaller c =
    cut_shorter is_separator c.loop-word.rest.now c.in-Some.word.now c.in-Some.behind.now (sym c.in-Some.ensures)

pub loop-word-preserved : goal.loop-word-preserved
loop-word-preserved c =
    let first = words_split c.loop-word.rest.now c.in-Some.word.now c.in-Some.behind.now (sym c.in-Some.ensures) in
    let yea = split c.loop-word.rest.now c.in-Some.word.now c.in-Some.behind.now true first c.if-not-is_word_a_name.ensures in
    sym yea ∙ c.loop-word.invariant

pub returns-in-None : goal.returns-in-None
returns-in-None c =
    let last = words_one c.loop-word.rest.now (sym c.in-None.ensures) in
    c.is_word_a_name-in-None.ensures ∙ rw (← last) c.loop-word.invariant
