use Rattle.std.proofs.Common.{sym, ◌∙◌, append_assoc}
use Rattle.std.proofs.lemmas.Result.{on_ok_weaker}
use Rattle.site_config.specs.Cut.{is_separator}
use Rattle.site_config.proofs.CutLemmas.{cut_shorter}
use Rattle.site_config.proofs.WordLemmas.{words_cut, words_one, word_first-append}
use Rattle.site_config.proofs.names.push_words.Goals as goal

pub loop-word-smaller : goal.loop-word-smaller
loop-word-smaller c =
    cut_shorter is_separator c.loop-word.rest.now c.in-Some.word.now c.in-Some.behind.now (sym c.in-Some.ensures)

pub loop-word-preserved : goal.loop-word-preserved
loop-word-preserved c =
    let first = words_cut c.loop-word.rest.now c.in-Some.word.now c.in-Some.behind.now (sym c.in-Some.ensures) in
    let pushed = c.in_ok-push_word-in-Some.ensures in
    rw (pushed, append_assoc, word_first-append, ← first) c.loop-word.invariant

pub returns-in-None : goal.returns-in-None
returns-in-None c =
    let last = words_one c.loop-word.rest.now (sym c.in-None.ensures) in
    on_ok_weaker c.push_word-in-None.result (λ pushed. pushed ∙ rw (← last) c.loop-word.invariant) c.push_word-in-None.ensures
