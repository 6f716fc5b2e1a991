-- The word that a line begins with.
use Rattle.std.specs.Prelude.{ℕ, List, Option, Some, None, codes, if◌then◌else◌}
use Rattle.std.specs.Str.{bytes_eq}
use Rattle.play_script.specs.declared.verb.Verb.{Verb}
use Rattle.play_script.specs.declared.verb.Verb.TheVariants as verb

-- the verb that a word spells
abbrev pub verb_of : List ℕ → Option Verb
verb_of word =
    if bytes_eq word (codes "lb") then Some verb.Lb
    else (if bytes_eq word (codes "member") then Some verb.Member
    else (if bytes_eq word (codes "at") then Some verb.At
    else (if bytes_eq word (codes "select") then Some verb.Select
    else (if bytes_eq word (codes "done") then Some verb.Done
    else (if bytes_eq word (codes "failed") then Some verb.Failed
    else (if bytes_eq word (codes "gone") then Some verb.Gone
    else (if bytes_eq word (codes "maintain") then Some verb.Maintain
    else (if bytes_eq word (codes "update") then Some verb.Update
    else (if bytes_eq word (codes "reset") then Some verb.Reset
    else (if bytes_eq word (codes "recover") then Some verb.Recover
    else (if bytes_eq word (codes "show") then Some verb.Show
    else None)))))))))))
