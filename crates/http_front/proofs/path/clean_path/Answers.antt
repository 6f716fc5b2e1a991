-- The bytes after the slash are clean.
use Rattle.std.proofs.Common.{◌∙◌, ap, ◌++◌, List, [], ◌∷◌, ℕ, ◌-◌, length, take, drop, rules}
use Rattle.std.proofs.lemmas.List.{take_rest}
use Rattle.http_front.specs.Path.{joined}
use Rattle.http_front.proofs.PathLemmas.{clean-made}
use Rattle.http_front.proofs.path.clean_path.Goals as goal

pub returns-clause-ok : goal.returns-clause-ok
returns-clause-ok c =
    let e = c.in_ok-push_segments.ensures in
    let raw = c.args.raw.now in
    let rest = take (length raw - 1) (drop 1 raw) in
    let slash = c.in_ok-push.ensures.items ∙ ap (λ (l : List ℕ). l ++ 47 ∷ []) c.in_ok-clean.ensures.items in
    clean-made raw rest c.from_vec.result (search rules) (search rules) (search rules) (take_rest raw 1) e.no_dots
    (c.from_vec.ensures ∙ e.joined ∙ ap (λ (l : List ℕ). l ++ joined rest) slash)
