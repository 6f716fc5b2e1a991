use Rattle.std.proofs.Common.{◌≡◌, ◌≢◌, ℕ, List, ◌∷◌, [], ◌++◌, Option, Some, None, sym, ◌∙◌, Bor, ap}
use Rattle.std.specs.Option.{unwrap_or, MatchOption}
use Rattle.std.proofs.lemmas.Slice.Eq.{strip_suffix_is}
use Rattle.std.proofs.lemmas.Bool.Decides.{Decides-eqb}
use Rattle.site_config.specs.Lines.{without_return}
use Rattle.site_config.proofs.LineLemmas.{without_return-snoc, without_return-none}
use Rattle.site_config.proofs.lines.without_return.Goals as goal

stripped : (line : Bor (List ℕ)) (r : Option (Bor (List ℕ))) → MatchOption r ((front : List ℕ) → line.now ≢ front ++ 13 ∷ []) (λ x. line.now ≡ x.now ++ 13 ∷ []) → (unwrap_or r line).now ≡ without_return line.now
stripped line None h = sym (without_return-none line.now h)
stripped line (Some x) h = sym (ap without_return h ∙ without_return-snoc x.now)

pub returns : goal.returns
returns c =
    ap (λ (r : Bor (List ℕ)). r.now) c.unwrap_or.ensures ∙ stripped c.args.line c.strip_suffix.result (strip_suffix_is Decides-eqb c.args.line.now (13 ∷ []) c.strip_suffix.result c.strip_suffix.ensures.cases)
