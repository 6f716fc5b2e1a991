-- The lines of a file that are refused, each by itself, as they stand.
use Rattle.std.specs.Prelude.{◌≡◌, ◌<◌, ℕ, ◌+◌, Bool, true, false, ◌||◌, List, [], ◌∷◌, ◌++◌, Option, Some, None}
use Rattle.std.specs.Option.{is_some, option_map}
use Rattle.std.specs.Result.{result_err}
use Rattle.jk_io.specs.Decimals.{trimmed}
use Rattle.site_config.specs.Lines.{lines, without_mark}
use Rattle.site_config.specs.Properties as properties
use Rattle.site_config.specs.declared.config.Config.{Config}
use Rattle.remarks.specs.declared.refused.Judge.{Judge}
use Rattle.remarks.specs.declared.refused.Judge.TheVariants as judge
use Rattle.remarks.specs.Explained.{map_words, said_of, workers_words}
use Rattle.site_mounts.specs.Lines as rules
use Rattle.site_mounts.specs.Refusals.{reason_in}
use Rattle.site_workers.specs.Given.{or_else}

-- what is wrong with the line of this number in a workers.properties by itself, if something is
abbrev pub wrong_line : ℕ → (line : List ℕ) → Option (List ℕ)
wrong_line n line = option_map (λ r. workers_words r.reason) (result_err (properties.said true n (trimmed line)))

-- what is wrong with the line of this number in a uriworkermap.properties, if something is
abbrev pub wrong_rule : Config → ℕ → (line : List ℕ) → Option (List ℕ)
wrong_rule c n line = option_map map_words (reason_in (rules.said c n (trimmed line)))

-- the same by the judge of a file
abbrev pub wrong_by : Judge → ℕ → (line : List ℕ) → Option (List ℕ)
wrong_by judge.Workers n line = wrong_line n line
wrong_by (judge.Map workers) n line = wrong_rule workers.now n line

-- the first of these lines from this number on with which something is wrong, and what that is
abbrev pub first_wrong : (wrong : ℕ → List ℕ → Option (List ℕ)) → ℕ → List (List ℕ) → Option (ℕ × List ℕ)
first_wrong wrong n [] = None
first_wrong wrong n (l ∷ ls) = or_else (option_map (λ words. (n, words)) (wrong n l)) (first_wrong wrong (n + 1) ls)

-- of a text
abbrev pub first_in : (wrong : ℕ → List ℕ → Option (List ℕ)) → (text : List ℕ) → Option (ℕ × List ℕ)
first_in wrong text = first_wrong wrong 1 (lines (without_mark text))

-- what is known of the line of this number by the first refused one of its file: nothing is wrong before that
pub record IsKnown (first : ℕ × List ℕ) (n : ℕ) (words : Option (List ℕ)) : Type 0 where
  pub before : n < first.0 → words ≡ None
  pub here : n ≡ first.0 → words ≡ Some first.1

-- what is said of a line with which this is wrong, if something is
abbrev pub told_if : (file : List ℕ) → ℕ → (line : List ℕ) → Option (List ℕ) → List ℕ
told_if file n line None = []
told_if file n line (Some words) = said_of file n (words ++ line)

-- what is said of these lines from this number on
abbrev pub refused_from : (wrong : ℕ → List ℕ → Option (List ℕ)) → (file : List ℕ) → ℕ → List (List ℕ) → List ℕ
refused_from wrong file n [] = []
refused_from wrong file n (l ∷ ls) = told_if file n l (wrong n l) ++ refused_from wrong file (n + 1) ls

-- one of these lines is refused
abbrev pub has_wrong : (wrong : ℕ → List ℕ → Option (List ℕ)) → ℕ → List (List ℕ) → Bool
has_wrong wrong n [] = false
has_wrong wrong n (l ∷ ls) = is_some (wrong n l) || has_wrong wrong (n + 1) ls

-- each line of a text that is refused by itself, in order
abbrev pub refused_lines : (wrong : ℕ → List ℕ → Option (List ℕ)) → (file text : List ℕ) → List ℕ
refused_lines wrong file text = refused_from wrong file 1 (lines (without_mark text))

abbrev pub is_refused_by_line : (wrong : ℕ → List ℕ → Option (List ℕ)) → (text : List ℕ) → Bool
is_refused_by_line wrong text = has_wrong wrong 1 (lines (without_mark text))
