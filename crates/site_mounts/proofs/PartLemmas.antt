-- The parts after a worker, one after another.
use Rattle.std.proofs.Common.{◌≡◌, ◌==◌, ℕ, List, [], ◌∷◌, ◌++◌, Option, Some, None, refl, sym, ◌∙◌, ap, append_assoc, Bor, ◌+◌, ◌<◌, length, take, get_or}
use Rattle.std.proofs.lemmas.List.{take_more, map-append}
use Rattle.std.specs.Option.{option_map, option_or}
use Rattle.site_config.specs.Cut.{cut_at}
use Rattle.site_config.proofs.WordLemmas.{SplitsSo, split_cut}
use Rattle.site_mounts.specs.declared.parts.Part.{Part}
use Rattle.site_mounts.specs.PartViews.{as_part, as_parts}
use Rattle.site_mounts.specs.Parts.{before, last_value, part_of, parts_of, pieces_of, value_of}

-- the first piece, and those after it
pub pieces_cut : (text front back : List ℕ) → cut_at 59 text ≡ Some (front, back) → pieces_of text ≡ front ∷ pieces_of back
pieces_cut text front back e =
    let h : SplitsSo (λ b. b == 59) text (cut_at 59 text) = split_cut (λ b. b == 59) text in
    rw e at h

pub pieces_one : (text : List ℕ) → cut_at 59 text ≡ None → pieces_of text ≡ text ∷ []
pieces_one text e =
    let h : SplitsSo (λ b. b == 59) text (cut_at 59 text) = split_cut (λ b. b == 59) text in
    rw e at h

or_assoc : (a b c : Option (List ℕ)) → option_or (option_or a b) c ≡ option_or a (option_or b c)
or_assoc None b c = refl
or_assoc (Some x) b c = refl

or_none : (a : Option (List ℕ)) → option_or a None ≡ a
or_none None = refl
or_none (Some x) = refl

-- one part more: its value, where it has the name
pub last_value-snoc : (name : List ℕ) (parts : List (List ℕ × List ℕ)) (p : List ℕ × List ℕ) → last_value name (parts ++ p ∷ []) ≡ option_or (value_of name p) (last_value name parts)
last_value-snoc name [] p = sym (or_none (value_of name p))
last_value-snoc name (x ∷ parts) p =
    ap (λ (o : Option (List ℕ)). option_or o (value_of name x)) (last_value-snoc name parts p) ∙ or_assoc (value_of name p) (last_value name parts) (value_of name x)

pub or-now : (a b : Option (Bor (List ℕ))) → option_map (λ v. v.now) (option_or a b) ≡ option_or (option_map (λ v. v.now) a) (option_map (λ v. v.now) b)
or-now None b = refl
or-now (Some x) b = refl

-- parts in front of one, and of those after it
pub front_more : (front : List (List ℕ × List ℕ)) (p : List ℕ × List ℕ) (o : Option (List (List ℕ × List ℕ))) → option_map (λ more. front ++ more) (before (Some p) o) ≡ option_map (λ more. (front ++ p ∷ []) ++ more) o
front_more front p None = refl
front_more front p (Some more) = ap (λ (x : List (List ℕ × List ℕ)). Some x) (sym (append_assoc front (p ∷ []) more))

-- no parts where one has no `=`
pub front_none : (front : List (List ℕ × List ℕ)) (text : List ℕ) (texts : List (List ℕ)) → part_of text ≡ None → option_map (λ more. front ++ more) (parts_of (text ∷ texts)) ≡ None
front_none front text texts e = rw e refl

-- the value of the last one of this many parts, and of one more
pub last_step : (parts : List Part) (i : ℕ) (d : Part) (name : List ℕ) (o v : Option (List ℕ)) → i < length parts → o ≡ value_of name (as_part (get_or parts i d)) → v ≡ last_value name (as_parts (take i parts)) → option_or o v ≡ last_value name (as_parts (take (i + 1) parts))
last_step parts i d name o v within new before =
    let more : as_parts (take (i + 1) parts) ≡ as_parts (take i parts) ++ as_part (get_or parts i d) ∷ [] = ap as_parts (take_more parts i d within) ∙ map-append as_part (take i parts) (get_or parts i d ∷ []) in
    rw (new, before, more, last_value-snoc) refl
