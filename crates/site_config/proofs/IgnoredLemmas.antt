-- Keys that stand one after another: one more at the end, and the one at a place.
use Rattle.std.proofs.Common.{◌≡◌, ◌≢◌, ◌≤◌, ◌<◌, ◌+◌, ◌-◌, ◌∙◌, ℕ, zero, suc, List, [], ◌∷◌, ◌++◌, length, take, drop, get_or, Some, None, refl, sym, ap, subst, arith}
use Rattle.std.specs.Prelude.{slice_get, slice_range}
use Rattle.std.proofs.lemmas.List.{take-append-le, drop-append-le, drop_at, take_all, length-drop}
use Rattle.std.proofs.lemmas.Option.{same_Some, none-some, slice_get-get_or}
use Rattle.site_config.specs.declared.ignored.KeyEnd.{KeyEnd}
use Rattle.site_config.specs.Ignored.{keys_from, AreEnds, start_at}

-- what stands in a text stands there in a longer one
range_kept : (keys more : List ℕ) (a b : ℕ) → a ≤ b → b ≤ length keys → slice_range (keys ++ more) a b ≡ slice_range keys a b
range_kept keys more a b h k =
    let room : b - a ≤ length (drop a keys) = rw length-drop (omega arith) in
    ap (take (b - a)) (drop-append-le a keys more (omega arith)) ∙ take-append-le (b - a) (drop a keys) more room

ends_after : (start : ℕ) (es : List KeyEnd) (all : ℕ) → AreEnds start es all → start ≤ all
ends_after start [] all h = omega arith
ends_after start (e ∷ es) all h = omega (arith, h.0, ends_after e.end es all h.1)

-- one key more
pub ends_more : (start : ℕ) (es : List KeyEnd) (all line more : ℕ) → AreEnds start es all → AreEnds start (es ++ record { line = line; end = all + more } ∷ []) (all + more)
ends_more start [] all line more h = (omega arith, refl)
ends_more start (e ∷ es) all line more h = (h.0, ends_more e.end es all line more h.1)

last_key : (keys key : List ℕ) (start : ℕ) → start ≡ length keys → slice_range (keys ++ key) start (length keys + length key) ≡ key
last_key keys key start h =
    ap (take (length keys + length key - start)) (drop_at keys key start (sym h)) ∙ take_all (length keys + length key - start) key (omega arith)

pub keys_more : (start : ℕ) (keys key : List ℕ) (es : List KeyEnd) (line : ℕ) → AreEnds start es (length keys)
    → keys_from start (keys ++ key) (es ++ record { line = line; end = length keys + length key } ∷ []) ≡ keys_from start keys es ++ (line, key) ∷ []
keys_more start keys key [] line h = ap (λ (k : List ℕ). (line, k) ∷ []) (last_key keys key start h)
keys_more start keys key (e ∷ es) line h =
    let first = range_kept keys key start e.end h.0 (ends_after e.end es (length keys) h.1) in
    let rest = keys_more e.end keys key es line h.1 in
    ap (λ (k : List ℕ). (e.line, k) ∷ keys_from e.end (keys ++ key) (es ++ record { line = line; end = length keys + length key } ∷ [])) first
    ∙ ap (λ (ks : List (ℕ × List ℕ)). (e.line, slice_range keys start e.end) ∷ ks) rest

pub start_behind : (start : ℕ) (es : List KeyEnd) (i : ℕ) (e : KeyEnd) → slice_get es i ≡ Some e → start_at start es (suc i) ≡ e.end
start_behind start [] i e h = absurd (none-some e h)
start_behind start (f ∷ es) zero e h = ap (λ (x : KeyEnd). x.end) (same_Some f e h)
start_behind start (f ∷ es) (suc i) e h = start_behind f.end es i e h

pub key_bounds : (start : ℕ) (es : List KeyEnd) (all i : ℕ) (e : KeyEnd) → AreEnds start es all → slice_get es i ≡ Some e → (start_at start es i ≤ e.end) × (e.end ≤ all)
key_bounds start [] all i e h g = absurd (none-some e g)
key_bounds start (f ∷ es) all zero e h g =
    subst (λ (x : KeyEnd). (start ≤ x.end) × (x.end ≤ all)) (same_Some f e g) (h.0, ends_after f.end es all h.1)
key_bounds start (f ∷ es) all (suc i) e h g = key_bounds f.end es all i e h.1 g

pub key_found : (start : ℕ) (keys : List ℕ) (es : List KeyEnd) (i : ℕ) (e : KeyEnd) → slice_get es i ≡ Some e
    → slice_get (keys_from start keys es) i ≡ Some (e.line, slice_range keys (start_at start es i) e.end)
key_found start keys [] i e h = absurd (none-some e h)
key_found start keys (f ∷ es) zero e h = ap (λ (x : KeyEnd). Some (x.line, slice_range keys start x.end)) (same_Some f e h)
key_found start keys (f ∷ es) (suc i) e h = key_found f.end keys es i e h

pub no_key : (start : ℕ) (keys : List ℕ) (es : List KeyEnd) (i : ℕ) → slice_get es i ≡ None → slice_get (keys_from start keys es) i ≡ None
no_key start keys [] i h = refl
no_key start keys (f ∷ es) zero h = absurd (none-some f (sym h))
no_key start keys (f ∷ es) (suc i) h = no_key f.end keys es i h

pub keys_length : (start : ℕ) (keys : List ℕ) (es : List KeyEnd) → length (keys_from start keys es) ≡ length es
keys_length start keys [] = refl
keys_length start keys (e ∷ es) = ap suc (keys_length e.end keys es)

start_after : (es : List KeyEnd) (place : ℕ) (e : KeyEnd) → place ≢ 0 → slice_get es (place - 1) ≡ Some e → e.end ≡ start_at 0 es place
start_after es zero e some h = absurd (some refl)
start_after es (suc i) e some h =
    let same : suc i - 1 ≡ i = omega arith in
    sym (start_behind 0 es i e (rw same at h))

pub start_is : (es : List KeyEnd) (place : ℕ) (d : KeyEnd) → place ≢ 0 → place - 1 < length es → (get_or es (place - 1) d).end ≡ start_at 0 es place
start_is es place d some within = start_after es place (get_or es (place - 1) d) some (slice_get-get_or es (place - 1) d within)
