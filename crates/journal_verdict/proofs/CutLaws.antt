-- Bytes as lines, byte by byte.
use Rattle.std.proofs.Common.{◌≡◌, ◌≢◌, ℕ, ◌+◌, ◌<◌, List, [], ◌∷◌, ◌++◌, length, take, drop, get_or, refl, sym, subst, ap, ◌∙◌, append_assoc, arith, length-append}
use Rattle.std.specs.List.{All, flat_map}
use Rattle.std.proofs.lemmas.Grind.{flat_map-append}
use Rattle.std.proofs.lemmas.List.{append-nil, take-append-drop, take_more}
use Rattle.std.proofs.lemmas.List.Elements.{All-append, All-cons, All-nil}
use Rattle.journal_verdict.specs.Followed.{FollowsTo, HasNoEnd, IsCutIntoLines, IsStoppedText, StopsAt, ended}
use Rattle.journal_verdict.specs.Lines.{RefusesLineAt, Stand, StandTakes, at_first}
use Rattle.journal_verdict.specs.Machines.{KnowsAs, Knows}
use Rattle.journal_verdict.specs.declared.error.FollowError.{FollowError}
use Rattle.journal_verdict.specs.declared.error.FollowError.TheVariants as wrong
use Rattle.journal_verdict.specs.declared.known.Known.TheVariants as known
use Rattle.journal_verdict.specs.declared.machine.Machine.{Machine}

one_all : {T : Type 0} (P : T → Type 0) (x : T) → P x → All P (x ∷ [])
one_all P x h = All-cons P x [] h (All-nil P)

-- a byte that ends no line
pub byte_more : (bytes : List ℕ) (lines : List (List ℕ)) (part : List ℕ) (b : ℕ) → b ≢ 10 → IsCutIntoLines bytes lines part → IsCutIntoLines (bytes ++ b ∷ []) lines (part ++ b ∷ [])
byte_more bytes lines part b other cut = record {
  whole = ap (λ (x : List ℕ). x ++ b ∷ []) cut.whole ∙ append_assoc (flat_map ended lines) part (b ∷ []);
  single = cut.single;
  rest = All-append (λ byte. byte ≢ 10) part (b ∷ []) cut.rest (one_all (λ byte. byte ≢ 10) b other);
}

-- a line ends
pub line_more : (bytes : List ℕ) (lines : List (List ℕ)) (part : List ℕ) → IsCutIntoLines bytes lines part → IsCutIntoLines (bytes ++ 10 ∷ []) (lines ++ part ∷ []) []
line_more bytes lines part cut = record {
  whole = ap (λ (x : List ℕ). x ++ 10 ∷ []) cut.whole ∙ (append_assoc (flat_map ended lines) part (10 ∷ [])
      ∙ (ap (λ (x : List ℕ). flat_map ended lines ++ x) (sym (append-nil (ended part)))
      ∙ (sym (flat_map-append ended lines (part ∷ [])) ∙ sym (append-nil _))));
  single = All-append HasNoEnd lines (part ∷ []) cut.single (one_all HasNoEnd part cut.rest);
  rest = All-nil (λ byte. byte ≢ 10);
}

pub follows_more : (s : Stand) (lines : List (List ℕ)) (m t : Stand) (text : List ℕ) → FollowsTo s lines m → StandTakes m text t → FollowsTo s (lines ++ text ∷ []) t
follows_more s [] m t text is h = (t, subst (λ (x : Stand). StandTakes x text t) is h, refl)
follows_more s (l ∷ lines) m t text f h = (f.0, f.1, follows_more f.0 lines m t text f.2 h)

stopped_by : (bytes : List ℕ) (e : FollowError) → StopsAt bytes e → IsStoppedText bytes e
stopped_by bytes (wrong.Unreadable line) h = h
stopped_by bytes (wrong.Bad line kept ruled) h = h
stopped_by bytes wrong.NoMemory h = tt

stops_more : (bytes later : List ℕ) (e : FollowError) → StopsAt bytes e → StopsAt (bytes ++ later) e
stops_more bytes later e h = record {
  before = h.before;
  text = h.text;
  later = h.later ++ later;
  whole = ap (λ (x : List ℕ). x ++ later) h.whole ∙ (append_assoc (flat_map ended h.before) (ended h.text ++ h.later) later
      ∙ ap (λ (x : List ℕ). flat_map ended h.before ++ x) (append_assoc (ended h.text) h.later later));
  single = h.single;
  one = h.one;
  stand = h.stand;
  takes = h.takes;
  refuses = h.refuses;
}

-- a byte that ends no line came
pub knows_byte : (m : Machine) (number : ℕ) (part bytes : List ℕ) (b : ℕ) → b ≢ 10 → Knows (known.Going m number) part bytes
    → Knows (known.Going m number) (part ++ b ∷ []) (bytes ++ b ∷ [])
knows_byte m number part bytes b other k = (k.0, byte_more bytes k.0 part b other k.1, k.2, k.3, k.4, k.5)

-- a line was taken
pub knows_line : (m n : Machine) (number next : ℕ) (part bytes : List ℕ) → next ≡ number + 1 → Knows (known.Going m number) part bytes
    → ((s : Stand) → KnowsAs m s → (t : Stand) × StandTakes s part t × KnowsAs n t) → Knows (known.Going n next) [] (bytes ++ 10 ∷ [])
knows_line m n number next part bytes more k takes =
    let t = takes k.2 k.4 in (
      k.0 ++ part ∷ [],
      line_more bytes k.0 part k.1,
      t.0,
      follows_more at_first k.0 k.2 t.0 part k.3 t.1,
      t.2,
      omega (arith, more, k.5, length-append k.0 (part ∷ [])),
    )

-- a line was refused, whatever comes after it
pub knows_stop : (m : Machine) (number : ℕ) (part bytes later : List ℕ) (e : FollowError) → Knows (known.Going m number) part bytes
    → ((s : Stand) → KnowsAs m s → RefusesLineAt s number part e) → IsStoppedText (bytes ++ 10 ∷ later) e
knows_stop m number part bytes later e k refuses =
    stopped_by (bytes ++ 10 ∷ later) e (record {
      before = k.0;
      text = part;
      later = later;
      whole = ap (λ (x : List ℕ). x ++ 10 ∷ later) k.1.whole ∙ (append_assoc (flat_map ended k.0) part (10 ∷ later)
          ∙ ap (λ (x : List ℕ). flat_map ended k.0 ++ x) (sym (append_assoc part (10 ∷ []) later)));
      single = k.1.single;
      one = k.1.rest;
      stand = k.2;
      takes = k.3;
      refuses = subst (λ (n : ℕ). RefusesLineAt k.2 n part e) k.5 (refuses k.2 k.4);
    })

-- what was said of a refusal stands, whatever comes after it
pub stopped_more : (bytes later : List ℕ) (e : FollowError) → IsStoppedText bytes e → IsStoppedText (bytes ++ later) e
stopped_more bytes later (wrong.Unreadable line) h = stops_more bytes later (wrong.Unreadable line) h
stopped_more bytes later (wrong.Bad line kept ruled) h = stops_more bytes later (wrong.Bad line kept ruled) h
stopped_more bytes later wrong.NoMemory h = tt

-- the byte at a place, after those before it
pub with_byte : (bytes piece : List ℕ) (i b : ℕ) → i < length piece → b ≡ get_or piece i 0 → (bytes ++ take i piece) ++ b ∷ [] ≡ bytes ++ take (i + 1) piece
with_byte bytes piece i b within is =
    append_assoc bytes (take i piece) (b ∷ [])
    ∙ ap (λ (x : List ℕ). bytes ++ x) (ap (λ (y : ℕ). take i piece ++ y ∷ []) is ∙ sym (take_more piece i 0 within))

-- the byte at a place, and those after it
pub with_rest : (bytes piece : List ℕ) (i b : ℕ) → i < length piece → b ≡ get_or piece i 0 → (bytes ++ take i piece) ++ b ∷ drop (i + 1) piece ≡ bytes ++ piece
with_rest bytes piece i b within is =
    sym (append_assoc (bytes ++ take i piece) (b ∷ []) (drop (i + 1) piece))
    ∙ (ap (λ (x : List ℕ). x ++ drop (i + 1) piece) (with_byte bytes piece i b within is)
    ∙ (append_assoc bytes (take (i + 1) piece) (drop (i + 1) piece)
    ∙ ap (λ (x : List ℕ). bytes ++ x) (take-append-drop (i + 1) piece)))
