-- Where no byte was bad, the bytes go on to a body that the grammar spells.
use Rattle.std.proofs.Common.{◌≡◌, ℕ, zero, suc, ◌<◌, ◌||◌, Bool, true, false, List, [], ◌∷◌, ◌++◌, Some, refl, sym, ap, ◌∙◌, inl, inr, arith, append-nil, ne_eqb}
use Rattle.std.proofs.lemmas.Bool.{cases_Bool, cond-false, or_from, or_cases, true≢false}
use Rattle.http_front.specs.Body.{Data, is_over, given, behind, ended_at, data_from, place_behind}
use Rattle.http_front.specs.Chunked.{ChunkedBody, IsChunkedBody, spelled, RefusesUnspelled}
use Rattle.http_front.specs.Places.{step, is_whole, is_bad, chunk_of}
use Rattle.http_front.specs.declared.place.Place.{Place}
use Rattle.http_front.specs.declared.place.Place.TheVariants as at
use Rattle.http_front.proofs.ChunkedLemmas.{reads_spelled}
use Rattle.http_front.proofs.SpelledLemmas.{reads_only_spelled}
use Rattle.http_front.proofs.TakeLemmas.{over-data}

-- some bytes lead from the place to a whole body
record Finishes (p : Place) : Type 0 where
  bytes : List ℕ
  end : Place
  own : place_behind bytes p ≡ Some end
  whole : is_whole end ≡ true

byte-finishes : (b : ℕ) (p q : Place) → is_over p ≡ false → step p b ≡ q → Finishes q → Finishes p
byte-finishes b p q open_end steps f = record {
  bytes = b ∷ f.bytes;
  end = f.end;
  own = cond-false _ _ _ open_end ∙ ap (place_behind f.bytes) steps ∙ f.own;
  whole = f.whole;
}

trailer-finishes : (left : ℕ) → Finishes (at.Trailer left)
trailer-finishes left =
    byte-finishes 13 (at.Trailer left) at.TrailerFeed refl refl (byte-finishes 10 at.TrailerFeed at.Done refl refl (record { bytes = []; end = at.Done; own = refl; whole = refl }))

beginning-finishes : Finishes (at.Digits 0 0)
beginning-finishes =
    byte-finishes 48 (at.Digits 0 0) (at.Digits 1 0) refl refl
    (byte-finishes 13 (at.Digits 1 0) (at.LineFeed 0) refl refl (byte-finishes 10 (at.LineFeed 0) (at.Trailer 16384) refl refl (trailer-finishes 16384)))

data_feed-finishes : Finishes at.DataFeed
data_feed-finishes = byte-finishes 10 at.DataFeed (at.Digits 0 0) refl refl beginning-finishes

chunk-finishes : (left : ℕ) → Finishes (at.Chunk left)
chunk-finishes zero = byte-finishes 13 (at.Chunk 0) at.DataFeed refl refl data_feed-finishes
chunk-finishes (suc left) = byte-finishes 0 (at.Chunk (suc left)) (at.Chunk left) refl refl (chunk-finishes left)

size-finishes : (size : ℕ) → Finishes (chunk_of size)
size-finishes zero = trailer-finishes 16384
size-finishes (suc size) = chunk-finishes (suc size)

line_feed-finishes : (size : ℕ) → Finishes (at.LineFeed size)
line_feed-finishes size = byte-finishes 10 (at.LineFeed size) (chunk_of size) refl refl (size-finishes size)

digits-finish : (count size : ℕ) → 0 < count → Finishes (at.Digits count size)
digits-finish count size some =
    byte-finishes 13 (at.Digits count size) (at.LineFeed size) refl (cond-false _ _ _ (ne_eqb count 0 (λ e. absurd (omega (arith, some, e))))) (line_feed-finishes size)

exact-finishes : (left : ℕ) → Finishes (at.Exact left)
exact-finishes zero = record { bytes = []; end = at.Exact 0; own = refl; whole = refl }
exact-finishes (suc left) =
    let open_end : is_over (at.Exact (suc left)) ≡ false = or_from _ _ (ne_eqb (suc left) 0 (λ e. absurd (omega (arith, e)))) refl in
    byte-finishes 0 (at.Exact (suc left)) (at.Exact left) open_end (ap (λ (n : ℕ). at.Exact n) (omega arith)) (exact-finishes left)

trailer_line_feed-finishes : (left : ℕ) → Finishes (at.TrailerLineFeed left)
trailer_line_feed-finishes left = byte-finishes 10 (at.TrailerLineFeed left) (at.Trailer left) refl refl (trailer-finishes left)

finishes : (p : Place) → is_bad p ≡ false → Finishes p
finishes (at.Exact left) good = exact-finishes left
finishes (at.Digits zero size) good = byte-finishes 48 (at.Digits 0 size) _ refl refl (digits-finish 1 _ (omega arith))
finishes (at.Digits (suc count) size) good = digits-finish (suc count) size (omega arith)
finishes (at.Extension size count) good = byte-finishes 13 (at.Extension size count) (at.LineFeed size) refl refl (line_feed-finishes size)
finishes (at.LineFeed size) good = line_feed-finishes size
finishes (at.Chunk left) good = chunk-finishes left
finishes at.DataFeed good = data_feed-finishes
finishes (at.Trailer left) good = trailer-finishes left
finishes (at.TrailerLine left) good = byte-finishes 13 (at.TrailerLine left) (at.TrailerLineFeed left) refl refl (trailer_line_feed-finishes left)
finishes (at.TrailerLineFeed left) good = trailer_line_feed-finishes left
finishes at.TrailerFeed good = byte-finishes 10 at.TrailerFeed at.Done refl refl (record { bytes = []; end = at.Done; own = refl; whole = refl })
finishes at.Done good = record { bytes = []; end = at.Done; own = refl; whole = refl }
finishes at.Bad good = absurd (true≢false good)

-- the bytes, and more after them, begin with a whole body
record GoesOn (bytes : List ℕ) (p : Place) : Type 0 where
  more : List ℕ
  front : List ℕ
  rest : List ℕ
  end : Place
  is : bytes ++ more ≡ front ++ rest
  own : place_behind front p ≡ Some end
  whole : is_whole end ≡ true

goes_on : (bytes : List ℕ) (p : Place) → (data_from bytes p).bad ≡ false → GoesOn bytes p
goes_on [] p good =
    let f = finishes p good in
    record { more = f.bytes; front = f.bytes; rest = []; end = f.end; is = sym (append-nil f.bytes); own = f.own; whole = f.whole }
goes_on (b ∷ bytes) p good =
    elim (cases_Bool (is_over p)) [
      | inl over ↦
          let ended : data_from (b ∷ bytes) p ≡ ended_at p = over-data (b ∷ bytes) p over in
          let fine : is_bad p ≡ false = sym (ap (λ (d : Data). d.bad) ended) ∙ good in
          elim (or_cases (is_whole p) (is_bad p) over) [
            | inl whole ↦ record { more = []; front = []; rest = b ∷ bytes; end = p; is = append-nil (b ∷ bytes); own = refl; whole = whole }
            | inr bad ↦ absurd (true≢false (sym bad ∙ fine))
          ]
      | inr open_end ↦
          let same : data_from (b ∷ bytes) p ≡ behind (given p b) (data_from bytes (step p b)) = cond-false _ _ _ open_end in
          let r = goes_on bytes (step p b) (sym (ap (λ (d : Data). d.bad) same) ∙ good) in
          record { more = r.more; front = b ∷ r.front; rest = r.rest; end = r.end; is = ap (λ (l : List ℕ). b ∷ l) r.is; own = cond-false _ _ _ open_end ∙ r.own; whole = r.whole }
    ]

-- what is bad stays bad, whatever follows
bad-stays : (bytes more : List ℕ) (p : Place) → (data_from bytes p).bad ≡ true → (data_from (bytes ++ more) p).bad ≡ true
bad-stays [] more p bad =
    let over : is_over p ≡ true = or-right (is_whole p) (is_bad p) bad in
    ap (λ (d : Data). d.bad) (over-data more p over) ∙ bad
  where
    or-right : (x y : Bool) → y ≡ true → (x || y) ≡ true
    or-right true y e = refl
    or-right false y e = e
bad-stays (b ∷ bytes) more p bad =
    elim (cases_Bool (is_over p)) [
      | inl over ↦
          let one : data_from (b ∷ bytes) p ≡ ended_at p = over-data (b ∷ bytes) p over in
          let two : data_from (b ∷ (bytes ++ more)) p ≡ ended_at p = over-data (b ∷ (bytes ++ more)) p over in
          ap (λ (d : Data). d.bad) (two ∙ sym one) ∙ bad
      | inr open_end ↦
          let one : data_from (b ∷ bytes) p ≡ behind (given p b) (data_from bytes (step p b)) = cond-false _ _ _ open_end in
          let two : data_from (b ∷ (bytes ++ more)) p ≡ behind (given p b) (data_from (bytes ++ more) (step p b)) = cond-false _ _ _ open_end in
          ap (λ (d : Data). d.bad) two ∙ bad-stays bytes more (step p b) (sym (ap (λ (d : Data). d.bad) one) ∙ bad)
    ]

no-body : (bytes more rest : List ℕ) (b : ChunkedBody) → (data_from bytes (at.Digits 0 0)).bad ≡ true → IsChunkedBody b → bytes ++ more ≡ spelled b ++ rest → ⊥
no-body bytes more rest b bad good same =
    let stays = bad-stays bytes more (at.Digits 0 0) bad in
    let fine : (data_from (bytes ++ more) (at.Digits 0 0)).bad ≡ false =
    ap (λ (l : List ℕ). (data_from l (at.Digits 0 0)).bad) same ∙ ap (λ (d : Data). d.bad) (reads_spelled b rest good).0 in
    true≢false (sym stays ∙ fine)

some-body : (bytes : List ℕ) → ((more rest : List ℕ) (b : ChunkedBody) → IsChunkedBody b → bytes ++ more ≡ spelled b ++ rest → ⊥) → (data_from bytes (at.Digits 0 0)).bad ≡ true
some-body bytes none =
    elim (cases_Bool (data_from bytes (at.Digits 0 0)).bad) [
      | inl bad ↦ bad
      | inr fine ↦
          let r = goes_on bytes (at.Digits 0 0) fine in
          let body = reads_only_spelled r.front r.end r.own r.whole in
          absurd (none r.more r.rest body.0 body.1 (r.is ∙ ap (λ (l : List ℕ). l ++ r.rest) body.2))
    ]

pub refuses_unspelled : RefusesUnspelled
refuses_unspelled bytes = (λ bad more rest b good same. no-body bytes more rest b bad good same, λ none. some-body bytes none)
