-- Idle links are looked at one after another: some were judged, and stand after those that weren't where they are kept.
use Rattle.std.proofs.Common.{◌≡◌, ℕ, true, false, ◌+◌, ◌<◌, ◌≤◌, List, [], ◌∷◌, ◌++◌, Option, length, refl, sym, ap, ◌∙◌, append_assoc, arith, length-append}
use Rattle.std.specs.Prelude.{Bool, count_by, if◌then◌else◌}
use Rattle.std.proofs.lemmas.List.Sums.{count_by-le-length, fold-append}
use Rattle.std.proofs.lemmas.Grind.{flat_map-append}
use Rattle.std.proofs.lemmas.List.{append-nil}
use Rattle.jk_io.specs.declared.traits.streams.Meanings.{Ghosts}
use Rattle.conn_pool.specs.declared.fate.Fate.{Fate}
use Rattle.conn_pool.specs.declared.fate.Fate.TheVariants as fate
use Rattle.conn_pool.specs.declared.idle.Idle.{Idle}
use Rattle.conn_pool.specs.declared.report.WatchReport.{WatchReport}
use Rattle.conn_pool.specs.Judging.{HasFate, HaveFates, IsBelow, AreLookedAt, counted, is_aged, is_dead, is_kept, is_wanted, kept_by, kept_of, report_of}

pub record Judging {L X : Type 0} (told : Ghosts L X) (limit : ℕ) (ping : Option ℕ) (links : List (Idle L)) (left : ℕ) (items : List (Idle L)) (report : WatchReport) : Type 0 where
  pub done : List (Idle L)
  pub rest : List (Idle L)
  pub fates : List (Fate (Idle L))
  pub whole : links ≡ done ++ rest
  pub many : left ≡ length rest
  pub each : HaveFates told limit ping done fates
  pub those : items ≡ rest ++ kept_of fates
  pub counts : report ≡ report_of fates
  pub as_many : length fates ≡ length done

pub begins : {L X : Type 0} (told : Ghosts L X) (limit : ℕ) (ping : Option ℕ) (links items : List (Idle L)) (left : ℕ)
    → left ≡ length links → items ≡ links → Judging told limit ping links left items (record { aged = 0; dead = 0; wanted = 0; kept = 0 })
begins told limit ping links items left many same = record {
  done = [];
  rest = links;
  fates = [];
  whole = refl;
  many = many;
  each = tt;
  those = same ∙ sym (append-nil links);
  counts = refl;
  as_many = refl;
}

-- one link more has its fate
fates-more : {L X : Type 0} (told : Ghosts L X) (limit : ℕ) (ping : Option ℕ) (done : List (Idle L)) (fates : List (Fate (Idle L))) (link : Idle L) (f : Fate (Idle L))
    → HaveFates told limit ping done fates → HasFate told limit ping link f → HaveFates told limit ping (done ++ link ∷ []) (fates ++ f ∷ [])
fates-more told limit ping [] [] link f each one = (one, tt)
fates-more told limit ping [] (x ∷ fates) link f each one = absurd each
fates-more told limit ping (x ∷ done) [] link f each one = absurd each
fates-more told limit ping (x ∷ done) (y ∷ fates) link f each one = (each.0, fates-more told limit ping done fates link f each.1 one)

step : {A : Type 0} (p : Fate A → Bool) (fates : List (Fate A)) (f : Fate A) → count_by p (fates ++ f ∷ []) ≡ count_by p fates + (if p f then 1 else 0)
step p fates f = fold-append _ 0 fates (f ∷ [])

yes : {A : Type 0} (p : Fate A → Bool) (fates : List (Fate A)) (f : Fate A) → p f ≡ true → count_by p (fates ++ f ∷ []) ≡ count_by p fates + 1
yes p fates f is = step p fates f ∙ ap (λ (b : Bool). count_by p fates + (if b then 1 else 0)) is

no : {A : Type 0} (p : Fate A → Bool) (fates : List (Fate A)) (f : Fate A) → p f ≡ false → count_by p (fates ++ f ∷ []) ≡ count_by p fates
no p fates f is = step p fates f ∙ (ap (λ (b : Bool). count_by p fates + (if b then 1 else 0)) is ∙ omega arith)

-- one link more is counted
counted-more : {A : Type 0} (fates : List (Fate A)) (f : Fate A) → counted (report_of fates) f ≡ report_of (fates ++ f ∷ [])
counted-more fates fate.Aged = rw (yes is_aged fates fate.Aged refl) (rw (no is_dead fates fate.Aged refl) (rw (no is_wanted fates fate.Aged refl) (rw (no is_kept fates fate.Aged refl) (refl))))
counted-more fates fate.Dead = rw (no is_aged fates fate.Dead refl) (rw (yes is_dead fates fate.Dead refl) (rw (no is_wanted fates fate.Dead refl) (rw (no is_kept fates fate.Dead refl) (refl))))
counted-more fates fate.Wanted = rw (no is_aged fates fate.Wanted refl) (rw (no is_dead fates fate.Wanted refl) (rw (yes is_wanted fates fate.Wanted refl) (rw (no is_kept fates fate.Wanted refl) (refl))))
counted-more fates (fate.Kept kept) = rw (no is_aged fates (fate.Kept kept) refl) (rw (no is_dead fates (fate.Kept kept) refl) (rw (no is_wanted fates (fate.Kept kept) refl) (rw (yes is_kept fates (fate.Kept kept) refl) (refl))))

-- some are left
record IsFront {A : Type 0} (rest : List A) (less : ℕ) : Type 0 where
  first : A
  more : List A
  is : rest ≡ first ∷ more
  many : less ≡ length more

front_of : {A : Type 0} (rest : List A) (left less : ℕ) → left ≡ length rest → less + 1 ≡ left → IsFront rest less
front_of [] left less many one = absurd (omega (arith, many, one))
front_of (x ∷ rest) left less many one = record { first = x; more = rest; is = refl; many = omega (arith, many, one) }

kept-more : {A : Type 0} (fates : List (Fate A)) (f : Fate A) → kept_of fates ++ kept_by f ≡ kept_of (fates ++ f ∷ [])
kept-more fates f = ap (λ (kept : List _). kept_of fates ++ kept) (sym (append-nil (kept_by f))) ∙ sym (flat_map-append kept_by fates (f ∷ []))

-- a link was taken from the front, and judged
pub judges_on : {L X : Type 0} (told : Ghosts L X) (limit : ℕ) (ping : Option ℕ) (links : List (Idle L)) (left less : ℕ) (items popped now : List (Idle L))
    (report after : WatchReport) (link : Idle L) (f : Fate (Idle L))
    → Judging told limit ping links left items report → items ≡ link ∷ popped → less + 1 ≡ left
    → HasFate told limit ping link f → now ≡ popped ++ kept_by f → after ≡ counted report f
    → Judging told limit ping links less now after
judges_on told limit ping links left less items popped now report after link f j front one has put count =
    let x = front_of j.rest left less j.many one in
    let same : x.first ∷ (x.more ++ kept_of j.fates) ≡ link ∷ popped = ap (λ (rest : List _). rest ++ kept_of j.fates) (sym x.is) ∙ (sym j.those ∙ front) in
    let is : x.first ≡ link = cc in
    let behind : popped ≡ x.more ++ kept_of j.fates = cc in
    record {
      done = j.done ++ link ∷ [];
      rest = x.more;
      fates = j.fates ++ f ∷ [];
      whole = j.whole ∙ (ap (λ (rest : List _). j.done ++ rest) (x.is ∙ ap (λ (first : _). first ∷ x.more) is) ∙ sym (append_assoc j.done (link ∷ []) x.more));
      many = x.many;
      each = fates-more told limit ping j.done j.fates link f j.each has;
      those = put ∙ (ap (λ (front : List _). front ++ kept_by f) behind ∙ (append_assoc x.more (kept_of j.fates) (kept_by f)
          ∙ ap (λ (kept : List _). x.more ++ kept) (kept-more j.fates f)));
      counts = count ∙ (ap (λ (r : WatchReport). counted r f) j.counts ∙ counted-more j.fates f);
      as_many = omega (arith, j.as_many, length-append j.done (link ∷ []), length-append j.fates (f ∷ []));
    }

pub some_left : {L X : Type 0} (told : Ghosts L X) (limit : ℕ) (ping : Option ℕ) (links items : List (Idle L)) (left : ℕ) (report : WatchReport)
    → Judging told limit ping links left items report → 0 < left → 0 < length items
some_left told limit ping links items left report j more = omega (arith, j.many, more, ap length j.those, length-append j.rest (kept_of j.fates))

pub all_below : {L X : Type 0} (told : Ghosts L X) (limit : ℕ) (ping : Option ℕ) (links items : List (Idle L)) (left : ℕ) (report : WatchReport)
    → Judging told limit ping links left items report → 0 < left → length links < 4294967296 → IsBelow report
all_below told limit ping links items left report j more few =
    let many : length j.fates < 4294967295 = omega (arith, j.as_many, j.many, more, few, ap length j.whole, length-append j.done j.rest) in
    record {
      aged = omega (arith, many, ap (λ (r : WatchReport). r.aged) j.counts, count_by-le-length is_aged j.fates);
      dead = omega (arith, many, ap (λ (r : WatchReport). r.dead) j.counts, count_by-le-length is_dead j.fates);
      wanted = omega (arith, many, ap (λ (r : WatchReport). r.wanted) j.counts, count_by-le-length is_wanted j.fates);
      kept = omega (arith, many, ap (λ (r : WatchReport). r.kept) j.counts, count_by-le-length is_kept j.fates);
    }

no_rest : {A : Type 0} (rest : List A) → length rest ≡ 0 → rest ≡ []
no_rest [] none = refl
no_rest (x ∷ rest) none = absurd (omega (arith, none))

few-kept : {A : Type 0} (fates : List (Fate A)) → length (kept_of fates) ≤ length fates
few-kept [] = omega arith
few-kept (fate.Aged ∷ fates) = omega (arith, few-kept fates)
few-kept (fate.Dead ∷ fates) = omega (arith, few-kept fates)
few-kept (fate.Wanted ∷ fates) = omega (arith, few-kept fates)
few-kept (fate.Kept kept ∷ fates) = omega (arith, few-kept fates)

pub ends : {L X : Type 0} (told : Ghosts L X) (limit : ℕ) (ping : Option ℕ) (links items : List (Idle L)) (left : ℕ) (report : WatchReport)
    → Judging told limit ping links left items report → left ≡ 0 → AreLookedAt told limit ping links items report × (length items ≤ length links)
ends told limit ping links items left report j none =
    let all : links ≡ j.done = j.whole ∙ (ap (λ (rest : List _). j.done ++ rest) (no_rest j.rest (sym j.many ∙ none)) ∙ append-nil j.done) in
    let those : items ≡ kept_of j.fates = j.those ∙ ap (λ (rest : List _). rest ++ kept_of j.fates) (no_rest j.rest (sym j.many ∙ none)) in (
      record { fates = j.fates; each = rw all j.each; those = those; counts = j.counts },
      omega (arith, ap length those, ap length all, j.as_many, few-kept j.fates),
    )
