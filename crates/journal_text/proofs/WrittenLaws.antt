-- A text that is written is read as what it was written for.
use Rattle.std.proofs.Common.{◌≡◌, ℕ, suc, zero, ◌+◌, ◌<◌, ◌==◌, eqb, nat_le, nat_lt, true, false, List, [], ◌∷◌, ◌++◌, length, get_or, map, Some, None, refl, sym, ap, subst, ◌∙◌, append_assoc, append-nil, length-append, count_by, arith, rules}
use Rattle.std.specs.Prelude.{MatchOption, slice_get}
use Rattle.std.specs.List.{list_all, onto_first}
use Rattle.std.proofs.lemmas.Bool.{and_parts, and_from, cond-true, cond-false, ne_eqb, eq-eqb, leb-true, le-leb, lt-ltb}
use Rattle.std.proofs.lemmas.List.{get_or-map, length-map, get_or_past}
use Rattle.std.proofs.lemmas.List.Folds.{list_all-append}
use Rattle.std.proofs.lemmas.List.Splits.{length-slice_split}
use Rattle.std.proofs.lemmas.Option.{slice_get-get_or}
use Rattle.lb_model.specs.Tickets.{Ticket}
use Rattle.lb_model.specs.Segments.{AreKeptEntries}
use Rattle.lb_model.specs.Validity.{IsOpening, ShowsMember}
use Rattle.lb_model.specs.declared.journal.Entry.{Entry}
use Rattle.lb_model.specs.declared.member.MemberConfig.{MemberConfig}
use Rattle.lb_model.specs.declared.opening.Opening.{Opening}
use Rattle.lb_model.specs.declared.segment.Segment.{Segment}
use Rattle.lb_model.specs.declared.view.MemberRow.{MemberRow}
use Rattle.play_script.specs.Parts.{parts_of}
use Rattle.journal_text.specs.Lines.{joined, line_text, line_words, lines_text, spaced}
use Rattle.journal_text.specs.Ranges.{FitsLine}
use Rattle.journal_text.specs.declared.line.Line.{Line}
use Rattle.journal_text.specs.declared.line.Line.TheVariants as line
use Rattle.journal_text.proofs.KeptFacts.{kept_before, kept_none}
use Rattle.journal_text.proofs.LineLaws.{line_back, line_graphic}
use Rattle.journal_text.proofs.SegmentProps.{opening_valid, same_segment}
use Rattle.journal_text.proofs.SplitFacts.{AreGraphic, IsGraphic}
use Rattle.journal_text.specs.Openings.{AreCounted, Begins, IsOpened, row_of}
use Rattle.journal_text.specs.Reading.{TextOutcome, ReadsLines, TakesAt, TakesText, headed, in_body, is_full, readable, rules_at, unreadable, with_entry, with_member, with_ticket}
use Rattle.journal_text.specs.SegmentText.{balancer_values, beginning, entry_lines, lease_lines, member_line, member_lines, member_values, opening_lines}
use Rattle.journal_text.specs.Written.{AllFit, CanFollow, CanStand, lines_of, texts_of}
use Rattle.journal_text.specs.declared.counted.Counted.{Counted}
use Rattle.journal_text.specs.declared.draft.OpeningDraft.{OpeningDraft}
use Rattle.journal_text.specs.declared.reader.TextPlace.TheVariants as place
use Rattle.journal_text.specs.declared.reader.Reader.{Reader}

-- ---- lines are cut out of the text

-- no byte of it is a control, a line's end among them
abbrev IsPlain : List ℕ → Type 0
IsPlain text = list_all (λ byte. nat_le 32 byte) text ≡ true

plain_append : (xs ys : List ℕ) → IsPlain xs → IsPlain ys → IsPlain (xs ++ ys)
plain_append xs ys h k = list_all-append (λ byte. nat_le 32 byte) xs ys ∙ and_from _ _ h k

plain_from_graphic : (word : List ℕ) → IsGraphic word → IsPlain word
plain_from_graphic [] h = refl
plain_from_graphic (b ∷ word) h =
    let parts = and_parts (nat_le 33 b) (list_all (λ byte. nat_le 33 byte) word) h in
    and_from (nat_le 32 b) _ (le-leb 32 b (omega (arith, leb-true 33 b parts.0))) (plain_from_graphic word parts.1)

spaced_plain : (words : List (List ℕ)) → AreGraphic words → IsPlain (spaced words)
spaced_plain [] h = refl
spaced_plain (word ∷ words) h = plain_append (32 ∷ word) (spaced words) (plain_from_graphic word h.0) (spaced_plain words h.1)

joined_plain : (words : List (List ℕ)) → AreGraphic words → IsPlain (joined words)
joined_plain [] h = refl
joined_plain (word ∷ words) h = plain_append word (spaced words) (plain_from_graphic word h.0) (spaced_plain words h.1)

cut_line : (text rest : List ℕ) → IsPlain text → parts_of 10 (text ++ 10 ∷ rest) ≡ text ∷ parts_of 10 rest
cut_line [] rest h = refl
cut_line (b ∷ text) rest h =
    let parts = and_parts (nat_le 32 b) (list_all (λ byte. nat_le 32 byte) text) h in
    let other : eqb b 10 ≡ false = ne_eqb b 10 (λ same. omega (arith, leb-true 32 b parts.0, same)) in
    cond-false (eqb b 10) _ _ other ∙ ap (onto_first b) (cut_line text rest parts.1)

texts : ℕ → List Line → List (List ℕ)
texts rules [] = []
texts rules (l ∷ lines) = line_text rules l ∷ texts rules lines

lines_cut : (rules : ℕ) (lines : List Line) (rest : List ℕ) → AllFit rules lines
    → parts_of 10 (lines_text rules lines ++ rest) ≡ texts rules lines ++ parts_of 10 rest
unfolding texts
lines_cut rules [] rest h = refl
lines_cut rules (l ∷ lines) rest h =
    let one : (line_text rules l ++ 10 ∷ []) ++ lines_text rules lines ≡ line_text rules l ++ 10 ∷ lines_text rules lines = append_assoc (line_text rules l) (10 ∷ []) (lines_text rules lines) in
    let all : ((line_text rules l ++ 10 ∷ []) ++ lines_text rules lines) ++ rest ≡ line_text rules l ++ 10 ∷ (lines_text rules lines ++ rest) =
    ap (λ x. x ++ rest) one ∙ append_assoc (line_text rules l) (10 ∷ lines_text rules lines) rest in
    ap (parts_of 10) all
    ∙ cut_line (line_text rules l) (lines_text rules lines ++ rest) (joined_plain (line_words rules l) (line_graphic rules l h.0))
    ∙ ap (λ ts. line_text rules l ∷ ts) (lines_cut rules lines rest h.1)

-- ---- lines that are taken one after the other

Run : Reader → List (List ℕ) → Reader → Type 0
Run r [] q = r ≡ q
Run r (t ∷ ts) q = (m : Reader) × TakesText r t (Some m) × Run m ts q

run_append : (r m q : Reader) (ts us : List (List ℕ)) → Run r ts m → Run m us q → Run r (ts ++ us) q
unfolding Run
run_append r m q [] us h k = subst (λ x. Run x us q) (sym h) k
run_append r m q (t ∷ ts) us h k = (h.0, h.1, run_append h.0 m q ts us h.2 k)

texts_append : (rules : ℕ) (xs ys : List Line) → texts rules (xs ++ ys) ≡ texts rules xs ++ texts rules ys
unfolding texts
texts_append rules [] ys = refl
texts_append rules (x ∷ xs) ys = ap (λ ts. line_text rules x ∷ ts) (texts_append rules xs ys)

run_lines : (rules : ℕ) (r m q : Reader) (xs ys : List Line) → Run r (texts rules xs) m → Run m (texts rules ys) q → Run r (texts rules (xs ++ ys)) q
run_lines rules r m q xs ys h k =
    subst (λ ts. Run r ts q) (sym (texts_append rules xs ys)) (run_append r m q (texts rules xs) (texts rules ys) h k)

take_line : (r : Reader) (l : Line) (m : Reader) → FitsLine (rules_at r.place) l → TakesAt r.done r.place l (Some m)
    → TakesText r (line_text (rules_at r.place) l) (Some m)
take_line r l m fits takes =
    subst (λ o. MatchOption o (Some m ≡ None) (λ x. TakesAt r.done r.place x (Some m))) (sym (line_back (rules_at r.place) l fits)) takes

run_one : (r : Reader) (l : Line) (m : Reader) → FitsLine (rules_at r.place) l → TakesAt r.done r.place l (Some m)
    → Run r (texts (rules_at r.place) (l ∷ [])) m
unfolding Run texts
run_one r l m fits takes = (m, take_line r l m fits takes, refl)

-- ---- the lines of an opening

drafted : OpeningDraft → List MemberConfig → List MemberRow → List Ticket → OpeningDraft
drafted d ms rs out = record { name = d.name; values = d.values; members = ms; rows = rs; out = out }

blank : MemberRow → MemberRow
blank r = record r { busy = 0 }

AllShow : List MemberConfig → List MemberRow → Type 0
AllShow [] [] = Unit {0}
AllShow [] (r ∷ rs) = ⊥
AllShow (c ∷ ms) [] = ⊥
AllShow (c ∷ ms) (r ∷ rs) = ShowsMember c r × AllShow ms rs

all_show : (ms : List MemberConfig) (rs : List MemberRow) → length rs ≡ length ms
    → ((m : ℕ) (c : MemberConfig) (r : MemberRow) → slice_get ms m ≡ Some c → slice_get rs m ≡ Some r → ShowsMember c r) → AllShow ms rs
unfolding AllShow
all_show [] [] n each = tt
all_show [] (r ∷ rs) n each = absurd (omega (arith, n))
all_show (c ∷ ms) [] n each = absurd (omega (arith, n))
all_show (c ∷ ms) (r ∷ rs) n each =
    (each 0 c r refl refl, all_show ms rs (omega (arith, n)) (λ m x y h k. each (suc m) x y h k))

row_shown : (c : MemberConfig) (r : MemberRow) → ShowsMember c r
    → row_of c.name (member_values c r) ≡ blank r
unfolding blank
row_shown c r h = rw (h.name, h.factor, h.distance, h.activation, h.redirect) refl

members_run : (v : ℕ) (done : List Counted) (d : OpeningDraft) (ms : List MemberConfig) (rs : List MemberRow)
    → length d.members + length ms ≡ d.values.members → AllShow ms rs → AllFit v (member_lines ms rs)
    → Run (headed v done d) (texts v (member_lines ms rs)) (headed v done (drafted d (d.members ++ ms) (d.rows ++ map blank rs) d.out))
unfolding Run texts drafted AllShow
members_run v done d [] [] n h fits =
    ap (λ x. headed v done (drafted d x d.rows d.out)) (sym (append-nil d.members))
    ∙ ap (λ x. headed v done (drafted d (d.members ++ []) x d.out)) (sym (append-nil d.rows))
members_run v done d [] (w ∷ rs) n h fits = absurd h
members_run v done d (c ∷ ms) [] n h fits = absurd h
members_run v done d (c ∷ ms) (w ∷ rs) n h fits =
    let d' = with_member d c.name c.route (member_values c w) in
    let room : is_full d ≡ false = ne_eqb (length d.members) d.values.members (λ e. omega (arith, n, e)) in
    let step : TakesText (headed v done d) (line_text v (member_line c w)) (Some (headed v done d')) =
    take_line (headed v done d) (member_line c w) (headed v done d') fits.0 (sym (cond-false (is_full d) None (Some (headed v done d')) room)) in
    let more : length (d.members ++ c ∷ []) + length ms ≡ d.values.members = omega (arith, n, length-append d.members (c ∷ [])) in
    let members : (d.members ++ c ∷ []) ++ ms ≡ d.members ++ c ∷ ms = append_assoc d.members (c ∷ []) ms in
    let rows : (d.rows ++ row_of c.name (member_values c w) ∷ []) ++ map blank rs ≡ d.rows ++ blank w ∷ map blank rs =
    append_assoc d.rows (row_of c.name (member_values c w) ∷ []) (map blank rs)
    ∙ ap (λ x. d.rows ++ x ∷ map blank rs) (row_shown c w h.0) in
    let end = ap (λ x. headed v done (drafted d x ((d.rows ++ row_of c.name (member_values c w) ∷ []) ++ map blank rs) d.out)) members
    ∙ ap (λ x. headed v done (drafted d (d.members ++ c ∷ ms) x d.out)) rows in
    (headed v done d', step, subst (λ q. Run (headed v done d') (texts v (member_lines ms rs)) q) end (members_run v done d' ms rs more h.1 fits.1))

leases_run : (v : ℕ) (done : List Counted) (d : OpeningDraft) (out : List Ticket) → is_full d ≡ true → AllFit v (lease_lines out)
    → Run (headed v done d) (texts v (lease_lines out)) (headed v done (drafted d d.members d.rows (d.out ++ out)))
unfolding Run texts drafted
leases_run v done d [] full fits = ap (λ x. headed v done (drafted d d.members d.rows x)) (sym (append-nil d.out))
leases_run v done d (x ∷ out) full fits =
    let d' = with_ticket d x.0 x.1 in
    let step : TakesText (headed v done d) (line_text v (line.Lease x.0 x.1)) (Some (headed v done d')) =
    take_line (headed v done d) (line.Lease x.0 x.1) (headed v done d') fits.0 (sym (cond-true (is_full d) (Some (headed v done d')) None full)) in
    let end = ap (λ y. headed v done (drafted d d.members d.rows y)) (append_assoc d.out (x ∷ []) out) in
    (headed v done d', step, subst (λ q. Run (headed v done d') (texts v (lease_lines out)) q) end (leases_run v done d' out full fits.1))

nth : {X : Type 0} (xs : List X) (m : ℕ) → m < length xs → (x : X) × (slice_get xs m ≡ Some x)
nth [] m h = absurd (omega (arith, h))
nth (x ∷ xs) zero h = (x, refl)
nth (x ∷ xs) (suc m) h = nth xs m (omega (arith, h))

-- the rows of a whole opening have the counts of its tickets
counted_rows : (o : Opening) → IsOpening o → AreCounted o.out (length (map blank o.rows)) (map blank o.rows) o.rows
unfolding blank
counted_rows o h = record {
  whole = sym (length-map o.rows blank);
  below = λ m d below inside.
      let within : m < length o.rows = omega (arith, inside, length-map o.rows blank) in
      let member : m < length o.config.members = omega (arith, within, h.rows.count) in
      let found = nth o.config.members m member in
      let busy = (h.rows.row m found.0 (get_or o.rows m d) found.1 (slice_get-get_or o.rows m d within)).busy in
      ap {A = ℕ} {B = MemberRow} (λ n. record (get_or o.rows m d) { busy = n }) busy
      ∙ ap (λ (w : MemberRow). record w { busy = count_by (λ x. x.1 == m) o.out }) (sym (get_or-map blank o.rows m d d within));
  above = λ m d past.
      get_or_past o.rows m d (omega (arith, past, length-map o.rows blank)) ∙ sym (get_or_past (map blank o.rows) m d past);
}

-- the draft that the lines before `from` leave
before_from : (name : List ℕ) → Opening → OpeningDraft
before_from name o = record { name = name; values = balancer_values o.config; members = o.config.members; rows = map blank o.rows; out = o.out }

from_opens : (name : List ℕ) (o : Opening) → IsOpening o → IsOpened (before_from name o) (beginning o) o
unfolding before_from
from_opens name o h =
    record { config = record { method = refl; sticky = refl; force = refl; direct = refl; maintain = refl; recover = refl; members = refl }; rows = counted_rows o h; out = refl; next = refl; at = refl; maintained = refl; chosen = refl }

fits_split : (rules : ℕ) (xs ys : List Line) → AllFit rules (xs ++ ys) → AllFit rules xs × AllFit rules ys
fits_split rules [] ys h = (tt, h)
fits_split rules (x ∷ xs) ys h = let parts = fits_split rules xs ys h.1 in ((h.0, parts.0), parts.1)

-- the segment before its first entry
without_entries : Segment → Segment
without_entries s = record { rules = s.rules; opening = s.opening; entries = []; versions = s.versions; valid = s.valid; kept = kept_none s.rules }

opening_run : (done : List Counted) (name : List ℕ) (s : Segment) → AllFit s.rules (opening_lines name s.opening)
    → Run (record { place = place.Ruled s.rules; done = done }) (texts s.rules (opening_lines name s.opening)) (in_body done name (without_entries s))
unfolding Run texts drafted before_from without_entries
opening_run done name s fits =
    let v = s.rules in
    let o = s.opening in
    let valid = opening_valid s in
    let r : Reader = record { place = place.Ruled v; done = done } in
    let d0 : OpeningDraft = record { name = name; values = balancer_values o.config; members = []; rows = []; out = [] } in
    let d1 : OpeningDraft = record { name = name; values = balancer_values o.config; members = o.config.members; rows = map blank o.rows; out = [] } in
    let d2 : OpeningDraft = before_from name o in
    let begun : Reader = in_body done name (without_entries s) in
    let full : is_full d1 ≡ true = eq-eqb (length o.config.members) (length o.config.members) refl in
    let parts = fits_split v (member_lines o.config.members o.rows) (lease_lines o.out ++ line.From (beginning o) ∷ []) fits.1 in
    let last = fits_split v (lease_lines o.out) (line.From (beginning o) ∷ []) parts.1 in
    let shown = all_show o.config.members o.rows valid.rows.count (λ m c w h k. (valid.rows.row m c w h k).shows) in
    let first : TakesText r (line_text v (line.Balancer name (balancer_values o.config))) (Some (headed v done d0)) =
    take_line r (line.Balancer name (balancer_values o.config)) (headed v done d0) fits.0 refl in
    let members : Run (headed v done d0) (texts v (member_lines o.config.members o.rows)) (headed v done d1) =
    members_run v done d0 o.config.members o.rows (omega arith) shown parts.0 in
    let leases : Run (headed v done d1) (texts v (lease_lines o.out)) (headed v done d2) = leases_run v done d1 o.out full last.0 in
    let begins : Begins v d2 (beginning o) (without_entries s) = record { ruled = refl; opening = from_opens name o valid; entries = refl } in
    let from : Run (headed v done d2) (texts v (line.From (beginning o) ∷ [])) begun =
    run_one (headed v done d2) (line.From (beginning o)) begun last.1.0 (full, without_entries s, begins, refl) in (
      headed v done d0,
      first,
      run_lines v (headed v done d0) (headed v done d1) begun (member_lines o.config.members o.rows) (lease_lines o.out ++ line.From (beginning o) ∷ []) members
          (run_lines v (headed v done d1) (headed v done d2) begun (lease_lines o.out) (line.From (beginning o) ∷ []) leases from),
    )

entries_run : (done : List Counted) (name : List ℕ) (s t : Segment) (entries : List Entry) → t.rules ≡ s.rules → t.opening ≡ s.opening
    → t.entries ≡ s.entries ++ entries → AllFit s.rules (entry_lines entries)
    → Run (in_body done name s) (texts s.rules (entry_lines entries)) (in_body done name t)
unfolding Run texts
entries_run done name s t [] rules opening is fits =
    ap (in_body done name) (same_segment s t (sym rules) (sym opening) (sym (is ∙ append-nil s.entries)))
entries_run done name s t (e ∷ entries) rules opening is fits =
    let whole : t.entries ≡ (s.entries ++ e ∷ []) ++ entries = is ∙ sym (append_assoc s.entries (e ∷ []) entries) in
    let all : AreKeptEntries s.rules ((s.entries ++ e ∷ []) ++ entries) =
    subst (λ (es : List Entry). AreKeptEntries s.rules es) whole (subst (λ (n : ℕ). AreKeptEntries n t.entries) rules t.kept) in
    let m : Segment = with_entry s e (kept_before s.rules (s.entries ++ e ∷ []) entries all) in
    let step : TakesText (in_body done name s) (line_text s.rules (line.Entry e)) (Some (in_body done name m)) =
    take_line (in_body done name s) (line.Entry e) (in_body done name m) fits.0 (kept_before s.rules (s.entries ++ e ∷ []) entries all, refl) in
    (in_body done name m, step, entries_run done name m t entries rules opening whole fits.1)

-- ---- whole segments, one after the other

segment_run : (former : ℕ) (done : List Counted) (c : Counted) → CanStand former c
    → Run (record { place = place.Outside former; done = done }) (texts c.segment.rules (lines_of c))
    (record { place = place.Outside c.segment.rules; done = done ++ c ∷ [] })
unfolding Run texts without_entries
segment_run former done c h =
    let s = c.segment in
    let v = s.rules in
    let start : Reader = record { place = place.Outside former; done = done } in
    let ruled : Reader = record { place = place.Ruled v; done = done } in
    let begun : Reader = in_body done c.name (without_entries s) in
    let whole : Reader = in_body done c.name s in
    let after : Reader = record { place = place.Outside v; done = done ++ c ∷ [] } in
    let parts = fits_split v (opening_lines c.name s.opening) (entry_lines s.entries ++ line.End c.count ∷ []) h.values.1 in
    let last = fits_split v (entry_lines s.entries) (line.End c.count ∷ []) parts.1 in
    let first : TakesText start (line_text v (line.Rules v)) (Some ruled) =
    subst (λ o. MatchOption o (Some ruled ≡ None) (λ x. TakesAt done (place.Outside former) x (Some ruled))) (sym (line_back former (line.Rules v) h.values.0))
    (sym (cond-true (nat_le former v) (Some ruled) None (le-leb former v h.later))) in
    let entries : Run begun (texts v (entry_lines s.entries)) whole =
    entries_run done c.name (without_entries s) s s.entries refl refl refl last.0 in
    let end : Run whole (texts v (line.End c.count ∷ [])) after = run_one whole (line.End c.count) after last.1.0 refl in (
      ruled,
      first,
      run_lines v ruled begun after (opening_lines c.name s.opening) (entry_lines s.entries ++ line.End c.count ∷ [])
          (opening_run done c.name s parts.0)
          (run_lines v begun whole after (entry_lines s.entries) (line.End c.count ∷ []) entries end),
    )

reads_step : (r m : Reader) (t : List ℕ) (ls : List (List ℕ)) (o : TextOutcome) (k : ℕ) → TakesText r t (Some m) → 0 < length ls
    → ReadsLines m (k + 1) ls o → ReadsLines r k (t ∷ ls) o
reads_step r m t [] o k takes some reads = absurd (omega (arith, some))
reads_step r m t (n ∷ ls) o k takes some reads = (Some m, takes, reads)

reads_run : (ts : List (List ℕ)) (r q : Reader) (ls : List (List ℕ)) (o : TextOutcome) → 0 < length ls → Run r ts q
    → ((k : ℕ) → ReadsLines q k ls o) → (k : ℕ) → ReadsLines r k (ts ++ ls) o
unfolding Run
reads_run [] r q ls o some h each k = subst (λ x. ReadsLines x k ls o) (sym h) (each k)
reads_run (t ∷ ts) r q ls o some h each k =
    reads_step r h.0 t (ts ++ ls) o k h.1 (omega (arith, some, length-append ts ls)) (reads_run ts h.0 q ls o some h.2 each (k + 1))

some_parts : (text : List ℕ) → 0 < length (parts_of 10 text)
some_parts text = omega (arith, length-slice_split (λ b. b == 10) text)

reads_all : (cs : List Counted) (former : ℕ) (done : List Counted) → CanFollow former cs → 0 < length (done ++ cs) → (k : ℕ)
    → ReadsLines (record { place = place.Outside former; done = done }) k (parts_of 10 (texts_of cs)) (readable (done ++ cs))
reads_all [] former done h some k =
    ap readable (append-nil done) ∙ sym (cond-true (nat_lt 0 (length done)) (readable done) (unreadable k) (lt-ltb 0 (length done) (omega (arith, some, length-append done []))))
reads_all (c ∷ cs) former done h some k =
    let v = c.segment.rules in
    let lines = lines_of c in
    let next : Reader = record { place = place.Outside v; done = done ++ c ∷ [] } in
    let joint : (done ++ c ∷ []) ++ cs ≡ done ++ c ∷ cs = append_assoc done (c ∷ []) cs in
    let later : (n : ℕ) → ReadsLines next n (parts_of 10 (texts_of cs)) (readable (done ++ c ∷ cs)) =
    λ n. subst (λ x. ReadsLines next n (parts_of 10 (texts_of cs)) (readable x)) joint
    (reads_all cs v (done ++ c ∷ []) h.1 (omega (arith, length-append (done ++ c ∷ []) cs, length-append done (c ∷ []))) n) in
    let cut = lines_cut v lines (texts_of cs) h.0.values in
    subst (λ ps. ReadsLines (record { place = place.Outside former; done = done }) k ps (readable (done ++ c ∷ cs))) (sym cut)
    (reads_run (texts v lines) (record { place = place.Outside former; done = done }) next (parts_of 10 (texts_of cs)) (readable (done ++ c ∷ cs))
    (some_parts (texts_of cs)) (segment_run former done c h.0) later k)

-- segments that a text can hold are read from their texts
pub written_back : (c : Counted) (cs : List Counted) → CanFollow 1 (c ∷ cs)
    → ReadsLines (record { place = place.Outside 1; done = [] }) 1 (parts_of 10 (texts_of (c ∷ cs))) (readable (c ∷ cs))
written_back c cs h = reads_all (c ∷ cs) 1 [] h (omega arith) 1
