-- A text is read as segments only where it is their text.
use Rattle.std.proofs.Common.{◌≡◌, ℕ, ◌+◌, ◌<◌, ◌==◌, Bool, true, false, nat_lt, List, [], ◌∷◌, ◌++◌, length, map, Option, Some, None, refl, sym, ap, subst, ◌∙◌, append_assoc, length-append, arith, ⊎_elim}
use Rattle.std.specs.Prelude.{MatchOption, ◌&&◌, if◌then◌else◌}
use Rattle.std.specs.List.{join_with_byte}
use Rattle.std.proofs.lemmas.Bool.{and_parts, cases_Bool, cond-true, cond-false, eqb-true}
use Rattle.std.proofs.lemmas.Grind.{flat_map-append}
use Rattle.std.proofs.lemmas.List.{append-nil, get_or-map, length-map, map-append, same_lists}
use Rattle.std.proofs.lemmas.List.Splits.{join_with_byte-slice_split}
use Rattle.lb_model.specs.Tickets.{Ticket}
use Rattle.lb_model.specs.declared.journal.Entry.{Entry}
use Rattle.lb_model.specs.declared.member.MemberConfig.{MemberConfig}
use Rattle.lb_model.specs.declared.member.Method.{Method}
use Rattle.lb_model.specs.declared.opening.Opening.{Opening}
use Rattle.lb_model.specs.declared.segment.Segment.{Segment}
use Rattle.lb_model.specs.declared.view.MemberRow.{MemberRow}
use Rattle.play_script.specs.Parts.{parts_of}
use Rattle.journal_text.specs.Lines.{line_text, lines_text}
use Rattle.journal_text.specs.Readings.{line_of}
use Rattle.journal_text.specs.declared.line.BalancerValues.{BalancerValues}
use Rattle.journal_text.specs.declared.line.Beginning.{Beginning}
use Rattle.journal_text.specs.declared.line.Line.{Line}
use Rattle.journal_text.specs.declared.line.Line.TheVariants as line
use Rattle.journal_text.specs.declared.line.MemberValues.{MemberValues}
use Rattle.journal_text.proofs.LineLaws.{line_spelled}
use Rattle.journal_text.specs.Openings.{AreCounted, Begins, IsOpened, config_of, row_of}
use Rattle.journal_text.specs.Reading.{Continues, Heads, ReadsLines, ReadsText, TakesAt, TakesText, at_start, begun, ended, headed, in_body, is_end, is_full, is_outside, named, readable, rules_at, unreadable, with_entry, with_member, with_ticket}
use Rattle.journal_text.specs.SegmentText.{balancer_values, beginning, entry_lines, lease_lines, member_line, member_lines, opening_lines}
use Rattle.journal_text.specs.Written.{lines_of, texts_of}
use Rattle.journal_text.specs.declared.counted.Counted.{Counted}
use Rattle.journal_text.specs.declared.draft.OpeningDraft.{OpeningDraft}
use Rattle.journal_text.specs.declared.reader.TextPlace.{TextPlace}
use Rattle.journal_text.specs.declared.reader.TextPlace.TheVariants as place
use Rattle.journal_text.specs.declared.reader.Reader.{Reader}

-- ---- the lines that a reader has taken

abbrev drafted : (v : ℕ) → OpeningDraft → List Line
drafted v d = line.Rules v ∷ line.Balancer d.name d.values ∷ (member_lines d.members d.rows ++ lease_lines d.out)

abbrev begun_by : (name : List ℕ) → Segment → List Line
begun_by name s = line.Rules s.rules ∷ (opening_lines name s.opening ++ entry_lines s.entries)

abbrev lines_at : TextPlace → List Line
lines_at (place.Outside former) = []
lines_at (place.Ruled rules) = line.Rules rules ∷ []
lines_at (place.Heading rules d) = drafted rules d
lines_at (place.Body name s) = begun_by name s

abbrev taken : Reader → List ℕ
taken r = texts_of r.done ++ lines_text (rules_at r.place) (lines_at r.place)

-- a row for each member, and no ticket before the last member
record IsOrdered (d : OpeningDraft) : Type 0 where
  even : length d.rows ≡ length d.members
  later : is_full d ≡ false → d.out ≡ []

abbrev IsOrderedAt : TextPlace → Type 0
IsOrderedAt (place.Outside former) = Unit {0}
IsOrderedAt (place.Ruled rules) = Unit {0}
IsOrderedAt (place.Heading rules d) = IsOrdered d
IsOrderedAt (place.Body name s) = Unit {0}

-- ---- a line more in a text

line_more : (v : ℕ) (xs : List Line) (l : Line) → lines_text v (xs ++ l ∷ []) ≡ lines_text v xs ++ (line_text v l ++ 10 ∷ [])
line_more v xs l =
    flat_map-append (λ (x : Line). line_text v x ++ 10 ∷ []) xs (l ∷ [])
    ∙ ap (λ t. lines_text v xs ++ t) (append-nil (line_text v l ++ 10 ∷ []))

text_more : (done : List Counted) (v : ℕ) (xs ys : List Line) (l : Line) → ys ≡ xs ++ l ∷ []
    → texts_of done ++ lines_text v ys ≡ (texts_of done ++ lines_text v xs) ++ (line_text v l ++ 10 ∷ [])
text_more done v xs ys l h =
    ap (λ ls. texts_of done ++ lines_text v ls) h
    ∙ ap (λ t. texts_of done ++ t) (line_more v xs l)
    ∙ sym (append_assoc (texts_of done) (lines_text v xs) (line_text v l ++ 10 ∷ []))

texts_more : (done : List Counted) (c : Counted) → texts_of (done ++ c ∷ []) ≡ texts_of done ++ lines_text c.segment.rules (lines_of c)
texts_more done c =
    flat_map-append (λ (x : Counted). lines_text x.segment.rules (lines_of x)) done (c ∷ [])
    ∙ ap (λ t. texts_of done ++ t) (append-nil (lines_text c.segment.rules (lines_of c)))

-- ---- the lines of an opening

members_more : (ms : List MemberConfig) (rs : List MemberRow) (c : MemberConfig) (w : MemberRow) → length rs ≡ length ms
    → member_lines (ms ++ c ∷ []) (rs ++ w ∷ []) ≡ member_lines ms rs ++ member_line c w ∷ []
members_more [] [] c w h = refl
members_more [] (r ∷ rs) c w h = absurd (omega (arith, h))
members_more (m ∷ ms) [] c w h = absurd (omega (arith, h))
members_more (m ∷ ms) (r ∷ rs) c w h = ap (λ ls. member_line m r ∷ ls) (members_more ms rs c w (omega (arith, h)))

without : MemberRow → MemberRow
without r = record r { busy = 0 }

-- a row's line doesn't say how many tickets are out
members_without : (ms : List MemberConfig) (rs : List MemberRow) → member_lines ms (map without rs) ≡ member_lines ms rs
unfolding without
members_without [] rs = refl
members_without (m ∷ ms) [] = refl
members_without (m ∷ ms) (r ∷ rs) = ap (λ ls. member_line m r ∷ ls) (members_without ms rs)

counted_without : (out : List Ticket) (old new : List MemberRow) → AreCounted out (length old) old new → map without new ≡ map without old
unfolding without
counted_without out old new h =
    same_lists (map without new) (map without old)
    (length-map new without ∙ h.whole ∙ sym (length-map old without))
    (λ i d below.
    let inside : i < length old = omega (arith, below, h.whole, length-map new without) in
    let here : i < length new = omega (arith, inside, h.whole) in
    get_or-map without new i d d here
    ∙ ap (λ (r : MemberRow). record r { busy = 0 }) (h.below i d inside inside)
    ∙ sym (get_or-map without old i d d inside))

values : Method → (sticky force direct : Bool) → (maintain recover members : ℕ) → BalancerValues
values m s f d mt r n = record { method = m; sticky = s; force = f; direct = d; maintain = mt; recover = r; members = n }

opened_values : (d : OpeningDraft) (b : Beginning) (o : Opening) → IsOpened d b o → is_full d ≡ true → balancer_values o.config ≡ d.values
unfolding values
opened_values d b o is full =
    let c = o.config in
    let v = d.values in
    let count : length c.members ≡ v.members = ap length is.config.members ∙ eqb-true (length d.members) v.members full in
    ap (λ x. values x c.sticky c.force c.direct c.maintain c.recover (length c.members)) is.config.method
    ∙ ap (λ x. values v.method x c.force c.direct c.maintain c.recover (length c.members)) is.config.sticky
    ∙ ap (λ x. values v.method v.sticky x c.direct c.maintain c.recover (length c.members)) is.config.force
    ∙ ap (λ x. values v.method v.sticky v.force x c.maintain c.recover (length c.members)) is.config.direct
    ∙ ap (λ x. values v.method v.sticky v.force v.direct x c.recover (length c.members)) is.config.maintain
    ∙ ap (λ x. values v.method v.sticky v.force v.direct v.maintain x (length c.members)) is.config.recover
    ∙ ap (λ x. values v.method v.sticky v.force v.direct v.maintain v.recover x) count

start : (next at maintained : ℕ) → Option ℕ → Beginning
start n a m c = record { next = n; at = a; maintained = m; chosen = c }

opened_start : (d : OpeningDraft) (b : Beginning) (o : Opening) → IsOpened d b o → beginning o ≡ b
unfolding start
opened_start d b o is =
    ap (λ x. start x o.at o.maintained o.chosen) is.next
    ∙ ap (λ x. start b.next x o.maintained o.chosen) is.at
    ∙ ap (λ x. start b.next b.at x o.chosen) is.maintained
    ∙ ap (λ x. start b.next b.at b.maintained x) is.chosen

opened_members : (d : OpeningDraft) (b : Beginning) (o : Opening) → IsOpened d b o → member_lines o.config.members o.rows ≡ member_lines d.members d.rows
opened_members d b o is =
    ap (λ ms. member_lines ms o.rows) is.config.members
    ∙ sym (members_without d.members o.rows)
    ∙ ap (λ rs. member_lines d.members rs) (counted_without d.out d.rows o.rows is.rows)
    ∙ members_without d.members d.rows

-- the opening's lines are those of the draft, and the last one
opened_lines : (v : ℕ) (d : OpeningDraft) (b : Beginning) (o : Opening) → IsOpened d b o → is_full d ≡ true
    → line.Rules v ∷ (opening_lines d.name o ++ []) ≡ drafted v d ++ line.From b ∷ []
opened_lines v d b o is full =
    ap (λ ls. line.Rules v ∷ ls) (append-nil (opening_lines d.name o))
    ∙ ap (λ x. line.Rules v ∷ line.Balancer d.name x ∷ (member_lines o.config.members o.rows ++ (lease_lines o.out ++ line.From (beginning o) ∷ []))) (opened_values d b o is full)
    ∙ ap (λ ls. line.Rules v ∷ line.Balancer d.name d.values ∷ (ls ++ (lease_lines o.out ++ line.From (beginning o) ∷ []))) (opened_members d b o is)
    ∙ ap (λ (out : List Ticket). line.Rules v ∷ line.Balancer d.name d.values ∷ (member_lines d.members d.rows ++ (lease_lines out ++ line.From (beginning o) ∷ []))) is.out
    ∙ ap (λ x. line.Rules v ∷ line.Balancer d.name d.values ∷ (member_lines d.members d.rows ++ (lease_lines d.out ++ line.From x ∷ []))) (opened_start d b o is)
    ∙ ap (λ ls. line.Rules v ∷ line.Balancer d.name d.values ∷ ls) (sym (append_assoc (member_lines d.members d.rows) (lease_lines d.out) (line.From b ∷ [])))

-- ---- each line that is taken

abbrev Adds : Reader → (text : List ℕ) → Reader → Type 0
Adds r text q = IsOrderedAt q.place × (taken q ≡ taken r ++ (text ++ 10 ∷ []))

same_some : {T : Type 0} (a b : T) → Some a ≡ Some b → a ≡ b
same_some a b h = cc

then_parts : (b : Bool) (q x : Reader) → Some q ≡ (if b then Some x else None) → (b ≡ true) × (q ≡ x)
then_parts true q x h = (refl, same_some q x h)
then_parts false q x h = absurd (let none : Some q ≡ None = h in cc)

else_parts : (b : Bool) (q x : Reader) → Some q ≡ (if b then None else Some x) → (b ≡ false) × (q ≡ x)
else_parts true q x h = absurd (let none : Some q ≡ None = h in cc)
else_parts false q x h = (refl, same_some q x h)

no_some : {T : Type 0} (q : Reader) → Some q ≡ None → T
no_some q h = absurd (let none : Some q ≡ None = h in cc)

adds_as : (r q x : Reader) (text : List ℕ) → q ≡ x → Adds r text x → Adds r text q
adds_as r q x text h a = subst (λ y. Adds r text y) (sym h) a

adds_outside : (former : ℕ) (done : List Counted) (q : Reader) (l : Line) → Some q ≡ begun former done l
    → Adds (record { place = place.Outside former; done = done }) (line_text former l) q
adds_outside former done q (line.Rules w) h =
    let x : Reader = record { place = place.Ruled w; done = done } in
    adds_as (record { place = place.Outside former; done = done }) q x (line_text former (line.Rules w)) (then_parts _ q x h).1
    (tt, ap (λ t. texts_of done ++ t) (append-nil (line_text w (line.Rules w) ++ 10 ∷ [])) ∙ ap (λ t. t ++ (line_text w (line.Rules w) ++ 10 ∷ [])) (sym (append-nil (texts_of done))))
adds_outside former done q (line.Balancer name b) h = no_some q h
adds_outside former done q (line.Member name route b) h = no_some q h
adds_outside former done q (line.Lease ticket member) h = no_some q h
adds_outside former done q (line.From b) h = no_some q h
adds_outside former done q (line.Entry e) h = no_some q h
adds_outside former done q (line.End count) h = no_some q h

adds_ruled : (v : ℕ) (done : List Counted) (q : Reader) (l : Line) → Some q ≡ named v done l
    → Adds (record { place = place.Ruled v; done = done }) (line_text v l) q
adds_ruled v done q (line.Rules w) h = no_some q h
adds_ruled v done q (line.Balancer name b) h =
    let r : Reader = record { place = place.Ruled v; done = done } in
    let d : OpeningDraft = record { name = name; values = b; members = []; rows = []; out = [] } in
    adds_as r q (headed v done d) (line_text v (line.Balancer name b)) (same_some q (headed v done d) h)
    (record { even = refl; later = λ _. refl }, text_more done v (line.Rules v ∷ []) (drafted v d) (line.Balancer name b) refl)
adds_ruled v done q (line.Member name route b) h = no_some q h
adds_ruled v done q (line.Lease ticket member) h = no_some q h
adds_ruled v done q (line.From b) h = no_some q h
adds_ruled v done q (line.Entry e) h = no_some q h
adds_ruled v done q (line.End count) h = no_some q h

member_drafted : (v : ℕ) (d : OpeningDraft) (name route : List ℕ) (m : MemberValues) → IsOrdered d → is_full d ≡ false
    → drafted v (with_member d name route m) ≡ drafted v d ++ line.Member name route m ∷ []
member_drafted v d name route m ordered room =
    let ms = member_lines d.members d.rows in
    let l = line.Member name route m in
    let none = ordered.later room in
    ap (λ ls. line.Rules v ∷ line.Balancer d.name d.values ∷ (ls ++ lease_lines d.out)) (members_more d.members d.rows (config_of name route m) (row_of name m) ordered.even)
    ∙ ap (λ (out : List Ticket). line.Rules v ∷ line.Balancer d.name d.values ∷ ((ms ++ l ∷ []) ++ lease_lines out)) none
    ∙ ap (λ ls. line.Rules v ∷ line.Balancer d.name d.values ∷ ls) (append-nil (ms ++ l ∷ []))
    ∙ ap (λ ls. line.Rules v ∷ line.Balancer d.name d.values ∷ (ls ++ l ∷ [])) (sym (append-nil ms))
    ∙ ap (λ (out : List Ticket). line.Rules v ∷ line.Balancer d.name d.values ∷ ((ms ++ lease_lines out) ++ l ∷ [])) (sym none)

lease_drafted : (v : ℕ) (d : OpeningDraft) (ticket member : ℕ) → drafted v (with_ticket d ticket member) ≡ drafted v d ++ line.Lease ticket member ∷ []
lease_drafted v d ticket member =
    let ms = member_lines d.members d.rows in
    let l = line.Lease ticket member in
    ap (λ ls. line.Rules v ∷ line.Balancer d.name d.values ∷ (ms ++ ls)) (map-append (λ (x : Ticket). line.Lease x.0 x.1) d.out ((ticket, member) ∷ []))
    ∙ ap (λ ls. line.Rules v ∷ line.Balancer d.name d.values ∷ ls) (sym (append_assoc ms (lease_lines d.out) (l ∷ [])))

adds_heading : (v : ℕ) (done : List Counted) (d : OpeningDraft) (q : Reader) (l : Line) → IsOrdered d
    → Heads v done d l (Some q) → Adds (headed v done d) (line_text v l) q
adds_heading v done d q (line.Rules w) ordered h = no_some q h
adds_heading v done d q (line.Balancer name b) ordered h = no_some q h
adds_heading v done d q (line.Member name route m) ordered h =
    let r : Reader = headed v done d in
    let x = with_member d name route m in
    let parts = else_parts (is_full d) q (headed v done x) h in
    adds_as r q (headed v done x) (line_text v (line.Member name route m)) parts.1 (
      record {
        even = omega (arith, ordered.even, length-append d.rows (row_of name m ∷ []), length-append d.members (config_of name route m ∷ []));
        later = λ _. ordered.later parts.0;
      },
      text_more done v (drafted v d) (drafted v x) (line.Member name route m) (member_drafted v d name route m ordered parts.0),
    )
adds_heading v done d q (line.Lease ticket member) ordered h =
    let r : Reader = headed v done d in
    let x = with_ticket d ticket member in
    let parts = then_parts (is_full d) q (headed v done x) h in
    adds_as r q (headed v done x) (line_text v (line.Lease ticket member)) parts.1 (
      record { even = ordered.even; later = λ none. absurd (let both : true ≡ false = sym parts.0 ∙ none in cc) },
      text_more done v (drafted v d) (drafted v x) (line.Lease ticket member) (lease_drafted v d ticket member),
    )
adds_heading v done d q (line.From b) ordered h =
    let s : Segment = h.1 in
    let x = in_body done d.name s in
    let is : Begins v d b s = h.2 in
    let lines : begun_by d.name s ≡ drafted v d ++ line.From b ∷ [] =
    ap (λ (es : List Entry). line.Rules s.rules ∷ (opening_lines d.name s.opening ++ entry_lines es)) is.entries
    ∙ ap (λ n. line.Rules n ∷ (opening_lines d.name s.opening ++ [])) is.ruled
    ∙ opened_lines v d b s.opening is.opening h.0 in
    adds_as (headed v done d) q x (line_text v (line.From b)) h.3
    (tt, ap (λ n. texts_of done ++ lines_text n (begun_by d.name s)) is.ruled ∙ text_more done v (drafted v d) (begun_by d.name s) (line.From b) lines)
adds_heading v done d q (line.Entry e) ordered h = no_some q h
adds_heading v done d q (line.End count) ordered h = no_some q h

adds_body : (done : List Counted) (name : List ℕ) (s : Segment) (q : Reader) (l : Line) → Continues done name s l (Some q)
    → Adds (in_body done name s) (line_text s.rules l) q
adds_body done name s q (line.Rules w) h = no_some q h
adds_body done name s q (line.Balancer other b) h = no_some q h
adds_body done name s q (line.Member other route m) h = no_some q h
adds_body done name s q (line.Lease ticket member) h = no_some q h
adds_body done name s q (line.From b) h = no_some q h
adds_body done name s q (line.Entry e) h =
    let t : Segment = with_entry s e h.0 in
    let more : begun_by name t ≡ begun_by name s ++ line.Entry e ∷ [] =
    ap (λ ls. line.Rules s.rules ∷ (opening_lines name s.opening ++ ls)) (map-append (λ (y : Entry). line.Entry y) s.entries (e ∷ []))
    ∙ ap (λ ls. line.Rules s.rules ∷ ls) (sym (append_assoc (opening_lines name s.opening) (entry_lines s.entries) (line.Entry e ∷ []))) in
    adds_as (in_body done name s) q (in_body done name t) (line_text s.rules (line.Entry e)) (same_some q (in_body done name t) h.1)
    (tt, text_more done s.rules (begun_by name s) (begun_by name t) (line.Entry e) more)
adds_body done name s q (line.End count) h =
    let c : Counted = record { name = name; segment = s; count = count } in
    let x : Reader = record { place = place.Outside s.rules; done = done ++ c ∷ [] } in
    let more : lines_of c ≡ begun_by name s ++ line.End count ∷ [] =
    ap (λ ls. line.Rules s.rules ∷ ls) (sym (append_assoc (opening_lines name s.opening) (entry_lines s.entries) (line.End count ∷ []))) in
    adds_as (in_body done name s) q x (line_text s.rules (line.End count)) (same_some q x h) (
      tt,
      append-nil (texts_of (done ++ c ∷ []))
          ∙ texts_more done c
          ∙ text_more done s.rules (begun_by name s) (lines_of c) (line.End count) more,
    )

adds_at : (p : TextPlace) (done : List Counted) (q : Reader) (l : Line) → IsOrderedAt p
    → TakesAt done p l (Some q) → Adds (record { place = p; done = done }) (line_text (rules_at p) l) q
adds_at (place.Outside former) done q l ordered h = adds_outside former done q l h
adds_at (place.Ruled rules) done q l ordered h = adds_ruled rules done q l h
adds_at (place.Heading rules d) done q l ordered h = adds_heading rules done d q l ordered h
adds_at (place.Body name s) done q l ordered h = adds_body done name s q l h

adds_line : (r q : Reader) (text : List ℕ) (found : Option Line) → line_of (rules_at r.place) text ≡ found → IsOrderedAt r.place
    → MatchOption found (Some q ≡ None) (λ l. TakesAt r.done r.place l (Some q)) → Adds r text q
adds_line r q text None is ordered h = no_some q h
adds_line r q text (Some l) is ordered h =
    subst (λ t. Adds r t q) (sym (line_spelled (rules_at r.place) text l is)) (adds_at r.place r.done q l ordered h)

adds : (r q : Reader) (text : List ℕ) → IsOrderedAt r.place → TakesText r text (Some q) → Adds r text q
adds r q text ordered h = adds_line r q text (line_of (rules_at r.place) text) refl ordered h

-- ---- the whole text

outside_nothing : (p : TextPlace) → is_outside p ≡ true → lines_at p ≡ []
outside_nothing (place.Outside former) h = refl
outside_nothing (place.Ruled rules) h = absurd (let no : false ≡ true = h in cc)
outside_nothing (place.Heading rules d) h = absurd (let no : false ≡ true = h in cc)
outside_nothing (place.Body name s) h = absurd (let no : false ≡ true = h in cc)

empty_list : (xs : List ℕ) → length xs ≡ 0 → xs ≡ []
empty_list [] h = refl
empty_list (x ∷ xs) h = absurd (omega (arith, h))

ended_text : (r : Reader) (number : ℕ) (last : List ℕ) (cs : List Counted) → readable cs ≡ ended r number last → taken r ++ last ≡ texts_of cs
ended_text r number last cs h =
    ⊎_elim
    (λ yes.
    let parts = and_parts (length last == 0) (is_outside r.place && nat_lt 0 (length r.done)) yes in
    let place = and_parts (is_outside r.place) (nat_lt 0 (length r.done)) parts.1 in
    let is : readable cs ≡ readable r.done = h ∙ cond-true (is_end r last) (readable r.done) (unreadable number) yes in
    let done : cs ≡ r.done = cc in
    ap (λ t. taken r ++ t) (empty_list last (eqb-true (length last) 0 parts.0))
    ∙ append-nil (taken r)
    ∙ ap (λ ls. texts_of r.done ++ lines_text (rules_at r.place) ls) (outside_nothing r.place place.0)
    ∙ append-nil (texts_of r.done)
    ∙ ap texts_of (sym done))
    (λ no. absurd (let is : readable cs ≡ unreadable number = h ∙ cond-false (is_end r last) (readable r.done) (unreadable number) no in cc))
    (cases_Bool (is_end r last))

reads_text : (r : Reader) (number : ℕ) (lines : List (List ℕ)) (cs : List Counted) → IsOrderedAt r.place → ReadsLines r number lines (readable cs)
    → taken r ++ join_with_byte 10 lines ≡ texts_of cs
reads_text r number [] cs ordered h = absurd h
reads_text r number (last ∷ []) cs ordered h = ended_text r number last cs h
reads_text r number (text ∷ next ∷ lines) cs ordered h =
    (elim h.0 as (λ found. TakesText r text found → MatchOption found (readable cs ≡ unreadable number) (λ q. ReadsLines q (number + 1) (next ∷ lines) (readable cs))
    → taken r ++ join_with_byte 10 (text ∷ next ∷ lines) ≡ texts_of cs) [
      | None ↦ λ takes is. absurd (let no : readable cs ≡ unreadable number = is in cc)
      | Some q ↦ λ takes reads.
          let one = adds r q text ordered takes in
          let rest = join_with_byte 10 (next ∷ lines) in
          ap (λ t. taken r ++ t) (sym (append_assoc text (10 ∷ []) rest))
          ∙ sym (append_assoc (taken r) (text ++ 10 ∷ []) rest)
          ∙ ap (λ t. t ++ rest) (sym one.1)
          ∙ reads_text q (number + 1) (next ∷ lines) cs one.0 reads
    ]) h.1 h.2

pub spelled : (text : List ℕ) (cs : List Counted) → ReadsText text (readable cs) → text ≡ texts_of cs
spelled text cs h = sym (join_with_byte-slice_split 10 text) ∙ reads_text at_start 1 (parts_of 10 text) cs tt h
