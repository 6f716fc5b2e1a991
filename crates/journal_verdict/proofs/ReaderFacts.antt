-- The reader in the check of a text: it doesn't look at the segments before, and counts the lines that it took.
use Rattle.std.proofs.Common.{◌≡◌, ℕ, suc, ◌+◌, ◌⊎◌, inl, inr, Bool, true, false, List, [], ◌∷◌, ◌++◌, length, Option, Some, None, refl, sym, ap, subst, ◌∙◌, append_assoc, length-append, arith}
use Rattle.std.specs.Prelude.{MatchOption, nat_le, if◌then◌else◌}
use Rattle.std.proofs.lemmas.List.{length-map}
use Rattle.lb_model.specs.Tickets.{Ticket}
use Rattle.lb_model.specs.declared.member.MemberConfig.{MemberConfig}
use Rattle.lb_model.specs.declared.opening.Opening.{Opening}
use Rattle.lb_model.specs.declared.segment.Segment.{Segment}
use Rattle.lb_model.specs.declared.view.MemberRow.{MemberRow}
use Rattle.journal_text.specs.Readings.{line_of}
use Rattle.journal_text.specs.declared.line.Line.{Line}
use Rattle.journal_text.specs.declared.line.Line.TheVariants as line
use Rattle.journal_verdict.specs.Checks.{front, lines_taken}
use Rattle.journal_text.specs.Openings.{Begins, row_of}
use Rattle.journal_text.specs.Reading.{Continues, Heads, TakesAt, TakesText, begun, headed, is_full, named, rules_at, with_member, with_ticket}
use Rattle.journal_text.specs.SegmentText.{beginning, entry_lines, lease_lines, member_lines, opening_lines}
use Rattle.journal_text.specs.Written.{lines_of}
use Rattle.journal_text.proofs.SegmentProps.{opening_valid}
use Rattle.journal_text.specs.declared.counted.Counted.{Counted}
use Rattle.journal_text.specs.declared.draft.OpeningDraft.{OpeningDraft}
use Rattle.journal_text.specs.declared.reader.TextPlace.{TextPlace}
use Rattle.journal_text.specs.declared.reader.TextPlace.TheVariants as place
use Rattle.journal_text.specs.declared.reader.Reader.{Reader}

abbrev pub fronted : List Counted → Option Reader → Option Reader
fronted before None = None
fronted before (Some q) = Some (front before q)

then_front : (before : List Counted) (b : Bool) (q : Reader) → fronted before (if b then Some q else None) ≡ (if b then Some (front before q) else None)
then_front before true q = refl
then_front before false q = refl

else_front : (before : List Counted) (b : Bool) (q : Reader) → fronted before (if b then None else Some q) ≡ (if b then None else Some (front before q))
else_front before true q = refl
else_front before false q = refl

begun_front : (before : List Counted) (former : ℕ) (done : List Counted) (l : Line) → fronted before (begun former done l) ≡ begun former (before ++ done) l
begun_front before former done (line.Rules v) =
    then_front before (nat_le former v) (record { place = place.Ruled v; done = done })
begun_front before former done (line.Balancer name values) = refl
begun_front before former done (line.Member name route values) = refl
begun_front before former done (line.Lease ticket member) = refl
begun_front before former done (line.From b) = refl
begun_front before former done (line.Entry e) = refl
begun_front before former done (line.End count) = refl

named_front : (before : List Counted) (rules : ℕ) (done : List Counted) (l : Line) → fronted before (named rules done l) ≡ named rules (before ++ done) l
named_front before rules done (line.Rules v) = refl
named_front before rules done (line.Balancer name values) = refl
named_front before rules done (line.Member name route values) = refl
named_front before rules done (line.Lease ticket member) = refl
named_front before rules done (line.From b) = refl
named_front before rules done (line.Entry e) = refl
named_front before rules done (line.End count) = refl

heads_front : (before : List Counted) (rules : ℕ) (done : List Counted) (d : OpeningDraft) (l : Line) (found : Option Reader)
    → Heads rules done d l found → Heads rules (before ++ done) d l (fronted before found)
heads_front before rules done d (line.Rules v) found h = ap (fronted before) h
heads_front before rules done d (line.Balancer name values) found h = ap (fronted before) h
heads_front before rules done d (line.Member name route values) found h =
    ap (fronted before) h ∙ else_front before (is_full d) (headed rules done (with_member d name route values))
heads_front before rules done d (line.Lease ticket member) found h =
    ap (fronted before) h ∙ then_front before (is_full d) (headed rules done (with_ticket d ticket member))
heads_front before rules done d (line.From b) None h = h
heads_front before rules done d (line.From b) (Some q) h = (h.0, h.1, h.2, ap (front before) h.3)
heads_front before rules done d (line.Entry e) found h = ap (fronted before) h
heads_front before rules done d (line.End count) found h = ap (fronted before) h

continues_front : (before done : List Counted) (name : List ℕ) (s : Segment) (l : Line) (found : Option Reader)
    → Continues done name s l found → Continues (before ++ done) name s l (fronted before found)
continues_front before done name s (line.Rules v) found h = ap (fronted before) h
continues_front before done name s (line.Balancer other values) found h = ap (fronted before) h
continues_front before done name s (line.Member other route values) found h = ap (fronted before) h
continues_front before done name s (line.Lease ticket member) found h = ap (fronted before) h
continues_front before done name s (line.From b) found h = ap (fronted before) h
continues_front before done name s (line.Entry e) found h = (h.0, ap (fronted before) h.1)
continues_front before done name s (line.End count) found h =
    let c : Counted = record { name = name; segment = s; count = count } in
    ap (fronted before) h
    ∙ ap (λ (cs : List Counted). Some (record { place = place.Outside s.rules; done = cs })) (sym (append_assoc before done (c ∷ [])))

at_front : (before done : List Counted) (p : TextPlace) (l : Line) (found : Option Reader)
    → TakesAt done p l found → TakesAt (before ++ done) p l (fronted before found)
at_front before done (place.Outside former) l found h = ap (fronted before) h ∙ begun_front before former done l
at_front before done (place.Ruled rules) l found h = ap (fronted before) h ∙ named_front before rules done l
at_front before done (place.Heading rules d) l found h = heads_front before rules done d l found h
at_front before done (place.Body name s) l found h = continues_front before done name s l found h

line_front : (before : List Counted) (r : Reader) (o : Option Line) (found : Option Reader)
    → MatchOption o (found ≡ None) (λ l. TakesAt r.done r.place l found)
    → MatchOption o (fronted before found ≡ None) (λ l. TakesAt (before ++ r.done) r.place l (fronted before found))
line_front before r None found h = ap (fronted before) h
line_front before r (Some l) found h = at_front before r.done r.place l found h

-- a line is taken alike, whatever was read before
pub takes_front : (before : List Counted) (r : Reader) (text : List ℕ) (found : Option Reader)
    → TakesText r text found → TakesText (front before r) text (fronted before found)
takes_front before r text found h = line_front before r (line_of (rules_at r.place) text) found h

-- ---- how many lines were taken

-- a line more of the segment, or its last line
abbrev pub Stepped : (lines : ℕ) → (old new : Reader) → Type 0
Stepped lines old new =
    ((new.done ≡ old.done) × (lines_taken new.place ≡ lines + 1))
    ⊎ ((c : Counted) × (new.done ≡ old.done ++ c ∷ []) × (lines_taken new.place ≡ 0) × (length (lines_of c) ≡ lines + 1))

same_some : {T : Type 0} (a b : T) → Some a ≡ Some b → a ≡ b
same_some a b h = cc

then_some : (b : Bool) (q x : Reader) → Some q ≡ (if b then Some x else None) → q ≡ x
then_some true q x h = same_some q x h
then_some false q x h = absurd (let none : Some q ≡ None = h in cc)

else_some : (b : Bool) (q x : Reader) → Some q ≡ (if b then None else Some x) → q ≡ x
else_some true q x h = absurd (let none : Some q ≡ None = h in cc)
else_some false q x h = same_some q x h

not_some : {T : Type 0} (q : Reader) → Some q ≡ None → T
not_some q h = absurd (let none : Some q ≡ None = h in cc)

member_count : (ms : List MemberConfig) (rs : List MemberRow) → length rs ≡ length ms → length (member_lines ms rs) ≡ length rs
member_count [] [] h = refl
member_count [] (r ∷ rs) h = absurd (omega (arith, h))
member_count (c ∷ ms) [] h = refl
member_count (c ∷ ms) (r ∷ rs) h = ap suc (member_count ms rs (omega (arith, h)))

pub opening_count : (name : List ℕ) (o : Opening) → length o.rows ≡ length o.config.members → length (opening_lines name o) ≡ 2 + length o.rows + length o.out
opening_count name o h =
    omega (
      arith,
      member_count o.config.members o.rows h,
      length-append (member_lines o.config.members o.rows) (lease_lines o.out ++ line.From (beginning o) ∷ []),
      length-append (lease_lines o.out) (line.From (beginning o) ∷ []),
      length-map o.out (λ (x : Ticket). line.Lease x.0 x.1),
    )

stepped_by : (lines : ℕ) (r q x : Reader) → q ≡ x → Stepped lines r x → Stepped lines r q
stepped_by lines r q x h s = subst (λ y. Stepped lines r y) (sym h) s

stepped_outside : (former : ℕ) (r q : Reader) (l : Line) → Some q ≡ begun former r.done l → Stepped 0 r q
stepped_outside former r q (line.Rules v) h =
    let next : Reader = record { place = place.Ruled v; done = r.done } in
    stepped_by 0 r q next (then_some (nat_le former v) q next h) (inl (refl, refl))
stepped_outside former r q (line.Balancer name values) h = not_some q h
stepped_outside former r q (line.Member name route values) h = not_some q h
stepped_outside former r q (line.Lease ticket member) h = not_some q h
stepped_outside former r q (line.From b) h = not_some q h
stepped_outside former r q (line.Entry e) h = not_some q h
stepped_outside former r q (line.End count) h = not_some q h

stepped_ruled : (rules : ℕ) (r q : Reader) (l : Line) → Some q ≡ named rules r.done l → Stepped 1 r q
stepped_ruled rules r q (line.Rules v) h = not_some q h
stepped_ruled rules r q (line.Balancer name values) h = stepped_by 1 r q _ (same_some q _ h) (inl (refl, refl))
stepped_ruled rules r q (line.Member name route values) h = not_some q h
stepped_ruled rules r q (line.Lease ticket member) h = not_some q h
stepped_ruled rules r q (line.From b) h = not_some q h
stepped_ruled rules r q (line.Entry e) h = not_some q h
stepped_ruled rules r q (line.End count) h = not_some q h

begun_lines : (rules : ℕ) (d : OpeningDraft) (b : _) (s : Segment) → Begins rules d b s
    → 1 + length (opening_lines d.name s.opening) + length s.entries ≡ 2 + length d.rows + length d.out + 1
begun_lines rules d b s is =
    omega (
      arith,
      opening_count d.name s.opening (opening_valid s).rows.count,
      is.opening.rows.whole,
      ap length is.opening.out,
      ap length is.entries,
    )

stepped_heading : (rules : ℕ) (r q : Reader) (d : OpeningDraft) (l : Line) → Heads rules r.done d l (Some q) → Stepped (2 + length d.rows + length d.out) r q
stepped_heading rules r q d (line.Rules v) h = not_some q h
stepped_heading rules r q d (line.Balancer name values) h = not_some q h
stepped_heading rules r q d (line.Member name route values) h =
    stepped_by _ r q _ (else_some (is_full d) q _ h) (inl (refl, omega (arith, length-append d.rows (row_of name values ∷ []))))
stepped_heading rules r q d (line.Lease ticket member) h =
    stepped_by _ r q _ (then_some (is_full d) q _ h) (inl (refl, omega (arith, length-append d.out ((ticket, member) ∷ []))))
stepped_heading rules r q d (line.From b) h = stepped_by _ r q _ h.3 (inl (refl, begun_lines rules d b h.1 h.2))
stepped_heading rules r q d (line.Entry e) h = not_some q h
stepped_heading rules r q d (line.End count) h = not_some q h

stepped_body : (r q : Reader) (name : List ℕ) (s : Segment) (l : Line) → Continues r.done name s l (Some q)
    → Stepped (1 + length (opening_lines name s.opening) + length s.entries) r q
stepped_body r q name s (line.Rules v) h = not_some q h
stepped_body r q name s (line.Balancer other values) h = not_some q h
stepped_body r q name s (line.Member other route values) h = not_some q h
stepped_body r q name s (line.Lease ticket member) h = not_some q h
stepped_body r q name s (line.From b) h = not_some q h
stepped_body r q name s (line.Entry e) h =
    stepped_by _ r q _ (same_some q _ h.1) (inl (refl, omega (arith, length-append s.entries (e ∷ []))))
stepped_body r q name s (line.End count) h =
    let c : Counted = record { name = name; segment = s; count = count } in
    stepped_by _ r q _ (same_some q _ h) (inr (
      c,
      refl,
      refl,
      omega (
        arith,
        length-append (opening_lines name s.opening) (entry_lines s.entries ++ line.End count ∷ []),
        length-append (entry_lines s.entries) (line.End count ∷ []),
        length-map s.entries (λ e. line.Entry e),
      ),
    ))

stepped_at : (r q : Reader) (p : TextPlace) (l : Line) → TakesAt r.done p l (Some q) → Stepped (lines_taken p) r q
stepped_at r q (place.Outside former) l h = stepped_outside former r q l h
stepped_at r q (place.Ruled rules) l h = stepped_ruled rules r q l h
stepped_at r q (place.Heading rules d) l h = stepped_heading rules r q d l h
stepped_at r q (place.Body name s) l h = stepped_body r q name s l h

stepped_line : (r q : Reader) (o : Option Line) → MatchOption o (Some q ≡ None) (λ l. TakesAt r.done r.place l (Some q)) → Stepped (lines_taken r.place) r q
stepped_line r q None h = not_some q h
stepped_line r q (Some l) h = stepped_at r q r.place l h

-- a line that is taken is one more of its segment, or the last one
pub takes_stepped : (r q : Reader) (text : List ℕ) → TakesText r text (Some q) → Stepped (lines_taken r.place) r q
takes_stepped r q text h = stepped_line r q (line_of (rules_at r.place) text) h
