-- A line that is taken adds at most one member or ticket to those that the reader holds.
use Rattle.std.proofs.Common.{◌≡◌, ℕ, ◌+◌, ◌≤◌, Bool, true, false, List, [], ◌∷◌, length, Option, Some, None, ap, length-append, arith}
use Rattle.std.specs.Prelude.{MatchOption, nat_le, if◌then◌else◌}
use Rattle.lb_model.specs.declared.segment.Segment.{Segment}
use Rattle.journal_text.specs.Readings.{line_of}
use Rattle.journal_text.specs.declared.counted.Counted.{Counted}
use Rattle.journal_text.specs.declared.draft.OpeningDraft.{OpeningDraft}
use Rattle.journal_text.specs.declared.line.Line.{Line}
use Rattle.journal_text.specs.declared.line.Line.TheVariants as line
use Rattle.journal_text.specs.declared.reader.TextPlace.{TextPlace}
use Rattle.journal_text.specs.declared.reader.TextPlace.TheVariants as place
use Rattle.journal_text.specs.declared.reader.Reader.{Reader}
use Rattle.journal_text.specs.Openings.{row_of}
use Rattle.journal_text.specs.Reading.{Continues, Heads, TakesAt, TakesText, begun, headed, held, is_full, named, rules_at, with_member, with_ticket}

not_some : {T : Type 0} (q : Reader) → Some q ≡ None → T
not_some q h = absurd (let none : Some q ≡ None = h in cc)

some_held : (q x : Reader) → Some q ≡ Some x → held q.place ≡ held x.place
some_held q x h = ap (λ (r : Reader). held r.place) (let same : q ≡ x = cc in same)

then_held : (b : Bool) (q x : Reader) → Some q ≡ (if b then Some x else None) → held q.place ≡ held x.place
then_held true q x h = some_held q x h
then_held false q x h = not_some q h

else_held : (b : Bool) (q x : Reader) → Some q ≡ (if b then None else Some x) → held q.place ≡ held x.place
else_held true q x h = not_some q h
else_held false q x h = some_held q x h

begun_held : (former : ℕ) (done : List Counted) (l : Line) (q : Reader) → Some q ≡ begun former done l → held q.place ≡ 0
begun_held former done (line.Rules v) q h = then_held (nat_le former v) q (record { place = place.Ruled v; done = done }) h
begun_held former done (line.Balancer name values) q h = not_some q h
begun_held former done (line.Member name route values) q h = not_some q h
begun_held former done (line.Lease ticket member) q h = not_some q h
begun_held former done (line.From b) q h = not_some q h
begun_held former done (line.Entry e) q h = not_some q h
begun_held former done (line.End count) q h = not_some q h

named_held : (rules : ℕ) (done : List Counted) (l : Line) (q : Reader) → Some q ≡ named rules done l → held q.place ≡ 0
named_held rules done (line.Rules v) q h = not_some q h
named_held rules done (line.Balancer name values) q h =
    some_held q (headed rules done (record { name = name; values = values; members = []; rows = []; out = [] })) h
named_held rules done (line.Member name route values) q h = not_some q h
named_held rules done (line.Lease ticket member) q h = not_some q h
named_held rules done (line.From b) q h = not_some q h
named_held rules done (line.Entry e) q h = not_some q h
named_held rules done (line.End count) q h = not_some q h

headed_held : (rules : ℕ) (done : List Counted) (d : OpeningDraft) (l : Line) (q : Reader) → Heads rules done d l (Some q)
    → held q.place ≤ length d.rows + length d.out + 1
headed_held rules done d (line.Rules v) q h = not_some q h
headed_held rules done d (line.Balancer name values) q h = not_some q h
headed_held rules done d (line.Member name route v) q h =
    omega (arith, else_held (is_full d) q (headed rules done (with_member d name route v)) h, length-append d.rows (row_of name v ∷ []))
headed_held rules done d (line.Lease ticket member) q h =
    omega (arith, then_held (is_full d) q (headed rules done (with_ticket d ticket member)) h, length-append d.out ((ticket, member) ∷ []))
headed_held rules done d (line.From b) q h = omega (arith, ap (λ (r : Reader). held r.place) h.3)
headed_held rules done d (line.Entry e) q h = not_some q h
headed_held rules done d (line.End count) q h = not_some q h

continued_held : (done : List Counted) (name : List ℕ) (s : Segment) (l : Line) (q : Reader) → Continues done name s l (Some q) → held q.place ≡ 0
continued_held done name s (line.Rules v) q h = not_some q h
continued_held done name s (line.Balancer other values) q h = not_some q h
continued_held done name s (line.Member other route values) q h = not_some q h
continued_held done name s (line.Lease ticket member) q h = not_some q h
continued_held done name s (line.From b) q h = not_some q h
continued_held done name s (line.Entry e) q h = some_held q _ h.1
continued_held done name s (line.End count) q h = some_held q _ h

at_held : (done : List Counted) (p : TextPlace) (l : Line) (q : Reader) → TakesAt done p l (Some q) → held q.place ≤ held p + 1
at_held done (place.Outside former) l q h = omega (arith, begun_held former done l q h)
at_held done (place.Ruled rules) l q h = omega (arith, named_held rules done l q h)
at_held done (place.Heading rules d) l q h = headed_held rules done d l q h
at_held done (place.Body name s) l q h = omega (arith, continued_held done name s l q h)

line_held : (r : Reader) (o : Option Line) (q : Reader) → MatchOption o (Some q ≡ None) (λ l. TakesAt r.done r.place l (Some q)) → held q.place ≤ held r.place + 1
line_held r None q h = not_some q h
line_held r (Some l) q h = at_held r.done r.place l q h

pub takes_held : (r : Reader) (text : List ℕ) (q : Reader) → TakesText r text (Some q) → held q.place ≤ held r.place + 1
takes_held r text q h = line_held r (line_of (rules_at r.place) text) q h
