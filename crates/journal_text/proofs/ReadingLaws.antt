-- A text is read in one way.
use Rattle.std.proofs.Common.{◌≡◌, ℕ, ◌+◌, List, [], ◌∷◌, ◌++◌, Option, Some, None, refl, sym, ap, subst, ◌∙◌}
use Rattle.std.specs.Prelude.{MatchOption}
use Rattle.lb_model.specs.declared.segment.Segment.{Segment}
use Rattle.journal_text.specs.Readings.{line_of}
use Rattle.journal_text.specs.declared.counted.Counted.{Counted}
use Rattle.journal_text.specs.declared.line.Beginning.{Beginning}
use Rattle.journal_text.specs.declared.line.Line.{Line}
use Rattle.journal_text.specs.declared.line.Line.TheVariants as line
use Rattle.journal_text.specs.Reading.{Continues, Heads, Opens, TextOutcome, ReadsLines, TakesAt, TakesText, in_body, rules_at, unreadable, with_entry}
use Rattle.journal_text.specs.declared.draft.OpeningDraft.{OpeningDraft}
use Rattle.journal_text.specs.declared.reader.TextPlace.{TextPlace}
use Rattle.journal_text.specs.declared.reader.TextPlace.TheVariants as place
use Rattle.journal_text.specs.declared.reader.Reader.{Reader}
use Rattle.journal_text.proofs.SegmentProps.{begins_once, kept_prop}

opens_once : (rules : ℕ) (done : List Counted) (d : OpeningDraft) (b : Beginning) (f g : Option Reader) → Opens rules done d b f → Opens rules done d b g → f ≡ g
opens_once rules done d b None None h k = refl
opens_once rules done d b None (Some q) h k = absurd (h k.0 k.1 k.2)
opens_once rules done d b (Some q) None h k = absurd (k h.0 h.1 h.2)
opens_once rules done d b (Some q) (Some s) h k =
    ap Some (h.3 ∙ ap (in_body done d.name) (begins_once rules d b h.1 k.1 h.2 k.2) ∙ sym k.3)

heads_once : (rules : ℕ) (done : List Counted) (d : OpeningDraft) (l : Line) (f g : Option Reader) → Heads rules done d l f → Heads rules done d l g → f ≡ g
heads_once rules done d (line.Rules v) f g h k = h ∙ sym k
heads_once rules done d (line.Balancer name values) f g h k = h ∙ sym k
heads_once rules done d (line.Member name route values) f g h k = h ∙ sym k
heads_once rules done d (line.Lease ticket member) f g h k = h ∙ sym k
heads_once rules done d (line.From b) f g h k = opens_once rules done d b f g h k
heads_once rules done d (line.Entry e) f g h k = h ∙ sym k
heads_once rules done d (line.End count) f g h k = h ∙ sym k

continues_once : (done : List Counted) (name : List ℕ) (s : Segment) (l : Line) (f g : Option Reader) → Continues done name s l f → Continues done name s l g → f ≡ g
continues_once done name s (line.Rules v) f g h k = h ∙ sym k
continues_once done name s (line.Balancer other values) f g h k = h ∙ sym k
continues_once done name s (line.Member other route values) f g h k = h ∙ sym k
continues_once done name s (line.Lease ticket member) f g h k = h ∙ sym k
continues_once done name s (line.From b) f g h k = h ∙ sym k
continues_once done name s (line.Entry e) f g h k =
    h.1 ∙ ap (λ kept. Some (in_body done name (with_entry s e kept))) (kept_prop s.rules (s.entries ++ e ∷ []) h.0 k.0) ∙ sym k.1
continues_once done name s (line.End count) f g h k = h ∙ sym k

at_once : (done : List Counted) (p : TextPlace) (l : Line) (f g : Option Reader) → TakesAt done p l f → TakesAt done p l g → f ≡ g
at_once done (place.Outside former) l f g h k = h ∙ sym k
at_once done (place.Ruled rules) l f g h k = h ∙ sym k
at_once done (place.Heading rules d) l f g h k = heads_once rules done d l f g h k
at_once done (place.Body name s) l f g h k = continues_once done name s l f g h k

line_once : (r : Reader) (o : Option Line) (f g : Option Reader)
    → MatchOption o (f ≡ None) (λ l. TakesAt r.done r.place l f) → MatchOption o (g ≡ None) (λ l. TakesAt r.done r.place l g) → f ≡ g
line_once r None f g h k = h ∙ sym k
line_once r (Some l) f g h k = at_once r.done r.place l f g h k

pub takes_once : (r : Reader) (text : List ℕ) (f g : Option Reader) → TakesText r text f → TakesText r text g → f ≡ g
takes_once r text f g h k = line_once r (line_of (rules_at r.place) text) f g h k

-- the lines from here on are read in one way
pub reads_once : (r : Reader) (number : ℕ) (lines : List (List ℕ)) (o p : TextOutcome) → ReadsLines r number lines o → ReadsLines r number lines p → o ≡ p
reads_once r number [] o p h k = absurd h
reads_once r number (last ∷ []) o p h k = h ∙ sym k
reads_once r number (text ∷ next ∷ lines) o p h k =
    let same = takes_once r text h.0 k.0 h.1 k.1 in
    let moved = subst (λ f. MatchOption f (p ≡ unreadable number) (λ q. ReadsLines q (number + 1) (next ∷ lines) p)) (sym same) k.2 in
    (elim h.0 as (λ f. MatchOption f (o ≡ unreadable number) (λ q. ReadsLines q (number + 1) (next ∷ lines) o)
    → MatchOption f (p ≡ unreadable number) (λ q. ReadsLines q (number + 1) (next ∷ lines) p) → o ≡ p) [
      | None ↦ λ x y. x ∙ sym y
      | Some q ↦ λ x y. reads_once q (number + 1) (next ∷ lines) o p x y
    ]) h.2 moved
