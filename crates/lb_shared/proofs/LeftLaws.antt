-- The one history of a Site, by the seats of the desks that left.
use Rattle.std.proofs.Common.{◌≡◌, ◌≢◌, ℕ, suc, Bool, false, cond, List, [], ◌∷◌, ◌++◌, map, refl, sym, ap, ◌∙◌, subst, arith, append-nil, append_assoc, eq-eqb, length, drop, ne_eqb, Option}
use Rattle.std.specs.Prelude.{◌==◌}
use Rattle.std.specs.List.{All, filter}
use Rattle.std.proofs.lemmas.List.Elements.{All-cons, All-head, All-map, All-nil, All-tail, All-weaker, filter-append}
use mathlib.Core.List.{map-append}
use mathlib.Core.Option.{some}
use lib.ListN.{get_elem?}
use Rattle.atomic_table.specs.Table.{Me}
use Rattle.lb_model.specs.declared.journal.Entry.{Entry}
use Rattle.lb_model.specs.declared.opening.Opening.{Opening}
use Rattle.lb_book.specs.Journal.{Journal}
use Rattle.lb_book.specs.declared.receipt.Receipt.{Receipt}
use Rattle.lb_shared.specs.Seats.{AreApart, IsClaim, by_seat, seated, united}
use Rattle.lb_shared.specs.declared.view.Claim.{Claim}
use Rattle.lb_shared.specs.declared.view.View.{View}
use Rattle.lb_shared.specs.Histories.{AreDistinct, DeskSees, HasGone, IsClosedAfter, IsMadeBy, SeatNote, SeesHold, Step, all_cuts, cuts_seen, gained_in, log_in, noted, own_cuts, own_in}
use Rattle.lb_shared.proofs.StepLaws.{cuts-append, cuts-foreign, log-append, log-foreign}

-- The claim of a seat.
abbrev pub claim_of : SeatNote → Claim Step
claim_of s = record { number = s.number; seen = s.steps }

-- A seat of this number that claims nothing of its own, with the claims of these seats.
abbrev pub joined_view : (number : ℕ) → List SeatNote → View Step
joined_view number seats = record { holds = false; claims = record { number = number; seen = [] } ∷ map claim_of seats }

-- One seat more was joined.
pub joined_more : {S : Type 0} (n : ℕ) (done : List SeatNote) (other : SeatNote) (old mine new : Me (Option S) (View Step))
    → old ≡ (joined_view n done, []) → mine ≡ (seated false other.number other.steps, []) → new ≡ (united old.0 mine.0, old.1)
    → new ≡ (joined_view n (done ++ other ∷ []), [])
joined_more {S} n done other old mine new was is joined =
    joined
    ∙ ap (λ (m : Me (Option S) (View Step)). (united m.0 mine.0, m.1)) was
    ∙ ap (λ (m : Me (Option S) (View Step)). (united (joined_view n done) m.0, [])) is
    ∙ ap (λ (cs : List (Claim Step)). (record { holds = false; claims = record { number = n; seen = [] } ∷ cs }, [])) (sym (map-append claim_of done (other ∷ [])))

pub no_seats : (seats : List SeatNote) → length seats ≡ 0 → seats ≡ []
no_seats [] none = refl
no_seats (s ∷ seats) none = absurd (omega (arith, none))

all_at : {A : Type 0} (P : A → Type 0) (xs : List A) → ((k : ℕ) (x : A) → get_elem? xs k ≡ some x → P x) → All P xs
all_at P [] each = All-nil P
all_at P (x ∷ xs) each = All-cons P x xs (each 0 x refl) (all_at P xs (λ k y at. each (suc k) y at))

pub own-append : (n : ℕ) (log new : List (ℕ × (ℕ × Entry))) → own_in n (log ++ new) ≡ own_in n log ++ own_in n new
own-append n log new =
    ap (λ (xs : List (ℕ × (ℕ × Entry))). map (λ (x : ℕ × (ℕ × Entry)). x.1) xs) (filter-append (λ (x : ℕ × (ℕ × Entry)). x.0 == n) log new)
    ∙ map-append (λ (x : ℕ × (ℕ × Entry)). x.1) (filter (λ (x : ℕ × (ℕ × Entry)). x.0 == n) log) (filter (λ (x : ℕ × (ℕ × Entry)). x.0 == n) new)

pub none_own : (n : ℕ) (later : List (ℕ × (ℕ × Entry))) → All (λ x. x.0 ≢ n) later → own_in n later ≡ []
none_own n [] others = refl
none_own n (x ∷ xs) others =
    ap (λ (b : Bool). map (λ (y : ℕ × (ℕ × Entry)). y.1) (cond b (x ∷ filter (λ (y : ℕ × (ℕ × Entry)). y.0 == n) xs) (filter (λ (y : ℕ × (ℕ × Entry)). y.0 == n) xs)))
    (ne_eqb x.0 n (All-head (λ (y : ℕ × (ℕ × Entry)). y.0 ≢ n) x xs others))
    ∙ none_own n xs (All-tail (λ (y : ℕ × (ℕ × Entry)). y.0 ≢ n) x xs others)

pub claim_own : (steps : List (ℕ × Step)) (c : Claim Step) → IsClaim steps c → own_in c.number (log_in steps) ≡ own_in c.number (log_in c.seen)
claim_own steps c is =
    ap (λ (l : List (ℕ × Step)). own_in c.number (log_in l)) is.whole
    ∙ ap (λ (l : List (ℕ × (ℕ × Entry))). own_in c.number l) (log-append c.seen is.later)
    ∙ own-append c.number (log_in c.seen) (log_in is.later)
    ∙ ap (λ (es : List (ℕ × Entry)). own_in c.number (log_in c.seen) ++ es) (none_own c.number (log_in is.later) (log-foreign c.number is.later is.others))
    ∙ append-nil (own_in c.number (log_in c.seen))

pub claim_cuts : (steps : List (ℕ × Step)) (c : Claim Step) → IsClaim steps c → own_cuts c.number steps ≡ own_cuts c.number c.seen
claim_cuts steps c is =
    ap (λ (l : List (ℕ × Step)). own_cuts c.number l) is.whole
    ∙ cuts-append c.number [] c.seen is.later
    ∙ ap (λ (l : List (ℕ × List (ℕ × Step))). own_cuts c.number c.seen ++ l) (cuts-foreign c.number c.seen is.later is.others)
    ∙ append-nil (own_cuts c.number c.seen)

-- The entries that a seat has seen are those of its steps, at a Site whose balancers began with these openings.
abbrev pub IsTold : List Opening → SeatNote → Type 0
IsTold starts s = (s.seen ≡ log_in s.steps) × (s.starts ≡ starts)

owns : (starts : List Opening) (steps : List (ℕ × Step)) (seats : List SeatNote) → All (IsTold starts) seats → ((k : ℕ) (c : Claim Step) → get_elem? (map claim_of seats) k ≡ some c → IsClaim steps c)
    → All (λ s. own_in s.number (log_in steps) ≡ own_in s.number s.seen) seats
owns starts steps [] told each = All-nil _
owns starts steps (s ∷ seats) told each =
    All-cons (λ (t : SeatNote). own_in t.number (log_in steps) ≡ own_in t.number t.seen) s seats
    (claim_own steps (claim_of s) (each 0 (claim_of s) refl) ∙ ap (λ (l : List (ℕ × (ℕ × Entry))). own_in s.number l) (sym (All-head (IsTold starts) s seats told).0))
    (owns starts steps seats (All-tail (IsTold starts) s seats told) (λ k c at. each (suc k) c at))

cuts_own : (steps : List (ℕ × Step)) (seats : List SeatNote) → ((k : ℕ) (c : Claim Step) → get_elem? (map claim_of seats) k ≡ some c → IsClaim steps c)
    → All (λ s. own_cuts s.number steps ≡ cuts_seen s) seats
cuts_own steps [] each = All-nil _
cuts_own steps (s ∷ seats) each =
    All-cons (λ (t : SeatNote). own_cuts t.number steps ≡ cuts_seen t) s seats (claim_cuts steps (claim_of s) (each 0 (claim_of s) refl))
    (cuts_own steps seats (λ k c at. each (suc k) c at))

distinct : (cs : List (Claim Step)) → AreApart cs → AreDistinct (map (λ c. c.number) cs)
distinct [] apart = tt
distinct (c ∷ cs) apart = (
  All-map (λ (m : ℕ). m ≢ c.number) (λ (d : Claim Step). d.number) cs
      (all_at (λ (d : Claim Step). d.number ≢ c.number) cs (λ m d at same. absurd (omega (arith, apart (suc m) 0 d c at refl same)))),
  distinct cs (λ k m d e one other same. omega (arith, apart (suc k) (suc m) d e one other same)),
)

numbers_of : (seats : List SeatNote) → map (λ (c : Claim Step). c.number) (map claim_of seats) ≡ map (λ s. s.number) seats
numbers_of [] = refl
numbers_of (s ∷ seats) = ap (λ (ns : List ℕ). s.number ∷ ns) (numbers_of seats)

-- The history of a Site whose lock was closed with these seats, after so many cuts.
pub closed_by : (starts : List Opening) (books : List Journal) (count : ℕ) (steps : List (ℕ × Step)) (first : Claim Step) (seats : List SeatNote)
    → IsMadeBy starts steps books → length (all_cuts steps) ≡ count → All (IsTold starts) seats
    → ((k : ℕ) (c : Claim Step) → get_elem? (first ∷ map claim_of seats) k ≡ some c → IsClaim steps c)
    → AreApart (first ∷ map claim_of seats) → IsClosedAfter starts seats count books
closed_by starts books count steps first seats made counted told each apart = record {
  counted = counted;
  closed = record {
    steps = steps;
    journals = made.journals;
    begun = All-weaker (IsTold starts) (λ (s : SeatNote). s.starts ≡ starts) (λ s is. is.1) seats told;
    cuts = cuts_own steps seats (λ k c at. each (suc k) c at);
    log = log_in steps;
    entries = refl;
    history = made.history;
    own = owns starts steps seats told (λ k c at. each (suc k) c at);
    apart = subst AreDistinct (numbers_of seats) (distinct (first ∷ map claim_of seats) apart).1;
  };
}

own_by : (n : ℕ) (gained : List (ℕ × Entry)) → own_in n (by_seat n gained) ≡ gained
own_by n [] = refl
own_by n (g ∷ gs) =
    ap (λ (b : Bool). map (λ (y : ℕ × (ℕ × Entry)). y.1) (cond b ((n, g) ∷ filter (λ (y : ℕ × (ℕ × Entry)). y.0 == n) (by_seat n gs)) (filter (λ (y : ℕ × (ℕ × Entry)). y.0 == n) (by_seat n gs)))) (eq-eqb n n refl)
    ∙ ap (λ (xs : List (ℕ × Entry)). g ∷ xs) (own_by n gs)

-- A hold adds just its own entries to those of its desk.
pub own_sees : (starts : List Opening) (n : ℕ) (before after : List (ℕ × (ℕ × Entry))) (gained : List (ℕ × Entry)) → SeesHold starts n before after gained
    → own_in n after ≡ own_in n before ++ gained
own_sees starts n before after gained sees =
    ap (λ (l : List (ℕ × (ℕ × Entry))). own_in n l) sees.is
    ∙ own-append n (before ++ sees.others) (by_seat n gained)
    ∙ ap (λ (es : List (ℕ × Entry)). es ++ own_in n (by_seat n gained))
    (own-append n before sees.others ∙ ap (λ (es : List (ℕ × Entry)). own_in n before ++ es) (none_own n sees.others sees.foreign) ∙ append-nil (own_in n before))
    ∙ ap (λ (es : List (ℕ × Entry)). own_in n before ++ es) (own_by n gained)

pub drop_front : {A : Type 0} (xs ys : List A) → drop (length xs) (xs ++ ys) ≡ ys
drop_front [] ys = refl
drop_front (x ∷ xs) ys = drop_front xs ys

-- So of a desk since a moment, after one call more.
pub gone_on : (starts : List Opening) (s : SeatNote) (rs : List Receipt) (t u : SeatNote) (us vs more : List Receipt)
    → HasGone s rs t us → vs ≡ us ++ more → DeskSees starts t u (gained_in us vs) → HasGone s rs u vs
gone_on starts s rs t u us vs more gone grown sees =
    let gained : gained_in us vs ≡ noted more = ap (λ (xs : List Receipt). gained_in us xs) grown ∙ ap (λ (xs : List Receipt). noted xs) (drop_front us more) in
    let own : own_in t.number u.seen ≡ own_in t.number t.seen ++ noted more =
    own_sees starts t.number t.seen u.seen (gained_in us vs) sees.sees ∙ ap (λ (es : List (ℕ × Entry)). own_in t.number t.seen ++ es) gained in
    let mine : own_in s.number u.seen ≡ own_in s.number t.seen ++ noted more =
    subst (λ (n : ℕ). own_in n u.seen ≡ own_in n t.seen ++ noted more) gone.number own in
    let first = drop (length rs) us in
    let whole : vs ≡ rs ++ (first ++ more) = grown ∙ ap (λ (xs : List Receipt). xs ++ more) gone.grown ∙ append_assoc rs first more in
    let added : drop (length rs) vs ≡ first ++ more = ap (λ (xs : List Receipt). drop (length rs) xs) whole ∙ drop_front rs (first ++ more) in
    record {
      lock = sees.lock ∙ gone.lock;
      number = sees.number ∙ gone.number;
      grown = whole ∙ ap (λ (xs : List Receipt). rs ++ xs) (sym added);
      own =
          mine ∙ ap (λ (es : List (ℕ × Entry)). es ++ noted more) gone.own ∙ append_assoc (own_in s.number s.seen) (noted first) (noted more)
          ∙ ap (λ (es : List (ℕ × Entry)). own_in s.number s.seen ++ es) (sym (map-append (λ (r : Receipt). (r.lb, r.entry)) first more) ∙ sym (ap (λ (xs : List Receipt). noted xs) added));
    }

-- Nothing was done since just now.
pub gone_none : (s : SeatNote) (rs : List Receipt) → HasGone s rs s rs
gone_none s rs =
    let none : drop (length rs) rs ≡ [] = ap (λ (xs : List Receipt). drop (length rs) xs) (sym (append-nil rs)) ∙ drop_front rs [] in
    record {
      lock = refl;
      number = refl;
      grown = sym (append-nil rs) ∙ ap (λ (xs : List Receipt). rs ++ xs) (sym none);
      own = sym (append-nil (own_in s.number s.seen)) ∙ ap (λ (xs : List Receipt). own_in s.number s.seen ++ noted xs) (sym none);
    }
