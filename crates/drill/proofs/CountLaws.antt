-- A drill's count, from the rows of a session up to those of all threads.
use Rattle.std.proofs.Common.{◌≡◌, ℕ, zero, suc, ◌+◌, ◌<◌, ◌≤◌, List, [], ◌∷◌, ◌++◌, Option, Some, None, Result, Ok, Err, length, map, fold, min, take, drop, slice_index_or, refl, sym, subst, ap, ◌∙◌, append_assoc, append-nil, arith, length-take, take-append-drop}
use Rattle.std.specs.Prelude.{IfOk, IfSome}
use Rattle.std.specs.Result.{result_ok}
use Rattle.std.specs.List.{All, flat_map}
use Rattle.lb_book.specs.declared.receipt.Receipt.{Receipt}
use mathlib.Core.Option.{some}
use lib.ListN.{get_elem?}
use Rattle.std.proofs.lemmas.List.{length-map}
use Rattle.std.proofs.lemmas.List.Concat.{flat_map-append}
use Rattle.std.proofs.lemmas.List.Elements.{All-head, All-rest}
use Rattle.std.proofs.lemmas.List.Sums.{fold-append}
use Rattle.lb_model.specs.declared.served.Served.{Served}
use Rattle.client_session.specs.Requests.{Visit}
use Rattle.client_session.specs.Sessions.{Serves}
use Rattle.client_session.specs.Ends.{end_of}
use Rattle.client_session.specs.Standings.{ClientStanding}
use Rattle.client_session.specs.declared.ending.SessionEnd.{SessionEnd}
use Rattle.client_session.specs.declared.ending.SessionStop.TheVariants as stop
use Rattle.client_session.proofs.WayLaws.{never_began}
use Rattle.status_worker.specs.Desks.{DeskSide}
use Rattle.lb_passes.specs.Placed.{AreFrom}
use Rattle.drill.specs.Bodies.{all_together, together, with_bodies, with_body}
use Rattle.drill.specs.Counts.{AreMade, AreDeskSessions, CountsDrill, CountsRows, CountsSessions, HasRows, IsMadeBy, MadeNote, SessionNote}
use Rattle.drill.specs.Requests.{texts_of}
use Rattle.drill.specs.declared.plan.Plan.{Plan}
use Rattle.drill.specs.declared.site.DrillSite.{DrillSite}

-- ---- a session

-- what was counted of a session is its rows
pub rows_counted : (v : Visit) (first last : List ℕ → ClientStanding) (end : SessionEnd) (text : List ℕ) (had now : List Receipt) (before after : ℕ)
    → Serves v first last (λ rows. after ≡ with_bodies before rows) end → (first []).client.incoming ≡ Some text
    → (first []).desk.state.receipts ≡ had → ((inbox : List ℕ) → (last inbox).desk.state.receipts ≡ now) → CountsRows v text had now before after
rows_counted v first last end text had now before after serves asks began left = (
  serves.gained,
  record {
    first = first;
    last = last;
    end = end;
    asks = asks;
    began = began;
    serves = record { inbox = serves.inbox; gained = serves.gained; session = serves.session; added = refl };
    left = left serves.inbox;
  },
  serves.added,
)

-- where memory was wanted before a session nothing was counted
pub none_counted : (v : Visit) (desk : DeskSide) (text : List ℕ) (before : ℕ) → CountsRows v text desk.state.receipts desk.state.receipts before before
none_counted v desk text before =
    let at : List ℕ → ClientStanding = λ inbox. record {
      desk = desk;
      reach = record { talks = None; faults = 0 };
      client = record { incoming = Some text; received = None; sent = None; faults = 0 };
      inbox = inbox;
    } in
    rows_counted v at at (end_of stop.NoMemory 0) text desk.state.receipts desk.state.receipts before before
    (never_began v at (λ rows. before ≡ with_bodies before rows) refl) refl refl (λ inbox. refl)

-- ---- the sessions of a thread

-- Of all requests these are left, and those before them were made in sessions, whose count this is.
pub record AreSoFar (v : Visit) (seed : ℕ) (all left : List ℕ) (had now : List Receipt) (before after : ℕ) : Type 0 where
  pub sessions : List SessionNote
  pub made : flat_map (λ s. s.requests) sessions ++ left ≡ all
  pub each : AreDeskSessions v seed had sessions now
  pub count : after ≡ with_bodies before (flat_map (λ s. s.rows) sessions)

pub none_so_far : (v : Visit) (seed : ℕ) (all : List ℕ) (had : List Receipt) (before : ℕ) → AreSoFar v seed all all had had before before
none_so_far v seed all had before = record { sessions = []; made = refl; each = refl; count = refl }

-- one more session over the same desk
session_more : (v : Visit) (seed : ℕ) (had mid : List Receipt) (sessions : List SessionNote) (s : SessionNote) → AreDeskSessions v seed had sessions mid
    → length s.requests ≤ 1000 → HasRows v (texts_of seed s.requests) mid s.receipts s.rows → AreDeskSessions v seed had (sessions ++ s ∷ []) s.receipts
session_more v seed had mid [] s are few has = (few, subst (λ (rs : List Receipt). HasRows v (texts_of seed s.requests) rs s.receipts s.rows) are has, refl)
session_more v seed had mid (x ∷ sessions) s are few has = (are.0, are.1, session_more v seed x.receipts mid sessions s are.2 few has)

pub one_more : (v : Visit) (seed : ℕ) (all left rest text : List ℕ) (had mine now : List Receipt) (before mid after : ℕ) → AreSoFar v seed all left had mine before mid
    → rest ≡ drop 1000 left → text ≡ texts_of seed (take 1000 left) → CountsRows v text mine now mid after → AreSoFar v seed all rest had now before after
one_more v seed all left rest text had mine now before mid after so_far is says counts =
    let these : List ℕ = take 1000 left in
    let rows : List Served = counts.0 in
    let session : SessionNote = record { requests = these; rows = rows; receipts = now } in
    let of_session : SessionNote → List ℕ = λ s. s.requests in
    let rows_of : SessionNote → List Served = λ s. s.rows in
    let front : List ℕ = flat_map of_session so_far.sessions in
    let former : List Served = flat_map rows_of so_far.sessions in
    let joined : flat_map of_session (so_far.sessions ++ session ∷ []) ≡ front ++ these =
    flat_map-append of_session so_far.sessions (session ∷ []) ∙ ap (λ (xs : List ℕ). front ++ xs) (append-nil these)
    in
    let gained : flat_map rows_of (so_far.sessions ++ session ∷ []) ≡ former ++ rows =
    flat_map-append rows_of so_far.sessions (session ∷ []) ∙ ap (λ (xs : List Served). former ++ xs) (append-nil rows)
    in
    record {
      sessions = so_far.sessions ++ session ∷ [];
      made =
          ap (λ (xs : List ℕ). flat_map of_session (so_far.sessions ++ session ∷ []) ++ xs) is
          ∙ ap (λ (xs : List ℕ). xs ++ drop 1000 left) joined
          ∙ append_assoc front these (drop 1000 left)
          ∙ ap (λ (xs : List ℕ). front ++ xs) (take-append-drop 1000 left)
          ∙ so_far.made;
      each =
          session_more v seed had mine so_far.sessions session so_far.each (omega (arith, length-take 1000 left))
          (subst (λ (xs : List ℕ). HasRows v xs mine now rows) says counts.1);
      count =
          counts.2
          ∙ ap (λ (n : ℕ). with_bodies n rows) so_far.count
          ∙ sym (fold-append with_body before former rows)
          ∙ ap (λ (xs : List Served). with_bodies before xs) (sym gained);
    }

pub none_left : (v : Visit) (seed : ℕ) (all left : List ℕ) (had now : List Receipt) (before after : ℕ) → AreSoFar v seed all left had now before after → length left ≡ 0
    → CountsSessions v seed all had now before after
none_left v seed all [] had now before after so_far none =
    record { sessions = so_far.sessions; made = sym (append-nil _) ∙ so_far.made; each = so_far.each; count = so_far.count }
none_left v seed all (x ∷ left) had now before after so_far none = absurd (omega (arith, none))

-- those of a thread that had counted nothing
pub all_of : (v : Visit) (seed seed' : ℕ) (requests requests' : List ℕ) (had now : List Receipt) (before after after' : ℕ)
    → CountsSessions v seed requests had now before after → seed ≡ seed'
    → requests ≡ requests' → before ≡ 0 → after' ≡ after → CountsSessions v seed' requests' had now 0 after'
all_of v seed seed' requests requests' had now before after after' counts same all none is =
    subst (λ (n : ℕ). CountsSessions v n requests' had now 0 after') same
    (subst (λ (xs : List ℕ). CountsSessions v seed xs had now 0 after') all
    (subst (λ (n : ℕ). CountsSessions v seed requests had now n after') none
    (subst (λ (n : ℕ). CountsSessions v seed requests had now before n) (sym is) counts)))

-- ---- the threads

-- what is true of what came out is true of what was made
pub made_ok : {E : Type 0} (P : ℕ → Type 0) (r : Result ℕ E) → IfOk r P → IfSome (result_ok r) P
made_ok P (Ok n) is = is
made_ok P (Err e) is = tt

-- what each of them made, in the list of what was made
pub made_at : {A : Type 0} (f : A → MadeNote) (P : ℕ → MadeNote → Type 0) (xs : List A)
    → ((i : ℕ) (d : A) → i < length xs → P i (f (slice_index_or xs i d))) → (t : ℕ) (own : MadeNote) → get_elem? (map f xs) t ≡ some own → P t own
made_at f P [] each t own at = absurd cc
made_at f P (x ∷ xs) each zero own at =
    let same : f x ≡ own = cc in subst (λ (o : MadeNote). P zero o) same (each 0 x (omega arith))
made_at f P (x ∷ xs) each (suc t) own at = made_at f (λ i. P (suc i)) xs (λ i d lt. each (suc i) d (omega (arith, lt))) t own at

-- where none had a receipt, the one at a place had none
none_at : {A : Type 0} (had : A → List Receipt) (xs : List A) → All (λ x. had x ≡ []) xs → (i : ℕ) (d : A) → i < length xs → had (slice_index_or xs i d) ≡ []
none_at had [] none i d lt = absurd (omega (arith, lt))
none_at had (x ∷ xs) none zero d lt = All-head (λ y. had y ≡ []) x xs none
none_at had (x ∷ xs) none (suc i) d lt =
    none_at had xs (All-rest (λ y. had y ≡ []) x xs (x ∷ xs) refl none) i d (omega (arith, lt))

-- and where they were lent, and written back
pub made_lent : {A : Type 0} (site : DrillSite) (plan : Plan) (whole lent new back : List A) (had : A → List Receipt) (f : A → MadeNote) → lent ≡ whole → back ≡ new
    → length new ≡ length lent → All (λ x. had x ≡ []) whole
    → ((i : ℕ) (d : A) → i < length lent → IsMadeBy site plan i (had (slice_index_or lent i d)) (f (slice_index_or new i d))) → AreMade site plan (map f back)
made_lent {A} site plan whole lent new back had f same written many none each =
    subst (λ (xs : List A). AreMade site plan (map f xs)) (sym written)
    (made_at f (λ i own. IsMadeBy site plan i [] own) new
    (λ i d lt.
    let within : i < length lent = omega (arith, lt, many) in
    let fresh : All (λ x. had x ≡ []) lent = subst (λ (xs : List A). All (λ x. had x ≡ []) xs) (sym same) none in
    subst (λ (rs : List Receipt). IsMadeBy site plan i rs (f (slice_index_or new i d))) (none_at had lent fresh i d within) (each i d within)))

-- the number at a place is that place
pub number_at : {A : Type 0} (f : A → ℕ) (k : ℕ) (xs : List A) → AreFrom k (map f xs) → (i : ℕ) (d : A) → i < length xs → f (slice_index_or xs i d) ≡ k + i
number_at f k [] are i d lt = absurd (omega (arith, lt))
number_at f k (x ∷ xs) are zero d lt = omega (arith, are.0)
number_at f k (x ∷ xs) are (suc i) d lt = omega (arith, number_at f (k + 1) xs are.1 i d (omega (arith, lt)))

-- what the one of each number made is what the one at that place made
pub made_numbered : {A : Type 0} (site : DrillSite) (plan : Plan) (lent new : List A) (had : A → List Receipt) (f : A → MadeNote) (number : A → ℕ) → AreFrom 0 (map number lent)
    → ((i : ℕ) (d : A) → i < length lent → IsMadeBy site plan (number (slice_index_or lent i d)) (had (slice_index_or lent i d)) (f (slice_index_or new i d)))
    → (i : ℕ) (d : A) → i < length lent → IsMadeBy site plan i (had (slice_index_or lent i d)) (f (slice_index_or new i d))
made_numbered site plan lent new had f number from each i d lt =
    let same : number (slice_index_or lent i d) ≡ i = omega (arith, number_at number 0 lent from i d lt) in
    subst (λ (n : ℕ). IsMadeBy site plan n (had (slice_index_or lent i d)) (f (slice_index_or new i d))) same (each i d lt)

-- ---- all together

none_stays : (made : List (Option ℕ)) (sum : ℕ) → fold together None made ≡ Some sum → ⊥
none_stays [] sum is = absurd cc
none_stays (own ∷ made) sum is = none_stays made sum is

-- where they have a sum, each has a count
all_some : (made : List (Option ℕ)) (so_far sum : ℕ) → fold together (Some so_far) made ≡ Some sum → (counts : List ℕ) × (made ≡ map Some counts)
all_some [] so_far sum is = ([], refl)
all_some (Some n ∷ made) so_far sum is =
    let rest = all_some made (min (so_far + n) 18446744073709551615) sum is in
    (n ∷ rest.0, ap (λ (os : List (Option ℕ)). Some n ∷ os) rest.1)
all_some (None ∷ made) so_far sum is = absurd (none_stays made sum is)

some_at : (counts : List ℕ) (t n : ℕ) → get_elem? counts t ≡ some n → get_elem? (map Some counts) t ≡ some (Some n)
some_at [] t n at = absurd cc
some_at (x ∷ counts) zero n at = let same : x ≡ n = cc in ap (λ (k : ℕ). some (Some k)) same
some_at (x ∷ counts) (suc t) n at = some_at counts t n at

-- what both lists have at a place is what the list of pairs has there
both_at : (made : List MadeNote) (t : ℕ) (receipts : List Receipt) (own : Option ℕ) → get_elem? (map (λ (m : MadeNote). m.0) made) t ≡ some receipts
    → get_elem? (map (λ (m : MadeNote). m.1) made) t ≡ some own → get_elem? made t ≡ some (receipts, own)
both_at [] t receipts own first second = absurd cc
both_at (m ∷ made) zero receipts own first second =
    let here : m.0 ≡ receipts = cc in
    let there : m.1 ≡ own = cc in
    ap (λ (rs : List Receipt). some (rs, m.1)) here ∙ ap (λ (o : Option ℕ). some (receipts, o)) there
both_at (m ∷ made) (suc t) receipts own first second = both_at made t receipts own first second

pub drill_counts : (site : DrillSite) (plan : Plan) (made : List MadeNote) (told : List (List Receipt)) (bytes : ℕ) → length made ≡ plan.threads → AreMade site plan made
    → told ≡ map (λ (m : MadeNote). m.0) made → all_together (map (λ (m : MadeNote). m.1) made) ≡ Some bytes
    → CountsDrill plan.seed plan.threads plan.requests told bytes
drill_counts site plan made told bytes many each lists sum =
    let all = all_some (map (λ (m : MadeNote). m.1) made) 0 bytes sum in
    record {
      cfg = site.cfg;
      rules = site.map;
      site = site.site;
      counts = all.0;
      many = omega (arith, many, ap length all.1, length-map all.0 Some, length-map made (λ (m : MadeNote). m.1));
      lists = ap length lists ∙ length-map made (λ (m : MadeNote). m.0) ∙ many;
      each = λ t n receipts at noted.
          each t (receipts, Some n)
          (both_at made t receipts (Some n) (ap (λ (ls : List (List Receipt)). get_elem? ls t) (sym lists) ∙ noted)
          (ap (λ (os : List (Option ℕ)). get_elem? os t) all.1 ∙ some_at all.0 t n at));
      sum = ap all_together (sym all.1) ∙ sum;
    }

-- The notes of slots, whose two parts are listed apart.
pub notes_first : {A : Type 0} (receipts : A → List Receipt) (made : A → Option ℕ) (xs : List A)
    → map (λ (m : MadeNote). m.0) (map (λ (x : A). (receipts x, made x)) xs) ≡ map receipts xs
notes_first receipts made [] = refl
notes_first receipts made (x ∷ xs) = ap (λ (ls : List (List Receipt)). receipts x ∷ ls) (notes_first receipts made xs)

pub notes_second : {A : Type 0} (receipts : A → List Receipt) (made : A → Option ℕ) (xs : List A)
    → map (λ (m : MadeNote). m.1) (map (λ (x : A). (receipts x, made x)) xs) ≡ map made xs
notes_second receipts made [] = refl
notes_second receipts made (x ∷ xs) = ap (λ (os : List (Option ℕ)). made x ∷ os) (notes_second receipts made xs)

-- What slots made, where their desks have these receipts and their counts came to these bytes.
pub slots_counted : {A : Type 0} (site : DrillSite) (plan : Plan) (receipts : A → List Receipt) (made : A → Option ℕ) (slots : List A) (told : List (List Receipt)) (bytes : ℕ)
    → length slots ≡ plan.threads → AreMade site plan (map (λ (x : A). (receipts x, made x)) slots) → told ≡ map receipts slots
    → all_together (map made slots) ≡ Some bytes → CountsDrill plan.seed plan.threads plan.requests told bytes
slots_counted {A} site plan receipts made slots told bytes many each lists sum =
    let notes : List MadeNote = map (λ (x : A). (receipts x, made x)) slots in
    drill_counts site plan notes told bytes (length-map slots (λ (x : A). (receipts x, made x)) ∙ many) each
    (lists ∙ sym (notes_first receipts made slots)) (ap all_together (notes_second receipts made slots) ∙ sum)

-- the same of what a call hands out
pub counts_left : {A T E : Type 0} (f : T → ℕ) (lists : T → List (List Receipt)) (site : DrillSite) (plan : Plan) (receipts : A → List Receipt) (made : A → Option ℕ)
    (slots : List A) (r : Result T E) → length slots ≡ plan.threads → AreMade site plan (map (λ (x : A). (receipts x, made x)) slots)
    → IfOk r (λ x. lists x ≡ map receipts slots) → IfOk r (λ x. all_together (map made slots) ≡ Some (f x))
    → IfOk r (λ x. CountsDrill plan.seed plan.threads plan.requests (lists x) (f x))
counts_left f lists site plan receipts made slots (Ok x) many each are sum = slots_counted site plan receipts made slots (lists x) (f x) many each are sum
counts_left f lists site plan receipts made slots (Err e) many each are sum = tt
