-- The last cuts of a run on the first gear's shelf, and its closing, told of the configuration.
use Rattle.std.proofs.Common.{ℕ, ◌≡◌, List, [], ◌∷◌, map, Option, Result, Ok, Err, inl, inr, sym, ap, subst}
use Rattle.std.specs.Prelude.{OnErr}
use Rattle.jk_io.specs.Told.{Rose}
use Rattle.jk_io.specs.declared.reaching.Talk.{Talk}
use Rattle.lb_model.specs.declared.opening.Opening.{Opening}
use Rattle.lb_model.specs.declared.segment.Segment.{Segment}
use Rattle.lb_book.specs.Journal.{Journal}
use Rattle.jk_io.specs.Doors.{DoorSide}
use Rattle.exchange.specs.Requests.{sizes_of}
use Rattle.lb_shared.specs.Histories.{SeatNote, starts_of}
use Rattle.lb_shared.specs.Sites.{AreSited}
use Rattle.site_reports.specs.Starts.{AreStarts}
use Rattle.site_config.specs.declared.balancer.Lb.{Lb}
use Rattle.gear_parts.specs.Cuts.{AddsCuts, AddsFront, ToFirst}
use Rattle.gear_parts.specs.Gears.{gear_side}
use Rattle.gear_parts.specs.declared.world.Gear.{Gear}
use Rattle.lb_closing.specs.Closings.{DiscordNote}
use Rattle.lb_closing.specs.OneHistory.{IsOneHistory}
use Rattle.jk_server.specs.Headline.{AreEnded, firsts_of}
use Rattle.jk_server.specs.Closings.{Closes, IsDiscordOf, KeepsFirst, Shelves, ShelvesFront}
use Rattle.jk_server.specs.declared.runs.ends.Closing.{Closing}
use Rattle.jk_server.specs.declared.runs.ends.Closing.TheVariants as closing
use Rattle.jk_server.specs.Shelved.{AreClosed, EndsSo, IsDiscordAt, KeepsCuts}

-- The first gear's shelf, kept, told of the gears.
pub first_kept : {D G T K S O C : Type 0} (at : D → DoorSide C) (talks : T → Option (List Talk)) (answers : K → Option (List ℕ)) (Kept : S → S → Type 0)
    (left back : List (Gear D G T K S O)) → ToFirst Kept left back → KeepsFirst Kept (map (gear_side at talks answers) left) (map (gear_side at talks answers) back)
first_kept at talks answers Kept [] back kept = absurd kept
first_kept at talks answers Kept (g ∷ left) [] kept = absurd kept
first_kept {D} {G} {T} {K} {S} {O} at talks answers Kept (g ∷ left) (g' ∷ back) kept = (
  kept.0,
  ap (λ (x : Gear D G T K S O). gear_side at talks answers x) kept.1,
  ap (λ (gs : List (Gear D G T K S O)). map (gear_side at talks answers) gs) kept.2,
)

-- The Books were those of the Site.
pub last_kept : {S : Type 0} (shelved : S → Option (List (ℕ × Segment))) (lbs : List Lb) (moment : ℕ) (seats : List SeatNote) (books : List Journal) (old new : S)
    → AreEnded lbs moment seats books → AddsCuts shelved books old new → Shelves shelved lbs moment seats books old new
last_kept shelved lbs moment seats books old new ended cuts = (cuts.0, (ended, cuts.1), cuts.2)

pub first_weaker : {D G T K S O : Type 0} (P Q : S → S → Type 0) (left back : List (Gear D G T K S O)) → ((x y : S) → P x y → Q x y) → ToFirst P left back → ToFirst Q left back
first_weaker P Q [] back then is = absurd is
first_weaker P Q (x ∷ left) [] then is = absurd is
first_weaker P Q (x ∷ left) (y ∷ back) then is = (then x.shelf y.shelf is.0, is.1, is.2)

-- The Books at the end, told of the configuration.
ended_said : (lbs : List Lb) (sizes firsts : List ℕ) (starts : List Opening) (seats : List SeatNote) (at : ℕ) (begun books : List Journal)
    → sizes ≡ sizes_of lbs → firsts ≡ firsts_of lbs → starts ≡ starts_of begun → AreStarts lbs at 0 begun
    → AreClosed sizes firsts starts seats books → AreEnded lbs at seats books
ended_said lbs sizes firsts starts seats at begun books same_sizes same_firsts same_starts begins closed = record {
  sited =
      subst (λ (ns : List ℕ). AreSited ns (firsts_of lbs) books) same_sizes
      (subst (λ (ns : List ℕ). AreSited sizes ns books) same_firsts closed.sited);
  begun = begun;
  starts = begins;
  closed = subst (λ (os : List Opening). IsOneHistory os seats books) same_starts closed.history;
}

-- A closing of a Site's Books, told of the configuration.
kept_said : {D G T K S O C : Type 0} (at : D → DoorSide C) (talks : T → Option (List Talk)) (answers : K → Option (List ℕ)) (Kept Said : List Journal → S → S → Type 0)
    (Ended Are : List Journal → Type 0) (left back : List (Gear D G T K S O))
    → ((books : List Journal) → Ended books → Are books)
    → ((books : List Journal) (x y : S) → Are books → Kept books x y → Said books x y)
    → KeepsCuts Kept Ended left back
    → (books : List Journal) × KeepsFirst (Said books) (map (gear_side at talks answers) left) (map (gear_side at talks answers) back)
kept_said at talks answers Kept Said Ended Are left back are say keeps = (
  keeps.0,
  first_kept at talks answers (Said keeps.0) left back
      (first_weaker (Kept keeps.0) (Said keeps.0) left back (λ x y kept. say keeps.0 x y (are keeps.0 keeps.1) kept) keeps.2),
)

discord_said : (lbs : List Lb) (sizes firsts : List ℕ) (starts : List Opening) (seats : List SeatNote) (moment : ℕ) (begun : List Journal) (d : DiscordNote)
    → sizes ≡ sizes_of lbs → firsts ≡ firsts_of lbs → starts ≡ starts_of begun → AreStarts lbs moment 0 begun → (at : IsDiscordAt sizes firsts starts seats d)
    → IsDiscordOf lbs moment seats at.2.differs.books d
discord_said lbs sizes firsts starts seats moment begun d same_sizes same_firsts same_starts begins at = record {
  ended = ended_said lbs sizes firsts starts seats moment begun at.2.differs.books same_sizes same_firsts same_starts begins
      (record { sited = at.2.differs.sited; history = at.2.whole });
  uncut = at.2.differs.uncut;
  receipts = at.1;
  discord = at.2.differs.discord;
}

pub closes_said : {D G T K S O L C : Type 0} (at : D → DoorSide C) (talks : T → Option (List Talk)) (answers : K → Option (List ℕ)) (shelved : S → Option (List (ℕ × Segment)))
    (faults : S → ℕ) (lbs : List Lb) (sizes firsts : List ℕ) (starts : List Opening) (seats : List SeatNote) (moment : ℕ) (begun : List Journal)
    (left back : List (Gear D G T K S O)) (end : Closing L)
    → sizes ≡ sizes_of lbs → firsts ≡ firsts_of lbs → starts ≡ starts_of begun → AreStarts lbs moment 0 begun
    → EndsSo shelved faults sizes firsts starts seats left back end
    → (books : List Journal) × Closes shelved faults lbs moment seats books (map (gear_side at talks answers) left) (map (gear_side at talks answers) back) end
closes_said at talks answers shelved faults lbs sizes firsts starts seats moment begun left back closing.Kept same_sizes same_firsts same_starts begins ends =
    kept_said at talks answers (AddsCuts shelved) (Shelves shelved lbs moment seats) (AreClosed sizes firsts starts seats) (AreEnded lbs moment seats) left back
    (λ books closed. ended_said lbs sizes firsts starts seats moment begun books same_sizes same_firsts same_starts begins closed)
    (λ books x y ended cuts. last_kept shelved lbs moment seats books x y ended cuts) ends
closes_said {S = S} at talks answers shelved faults lbs sizes firsts starts seats moment begun left back closing.ShelfFault same_sizes same_firsts same_starts begins ends =
    kept_said at talks answers (λ (books : List Journal) (x y : S). AddsFront shelved books x y × Rose (faults x) (faults y))
    (λ (books : List Journal) (x y : S). ShelvesFront shelved lbs moment seats books x y × Rose (faults x) (faults y)) (AreClosed sizes firsts starts seats) (AreEnded lbs moment seats) left back
    (λ books closed. ended_said lbs sizes firsts starts seats moment begun books same_sizes same_firsts same_starts begins closed)
    (λ books x y ended kept. ((ended, kept.0), kept.1)) ends
closes_said {D} {G} {T} {K} {S} {O} at talks answers shelved faults lbs sizes firsts starts seats moment begun left back (closing.Differs d) same_sizes same_firsts same_starts begins ends = (
  ends.0.2.differs.books,
  (
    discord_said lbs sizes firsts starts seats moment begun d same_sizes same_firsts same_starts begins ends.0,
    ap (λ (gs : List (Gear D G T K S O)). map (gear_side at talks answers) gs) ends.1,
  ),
)
closes_said {D} {G} {T} {K} {S} {O} at talks answers shelved faults lbs sizes firsts starts seats moment begun left back closing.NoMemory same_sizes same_firsts same_starts begins (inl none) =
    ([], inl (ap (λ (gs : List (Gear D G T K S O)). map (gear_side at talks answers) gs) none))
closes_said {S = S} at talks answers shelved faults lbs sizes firsts starts seats moment begun left back closing.NoMemory same_sizes same_firsts same_starts begins (inr keeps) =
    let said = kept_said at talks answers (λ (books : List Journal) (x y : S). AddsFront shelved books x y × (faults y ≡ faults x))
    (λ (books : List Journal) (x y : S). ShelvesFront shelved lbs moment seats books x y × (faults y ≡ faults x)) (AreClosed sizes firsts starts seats) (AreEnded lbs moment seats) left back
    (λ books closed. ended_said lbs sizes firsts starts seats moment begun books same_sizes same_firsts same_starts begins closed)
    (λ books x y ended kept. ((ended, kept.0), kept.1)) keeps in
    (said.0, inr said.1)

-- So of the whole lists that were lent.
pub first_back : {D G T K S O : Type 0} (Kept : S → S → Type 0) (gears lent new back : List (Gear D G T K S O)) → lent ≡ gears → back ≡ new
    → ToFirst Kept lent new → ToFirst Kept gears back
first_back {D} {G} {T} {K} {S} {O} Kept gears lent new back same written kept =
    subst (λ (gs : List (Gear D G T K S O)). ToFirst Kept gs back) same (subst (λ (gs : List (Gear D G T K S O)). ToFirst Kept lent gs) (sym written) kept)

pub both_first : {D G T K S O : Type 0} (P Q : S → S → Type 0) (left back : List (Gear D G T K S O)) → ToFirst P left back → ToFirst Q left back → ToFirst (λ x y. P x y × Q x y) left back
both_first P Q [] back p q = absurd p
both_first P Q (x ∷ left) [] p q = absurd p
both_first P Q (x ∷ left) (y ∷ back) p q = ((p.0, q.0), p.1, p.2)

-- of what failed this is so
pub of_err : {T E : Type 0} (r : Result T E) (e : E) (P : Type 0) → r ≡ Err e → OnErr r P → P
of_err (Ok x) e P is so = absurd cc
of_err (Err f) e P is so = so
