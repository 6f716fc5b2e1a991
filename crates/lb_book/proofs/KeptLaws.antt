-- The kept values of a Book over its calls: the entries that may come next, and the values after each.
use Rattle.std.proofs.Common.{◌≡◌, ℕ, ◌+◌, ◌*◌, ◌^◌, ◌<◌, ◌≤◌, Bool, true, ◌&&◌, cond, inl, inr, List, [], ◌∷◌, ◌++◌, length, reverse, Option, None, get_or, refl, sym, ◌∙◌, ap, subst, arith}
use Rattle.std.specs.Prelude.{IfSome, ◌==◌}
use Rattle.std.specs.List.{list_any}
use Rattle.std.proofs.lemmas.Bool.{or_cases, and_parts, eqb-true}
use Rattle.std.proofs.lemmas.List.{length-reverse, length_push}
use Rattle.lb_model.specs.Journal.{members, next_of}
use Rattle.lb_model.specs.Tickets.{Ticket, is_out, is_on, made, out, busy_of}
use Rattle.lb_model.specs.Validity.{AreTickets}
use Rattle.lb_model.specs.Legal.{IsLegal, IsLegalPast, IsNext, KnowsTerms}
use Rattle.lb_model.specs.Choice.{IsPick}
use Rattle.lb_model.proofs.ListFacts.{reverse_snoc}
use Rattle.lb_model.proofs.OutFacts.{legal_room, legal_opening, length-returned, busy-returned, made_tickets, out_below, out_one_more}
use Rattle.lb_model.specs.declared.ask.Ask.{Ask}
use Rattle.lb_model.specs.declared.journal.Answer.{Answer}
use Rattle.lb_model.specs.declared.journal.Kind.TheVariants as Kind
use Rattle.lb_model.specs.declared.journal.Outcome.{Outcome}
use Rattle.lb_model.specs.declared.journal.Entry.{Entry}
use Rattle.lb_model.specs.declared.opening.Opening.{Opening}
use Rattle.lb_rules.specs.declared.standing.Standing.{Standing}
use Rattle.lb_book.specs.declared.present.Present.{Present}
use Rattle.lb_rules.specs.Picks.{HasRoomFor, revives_at}
use Rattle.lb_rules.specs.declared.tickets.Spot.{Spot}
use Rattle.lb_rules.specs.Returns.{AreReturns}
use Rattle.lb_rules.specs.Spots.{AreRising, IsSpot, IsPlaced, kept_noted, early_noted}
use Rattle.lb_rules.proofs.SpotLaws.{opening_rising, spot_made}
use Rattle.lb_rules.proofs.TableLaws.{spot_placed}
use Rattle.lb_book.specs.Kept.{IsNow, IsKept}
use Rattle.lb_book.proofs.ChoiceLaws.{nobody}
use Rattle.lb_book.proofs.NowLaws.{IsSelected, IsGivenBack, now-selected, now-returned}
use Rattle.lb_book.proofs.ReturnLaws.{returns-pushed, returns-noted}
use Rattle.lb_book.proofs.StepLaws.{select_entry, return_entry}

pub next_is : (o : Opening) (h : List Entry) → o.next + length h ≡ next_of o (reverse h)
next_is o h = ap (λ (n : ℕ). o.next + n) (sym (length-reverse h))

on_member : (n next t m : ℕ) (xs : List Ticket) → AreTickets n next xs → list_any (λ (x : Ticket). x.0 == t && x.1 == m) xs ≡ true → m < n
on_member n next t m [] are mine = cc
on_member n next t m (x ∷ xs) are mine =
    elim (or_cases (x.0 == t && x.1 == m) (list_any (λ (y : Ticket). y.0 == t && y.1 == m) xs) mine) [
      | inl this ↦ subst (λ (k : ℕ). k < n) (eqb-true x.1 m (and_parts (x.0 == t) (x.1 == m) this).1) are.1
      | inr rest ↦ on_member n x.0 t m xs are.2 rest
    ]

-- The fields, as a call may take them for granted.
module _ (v : ℕ) (o : Opening) (h : List Entry) (now : Present) (kept early : List (Option ℕ)) (added c r : ℕ)
    (is : IsKept v o h now kept early added c r) where
  pub kept_few : length now.rows.items ≤ 64
  kept_few = omega (arith, is.present.whole, o.config.count.few)

  pub kept_targets : (m : ℕ) (d : Standing) → m < length now.rows.items
      → IfSome (get_or now.rows.items m d).redirect (λ t. t < length now.rows.items)
  kept_targets m d lt =
      subst (λ (n : ℕ). IfSome (get_or now.rows.items m d).redirect (λ t. t < n)) (sym is.present.whole)
      (is.present.rows m d (omega (arith, is.present.whole, lt))).target

  pub kept_room : o.next + length h + length (out o (reverse h)) ≤ 2 ^ 48
  kept_room = omega (arith, legal_room v o (reverse h) is.legal, next_is o h)

  pub kept_light : (m : ℕ) (d : Standing) → m < length now.rows.items → (get_or now.rows.items m d).load < 2 ^ 125
  kept_light m d lt =
      let light : (get_or now.rows.items m d).load ≤ next_of o (reverse h) * 2 ^ 76 =
      (is.present.rows m d (omega (arith, is.present.whole, lt))).light in
      let room : next_of o (reverse h) + length (out o (reverse h)) ≤ 2 ^ 48 = legal_room v o (reverse h) is.legal in
      omega (arith, light, room)

  pub kept_rising : AreRising o.out
  kept_rising = opening_rising o (legal_opening v o (reverse h) is.legal)

  -- A ticket that is out: its member exists, and is busy.
  pub kept_member : (t m : ℕ) → is_on o (reverse h) t m ≡ true → m < length now.rows.items
  kept_member t m mine =
      omega (
        arith,
        is.present.whole,
        on_member (members o) (next_of o (reverse h)) t m (made o (reverse h))
            (made_tickets v o (reverse h) is.legal) mine,
      )

  pub kept_busy : (t m : ℕ) → is_out o (reverse h) t ≡ true → is_on o (reverse h) t m ≡ true → (d : Standing) → 0 < (get_or now.rows.items m d).busy
  kept_busy t m is_open mine d =
      let e : Entry = return_entry 0 0 0 t (record { kind = Kind.Done; bytes = 0 }) in
      let less : busy_of o (reverse h) m ≡ 1 + busy_of o (e ∷ reverse h) m =
      busy-returned v o (reverse h) e t (record { kind = Kind.Done; bytes = 0 }) m is.legal refl refl is_open
      ∙ ap (λ (b : Bool). cond b 1 0 + busy_of o (e ∷ reverse h) m) mine in
      omega (arith, less, (is.present.rows m d (omega (arith, is.present.whole, kept_member t m mine))).busy)

  pub kept_open : (t : ℕ) → is_out o (reverse h) t ≡ true → 0 < now.out
  kept_open t is_open =
      let e : Entry = return_entry 0 0 0 t (record { kind = Kind.Done; bytes = 0 }) in
      let less : length (out o (reverse h)) ≡ 1 + length (out o (e ∷ reverse h)) =
      length-returned v o (reverse h) e t (record { kind = Kind.Done; bytes = 0 }) is.legal refl refl is_open in
      omega (arith, is.present.tickets, less)

  -- A ticket that is out was found at its spot.
  pub record IsLocated (t m : ℕ) (spot : Spot) : Type 0 where
    pub found : IsSpot o h t m spot
    pub is_open : is_out o (reverse h) t ≡ true
    pub member : m < length now.rows.items
    pub busy : (d : Standing) → 0 < (get_or now.rows.items m d).busy
    pub light : (d : Standing) → (get_or now.rows.items m d).load < 2 ^ 125
    pub tickets : 0 < now.out
    pub placed : IsPlaced spot kept early

  pub kept_located : (xs : List Entry) (t m : ℕ) (spot : Spot) → xs ≡ h → IsSpot o xs t m spot
      → ((w : ℕ) → IsLegal w o xs → is_out o (reverse xs) t ≡ true) → IsLocated t m spot
  kept_located xs t m spot same found shown =
      let found_here : IsSpot o h t m spot = subst (λ (ys : List Entry). IsSpot o ys t m spot) same found in
      let is_open : is_out o (reverse h) t ≡ true =
      subst (λ (ys : List Entry). (w : ℕ) → IsLegal w o ys → is_out o (reverse ys) t ≡ true) same shown v is.legal in
      let mine : is_on o (reverse h) t m ≡ true = spot_made v o h t m spot is.legal found_here in
      record {
        found = found_here;
        is_open = is_open;
        member = kept_member t m mine;
        busy = kept_busy t m is_open mine;
        light = λ d. kept_light m d (kept_member t m mine);
        tickets = kept_open t is_open;
        placed = spot_placed o (reverse h) h kept early t m spot (sym (length-reverse h)) is.returns found_here;
      }

  pub next_returned : (seq session at t : ℕ) (outcome : Outcome) → seq ≡ o.next + length h → now.at ≤ at
      → is_out o (reverse h) t ≡ true → outcome.bytes ≤ 2 ^ 44
      → IsNext v o (reverse h) (return_entry seq session at t outcome)
  next_returned seq session at t outcome number later is_open few =
      let seq_is : seq ≡ next_of o (reverse h) = number ∙ next_is o h in
      let roomy : next_of o (reverse h) + length (out o (reverse h)) ≤ 2 ^ 48 = legal_room v o (reverse h) is.legal in
      record {
        number = seq_is;
        moment = omega (arith, is.present.moment, later);
        room = omega (arith, seq_is, roomy);
        answered = (is_open, few, refl);
      }

  -- The entry of a Select may come next.
  pub next_selected : (seq session at : ℕ) (ask : Ask) (a : Answer) → seq ≡ o.next + length h → now.at ≤ at
      → seq + length (out o (reverse h)) + 2 ≤ 2 ^ 48 → IsPick v o (reverse h) ask a → KnowsTerms v ask
      → IsNext v o (reverse h) (select_entry seq session at ask a)
  next_selected seq session at ask a number later room pick terms = record {
    number = number ∙ next_is o h;
    moment = omega (arith, is.present.moment, later);
    room = room;
    answered = (pick, terms);
  }

  -- After a Select.
  pub kept-selected : (seq session at : ℕ) (ask : Ask) (a : Answer) (revives : Bool) (new : Present) (c' r' : ℕ)
      → seq ≡ o.next + length h → now.at ≤ at → seq + length (out o (reverse h)) + 2 ≤ 2 ^ 48
      → IsPick v o (reverse h) ask a → KnowsTerms v ask
      → revives ≡ revives_at v now.rows.items nobody ask a → HasRoomFor now.rows.items a
      → IsSelected o now seq at ask a revives new
      → length h + (length (out o (reverse h)) + 2) ≤ c' → length h + (length (out o (reverse h)) + 2) ≤ r'
      → IsKept v o (h ++ select_entry seq session at ask a ∷ []) new (kept ++ None ∷ []) early (added + 1) c' r'
  kept-selected seq session at ask a revives new c' r' number later room pick terms reviving has_room selected fits fits' =
      let e : Entry = select_entry seq session at ask a in
      let p : List Entry = reverse h in
      let seq_is : seq ≡ next_of o p = number ∙ next_is o h in
      let next : IsNext v o p e = next_selected seq session at ask a number later room pick terms in
      let past : reverse (h ++ e ∷ []) ≡ e ∷ p = reverse_snoc h e in
      let more : length (out o (e ∷ p)) ≤ 1 + length (out o p) = out_one_more o p e in
      record {
        legal = subst (λ (q : List Entry). IsLegalPast v o q) (sym past) (next, is.legal);
        present = subst (λ (q : List Entry). IsNow v o q new) (sym past)
            (now-selected v o p now new seq session at ask a revives is.present is.legal seq_is reviving has_room selected);
        returns = subst (λ (q : List Entry). AreReturns o q (kept ++ None ∷ []) early) (sym past)
            (returns-pushed v o p e kept early is.legal is.returns (λ t. refl));
        room = subst (λ (q : List Entry). length (h ++ e ∷ []) + length (out o q) ≤ c') (sym past) (omega (arith, length_push h e, more, fits));
        returns_room = subst (λ (q : List Entry). length (h ++ e ∷ []) + length (out o q) ≤ r') (sym past) (omega (arith, length_push h e, more, fits'));
        counted = omega (arith, is.counted, length_push h e);
      }

  -- After a Return of the ticket of a spot.
  pub kept-returned : (seq session at t m : ℕ) (outcome : Outcome) (spot : Spot) (new : Present)
      → seq ≡ o.next + length h → now.at ≤ at → IsSpot o h t m spot → is_out o (reverse h) t ≡ true → outcome.bytes ≤ 2 ^ 44
      → IsGivenBack o now m t at outcome new
      → IsKept v o (h ++ return_entry seq session at t outcome ∷ []) new (kept_noted spot seq kept ++ None ∷ []) (early_noted spot seq early)
      (added + 1) c r
  kept-returned seq session at t m outcome spot new number later found is_open few given =
      let e : Entry = return_entry seq session at t outcome in
      let p : List Entry = reverse h in
      let next : IsNext v o p e = next_returned seq session at t outcome number later is_open few in
      let past : reverse (h ++ e ∷ []) ≡ e ∷ p = reverse_snoc h e in
      let less : length (out o p) ≡ 1 + length (out o (e ∷ p)) = length-returned v o p e t outcome is.legal refl refl is_open in
      let mine : is_on o p t m ≡ true = spot_made v o h t m spot is.legal found in
      record {
        legal = subst (λ (q : List Entry). IsLegalPast v o q) (sym past) (next, is.legal);
        present = subst (λ (q : List Entry). IsNow v o q new) (sym past)
            (now-returned v o p now new m seq session at t outcome is.present is.legal is_open mine few given);
        returns = subst (λ (q : List Entry). AreReturns o q (kept_noted spot seq kept ++ None ∷ []) (early_noted spot seq early)) (sym past)
            (returns-noted v o p h kept early spot m seq session at t outcome is.legal is.returns found
            (spot_placed o p h kept early t m spot (sym (length-reverse h)) is.returns found) (out_below v o p t is.legal is_open));
        room = subst (λ (q : List Entry). length (h ++ e ∷ []) + length (out o q) ≤ c) (sym past) (omega (arith, length_push h e, less, is.room));
        returns_room = subst (λ (q : List Entry). length (h ++ e ∷ []) + length (out o q) ≤ r) (sym past)
            (omega (arith, length_push h e, less, is.returns_room));
        counted = omega (arith, is.counted, length_push h e);
      }

-- More room changes nothing else.
pub kept-wider : (v : ℕ) (o : Opening) (h : List Entry) (now : Present) (kept early : List (Option ℕ)) (added c r c' r' : ℕ)
    → IsKept v o h now kept early added c r → c ≤ c' → r ≤ r' → IsKept v o h now kept early added c' r'
kept-wider v o h now kept early added c r c' r' is wider wider' = record {
  legal = is.legal;
  present = is.present;
  returns = is.returns;
  room = omega (arith, is.room, wider);
  returns_room = omega (arith, is.returns_room, wider');
  counted = is.counted;
}

-- The same tables under other names, with more room.
pub kept-moved : (v : ℕ) (o : Opening) (h xs : List Entry) (now : Present) (kept ys early : List (Option ℕ)) (added c r c' r' : ℕ)
    → IsKept v o h now kept early added c r → xs ≡ h → ys ≡ kept → c ≤ c' → r ≤ r' → IsKept v o xs now ys early added c' r'
kept-moved v o h xs now kept ys early added c r c' r' is same same' wider wider' =
    rw (same, same') (kept-wider v o h now kept early added c r c' r' is wider wider')
