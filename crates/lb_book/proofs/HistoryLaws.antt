-- A Book's facts are those of its whole history, also where the Book was cut.
use Rattle.std.proofs.Common.{◌≡◌, ◌+◌, ◌⊎◌, ℕ, ◌<◌, Bool, true, false, not, cond, List, [], ◌∷◌, ◌++◌, length, map, reverse, Option, Some, None, refl, sym, ap, ◌∙◌, subst, inl, inr, ⊎_elim, arith, append_assoc}
use native.Mathlib.Decide.{ℕ_discrete}
use Rattle.std.specs.Prelude.{◌==◌, ◌||◌, slice_get}
use Rattle.std.specs.List.{cons_option, filter, filter_map, list_any}
use Rattle.std.proofs.lemmas.Bool.{cases_Bool}
use Rattle.std.proofs.lemmas.Bool.Decides.{nat_tests}
use Rattle.std.proofs.lemmas.List.{append-nil, length-reverse, reverse-append}
use Rattle.std.proofs.lemmas.List.Folds.{list_any-append}
use Rattle.std.proofs.lemmas.Option.{slice_get_cases, slice_get_within}
use Rattle.lb_model.specs.Journal.{members, next_of}
use Rattle.lb_model.specs.Legal.{IsLegal, IsLegalPast}
use Rattle.lb_model.specs.Present.{ArePresentRows, IsEnding, IsPresent, IsPresentMember, IsPresentRow}
use Rattle.lb_model.specs.Settings.{Setting, name_in, name_of}
use Rattle.lb_model.specs.Tickets.{Ticket, gives_back, is_out, is_returned, out, ticket_in}
use Rattle.lb_model.proofs.ListFacts.{list_any-reverse}
use Rattle.lb_model.specs.declared.journal.Entry.{Entry}
use Rattle.lb_model.specs.declared.member.MemberConfig.{MemberConfig}
use Rattle.lb_model.specs.declared.opening.Opening.{Opening}
use Rattle.lb_model.specs.declared.view.MemberRow.{MemberRow}
use Rattle.lb_model.specs.declared.view.View.{View}
use Rattle.lb_book.proofs.AlikeLaws.{Alike, GoesOn, busy_alike, goes_on, load_alike}
use Rattle.lb_book.specs.Ending.{IsCut}
use Rattle.lb_book.specs.Journal.{IsSound, Journal, next_number, past_of, tickets_out}
use Rattle.lb_book.specs.ToldBooks.{AreNextAt, grown_by}
use Rattle.lb_book.specs.declared.receipt.Receipt.{Receipt}
use Rattle.lb_book.proofs.ToldLaws.{sound_grown}
use Rattle.lb_book.specs.Histories.{AreOf, AreOwnReturns, BeginsWith, IsHistory, IsHistoryOf, LeadsTo, has_made, own_of}
use Rattle.lb_book.proofs.OwnLaws.{made-append, made-reverse, made_longer, not_returned, own-kept, own-more, returned-append}

-- A history that begins with another, and with what that begins with.
pub begins_itself : (h : List Entry) → BeginsWith h h
begins_itself h = record { rest = []; is = sym (append-nil h) }

pub begins_more : (h es : List Entry) → BeginsWith (h ++ es) h
begins_more h es = record { rest = es; is = refl }

pub begins_twice : (h g f : List Entry) → BeginsWith h g → BeginsWith g f → BeginsWith h f
begins_twice h g f first second = record {
  rest = second.rest ++ first.rest;
  is = first.is ∙ ap (λ (xs : List Entry). xs ++ first.rest) second.is ∙ append_assoc f second.rest first.rest;
}

-- Each history is like itself.
alike_same : (v : ℕ) (o : Opening) (p : List Entry) → Alike v o p o p
alike_same v o p = record {
  count = refl;
  balances = refl;
  sticky = refl;
  force = refl;
  direct = refl;
  maintain = refl;
  recover = refl;
  next = refl;
  moment = refl;
  maintained = refl;
  chosen = refl;
  tickets = refl;
  pool = λ m lt. refl;
  setting = λ m lt. refl;
  states = λ m lt. refl;
  kept = λ other m lt. refl;
}

-- The parts of a member's configuration that nothing changes.
pub record KeepsMember (former c : MemberConfig) : Type 0 where
  pub name : c.name ≡ former.name
  pub route : c.route ≡ former.route
  pub pool : c.pool ≡ former.pool

-- A Book and its whole history: the history is legal, and both are alike.
pub record IsWhole (o : Opening) (h : List Entry) (b : Journal) : Type 0 where
  pub legal : IsLegal 2 o h
  pub alike : Alike 2 o (reverse h) b.opening (past_of b)
  pub members : (m : ℕ) (former c : MemberConfig) → slice_get o.config.members m ≡ Some former
      → slice_get b.opening.config.members m ≡ Some c → KeepsMember former c

same_member : (o : Opening) (m : ℕ) (former c : MemberConfig) → slice_get o.config.members m ≡ Some former → slice_get o.config.members m ≡ Some c → KeepsMember former c
same_member o m former c at also =
    let same : c ≡ former = cc in
    record { name = ap (λ (x : MemberConfig). x.name) same; route = ap (λ (x : MemberConfig). x.route) same; pool = ap (λ (x : MemberConfig). x.pool) same }

ended_member : (o : Opening) (p : List Entry) (m : ℕ) (former c : MemberConfig) → IsPresentMember o p m former c → KeepsMember former c
ended_member o p m former c is = record { name = is.name; route = is.route; pool = is.pool }

sound_modern : (b : Journal) → b.rules ≡ 2 → IsSound b → IsLegal 2 b.opening b.entries
sound_modern b rules sound = subst (λ (v : ℕ). IsLegal v b.opening b.entries) rules sound

whole_by : (o : Opening) (front : List Entry) (b : Journal) → b.rules ≡ 2 → LeadsTo o front b.opening → IsSound b → IsWhole o (front ++ b.entries) b
whole_by o front b rules leads sound =
    let legal : IsLegal 2 b.opening b.entries = sound_modern b rules sound in
    elim leads [
      | inl same ↦
          let at_start : IsWhole b.opening b.entries b = record { legal = legal; alike = alike_same 2 b.opening (past_of b); members = λ m former c at also. same_member b.opening m former c at also } in
          subst (λ (f : List Entry). IsWhole o (f ++ b.entries) b) (sym same.0) (subst (λ (x : Opening). IsWhole x b.entries b) same.1 at_start)
      | inr cut ↦
          let on : GoesOn 2 o (reverse front) b.opening (past_of b) = goes_on 2 o (reverse front) b.opening (past_of b) cut.0 cut.1 legal in
          let turned : reverse (front ++ b.entries) ≡ past_of b ++ reverse front = reverse-append front b.entries in
          record {
            legal = subst (λ (p : List Entry). IsLegalPast 2 o p) (sym turned) on.legal;
            alike = subst (λ (p : List Entry). Alike 2 o p b.opening (past_of b)) (sym turned) on.alike;
            members = λ m former c at also. ended_member o (reverse front) m former c (cut.1.member m former c at also);
          }
    ]

pub whole_of : (o : Opening) (h : List Entry) (b : Journal) → IsHistoryOf o h b → IsSound b → IsWhole o h b
whole_of o h b is sound = subst (λ (g : List Entry). IsWhole o g b) (sym is.whole) (whole_by o is.front b is.rules is.leads sound)

-- The numbers of a Book are those of its history.
pub whole_members : (o : Opening) (h : List Entry) (b : Journal) → IsHistoryOf o h b → members b.opening ≡ members o
whole_members o h b is =
    elim is.leads [ inl same ↦ ap members same.1 | inr cut ↦ cut.1.count ]

pub whole_next : (o : Opening) (h : List Entry) (b : Journal) → IsWhole o h b → next_number b ≡ next_of o (reverse h)
whole_next o h b whole = whole.alike.next

pub whole_tickets : (o : Opening) (h : List Entry) (b : Journal) → IsWhole o h b → tickets_out b ≡ length (out o (reverse h))
whole_tickets o h b whole = ap (λ (xs : List Ticket). length xs) whole.alike.tickets

pub whole_out : (o : Opening) (h : List Entry) (b : Journal) (t : ℕ) → IsWhole o h b → is_out b.opening (past_of b) t ≡ is_out o (reverse h) t
whole_out o h b t whole = ap (λ (xs : List Ticket). list_any (λ x. x.0 == t) xs) whole.alike.tickets

-- A member's name is that in the first opening.
whole_name : (o : Opening) (h : List Entry) (b : Journal) → IsWhole o h b → (m : ℕ) → m < members o → name_of b.opening m ≡ name_of o m
whole_name o h b whole m lt =
    elim (slice_get_cases o.config.members m).1 [
      | inl former ↦
          elim (slice_get_cases b.opening.config.members m).1 [
            | inl found ↦ ap name_in found.2 ∙ (whole.members m former.0 found.0 former.2 found.2).name ∙ sym (ap name_in former.2)
            | inr past ↦ absurd (omega (arith, whole.alike.count))
          ]
      | inr past ↦ absurd (omega arith)
    ]

-- The rows of a Book are those of its history.
whole_rows : (o : Opening) (h : List Entry) (b : Journal) (rows : List MemberRow) → IsWhole o h b
    → ArePresentRows 2 b.opening (past_of b) (members b.opening) rows → ArePresentRows 2 o (reverse h) (members o) rows
whole_rows o h b rows whole are =
    let a : Alike 2 o (reverse h) b.opening (past_of b) = whole.alike in
    record {
      count = are.count ∙ a.count;
      row = λ m r found.
          let row : IsPresentRow 2 b.opening (past_of b) m r = are.row m r found in
          let lt : m < members o = omega (arith, are.count, a.count, slice_get_within rows m r found) in
          record {
            name = row.name ∙ whole_name o h b whole m lt;
            state = row.state ∙ a.states m lt;
            load = row.load ∙ load_alike 2 o (reverse h) b.opening (past_of b) a m lt;
            busy = row.busy ∙ busy_alike 2 o (reverse h) b.opening (past_of b) a m;
            activation = row.activation ∙ ap (λ (s : Setting). s.activation) (a.setting m lt);
            factor = row.factor ∙ ap (λ (s : Setting). s.factor) (a.setting m lt);
            distance = row.distance ∙ ap (λ (s : Setting). s.distance) (a.setting m lt);
            redirect = row.redirect ∙ ap (λ (s : Setting). s.redirect) (a.setting m lt);
          };
    }

-- The view of a Book is that of its history.
pub whole_present : (o : Opening) (h : List Entry) (b : Journal) (view : View) → IsHistoryOf o h b → IsSound b
    → IsPresent b.rules b.opening (past_of b) view → IsPresent 2 o (reverse h) view
whole_present o h b view is sound shown =
    let whole : IsWhole o h b = whole_of o h b is sound in
    let here : IsPresent 2 b.opening (past_of b) view = subst (λ (v : ℕ). IsPresent v b.opening (past_of b) view) is.rules shown in
    record {
      next = here.next ∙ whole.alike.next;
      at = here.at ∙ whole.alike.moment;
      rows = whole_rows o h b view.rows whole here.rows;
    }

-- So is the opening that goes on where it is cut.
whole_ending : (o : Opening) (h : List Entry) (b : Journal) (later : Opening) → IsWhole o h b → IsEnding 2 b.opening (past_of b) later
    → IsEnding 2 o (reverse h) later
whole_ending o h b later whole ends =
    let a : Alike 2 o (reverse h) b.opening (past_of b) = whole.alike in
    record {
      next = ends.next ∙ a.next;
      at = ends.at ∙ a.moment;
      maintained = ends.maintained ∙ a.maintained;
      chosen = ends.chosen ∙ a.chosen;
      out = ends.out ∙ ap (λ (xs : List Ticket). reverse xs) a.tickets;
      rows = whole_rows o h b later.rows whole ends.rows;
      method = ends.method ∙ a.balances;
      sticky = ends.sticky ∙ a.sticky;
      force = ends.force ∙ a.force;
      direct = ends.direct ∙ a.direct;
      maintain = ends.maintain ∙ a.maintain;
      recover = ends.recover ∙ a.recover;
      count = ends.count ∙ a.count;
      member = λ m former c at also.
          let lt : m < members o = slice_get_within o.config.members m former at in
          elim (slice_get_cases b.opening.config.members m).1 [
            | inl mid ↦ member_after o h b later whole ends m former c mid.0 at also mid.2 lt
            | inr past ↦ absurd (omega (arith, past.0, a.count, lt))
          ];
    }
  where
    member_after : (o : Opening) (h : List Entry) (b : Journal) (later : Opening) → IsWhole o h b → IsEnding 2 b.opening (past_of b) later
        → (m : ℕ) (former c mid : MemberConfig) → slice_get o.config.members m ≡ Some former → slice_get later.config.members m ≡ Some c
        → slice_get b.opening.config.members m ≡ Some mid → m < members o → IsPresentMember o (reverse h) m former c
    member_after o h b later whole ends m former c mid at also between lt =
        let first : KeepsMember former mid = whole.members m former mid at between in
        let is : IsPresentMember b.opening (past_of b) m mid c = ends.member m mid c between also in
        let setting = whole.alike.setting m lt in
        record {
          name = is.name ∙ first.name;
          route = is.route ∙ first.route;
          pool = is.pool ∙ first.pool;
          factor = is.factor ∙ ap (λ (s : Setting). s.factor) setting;
          distance = is.distance ∙ ap (λ (s : Setting). s.distance) setting;
          activation = is.activation ∙ ap (λ (s : Setting). s.activation) setting;
          redirect = is.redirect ∙ ap (λ (s : Setting). s.redirect) setting;
        }

-- A cut takes nothing from the history.
pub cut_of : (o : Opening) (h : List Entry) (b new : Journal) → IsHistoryOf o h b → IsSound b → IsCut b new → IsHistoryOf o h new
cut_of o h b new is sound cut =
    let whole : IsWhole o h b = whole_of o h b is sound in
    let ends : IsEnding 2 b.opening (past_of b) new.opening = subst (λ (v : ℕ). IsEnding v b.opening (past_of b) new.opening) is.rules cut.ending in
    record {
      rules = cut.rules ∙ is.rules;
      front = h;
      leads = inr (whole.legal, whole_ending o h b new.opening whole ends);
      whole = sym (ap (λ (es : List Entry). h ++ es) cut.empty ∙ append-nil h);
    }

-- The entries that a Book took follow its whole history.
abbrev pub entries_in : List Receipt → List Entry
entries_in gained = map (λ (r : Receipt). r.entry) gained

pub grown_of : (o : Opening) (h : List Entry) (b : Journal) (gained : List Receipt) → IsHistoryOf o h b → IsHistoryOf o (h ++ entries_in gained) (grown_by b gained)
grown_of o h b gained is = record {
  rules = is.rules;
  front = is.front;
  leads = is.leads;
  whole = ap (λ (xs : List Entry). xs ++ entries_in gained) is.whole ∙ append_assoc is.front b.entries (entries_in gained);
}

-- They give back what their caller got before.
pub returns_more : (n : ℕ) (h new : List Entry) → AreOwnReturns h → AreOf n new
    → ((t : ℕ) → is_returned t new ≡ true → has_made t (own_of n h) ≡ true) → AreOwnReturns (h ++ new)
returns_more n h new returns are own m t back =
    elim (ℕ_discrete m n) [
      | yes same ↦
          let mine : own_of m (h ++ new) ≡ own_of m h ++ new = subst (λ (k : ℕ). own_of k (h ++ new) ≡ own_of k h ++ new) (sym same) (own-more n h new are) in
          let split : (is_returned t (own_of m h) || is_returned t new) ≡ true =
          sym (ap (λ (xs : List Entry). is_returned t xs) mine ∙ returned-append t (own_of m h) new) ∙ back in
          let made : has_made t (own_of m h) ≡ true =
          ⊎_elim (λ (was : is_returned t (own_of m h) ≡ true). returns m t was)
          (λ (now : is_returned t new ≡ true). subst (λ (k : ℕ). has_made t (own_of k h) ≡ true) (sym same) (own t now))
          (or_parts (is_returned t (own_of m h)) (is_returned t new) split) in
          ap (λ (xs : List Entry). has_made t xs) mine ∙ made_longer t (own_of m h) new made
      | no other ↦
          let kept : own_of m (h ++ new) ≡ own_of m h = own-kept n m h new are other in
          ap (λ (xs : List Entry). has_made t xs) kept ∙ returns m t (sym (ap (λ (xs : List Entry). is_returned t xs) kept) ∙ back)
    ]
  where
    or_parts : (a b : Bool) → (a || b) ≡ true → (a ≡ true) ⊎ (b ≡ true)
    or_parts true b is = inl refl
    or_parts false b is = inr is

pub history_more : (o : Opening) (h : List Entry) (b : Journal) (at n : ℕ) (gained : List Receipt) → IsHistory o h → IsHistoryOf o h b → IsSound b
    → AreNextAt b at gained → AreOf n (entries_in gained)
    → ((t : ℕ) → is_returned t (entries_in gained) ≡ true → has_made t (own_of n h) ≡ true) → IsHistory o (h ++ entries_in gained)
history_more o h b at n gained history is sound next are own = record {
  legal = (whole_of o (h ++ entries_in gained) (grown_by b gained) (grown_of o h b gained is) (sound_grown b at gained sound next)).legal;
  returns = returns_more n h (entries_in gained) history.returns are own;
}

-- A ticket that a caller got and didn't give back is out.
pub own_is_out : (o : Opening) (h : List Entry) (n t : ℕ) → IsHistory o h → has_made t (own_of n h) ≡ true → is_returned t (own_of n h) ≡ false
    → is_out o (reverse h) t ≡ true
own_is_out o h n t history made still =
    let not_back : is_returned t (reverse h) ≡ false =
    list_any-reverse (λ (e : Entry). gives_back t e.call) h ∙ not_returned 2 o h n t history.legal history.returns made still in
    let got : list_any (λ (x : Ticket). x.0 == t) (filter_map (λ (e : Entry). ticket_in e.seq e.answer) (reverse h)) ≡ true =
    made-reverse t h ∙ made_whole n t h made in
    out_of t (reverse h) (filter_map (λ (e : Entry). ticket_in e.seq e.answer) (reverse h)) (reverse o.out) got not_back
  where
    or_true : (b : Bool) → (b || true) ≡ true
    or_true true = refl
    or_true false = refl

    made_in : (t : ℕ) (x : Option Ticket) (few all : List Ticket) → list_any (λ (y : Ticket). y.0 == t) (cons_option x few) ≡ true
        → (list_any (λ (y : Ticket). y.0 == t) few ≡ true → list_any (λ (y : Ticket). y.0 == t) all ≡ true)
        → list_any (λ (y : Ticket). y.0 == t) (cons_option x all) ≡ true
    made_in t None few all is more = more is
    made_in t (Some y) few all is more =
        elim (cases_Bool (y.0 == t)) [
          | inl this ↦ ap (λ (b : Bool). b || list_any (λ (z : Ticket). z.0 == t) all) this
          | inr other ↦
              let older : list_any (λ (z : Ticket). z.0 == t) few ≡ true = sym (ap (λ (b : Bool). b || list_any (λ (z : Ticket). z.0 == t) few) other) ∙ is in
              ap (λ (b : Bool). (y.0 == t) || b) (more older) ∙ or_true (y.0 == t)
        ]

    -- what a caller made was made
    made_whole : (n t : ℕ) (h : List Entry) → has_made t (own_of n h) ≡ true → has_made t h ≡ true
    made_whole n t [] is = is
    made_whole n t (e ∷ h) is =
        elim (cases_Bool (e.session == n)) [
          | inl mine ↦
              let here : has_made t (e ∷ own_of n h) ≡ true = subst (λ (b : Bool). has_made t (cond b (e ∷ own_of n h) (own_of n h)) ≡ true) mine is in
              made_in t (ticket_in e.seq e.answer) (filter_map (λ (x : Entry). ticket_in x.seq x.answer) (own_of n h)) (filter_map (λ (x : Entry). ticket_in x.seq x.answer) h) here (λ older. made_whole n t h older)
          | inr other ↦
              let older : has_made t (own_of n h) ≡ true = subst (λ (b : Bool). has_made t (cond b (e ∷ own_of n h) (own_of n h)) ≡ true) other is in
              made-append t (e ∷ []) h ∙ ap (λ (b : Bool). has_made t (e ∷ []) || b) (made_whole n t h older) ∙ or_true (has_made t (e ∷ []))
        ]

    -- a ticket among the made ones that wasn't returned is out
    out_in : (t : ℕ) (p : List Entry) (made : List Ticket) → list_any (λ (x : Ticket). x.0 == t) made ≡ true → is_returned t p ≡ false
        → list_any (λ (x : Ticket). x.0 == t) (filter (λ (x : Ticket). not (is_returned x.0 p)) made) ≡ true
    out_in t p [] is back = is
    out_in t p (x ∷ xs) is back =
        elim (cases_Bool (x.0 == t)) [
          | inl this ↦
              let same : x.0 ≡ t = grind (arith, nat_tests) in
              let kept : not (is_returned x.0 p) ≡ true = ap (λ (k : ℕ). not (is_returned k p)) same ∙ ap not back in
              ap (λ (b : Bool). list_any (λ (y : Ticket). y.0 == t) (cond b (x ∷ filter (λ (y : Ticket). not (is_returned y.0 p)) xs) (filter (λ (y : Ticket). not (is_returned y.0 p)) xs))) kept
              ∙ ap (λ (b : Bool). b || list_any (λ (y : Ticket). y.0 == t) (filter (λ (y : Ticket). not (is_returned y.0 p)) xs)) this
          | inr other ↦
              let older : list_any (λ (y : Ticket). y.0 == t) xs ≡ true = sym (ap (λ (b : Bool). b || list_any (λ (y : Ticket). y.0 == t) xs) other) ∙ is in
              let rest = out_in t p xs older back in
              elim (not (is_returned x.0 p)) as (λ b. list_any (λ (y : Ticket). y.0 == t) (cond b (x ∷ filter (λ (y : Ticket). not (is_returned y.0 p)) xs) (filter (λ (y : Ticket). not (is_returned y.0 p)) xs)) ≡ true) [
                | true ↦ ap (λ (b : Bool). (x.0 == t) || b) rest ∙ or_true (x.0 == t)
                | false ↦ rest
              ]
        ]

    out_of : (t : ℕ) (p : List Entry) (own early : List Ticket) → list_any (λ (x : Ticket). x.0 == t) own ≡ true → is_returned t p ≡ false
        → list_any (λ (x : Ticket). x.0 == t) (filter (λ (x : Ticket). not (is_returned x.0 p)) (own ++ early)) ≡ true
    out_of t p own early is back =
        out_in t p (own ++ early) (list_any-append (λ (x : Ticket). x.0 == t) own early ∙ ap (λ (b : Bool). b || list_any (λ (x : Ticket). x.0 == t) early) is) back

-- A history begins where a Book has no entry.
pub begins_here : (b : Journal) → b.rules ≡ 2 → b.entries ≡ [] → IsSound b → IsHistory b.opening [] × IsHistoryOf b.opening [] b
begins_here b rules empty sound = (
  record {
    legal = subst (λ (es : List Entry). IsLegal 2 b.opening es) empty (sound_modern b rules sound);
    returns = λ n t is. absurd cc;
  },
  record { rules = rules; front = []; leads = inl (refl, refl); whole = sym empty },
)

-- Where a Book was never cut, its kept entries are the history.
pub uncut_whole : (o : Opening) (h : List Entry) (b : Journal) → IsHistoryOf o h b → b.opening ≡ o → h ≡ b.entries
uncut_whole o h b is uncut =
    elim is.leads [
      | inl same ↦ is.whole ∙ ap (λ (f : List Entry). f ++ b.entries) same.0
      | inr cut ↦
          let next : o.next ≡ o.next + length (reverse is.front) = sym (ap (λ (x : Opening). x.next) uncut) ∙ cut.1.next in
          is.whole ∙ ap (λ (f : List Entry). f ++ b.entries) (none_of is.front (omega (arith, next, length-reverse is.front)))
    ]
  where
    none_of : (xs : List Entry) → length xs ≡ 0 → xs ≡ []
    none_of [] none = refl
    none_of (x ∷ xs) none = absurd (omega arith)
