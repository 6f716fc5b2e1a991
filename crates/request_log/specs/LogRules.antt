-- Rows that are gained one after another are gained together.
use Rattle.std.proofs.Common.{◌≡◌, ℕ, List, [], ◌∷◌, ◌++◌, Option, Some, None, IsSome, refl, sym, ap, subst, subst₂, true≢false, ◌∙◌, append_assoc}
use Rattle.std.proofs.lemmas.Grind.{flat_map-append}
use Rattle.std.proofs.lemmas.List.{append-nil, map-append}
use Rattle.std.proofs.lemmas.List.Elements.{All-append, All-cons, All-nil}
use Rattle.std.proofs.Math.Nat.{le_refl, le_trans}
use Rattle.jk_io.specs.Told.{appended, Rose}
use Rattle.jk_io.specs.declared.failures.IoError.{IoError}
use Rattle.jk_io.specs.declared.failures.IoError.TheVariants as io
use Rattle.jk_io.specs.declared.traits.streams.Meanings.{Ghosts}
use Rattle.jk_io.proofs.ToldLaws.{appended-appended, appended-nil, Rose-within}
use Rattle.lb_model.specs.declared.served.Served.{Served}
use Rattle.request_log.specs.declared.format.Part.{Part}
use Rattle.request_log.specs.declared.seen.Seen.{Seen}
use Rattle.request_log.specs.Lines.{IsLogOf, Logged, line_of, lines_of, logged_line, rows_of}
use Rattle.request_log.specs.LogStates.{AddsLog, GainsRows, LogState}

pub is_some : {broken : Option IoError} {error : IoError} → broken ≡ Some error → IsSome broken
is_some is = subst IsSome (sym is) refl

pub not_both : {broken : Option IoError} → broken ≡ None → IsSome broken → ⊥
not_both none some = true≢false (sym (subst IsSome none some))

-- no rows have no lines
no_log : (format : List Part) (addr : List ℕ) → IsLogOf format addr [] []
no_log format addr = record { logged = []; of_rows = refl; of_addr = All-nil _; lines = refl }

-- the row of a client at this address, of which no moment was seen
abbrev logged_row : List ℕ → Served → Logged
logged_row addr row = record { row = row; seen = record { addr = addr; at = None; took = None } }

-- one row has its line
pub one_log : (format : List Part) (addr : List ℕ) (row : Served) (seen : Seen) → seen.addr ≡ addr → IsLogOf format addr (row ∷ []) (line_of format row seen)
one_log format addr row seen same = record {
  logged = record { row = row; seen = seen } ∷ [];
  of_rows = refl;
  of_addr = All-cons (λ (l : Logged). l.seen.addr ≡ addr) _ [] same (All-nil _);
  lines = sym (append-nil _);
}

-- the lines of more rows follow
logs_join : (format : List Part) (addr : List ℕ) (xs ys : List Served) (a b : List ℕ)
    → IsLogOf format addr xs a → IsLogOf format addr ys b → IsLogOf format addr (xs ++ ys) (a ++ b)
logs_join format addr xs ys a b first then = record {
  logged = first.logged ++ then.logged;
  of_rows = map-append _ first.logged then.logged ∙ (ap (λ (rows : List Served). rows ++ rows_of then.logged) first.of_rows ∙ ap (λ (rows : List Served). xs ++ rows) then.of_rows);
  of_addr = All-append (λ (l : Logged). l.seen.addr ≡ addr) first.logged then.logged first.of_addr then.of_addr;
  lines = (ap (λ (text : List ℕ). text ++ b) first.lines ∙ ap (λ (text : List ℕ). lines_of format first.logged ++ text) then.lines)
      ∙ sym (flat_map-append (logged_line format) first.logged then.logged);
}

-- rows have a log, whatever was seen
some_log : (format : List Part) (addr : List ℕ) (rows : List Served) → (text : List ℕ) × IsLogOf format addr rows text
some_log format addr [] = ([], no_log format addr)
some_log format addr (row ∷ rows) =
    let more = some_log format addr rows in
    let first = logged_row addr row in
    (line_of format row first.seen ++ more.0, logs_join format addr (row ∷ []) rows _ more.0 (one_log format addr row first.seen refl) more.1)

pub gains_nothing : {G X : Type 0} (told : Ghosts G X) (s : LogState G) → GainsRows told s [] s
gains_nothing told s = record {
  same_format = refl;
  same_addr = refl;
  adds = λ none. record {
    text = [];
    front = [];
    rest = [];
    is_log = no_log s.format s.addr;
    parts = refl;
    put = sym (appended-nil _);
    whole = λ _. refl;
  };
  over = λ _. (refl, refl, refl);
  no_fewer = le_refl _;
  failed = λ none failed. absurd (not_both none (is_some failed));
  calm = λ _ _. refl;
}

-- the second rows follow the first, unless the log broke before them
adds_on : {G X : Type 0} (told : Ghosts G X) (s t u : LogState G) (xs ys : List Served) (broken : Option IoError) → t.broken ≡ broken
    → GainsRows told s xs t → GainsRows told t ys u → s.broken ≡ None → AddsLog told s (xs ++ ys) u
adds_on told s t u xs ys None is first then none =
    let a = first.adds none in
    let b = then.adds is in
    let all : a.text ≡ a.front = a.parts ∙ (ap (λ (rest : List ℕ). a.front ++ rest) (a.whole is) ∙ append-nil a.front) in
    record {
      text = a.text ++ b.text;
      front = a.front ++ b.front;
      rest = b.rest;
      is_log = logs_join s.format s.addr xs ys a.text b.text a.is_log
          (subst₂ (λ (format : List Part) (addr : List ℕ). IsLogOf format addr ys b.text) first.same_format first.same_addr b.is_log);
      parts = ap (λ (text : List ℕ). text ++ b.text) all ∙ (ap (λ (text : List ℕ). a.front ++ text) b.parts ∙ sym (append_assoc a.front b.front b.rest));
      put = b.put ∙ (ap (λ (before : Option (List ℕ)). appended before b.front) a.put ∙ appended-appended _ a.front b.front);
      whole = b.whole;
    }
adds_on told s t u xs ys (Some error) is first then none =
    let a = first.adds none in
    let more = some_log s.format s.addr ys in
    let over = then.over (is_some is) in
    record {
      text = a.text ++ more.0;
      front = a.front;
      rest = a.rest ++ more.0;
      is_log = logs_join s.format s.addr xs ys a.text more.0 a.is_log more.1;
      parts = ap (λ (text : List ℕ). text ++ more.0) a.parts ∙ append_assoc a.front a.rest more.0;
      put = over.1 ∙ a.put;
      whole = λ whole. absurd (not_both whole (is_some (over.0 ∙ is)));
    }

fails_on : {G X : Type 0} (told : Ghosts G X) (s t u : LogState G) (xs ys : List Served) (broken : Option IoError) → t.broken ≡ broken
    → GainsRows told s xs t → GainsRows told t ys u → s.broken ≡ None → u.broken ≡ Some io.Failed → Rose (told.faults s.sink) (told.faults u.sink)
fails_on told s t u xs ys None is first then none failed =
    let rose = then.failed is failed in
    Rose-within (told.faults s.sink) (told.faults t.sink) (told.faults u.sink) (told.faults u.sink) first.no_fewer rose (le_refl _)
fails_on told s t u xs ys (Some error) is first then none failed =
    let over = then.over (is_some is) in
    let rose = first.failed none (sym over.0 ∙ failed) in
    Rose-within (told.faults s.sink) (told.faults s.sink) (told.faults t.sink) (told.faults u.sink) (le_refl _) rose then.no_fewer

-- No fault broke it, so it had none before either.
calm_on : {G X : Type 0} (told : Ghosts G X) (s t u : LogState G) (xs ys : List Served) (broken : Option IoError) → t.broken ≡ broken
    → GainsRows told s xs t → GainsRows told t ys u → s.broken ≡ None → (u.broken ≡ Some io.Failed → ⊥) → told.faults u.sink ≡ told.faults s.sink
calm_on told s t u xs ys None is first then none sound =
    then.calm is sound ∙ first.calm none (λ failed. not_both is (is_some failed))
calm_on told s t u xs ys (Some error) is first then none sound =
    let over = then.over (is_some is) in
    over.2 ∙ first.calm none (λ failed. sound (over.0 ∙ failed))

over_on : {G X : Type 0} (told : Ghosts G X) (s t u : LogState G) (xs ys : List Served)
    → GainsRows told s xs t → GainsRows told t ys u → IsSome s.broken
    → (u.broken ≡ s.broken) × (told.sent u.sink ≡ told.sent s.sink) × (told.faults u.sink ≡ told.faults s.sink)
over_on told s t u xs ys first then some =
    let a = first.over some in
    let b = then.over (subst IsSome (sym a.0) some) in
    (b.0 ∙ a.0, b.1 ∙ a.1, b.2 ∙ a.2)

pub gains_on : {G X : Type 0} (told : Ghosts G X) (s t u : LogState G) (xs ys : List Served)
    → GainsRows told s xs t → GainsRows told t ys u → GainsRows told s (xs ++ ys) u
gains_on told s t u xs ys first then = record {
  same_format = then.same_format ∙ first.same_format;
  same_addr = then.same_addr ∙ first.same_addr;
  adds = adds_on told s t u xs ys t.broken refl first then;
  over = over_on told s t u xs ys first then;
  no_fewer = le_trans first.no_fewer then.no_fewer;
  failed = fails_on told s t u xs ys t.broken refl first then;
  calm = calm_on told s t u xs ys t.broken refl first then;
}
