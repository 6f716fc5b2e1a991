-- The laws of `appended`, `prepended`, `Rose` and `PutsFront`.
use Rattle.std.proofs.Common.{◌≡◌, ℕ, ◌≤◌, List, [], ◌∷◌, ◌++◌, take, drop, Option, Some, None, refl, sym, ap, ◌∙◌, append_assoc, arith}
use Rattle.std.proofs.lemmas.List.{append-nil, take-append-drop}
use Rattle.jk_io.specs.Told.{appended, prepended, Rose, PutsFront}

pub appended-appended : {T : Type 0} → (told : Option (List T)) (a b : List T) → appended (appended told a) b ≡ appended told (a ++ b)
appended-appended None a b = refl
appended-appended (Some before) a b = ap Some (append_assoc before a b)

pub appended-nil : {T : Type 0} → (told : Option (List T)) → appended told [] ≡ told
appended-nil None = refl
appended-nil (Some before) = ap Some (append-nil before)

pub prepended-prepended : {T : Type 0} → (a b : List T) (told : Option (List T)) → prepended a (prepended b told) ≡ prepended (a ++ b) told
prepended-prepended a b None = refl
prepended-prepended a b (Some rest) = ap Some (sym (append_assoc a b rest))

pub prepended-nil : {T : Type 0} → (told : Option (List T)) → prepended [] told ≡ told
prepended-nil None = refl
prepended-nil (Some rest) = refl

-- nothing was put
pub none_put : {T : Type 0} → (told : Option (List T)) (piece : List T) → PutsFront told told piece
none_put told piece = record { front = []; rest = piece; whole = refl; put = sym (appended-nil told) }

-- all was put
pub all_put : {T : Type 0} → (before now : Option (List T)) (piece : List T) → now ≡ appended before piece → PutsFront before now piece
all_put before now piece put = record { front = piece; rest = []; whole = sym (append-nil piece); put = put }

-- all of `first`, and then a front of what follows it
pub then_put : {T : Type 0} → (before mid now : Option (List T)) (first piece : List T)
    → mid ≡ appended before first → PutsFront mid now piece → PutsFront before now (first ++ piece)
then_put before mid now first piece put more = record {
  front = first ++ more.front;
  rest = more.rest;
  whole = ap (λ p. first ++ p) more.whole ∙ sym (append_assoc first more.front more.rest);
  put = more.put ∙ ap (λ m. appended m more.front) put ∙ appended-appended before first more.front;
}

-- a front of a piece is one of a longer piece
pub more_put : {T : Type 0} → (before now : Option (List T)) (piece more : List T)
    → PutsFront before now piece → PutsFront before now (piece ++ more)
more_put before now piece more put = record {
  front = put.front;
  rest = put.rest ++ more;
  whole = ap (λ p. p ++ more) put.whole ∙ append_assoc put.front put.rest more;
  put = put.put;
}

-- a count that rose in a part of a call rose in the whole of it
pub Rose-within : (first before now last : ℕ) → first ≤ before → Rose before now → now ≤ last → Rose first last
Rose-within first before now last earlier rose later = omega arith

-- what was taken of a piece is a front of it
pub taken_put : {T : Type 0} → (before now : Option (List T)) (piece : List T) (n : ℕ)
    → now ≡ appended before (take n piece) → PutsFront before now piece
taken_put before now piece n put = record { front = take n piece; rest = drop n piece; whole = sym (take-append-drop n piece); put = put }

-- nothing was added, and then one more
pub one_more : {T : Type 0} → (first before now : Option (List T)) (item : T) → before ≡ first → now ≡ appended before (item ∷ [])
    → now ≡ appended first (item ∷ [])
one_more first before now item same more = more ∙ ap (λ told. appended told (item ∷ [])) same

-- one came, and then nothing changed
pub one_came : {T : Type 0} → (before now last : Option (List T)) (item : T) → before ≡ prepended (item ∷ []) now → last ≡ now
    → before ≡ prepended (item ∷ []) last
one_came before now last item came same = came ∙ ap (λ told. prepended (item ∷ []) told) (sym same)
