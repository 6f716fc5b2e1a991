-- A reach after each of its calls, and the links over which its talks were done.
use Rattle.std.proofs.Common.{◌≡◌, ℕ, Bool, true, false, List, [], ◌∷◌, ◌++◌, take, Option, Some, None, is_some, is_ok, Result, Ok, Err, IfOk, OnOk, OnErr, IsErrOf, IfSome, Contains, if◌then◌else◌, refl, sym, ap, subst, ◌∙◌, append_assoc, arith}
use Rattle.std.proofs.lemmas.Grind.{reverse_onto}
use Rattle.jk_io.specs.Memory.{MemLinkState}
use Rattle.jk_io.specs.MemReaches.{MemReachState, GivesLink, StaysInTalk}
use Rattle.jk_io.specs.Talks.{begun_with, talk_of}
use Rattle.jk_io.specs.declared.reaching.TalkAsked.{TalkAsked}
use Rattle.jk_io.specs.declared.failures.IoError.{IoError}
use Rattle.jk_io.specs.declared.failures.IoError.TheVariants as Io
use Rattle.jk_io.specs.declared.reaching.Begun.{Begun}
use Rattle.jk_io.specs.declared.reaching.Talk.{Talk}
use Rattle.plain_commands.specs.DryLinks.{AreTalksOver}
use Rattle.plain_commands.specs.DryReaches.{IsBetweenTalks, IsOverLinks}

-- the talks so far say nothing of a reach but its links
pub over_same : (first : List MemLinkState) (past : List Talk) (a b : MemReachState) → AreTalksOver first past a
    → b.links ≡ a.links → b.kept ≡ a.kept → AreTalksOver first past b
over_same first [] a b (links, kept) l k = (l ∙ links, k ∙ kept)
over_same first (t ∷ past) a b (before, over, talk) l k = (
  before,
  over,
  record {
    begun = talk.begun;
    gives = talk.gives;
    came = talk.came;
    last = talk.last;
    whose = talk.whose;
    read = talk.read;
    links = l ∙ talk.links;
    kept = k ∙ talk.kept;
  },
)

-- bytes moved from what is to come to what was read
pub moved : (before old new : MemReachState) (o : Option Begun) → IsBetweenTalks before old o → StaysInTalk old new → (taken : List ℕ)
    → old.running.link.incoming ≡ taken ++ new.running.link.incoming → new.book.received ≡ old.book.received ++ taken → IsBetweenTalks before new o
moved before old new None (l, k) s taken gave got = (s.links.0 ∙ l, s.links.1 ∙ k)
moved before old new (Some b) at s taken gave got = record {
  begun = at.begun;
  gives = at.gives;
  came = at.came;
  whose = (s.whose.0 ∙ at.whose.0, s.whose.1 ∙ at.whose.1);
  read = at.read ∙ ap (λ (bytes : List ℕ). old.book.received ++ bytes) gave
      ∙ sym (append_assoc old.book.received taken new.running.link.incoming)
      ∙ ap (λ (bytes : List ℕ). bytes ++ new.running.link.incoming) (sym got);
  links = s.links.0 ∙ at.links;
  kept = s.links.1 ∙ at.kept;
}

-- no byte moved
pub stood : (before old new : MemReachState) (o : Option Begun) → IsBetweenTalks before old o → StaysInTalk old new
    → new.running.link.incoming ≡ old.running.link.incoming → new.book.received ≡ old.book.received → IsBetweenTalks before new o
stood before old new None (l, k) s same got = (s.links.0 ∙ l, s.links.1 ∙ k)
stood before old new (Some b) at s same got = record {
  begun = at.begun;
  gives = at.gives;
  came = at.came;
  whose = (s.whose.0 ∙ at.whose.0, s.whose.1 ∙ at.whose.1);
  read = at.read ∙ ap (λ (bytes : List ℕ). old.book.received ++ bytes) (sym same)
      ∙ ap (λ (bytes : List ℕ). bytes ++ new.running.link.incoming) (sym got);
  links = s.links.0 ∙ at.links;
  kept = s.links.1 ∙ at.kept;
}

-- a call within a talk, whatever it moved
pub within : (first : List MemLinkState) (old new : MemReachState) → IsOverLinks first old → StaysInTalk old new
    → new.book.begun ≡ old.book.begun → new.book.talks ≡ old.book.talks
    → ((before : MemReachState) → IsBetweenTalks before old old.book.begun → IsBetweenTalks before new old.book.begun) → IsOverLinks first new
within first old new i s begun talks here = record {
  quiet = s.rest.1 ∙ i.quiet;
  past = i.past;
  talks = talks ∙ i.talks;
  before = i.before;
  over = i.over;
  here = subst (IsBetweenTalks i.before new) (sym begun) (here i.before i.here);
}

pub reads : (first : List MemLinkState) (old new : MemReachState) (buf : List ℕ) (result : Result ℕ IoError) → IsOverLinks first old → StaysInTalk old new
    → new.book.begun ≡ old.book.begun → new.book.talks ≡ old.book.talks
    → IfOk result (λ n. old.running.link.incoming ≡ take n buf ++ new.running.link.incoming)
    → IfOk result (λ n. new.book.received ≡ old.book.received ++ take n buf)
    → OnErr result ((new.running.link.incoming ≡ old.running.link.incoming) × (new.book.received ≡ old.book.received)) → IsOverLinks first new
reads first old new buf (Ok n) i s begun talks gave got err =
    within first old new i s begun talks (λ before at. moved before old new old.book.begun at s (take n buf) gave got)
reads first old new buf (Err e) i s begun talks gave got (same, received) =
    within first old new i s begun talks (λ before at. stood before old new old.book.begun at s same received)

-- where no talk runs, the links are those that the last one left
pub idle_at : (before now : MemReachState) (o : Option Begun) → IsBetweenTalks before now o → is_some o ≡ false → (now.links ≡ before.links) × (now.kept ≡ before.kept)
idle_at before now None at none = at
idle_at before now (Some b) at none = absurd (cc)

pub none_of : (o : Option Begun) → is_some o ≡ false → o ≡ None
none_of None none = refl
none_of (Some b) none = absurd (cc)

-- so are these talks over the links as they stand
pub over_now : (first : List MemLinkState) (old : MemReachState) → (i : IsOverLinks first old) → is_some old.book.begun ≡ false → AreTalksOver first i.past old
over_now first old i none =
    let at = idle_at i.before old old.book.begun i.here none in
    over_same first i.past i.before old i.over at.0 at.1

-- a begin that gave a link
pub begun : (first : List MemLinkState) (old new : MemReachState) (asked : TalkAsked) (dialled : Bool)
    → IsOverLinks first old → is_some old.book.begun ≡ false → GivesLink asked.lb asked.member asked.fresh dialled old new
    → new.book.begun ≡ Some (begun_with asked dialled (Some new.running.link.incoming))
    → new.book.received ≡ [] → new.book.talks ≡ old.book.talks → new.failing ≡ old.failing → IsOverLinks first new
begun first old new asked dialled i none gives is received talks failing = record {
  quiet = failing ∙ i.quiet;
  past = i.past;
  talks = talks ∙ i.talks;
  before = old;
  over = over_now first old i none;
  here = subst (IsBetweenTalks old new) (sym is) (record {
    begun = new;
    gives = gives;
    came = refl;
    whose = gives.whose;
    read = ap (λ (bytes : List ℕ). bytes ++ new.running.link.incoming) (sym received);
    links = refl;
    kept = refl;
  });
}

-- a begin that gave none
pub unbegun : (first : List MemLinkState) (old new : MemReachState) → IsOverLinks first old → is_some old.book.begun ≡ false
    → is_some new.book.begun ≡ false → (new.links ≡ old.links) × (new.kept ≡ old.kept)
    → new.book.talks ≡ old.book.talks → new.failing ≡ old.failing → IsOverLinks first new
unbegun first old new i none none' (links, kept) talks failing = record {
  quiet = failing ∙ i.quiet;
  past = i.past;
  talks = talks ∙ i.talks;
  before = old;
  over = over_now first old i none;
  here = subst (IsBetweenTalks old new) (sym (none_of new.book.begun none')) (links, kept);
}

pub none_in : (x : ℕ) → Contains [] x → ⊥
none_in x (k, below, is) = absurd (omega (arith, below))

pub begins : (first : List MemLinkState) (old new : MemReachState) (asked : TalkAsked) (result : Result Bool IoError)
    → IsOverLinks first old → is_some old.book.begun ≡ false → is_some new.book.begun ≡ is_ok result
    → IfOk result (λ dialled. new.book.begun ≡ Some (begun_with asked dialled (Some new.running.link.incoming)))
    → new.book.received ≡ []
    → IfOk result (λ dialled. GivesLink asked.lb asked.member asked.fresh dialled old new)
    → OnErr result ((new.links ≡ old.links) × (new.kept ≡ old.kept))
    → OnOk result (new.book.talks ≡ old.book.talks)
    → (IsErrOf result Io.NoMemory → new.book.talks ≡ old.book.talks)
    → new.failing ≡ old.failing
    → (IsErrOf result Io.Failed → Contains old.failing old.calls) → IsOverLinks first new
begins first old new asked (Ok dialled) i none runs is received gives links talks wanted failing planned =
    begun first old new asked dialled i none gives is received talks failing
begins first old new asked (Err Io.NoMemory) i none runs is received gives links talks wanted failing planned =
    unbegun first old new i none runs links (wanted refl) failing
begins first old new asked (Err Io.Failed) i none runs is received gives links talks wanted failing planned =
    absurd (none_in old.calls (subst (λ (calls : List ℕ). Contains calls old.calls) i.quiet (planned refl)))

-- the kept links after a talk
pub kept_by : (keep : Bool) (old new : MemReachState) (begun : MemReachState) → old.kept ≡ begun.kept
    → (keep ≡ true → new.kept ≡ old.kept ++ old.running ∷ []) → (keep ≡ false → new.kept ≡ old.kept)
    → new.kept ≡ (if keep then begun.kept ++ old.running ∷ [] else begun.kept)
kept_by true old new begun same kept closed = kept refl ∙ ap (λ links. links ++ old.running ∷ []) same
kept_by false old new begun same kept closed = closed refl ∙ same

pub ended : (first : List MemLinkState) (old new : MemReachState) (keep : Bool) (b : Begun) → (i : IsOverLinks first old) → IsBetweenTalks i.before old (Some b)
    → new.book.begun ≡ None → new.book.talks ≡ old.book.talks ++ talk_of b old.book.sent old.book.received keep ∷ []
    → (keep ≡ true → new.kept ≡ old.kept ++ old.running ∷ []) → (keep ≡ false → new.kept ≡ old.kept)
    → new.links ≡ old.links → new.failing ≡ old.failing → IsOverLinks first new
ended first old new keep b i at none talks kept closed links failing = record {
  quiet = failing ∙ i.quiet;
  past = talk_of b old.book.sent old.book.received keep ∷ i.past;
  talks = talks ∙ ap (λ ts. ts ++ talk_of b old.book.sent old.book.received keep ∷ []) i.talks
      ∙ sym (reverse_onto i.past (talk_of b old.book.sent old.book.received keep) []);
  before = new;
  over = (
    i.before,
    i.over,
    record {
      begun = at.begun;
      gives = at.gives;
      came = at.came;
      last = old.running;
      whose = at.whose;
      read = at.read;
      links = links ∙ at.links;
      kept = kept_by keep old new at.begun at.kept kept closed;
    },
  );
  here = subst (IsBetweenTalks new new) (sym none) (refl, refl);
}

pub finishes : (first : List MemLinkState) (old new : MemReachState) (keep : Bool) (o : Option Begun) → old.book.begun ≡ o → is_some o ≡ true → IsOverLinks first old
    → new.book.begun ≡ None → IfSome o (λ b. new.book.talks ≡ old.book.talks ++ talk_of b old.book.sent old.book.received keep ∷ [])
    → (keep ≡ true → new.kept ≡ old.kept ++ old.running ∷ []) → (keep ≡ false → new.kept ≡ old.kept)
    → new.links ≡ old.links → new.failing ≡ old.failing → IsOverLinks first new
finishes first old new keep (Some b) is runs i none talks kept closed links failing =
    ended first old new keep b i (subst (IsBetweenTalks i.before old) is i.here) none talks kept closed links failing
finishes first old new keep None is runs i none talks kept closed links failing = absurd (cc)
