-- A container's talk, seen from one of its turns on.
use Rattle.std.proofs.Common.{◌≡◌, ℕ, List, [], ◌∷◌, ◌++◌, Option, Some, None, refl, sym, ap, subst, ◌∙◌, append_assoc, append-nil}
use Rattle.jk_io.specs.Moments.{Moment}
use Rattle.jk_io.specs.Told.{appended, prepended}
use Rattle.ajp_container.specs.Answer.{bytes_of}
use Rattle.ajp_container.specs.Turns.{ContainerTurn, Turns, owed}
use Rattle.ajp_container.specs.declared.app_config.AppConfig.{AppConfig}
use Rattle.drill.specs.Meeting.{GoesOnAsNew}

-- Turns in two parts, each with what came and what was sent.
record TwoParts (app : AppConfig) (later earlier : List ContainerTurn) (came sent : List ℕ) : Type 0 where
  came_first : List ℕ
  came_then : List ℕ
  sent_first : List ℕ
  sent_then : List ℕ
  first : Turns app earlier came_first sent_first
  next : Turns app later came_then sent_then
  came_is : came ≡ came_first ++ came_then
  sent_is : sent ≡ sent_first ++ sent_then

two_parts : (app : AppConfig) (later earlier : List ContainerTurn) (came sent : List ℕ) → Turns app (later ++ earlier) came sent → TwoParts app later earlier came sent
two_parts app [] earlier came sent turns = record {
  came_first = came;
  came_then = [];
  sent_first = sent;
  sent_then = [];
  first = turns;
  next = (refl, refl);
  came_is = sym (append-nil came);
  sent_is = sym (append-nil sent);
}
two_parts app (turn ∷ later) earlier came sent (before, last, sent_before, turns, over, came_last, is, sends) =
    let two = two_parts app later earlier before sent_before turns in
    record {
      came_first = two.came_first;
      came_then = two.came_then ++ last;
      sent_first = two.sent_first;
      sent_then = two.sent_then ++ bytes_of (owed app turn);
      first = two.first;
      next = (two.came_then, last, two.sent_then, two.next, over, came_last, refl, refl);
      came_is = is ∙ ap (λ (b : List ℕ). b ++ last) two.came_is ∙ append_assoc two.came_first two.came_then last;
      sent_is = sends ∙ ap (λ (b : List ℕ). b ++ bytes_of (owed app turn)) two.sent_is ∙ append_assoc two.sent_first two.sent_then (bytes_of (owed app turn));
    }

prepended_twice : (a b : List ℕ) (told : Option (List ℕ)) → prepended (a ++ b) told ≡ prepended a (prepended b told)
prepended_twice a b None = refl
prepended_twice a b (Some bytes) = ap Some (append_assoc a b bytes)

appended_twice : (told : Option (List ℕ)) (a b : List ℕ) → appended told (a ++ b) ≡ appended (appended told a) b
appended_twice None a b = refl
appended_twice (Some bytes) a b = ap Some (sym (append_assoc bytes a b))

pub goes_on_after : GoesOnAsNew
goes_on_after app start after end talk earlier later split = record {
  came = two.came_first;
  sent = two.sent_first;
  turns = two.first;
  mid = mid;
  goes = record {
    came = record {
      used =
          talk.goes.came.used ∙ ap (λ (b : List ℕ). prepended b talk.between.incoming) two.came_is
          ∙ prepended_twice two.came_first two.came_then talk.between.incoming;
      kept = refl;
    };
    sent = refl;
    steady = refl;
  };
  talk = record {
    past = later;
    came = two.came_then;
    sent = two.sent_then;
    turns = two.next;
    between = talk.between;
    goes = record {
      came = record {
        used = refl;
        kept =
            talk.goes.came.kept ∙ ap (appended start.received) two.came_is ∙ appended_twice start.received two.came_first two.came_then;
      };
      sent = talk.goes.sent ∙ ap (appended start.sent) two.sent_is ∙ appended_twice start.sent two.sent_first two.sent_then;
      steady = talk.goes.steady;
    };
    stop = talk.stop;
    stops = talk.stops;
    end_is = refl;
  };
}
  where
    two : TwoParts app later earlier talk.came talk.sent
    two = two_parts app later earlier talk.came talk.sent (subst (λ (past : List ContainerTurn). Turns app past talk.came talk.sent) split talk.turns)

    mid : Moment
    mid = record {
      incoming = prepended two.came_then talk.between.incoming;
      received = appended start.received two.came_first;
      sent = appended start.sent two.sent_first;
      faults = start.faults;
    }
