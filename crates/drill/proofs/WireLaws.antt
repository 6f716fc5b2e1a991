-- The application's bytes come after those that it had sent, and its runs one after the other.
use Rattle.std.proofs.Common.{◌≡◌, ℕ, ◌≤◌, Bool, List, [], ◌∷◌, ◌++◌, length, Option, Some, refl, sym, ap, subst, ◌∙◌, inl, inr, length-append, arith}
use Rattle.jk_io.specs.Moments.{Moment}
use Rattle.jk_io.specs.Told.{appended}
use Rattle.jk_io.proofs.ToldLaws.{appended-appended}
use Rattle.ajp_container.specs.declared.app_config.AppConfig.{AppConfig}
use Rattle.ajp_container.specs.declared.ends.ContainerEnd.{ContainerEnd}
use Rattle.ajp_container.specs.declared.ends.Stopped.{Stopped}
use Rattle.ajp_container.specs.Answer.{bytes_of}
use Rattle.ajp_container.specs.Ends.{IsTalk, TurnPlace, Stops, place_of}
use Rattle.ajp_container.specs.Turns.{is_dropped, owed, waits}
use Rattle.drill.specs.Wires.{ApplicationAnswers, WireState, end_at, wire}

record Appends (before after : Option (List ℕ)) : Type 0 where
  more : List ℕ
  is : after ≡ appended before more

stops-appends : (most : ℕ) (place : TurnPlace) (waiting dropped : Bool) (going : List ℕ) (before after : Moment) (rest : List ℕ) (stop : Stopped)
    → Stops most place waiting dropped going before after rest stop → Appends before.sent after.sent
stops-appends most place waiting dropped going before after rest stop (inl reading) = record { more = going; is = reading.sent }
stops-appends most place waiting dropped going before after rest stop (inr (inl sending)) =
    record { more = sending.front.front; is = sending.front.put }
stops-appends most place waiting dropped going before after rest stop (inr (inr all)) = record { more = going; is = all.sent }

some-is : (x y : List ℕ) → Some x ≡ Some y → x ≡ y
some-is x y same = cc

-- a talk leaves what was sent before it
pub talk-appends : (app : AppConfig) (w : WireState) (after : Moment) (end : ContainerEnd) (answered : List ℕ) → IsTalk app (end_at w) after end
    → after.sent ≡ Some answered → (more : List ℕ) × (answered ≡ w.answered ++ more)
talk-appends app w after end answered t is =
    let turn = t.stops.turn in
    let last = stops-appends app.packet (place_of turn) (waits app turn) (is_dropped app turn) (bytes_of (owed app turn)) t.between after t.stops.rest t.stop t.stops.stops in
    let all : after.sent ≡ appended (Some w.answered) (t.sent ++ last.more) =
    last.is ∙ ap (λ (o : Option (List ℕ)). appended o last.more) t.goes.sent ∙ appended-appended (Some w.answered) t.sent last.more in
    let same : Some answered ≡ Some (w.answered ++ (t.sent ++ last.more)) = sym is ∙ all in
    (t.sent ++ last.more, some-is answered (w.answered ++ (t.sent ++ last.more)) same)

-- one more run
pub answers-more : (app : AppConfig) (w : WireState) (after : Moment) (end : ContainerEnd) (answered : List ℕ) → ApplicationAnswers app w.done w.answered
    → IsTalk app (end_at w) after end → after.sent ≡ Some answered → ApplicationAnswers app (w.done ++ w.coming) answered
answers-more app w after end answered (runs, run) t is = (w.coming ∷ runs, (w.done, w.answered, after, end, run, t, refl, is))

-- so the link's fact stands after a run
pub run_more : (app : AppConfig) (w after now : WireState) (end : ContainerEnd) (given : ℕ) → given ≤ length w.answered → ApplicationAnswers app w.done w.answered
    → IsTalk app (end_at w) (end_at after) end → after.done ++ after.coming ≡ w.done ++ w.coming
    → now ≡ wire (after.done ++ after.coming) [] after.answered → (given ≤ length now.answered) × ApplicationAnswers app now.done now.answered
run_more app w after now end given within so t same is =
    let grown = talk-appends app w (end_at after) end after.answered t refl in
    let longer : length after.answered ≡ length (w.answered ++ grown.0) = ap length grown.1 in
    let joined = length-append w.answered grown.0 in
    let answered : length now.answered ≡ length after.answered = ap (λ (x : WireState). length x.answered) is in
    let all = answers-more app w (end_at after) end after.answered so t refl in (
      omega (arith, within, longer, joined, answered),
      subst (λ (x : WireState). ApplicationAnswers app x.done x.answered) (sym is) (subst (λ (d : List ℕ). ApplicationAnswers app d after.answered) (sym same) all),
    )
