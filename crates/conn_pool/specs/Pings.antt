-- A CPing on an idle link, and what may come of it.
use Rattle.std.specs.Prelude.{ℕ, ◌≡◌, ◌≢◌, ◌<◌, ◌⊎◌, List, [], ◌∷◌, length}
use Rattle.jk_io.specs.Moments.{Moment}
use Rattle.jk_io.specs.Told.{appended, prepended, IsEmpty, Rose}
use Rattle.conn_pool.specs.declared.ping.Pinged.{Pinged}
use Rattle.conn_pool.specs.declared.ping.Pinged.TheVariants as pinged

-- CPing, to a container
abbrev pub cping : List ℕ
cping = 18 ∷ 52 ∷ 0 ∷ 1 ∷ 10 ∷ []

-- CPong, from a container
abbrev pub cpong : List ℕ
cpong = 65 ∷ 66 ∷ 0 ∷ 1 ∷ 9 ∷ []

-- just CPing more was sent, and just CPong came
pub record AnswersPing (s n : Moment) : Type 0 where
  pub sent : n.sent ≡ appended s.sent cping
  pub came : s.incoming ≡ prepended cpong n.incoming
  pub got : n.received ≡ appended s.received cpong
  pub steady : n.faults ≡ s.faults

-- the link's bytes ended before five came
pub record EndsEarly (s n : Moment) : Type 0 where
  pub bytes : List ℕ
  pub few : length bytes < 5
  pub came : s.incoming ≡ prepended bytes n.incoming
  pub over : IsEmpty n.incoming

-- the five bytes that came aren't CPong
pub record AnswersOtherwise (s n : Moment) : Type 0 where
  pub bytes : List ℕ
  pub five : length bytes ≡ 5
  pub other : bytes ≢ cpong
  pub came : s.incoming ≡ prepended bytes n.incoming

-- a call of the link failed, its bytes ended, or what came is no CPong
abbrev pub FailsPing : Moment → Moment → Type 0
FailsPing s n = Rose s.faults n.faults ⊎ (EndsEarly s n ⊎ AnswersOtherwise s n)

-- just CPong came
pub record TakesPong (s n : Moment) : Type 0 where
  pub came : s.incoming ≡ prepended cpong n.incoming
  pub got : n.received ≡ appended s.received cpong
  pub steady : n.faults ≡ s.faults

abbrev pub IsPonged : Moment → Moment → Pinged → Type 0
IsPonged s n pinged.Answered = TakesPong s n
IsPonged s n pinged.Dead = FailsPing s n
IsPonged s n pinged.Wanted = Unit {0}

abbrev pub IsPinged : Moment → Moment → Pinged → Type 0
IsPinged s n pinged.Answered = AnswersPing s n
IsPinged s n pinged.Dead = FailsPing s n
IsPinged s n pinged.Wanted = Unit {0}
