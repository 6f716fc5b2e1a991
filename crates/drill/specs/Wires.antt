-- A wire in memory between a connector and a container, and what the container's application sent over it.
use Rattle.std.specs.Prelude.{◌≡◌, ℕ, Bool, List, [], ◌∷◌, ◌++◌, Some}
use Rattle.jk_io.specs.Moments.{Moment}
use Rattle.ajp_container.specs.declared.app_config.AppConfig.{AppConfig}
use Rattle.ajp_container.specs.declared.ends.ContainerEnd.{ContainerEnd}
use Rattle.ajp_container.specs.Ends.{IsTalk}
use Rattle.site_config.specs.declared.balancer.Lb.{Lb}

-- The bytes that the connector wrote, of which the container is done with a front and has the rest to come; and those that
-- the container wrote.
pub record WireState : Type 0 where
  pub done : List ℕ
  pub coming : List ℕ
  pub answered : List ℕ

-- the container's end of a wire as it is told
abbrev pub end_at : WireState → Moment
end_at w = record { incoming = Some w.coming; received = Some w.done; sent = Some w.answered; faults = 0 }

abbrev pub wire : (done coming answered : List ℕ) → WireState
wire done coming answered = record { done = done; coming = coming; answered = answered }

-- The application answered so: in runs, the newest first, each of which serves the bytes that were written since the one
-- before it, and then is done with them.
abbrev pub HasRunApplication : AppConfig → (runs : List (List ℕ)) → (asked answered : List ℕ) → Type 0
HasRunApplication app [] asked answered = (asked ≡ []) × (answered ≡ [])
HasRunApplication app (run ∷ past) asked answered =
    (done : List ℕ) × (before : List ℕ) × (after : Moment) × (end : ContainerEnd) × HasRunApplication app past done before
    × IsTalk app (end_at (wire done run before)) after end × (asked ≡ done ++ run) × (after.sent ≡ Some answered)

-- This is what the application sent for these bytes.
abbrev pub ApplicationAnswers : AppConfig → (asked answered : List ℕ) → Type 0
ApplicationAnswers app asked answered = (runs : List (List ℕ)) × HasRunApplication app runs asked answered

-- The connector's end: what it wrote, of which the application didn't serve the last bytes yet, what it read, and what was
-- answered and not yet read.
pub record AppLinkState : Type 0 where
  pub sent : List ℕ
  pub unserved : List ℕ
  pub received : List ℕ
  pub unread : List ℕ

-- A reach over such links: its balancers, the link, whether a talk runs over it, and how many calls came between talks.
pub record AppReachState : Type 0 where
  pub lbs : List Lb
  pub link : AppLinkState
  pub runs : Bool
  pub faults : ℕ
