-- Links that a worker has served so far, and what it makes of the door's next answer.
use Rattle.std.proofs.Common.{ℕ, ◌≡◌, ◌≢◌, ◌≤◌, ◌+◌, min, List, [], ◌∷◌, ◌++◌, refl, ◌∙◌, arith}
use Rattle.std.specs.List.{All}
use Rattle.std.proofs.lemmas.List.{length-append, map-append}
use Rattle.std.proofs.lemmas.List.Elements.{All-nil, All-push}
use Rattle.jk_io.specs.Told.{IsEmpty, Rose}
use Rattle.jk_io.specs.declared.traits.streams.Meanings.{Ghosts}
use Rattle.jk_io.specs.declared.traits.surroundings.Peer.{Peer}
use Rattle.jk_io.specs.Doors.{DoorSide, Gives, GivesNone}
use Rattle.jk_io.proofs.DoorLaws.{all_but_last, but_one_more, none_came, none_more, one_more}
use Rattle.ajp_container.specs.declared.app_config.AppConfig.{AppConfig}
use Rattle.ajp_container.specs.declared.ends.ContainerEnd.{ContainerEnd}
use Rattle.ajp_container.specs.declared.ends.ContainerEnd.TheVariants as container_end
use Rattle.ajp_container.specs.Served.{AreServed, count_of, WorksOn, IsServedLink, IsServedDoor, LeavesServed, ServedLink}
use Rattle.ajp_container.specs.declared.worker_ends.ContainerWorker.TheVariants as worker

-- These links were served, and the worker goes on.
pub record IsUnderWay {C X : Type 0} (app : AppConfig) (told : Ghosts C X) (first now : DoorSide C) (count : ℕ) : Type 0 where
  pub links : List (ServedLink C)
  pub served : AreServed app told first now links
  pub going : All WorksOn links
  pub counted : count ≡ count_of links
  pub steady : now.faults ≡ first.faults

pub begins : {C X : Type 0} → (app : AppConfig) (told : Ghosts C X) (door : DoorSide C) → IsUnderWay app told door door 0
begins {C} app told door = record {
  links = [];
  served = record { clients = none_came door; talks = All-nil (IsServedLink app told) };
  going = All-nil WorksOn;
  counted = refl;
  steady = refl;
}

-- the link that came and was left
abbrev link_of : {C X : Type 0} → (app : AppConfig) (told : Ghosts C X) (mid after : DoorSide C) (link : C) (peer : Peer) (end : ContainerEnd)
    → LeavesServed app told mid after link end → ServedLink C
link_of app told mid after link peer end leaves = record { link = link; peer = peer; back = leaves.back; end = end }

serves_more : {C X : Type 0} → (app : AppConfig) (told : Ghosts C X) (first before mid after : DoorSide C) (links : List (ServedLink C)) (link : C) (peer : Peer) (end : ContainerEnd)
    → AreServed app told first before links → Gives before mid link peer → (leaves : LeavesServed app told mid after link end)
    → AreServed app told first after (links ++ link_of app told mid after link peer end leaves ∷ [])
serves_more {C} app told first before mid after links link peer end served gives leaves =
    let came = map-append {B = C × Peer} (λ (s : ServedLink C). (s.link, s.peer)) links (link_of app told mid after link peer end leaves ∷ []) in
    let back = map-append (λ (s : ServedLink C). s.back) links (link_of app told mid after link peer end leaves ∷ []) in
    record {
      clients =
          rw (came, back)
          (one_more first before mid after _ _ link leaves.back peer served.clients gives leaves.coming leaves.left leaves.faults);
      talks = All-push (IsServedLink app told) links _ served.talks leaves.talk;
    }

pub goes_on : {C X : Type 0} → (app : AppConfig) (told : Ghosts C X) (first before mid after : DoorSide C) (count next : ℕ) (link : C) (peer : Peer) (end : ContainerEnd)
    → IsUnderWay app told first before count → Gives before mid link peer → LeavesServed app told mid after link end
    → end ≢ container_end.NoMemory → next ≡ min (count + 1) 18446744073709551615 → IsUnderWay app told first after next
goes_on {C} app told first before mid after count next link peer end way gives leaves other more =
    let here = link_of app told mid after link peer end leaves in
    let len = length-append way.links (here ∷ []) in
    let was = way.counted in
    record {
      links = way.links ++ here ∷ [];
      served = serves_more app told first before mid after way.links link peer end way.served gives leaves;
      going = All-push WorksOn way.links here way.going other;
      counted = omega (arith, len, was, more);
      steady = leaves.faults ∙ (gives.faults ∙ way.steady);
    }

-- a talk wanted memory
pub wants : {C X : Type 0} → (app : AppConfig) (told : Ghosts C X) (first before mid after : DoorSide C) (count : ℕ) (link : C) (peer : Peer) (end : ContainerEnd)
    → IsUnderWay app told first before count → Gives before mid link peer → LeavesServed app told mid after link end
    → IsServedDoor app told first after worker.NoMemory
wants app told first before mid after count link peer end way gives leaves = record {
  links = way.links ++ link_of app told mid after link peer end leaves ∷ [];
  served = serves_more app told first before mid after way.links link peer end way.served gives leaves;
  why = (but_one_more WorksOn way.links _ way.going, leaves.faults ∙ (gives.faults ∙ way.steady));
}

stays : {C X : Type 0} → (app : AppConfig) (told : Ghosts C X) (first before after : DoorSide C) (links : List (ServedLink C))
    → AreServed app told first before links → GivesNone before after → AreServed app told first after links
stays app told first before after links served none = record {
  clients = none_more first before after _ _ served.clients none;
  talks = served.talks;
}

pub closes : {C X : Type 0} → (app : AppConfig) (told : Ghosts C X) (first before after : DoorSide C) (count : ℕ)
    → IsUnderWay app told first before count → GivesNone before after × IsEmpty after.coming → after.faults ≡ before.faults
    → IsServedDoor app told first after (worker.Closed count)
closes app told first before after count way none steady = record {
  links = way.links;
  served = stays app told first before after way.links way.served none.0;
  why = (way.counted, way.going, none.1, steady ∙ way.steady);
}

rose_since : (first before now : ℕ) → first ≤ before → Rose before now → Rose first now
rose_since first before now earlier rose = omega (arith, earlier, rose)

pub fails : {C X : Type 0} → (app : AppConfig) (told : Ghosts C X) (first before after : DoorSide C) (count : ℕ)
    → IsUnderWay app told first before count → GivesNone before after × Rose before.faults after.faults → IsServedDoor app told first after worker.DoorFault
fails app told first before after count way none = record {
  links = way.links;
  served = stays app told first before after way.links way.served none.0;
  why = (way.going, rose_since first.faults before.faults after.faults way.served.clients.no_fewer none.1);
}

pub lacks : {C X : Type 0} → (app : AppConfig) (told : Ghosts C X) (first before after : DoorSide C) (count : ℕ)
    → IsUnderWay app told first before count → GivesNone before after → after.faults ≡ before.faults → IsServedDoor app told first after worker.NoMemory
lacks app told first before after count way none steady = record {
  links = way.links;
  served = stays app told first before after way.links way.served none;
  why = (all_but_last WorksOn way.links way.going, steady ∙ way.steady);
}
