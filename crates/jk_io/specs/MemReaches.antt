-- A reach in memory as contracts see it, and which of its links a talk gets.
use Rattle.std.specs.Prelude.{◌≡◌, ℕ, ◌+◌, ◌<◌, List, [], length, All, Some, Bool, true, false, ◌==◌, ◌&&◌}
use Rattle.std.specs.List.{HoldsAt, AllWithin, remove}
use Rattle.jk_io.specs.Memory.{MemLinkState, NeverFails, DialledNext}
use Rattle.jk_io.specs.TalkBooks.{TalkBookState}
use Rattle.jk_io.specs.Talks.{begun_with}
use Rattle.jk_io.specs.declared.reaching.TalkAsked.{TalkAsked}
use Rattle.jk_io.specs.declared.memory.member_link.MemberLink.{MemberLink}

-- the links to come; those that were kept, in order; the running talk's link, or an empty one; the talks; the number
-- of members of each balancer; the begins that are to fail, how many there were, and how many calls failed
pub record MemReachState : Type 0 where
  pub links : List MemLinkState
  pub kept : List MemberLink
  pub running : MemberLink
  pub book : TalkBookState
  pub sizes : List ℕ
  pub failing : List ℕ
  pub calls : ℕ
  pub faults : ℕ

-- whether a link is one of this member
abbrev pub is_of : ℕ → ℕ → MemberLink → Bool
is_of lb member link = link.lb == lb && link.member == member

-- none of the links is one of this member
abbrev pub HasNoneOf : ℕ → ℕ → List MemberLink → Type 0
HasNoneOf lb member links = All (λ link. is_of lb member link ≡ false) links

-- the link at this place is the one of this member that was kept last
pub record IsLastOf (lb member : ℕ) (links : List MemberLink) (place : ℕ) : Type 0 where
  pub within : place < length links
  pub whose : HoldsAt (λ link. is_of lb member link ≡ true) links place
  pub last : AllWithin (λ link. is_of lb member link ≡ false) links (place + 1) (length links)

-- the link of this member that was kept last was taken out
pub record TakesLast (lb member : ℕ) (before : List MemberLink) (link : MemberLink) (after : List MemberLink) : Type 0 where
  pub place : ℕ
  pub last : IsLastOf lb member before place
  pub taken : HoldsAt (λ it. it ≡ link) before place
  pub left : after ≡ remove before place

-- a begin gave the link of this member that was kept last; or, where none is kept or a fresh one is asked for, the next
-- link, and an empty one after the last
pub record GivesLink (lb member : ℕ) (fresh dialled : Bool) (before after : MemReachState) : Type 0 where
  pub whose : (after.running.lb ≡ lb) × (after.running.member ≡ member)
  pub kept : dialled ≡ false → (fresh ≡ false) × TakesLast lb member before.kept after.running after.kept × (after.links ≡ before.links)
  pub next : dialled ≡ true → DialledNext before.links after.running.link after.links × (after.kept ≡ before.kept)
  pub none : dialled ≡ true → fresh ≡ false → HasNoneOf lb member before.kept

-- a begin noted the talk that runs over the link that it gave, and left the rest of the book as it was
abbrev pub NotesBegin : TalkAsked → (dialled : Bool) → MemReachState → MemReachState → Type 0
NotesBegin asked dialled before after =
    after.book ≡ record before.book { begun = Some (begun_with asked dialled (Some after.running.link.incoming)) }

-- a call within a talk leaves all but the talk and its link as it was
pub record StaysInTalk (before after : MemReachState) : Type 0 where
  pub links : (after.links ≡ before.links) × (after.kept ≡ before.kept)
  pub whose : (after.running.lb ≡ before.running.lb) × (after.running.member ≡ before.running.member)
  pub plan : after.running.link.plan ≡ before.running.link.plan
  pub rest : (after.sizes ≡ before.sizes) × (after.failing ≡ before.failing) × (after.calls ≡ before.calls)

-- no begin of the reach and no call of one of its links is to fail
pub record IsQuiet (reach : MemReachState) : Type 0 where
  pub begins : reach.failing ≡ []
  pub links : All (λ link. NeverFails link.plan) reach.links
  pub kept : All (λ kept. NeverFails kept.link.plan) reach.kept
