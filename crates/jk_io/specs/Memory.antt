-- Links, files and dials in memory as contracts see them, and which of their calls fail.
use Rattle.std.specs.Prelude.{◌≡◌, ℕ, ◌+◌, ◌<◌, ◌==◌, ◌⊎◌, min, List, [], ◌∷◌, length, Contains, count_by}
use Rattle.jk_io.specs.declared.memory.link_plan.LinkPlan.{LinkPlan}

-- a count after one more call; it stands at the last value of a u64
abbrev pub counted : ℕ → ℕ
counted calls = min (calls + 1) 18446744073709551615

-- a link in memory: what is to come, what its reads gave and its writes took, what is to fail, how many calls there
-- were, how many reads failed since a byte was given and writes since one was taken, and how many calls failed in all
pub record MemLinkState : Type 0 where
  pub incoming : List ℕ
  pub received : List ℕ
  pub sent : List ℕ
  pub plan : LinkPlan
  pub calls : ℕ
  pub reads_failed : ℕ
  pub writes_failed : ℕ
  pub faults : ℕ

-- the plan lets no call fail
pub record NeverFails (plan : LinkPlan) : Type 0 where
  pub calls : plan.failing ≡ []
  pub reads : plan.reads ≡ []
  pub writes : plan.writes ≡ []

-- the next read is to fail: it is a call that was planned, or one more read is to fail after the bytes that were given
abbrev pub ReadIsToFail : MemLinkState → Type 0
ReadIsToFail link = Contains link.plan.failing link.calls ⊎ (link.reads_failed < count_by (λ n. n == length link.received) link.plan.reads)

-- the next write is to fail: it is a call that was planned, or one more write is to fail after the bytes that were taken
abbrev pub WriteIsToFail : MemLinkState → Type 0
WriteIsToFail link = Contains link.plan.failing link.calls ⊎ (link.writes_failed < count_by (λ n. n == length link.sent) link.plan.writes)

-- files in memory: each a pair of its name and its content; the reads that are to fail, how many there were, and how
-- many failed
pub record MemFilesState : Type 0 where
  pub files : List (List ℕ × List ℕ)
  pub failing : List ℕ
  pub calls : ℕ
  pub faults : ℕ

-- a dial in memory: the links that it still gives, in order; the dials that are to fail, how many there were, and how
-- many failed
pub record MemDialState : Type 0 where
  pub links : List MemLinkState
  pub failing : List ℕ
  pub calls : ℕ
  pub faults : ℕ

-- a link with nothing to come, of which no call fails
abbrev pub empty_link : MemLinkState
empty_link = record {
  incoming = [];
  received = [];
  sent = [];
  plan = record { failing = []; reads = []; writes = []; cuts = [] };
  calls = 0;
  reads_failed = 0;
  writes_failed = 0;
  faults = 0;
}

-- the next link was given, or an empty one after the last
abbrev pub DialledNext : List MemLinkState → MemLinkState → List MemLinkState → Type 0
DialledNext [] link after = (link ≡ empty_link) × (after ≡ [])
DialledNext (next ∷ later) link after = (link ≡ next) × (after ≡ later)

-- what the next link has to come
abbrev pub next_incoming : List MemLinkState → List ℕ
next_incoming [] = []
next_incoming (next ∷ later) = next.incoming
