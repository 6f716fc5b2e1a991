-- A link at a moment, with the count of its calls that had failed by then. A part that it doesn't tell is None.
use Rattle.std.specs.Prelude.{ℕ, List, Option}

-- the bytes that are still to come, those that its reads gave, those that its writes took, and the count of faults
pub record Moment : Type 0 where
  pub incoming : Option (List ℕ)
  pub received : Option (List ℕ)
  pub sent : Option (List ℕ)
  pub faults : ℕ

-- the moment of a link, by what its type tells: `moment L.incoming L.received L.sent L.faults link`
abbrev pub moment : {L : Type 0} → (L → Option (List ℕ)) → (L → Option (List ℕ)) → (L → Option (List ℕ)) → (L → ℕ) → L → Moment
moment incoming received sent faults link =
    record { incoming = incoming link; received = received link; sent = sent link; faults = faults link }
