use Rattle.std.proofs.Common.{◌≡◌, ◌≤◌, ◌<◌, List, [], ◌∷◌, ◌++◌, Option, Some, None, refl, arith, codes}
use Rattle.http_front.specs.Chunked.{Chunk, IsChunk, IsSize, ChunkedBody, IsChunkedBody}
use Rattle.wire_checks.proofs.laws.two_chunks_are_spelled.Goals as goal

pub returns : goal.returns
returns c = (
  record { chunks = record { size = codes "3"; extension = None; data' = codes "abc" } ∷ record { size = codes "2"; extension = Some (codes "x=y"); data' = codes "de" } ∷ []; last = codes "0"; extension = None; trailer = [] },
  record {
    chunks = (
      record { size = record { some = omega arith; few = omega arith; hexadecimal = refl; value = refl }; some = omega arith; extension = tt },
      (record { size = record { some = omega arith; few = omega arith; hexadecimal = refl; value = refl }; some = omega arith; extension = (omega arith, refl) }, tt),
    );
    last = record { some = omega arith; few = omega arith; hexadecimal = refl; value = refl };
    extension = tt;
    trailer = tt;
    short = omega arith;
  },
  refl,
  refl,
)
