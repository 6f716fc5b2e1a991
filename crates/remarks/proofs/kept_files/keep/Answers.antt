-- The outcome put at the end is that of the read, under the file's name.
use Rattle.std.proofs.Common.{◌∙◌, refl}
use Rattle.remarks.proofs.RoomLemmas.{last_put}
use Rattle.remarks.proofs.kept_files.keep.Goals as goal

pub returns : goal.returns
returns c = λ front room. record {
  read = _;
  added = (rw c.len-last.ensures at c.set.ensures) ∙ last_put front c.args.reads.now room.0 _ room.1;
  named = refl;
  how = refl;
}
