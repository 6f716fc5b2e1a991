use Rattle.std.proofs.lemmas.List.Splits.{join_with_byte-slice_split}
use Rattle.status_worker.proofs.WrittenLaws.{written_read}
use Rattle.status_worker.proofs.laws.written_fields_are_read.Goals as goal

pub returns-clause-read : goal.returns-clause-read
returns-clause-read c = λ set fields marks bytes. written_read set marks fields bytes

pub returns-clause-joined : goal.returns-clause-joined
returns-clause-joined c = λ query. join_with_byte-slice_split 38 query
