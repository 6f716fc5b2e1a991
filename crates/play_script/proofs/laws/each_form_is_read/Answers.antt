use Rattle.std.proofs.lemmas.List.Splits.{join_with_byte-slice_split}
use Rattle.play_script.proofs.FormLaws.{form_read}
use Rattle.play_script.proofs.laws.each_form_is_read.Goals as goal

pub returns : goal.returns
returns c = record { read = form_read; joined = λ line. join_with_byte-slice_split 32 line }
