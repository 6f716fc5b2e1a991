use Rattle.play_script.specs.Parts.{parts_of}
use Rattle.journal_text.specs.Reading.{at_start}
use Rattle.journal_text.proofs.ReadingLaws.{reads_once}
use Rattle.journal_text.proofs.laws.a_text_is_read_in_one_way.Goals as goal

pub returns : goal.returns
returns c = λ text one other h k. reads_once at_start 1 (parts_of 10 text) one other h k
