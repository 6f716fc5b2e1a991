-- The bytes that read_whole has read: the text and a last chunk.
use Rattle.std.proofs.Common.{◌≡◌, ◌∙◌, Ok, Err, refl, ap}
use Rattle.jk_io.specs.declared.failures.FileError.TheVariants.{Failed, TooLong, NoMemory}
use Rattle.jk_io.proofs.ChunkLaws.{kept_some}
use Rattle.jk_io.proofs.ReadLaws.{HasRead-append, HasRead-added}
use Rattle.jk_io.proofs.whole_input.read_whole.Goals as goal

pub loop-text-preserved : goal.loop-text-preserved
loop-text-preserved g c =
    let before = c.loop-text.invariant in
    let last = c.in-Ok-true.ensures.chunk in record {
      read = HasRead-added _ _ _ _ _ _ _ _ _ before.read last.read last.adds.added;
      short = last.adds.short;
      chunk = kept_some c.loop-text.chunk.len c.loop-text.chunk.items c.as_mut_slice.result.now c.read_chunk.new.chunk _ c.loop-text.chunk.ok.0 before.chunk c.as_mut_slice.ensures.value c.read_chunk.auto.chunk;
      sent = last.sent ∙ before.sent;
      beside = c.in-Ok-true.ensures.beside ∙ before.beside;
      steady = last.steady refl ∙ before.steady;
    }

pub returns-in-Err : goal.returns-in-Err
returns-in-Err g c =
    let before = c.loop-text.invariant in
    let last = c.in-Err.ensures.chunk in record {
      whole = tt;
      ended = tt;
      short = tt;
      part = (
        _,
        HasRead-append _ _ _ _ _ _ _ _ before.read last.read,
        λ too_long. let same : c.in-Err.error ≡ TooLong = cc in last.adds.too_long (ap Err same),
      );
      within = λ failed. let same : c.in-Err.error ≡ Failed = cc in (
        _,
        HasRead-append _ _ _ _ _ _ _ _ before.read last.read,
        last.adds.within (ap Err same),
      );
      failed = λ failed. let same : c.in-Err.error ≡ Failed = cc in rw before.steady at last.failed (ap Err same);
      no_fewer = rw before.steady at last.no_fewer;
      steady = λ is. cc;
      wanted = λ is. let same : c.in-Err.error ≡ NoMemory = cc in last.wanted (ap Err same) ∙ before.steady;
      long = λ is. let same : c.in-Err.error ≡ TooLong = cc in last.long (ap Err same) ∙ before.steady;
      same = (last.sent ∙ before.sent, c.in-Err.ensures.beside ∙ before.beside);
    }

pub returns-in-Ok-false : goal.returns-in-Ok-false
returns-in-Ok-false g c =
    let before = c.loop-text.invariant in
    let last = c.in-Ok-false.ensures.chunk in record {
      whole = HasRead-added _ _ _ _ _ _ _ _ _ before.read last.read last.adds.added;
      ended = last.ended (ap Ok c.in-Ok-false.field-0-test);
      short = last.adds.short;
      part = tt;
      within = λ is. cc;
      failed = λ is. cc;
      no_fewer = rw before.steady at last.no_fewer;
      steady = λ _. last.steady refl ∙ before.steady;
      wanted = λ is. cc;
      long = λ is. cc;
      same = (last.sent ∙ before.sent, c.in-Ok-false.ensures.beside ∙ before.beside);
    }
