use Rattle.std.proofs.Common.{◌≡◌, drop}
use Rattle.jk_io.specs.Stored.{content_of}
use Rattle.jk_io.proofs.memory.mem_files.find.Given as goal

-- no file so far has the name
abbrev pub invariant-loop-file : goal.invariant-loop-file
invariant-loop-file l = content_of (drop l.file-index l.files) l.name ≡ content_of l.files l.name
