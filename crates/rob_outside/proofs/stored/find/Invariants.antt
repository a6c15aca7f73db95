use Rattle.std.proofs.Common.{◌≡◌, drop}
use Rattle.rob_outside.specs.Files.{file_at}
use Rattle.rob_outside.proofs.stored.find.Given as goal

-- the files so far have other names
abbrev pub invariant-loop-file : goal.invariant-loop-file
invariant-loop-file l = file_at l.name (drop l.file-index l.files) ≡ file_at l.name l.files
