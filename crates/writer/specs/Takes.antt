-- The file of a take. Assumes nothing.
use Rattle.std.specs.Prelude.{List, ℕ}
use Rattle.writer.specs.declared.take.Take.{Take}
use Rattle.writer.specs.Files.{file_of}

-- The file of a take.
abbrev pub file : Take → List ℕ
file take = file_of take.notes.words.now take.notes.count take.delta take.beats
