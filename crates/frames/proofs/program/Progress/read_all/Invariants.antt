-- `frames::program::Progress::read_all` meets its contract.
use Rattle.frames.specs.Loop.{ReadSome}
use Rattle.frames.proofs.program.Progress.read_all.Given as goal

abbrev pub invariant-loop : goal.invariant-loop
invariant-loop l = ReadSome l.initial.self l.self
