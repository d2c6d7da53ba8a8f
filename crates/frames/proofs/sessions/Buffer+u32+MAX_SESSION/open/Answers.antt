-- `frames::sessions::Session::open` meets its contract.
use Rattle.std.proofs.Common.{arith}
use Rattle.frames.proofs.Lending.{opened_changed}
use Rattle.frames.proofs.sessions.Buffer+u32+MAX_SESSION.open.Goals as goal

pub returns : goal.returns
returns c = rw (← c.self.view_is) (opened_changed (omega arith) c.open_frame-done.ensures)
