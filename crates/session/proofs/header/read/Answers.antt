-- `session::header::read` meets its contract.
use native.Mathlib.Omega.{arith}
use Rattle.session.proofs.Entries.{short}
use Rattle.model.specs.Session.{header_of}
use Rattle.session.proofs.header.read.Goals as goal

pub returns-in_default : goal.returns-in_default
returns-in_default c = short c.args.s.now (omega arith)

pub returns : goal.returns
unfolding header_of
returns c = c.new.ensures.asked
