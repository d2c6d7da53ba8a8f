-- `track::cursor::behind_time` meets its contract.
use mathlib.Core.Path.{sym, ap, ◌∙◌}
use native.Mathlib.Omega.{arith}
use borrow.Author.Tests.{ltb-false}
use Rattle.track.specs.Reading.{event_of}
use Rattle.track.proofs.Parts.{byte_there, behind_cut, behind-own, behind_bare, behind_running}
use Rattle.track.proofs.cursor.behind_time.Goals as goal

pub returns-in_err-b : goal.returns-in_err-b
returns-in_err-b c = ap event_of c.from_residual.ensures ∙ behind_cut _ _ _ _ (ltb-false _ _ (sym c.in_err-b.ensures.lookup.0))

pub returns-then-b-ge128 : goal.returns-then-b-ge128
returns-then-b-ge128 c = let y = byte_there c.in_ok-b.ensures.lookup.3 in c.own_status.ensures ∙ rw y.is (behind-own _ _ _ _ y.inside (omega (arith, y.is)))

pub returns-then-running-eq0 : goal.returns-then-running-eq0
returns-then-running-eq0 c = let y = byte_there c.in_ok-b.ensures.lookup.3 in behind_bare _ _ _ _ y.inside (omega (arith, y.is)) c.if-running-eq0.true

pub returns : goal.returns
returns c = let y = byte_there c.in_ok-b.ensures.lookup.3 in c.channel_at.ensures ∙ behind_running _ _ _ _ y.inside (omega (arith, y.is)) c.if-running-eq0.false
