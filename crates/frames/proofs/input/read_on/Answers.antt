-- `frames::input::read_on` meets its contract.
use Rattle.std.proofs.Common.{ℕ, ◌<◌, List, sym, ap, length, get_or, drop, arith}
use Rattle.frames.proofs.Inputs.{behind, line_ended, character_kept, lent_start, lent_on, lent_stop, lent_done}
use Rattle.frames.proofs.input.read_on.Goals as goal
use Rattle.frames.proofs.input.read_on.Goals.{then-c-eq-LINE_FEED, else-c-eq-LINE_FEED}

pub loop-i-init : goal.loop-i-init
loop-i-init c = lent_start c.requires.holds c.requires.end

pub returns-then-out-end-lt-MAX_ANSWER : goal.returns-then-out-end-lt-MAX_ANSWER
returns-then-out-end-lt-MAX_ANSWER c =
    let part = behind c.args.block.now c.args.p.at in
    rw c.reached.ensures (lent_stop c.loop-i.invariant (omega (arith, ap length part)) (omega arith))

pub loop-i-preserved : goal.loop-i-preserved
loop-i-preserved c =
    let part = behind c.args.block.now c.args.p.at in
    let more : c.loop-i.i < length (drop c.args.p.at c.args.block.now) = omega (arith, ap length part) in
    elim c.if-c-eq-LINE_FEED.branch [
      | then-c-eq-LINE_FEED w ↦
          let byte = rw part at w.if-c-eq-LINE_FEED.true in
          let one = line_ended c.loop-i.invariant.holds w.answer_in-done.ensures (omega arith) in
          rw (w.line-is, w.words-is, w.out-is, w.kept-is, w.length-is, w.end-is) (lent_on c.loop-i.invariant more (omega arith) (omega arith) byte one)
      | else-c-eq-LINE_FEED w ↦
          let byte = ap (λ (l : List ℕ). get_or l c.loop-i.i 0) (sym part) in
          let one = character_kept c.loop-i.invariant.holds (λ e. omega arith) w.keep-kept.ensures.few w.keep-kept.ensures.character (omega arith) in
          rw (w.line-is, w.words-is, w.out-is, w.kept-is, w.length-is, w.end-is) (lent_on c.loop-i.invariant more (omega arith) (omega arith) byte one)
    ]

pub returns : goal.returns
returns c =
    let part = behind c.args.block.now c.args.p.at in
    rw c.reached-2.ensures (lent_done c.loop-i.invariant c.requires.at (omega (arith, ap length part)))
