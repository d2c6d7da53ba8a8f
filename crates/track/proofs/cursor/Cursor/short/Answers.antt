-- `track::cursor::Cursor::short` meets its contract.
use Rattle.std.proofs.Common.{◌≡◌, ◌<◌, ◌/◌, ◌+◌, sym, ltb-true, get_or}
use Rattle.std.proofs.lemmas.Bool.{eqb-true}
use lib.Bits.{bit_or}
use Rattle.track.specs.Notes.{form_at}
use Rattle.track.proofs.Parts.{or_most}
use Rattle.track.proofs.cursor.Cursor.short.Goals as goal

pub returns : goal.returns
returns c = λ e.
    let s = c.args.s.now in
    let f = form_at s c.args.self.at c.args.self.running in
    let all : bit_or (bit_or f.last (get_or s f.at 0)) (get_or s (f.at + 1) 0) < 128 = rw c.form-form.ensures at (ltb-true _ 128 e) in
    let note : f.status / 32 ≡ 4 = rw c.form-form.ensures at (eqb-true _ _ (sym c.if-not-is_note.ensures)) in
    let b = or_most f.last (get_or s f.at 0) (get_or s (f.at + 1) 0) 128 all in
    record { inside = c.if-s-self.false; time = b.0; status = note; key = b.1; velocity = b.2 }
