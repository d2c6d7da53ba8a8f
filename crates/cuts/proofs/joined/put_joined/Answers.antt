-- `cuts::joined::put_joined` meets its contract.
use Rattle.session.proofs.Sources.{place_asks}
use Rattle.cuts.proofs.HalfWords.{read}
use Rattle.cuts.proofs.JoinWords.{range, first_read, second_read}
use Rattle.cuts.proofs.JoinedWords.{notes_asks, cells_asks, counts_asks, join-put}
use Rattle.cuts.proofs.joined.put_joined.Goals as goal

pub shelf_at-at-requires : goal.shelf_at-at-requires
shelf_at-at-requires c = place_asks (range c.requires.asks) c.requires.asks.to_below

pub put_joined_notes-middle-requires : goal.put_joined_notes-middle-requires
put_joined_notes-middle-requires c =
    let first = read (first_read c.requires.asks) c.contents_of-a.ensures in
    let second = read (second_read c.requires.asks) c.contents_of-b.ensures in
    notes_asks c.requires first second c.shelf_at-at.ensures c.beats_at-beats.ensures

pub put_joined_cells-end-requires : goal.put_joined_cells-end-requires
put_joined_cells-end-requires c =
    let first = read (first_read c.requires.asks) c.contents_of-a.ensures in
    let second = read (second_read c.requires.asks) c.contents_of-b.ensures in
    cells_asks c.requires first second c.shelf_at-at.ensures c.beats_at-beats.ensures c.put_joined_notes-middle.ensures

pub put_counts-requires : goal.put_counts-requires
put_counts-requires c =
    let first = read (first_read c.requires.asks) c.contents_of-a.ensures in
    let second = read (second_read c.requires.asks) c.contents_of-b.ensures in
    counts_asks c.requires first second c.shelf_at-at.ensures c.beats_at-beats.ensures c.put_joined_notes-middle.ensures c.put_joined_cells-end.ensures

pub returns : goal.returns
returns c =
    let first = read (first_read c.requires.asks) c.contents_of-a.ensures in
    let second = read (second_read c.requires.asks) c.contents_of-b.ensures in
    join-put c.requires first second c.shelf_at-at.ensures c.beats_at-beats.ensures c.put_joined_notes-middle.ensures c.put_joined_cells-end.ensures c.beats_at.ensures c.put_counts.ensures
