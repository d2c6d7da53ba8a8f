-- `cuts::counting::join_fits` meets its contract.
use native.Mathlib.Omega.{arith}
use Rattle.cuts.proofs.HalfWords.{read}
use Rattle.cuts.proofs.JoinWords.{first_read, second_read}
use Rattle.cuts.proofs.JoinFits.{most_asks, fits-at_once, first-inside, second_inside, seams_asks, exact_asks, fits_counted}
use Rattle.cuts.proofs.counting.join_fits.Goals as goal

pub counts_fit-requires : goal.counts_fit-requires
counts_fit-requires c =
    let first = read (first_read c.requires.asks) c.contents_of-a.ensures in
    let second = read (second_read c.requires.asks) c.contents_of-b.ensures in
    most_asks c.requires.asks first second c.most_pairs.ensures

pub returns-then-counts_fit : goal.returns-then-counts_fit
returns-then-counts_fit c =
    let first = read (first_read c.requires.asks) c.contents_of-a.ensures in
    let second = read (second_read c.requires.asks) c.contents_of-b.ensures in
    fits-at_once c.requires.asks first second c.most_pairs.ensures c.counts_fit.ensures c.if-counts_fit.true

pub arrays-requires : goal.arrays-requires
arrays-requires c =
    let first = read (first_read c.requires.asks) c.contents_of-a.ensures in
    let second = read (second_read c.requires.asks) c.contents_of-b.ensures in
    (omega arith, (omega arith, (omega arith, first-inside c.requires.asks first second)))

pub arrays-requires-2 : goal.arrays-requires-2
arrays-requires-2 c =
    let first = read (first_read c.requires.asks) c.contents_of-a.ensures in
    let second = read (second_read c.requires.asks) c.contents_of-b.ensures in
    (omega arith, (omega arith, (omega arith, second_inside c.requires.asks first second)))

pub count_seams-seams-requires : goal.count_seams-seams-requires
count_seams-seams-requires c =
    let first = read (first_read c.requires.asks) c.contents_of-a.ensures in
    let second = read (second_read c.requires.asks) c.contents_of-b.ensures in
    seams_asks c.requires.asks first second c.beats_at.ensures c.arrays.ensures c.arrays-2.ensures

pub counts_fit-requires-2 : goal.counts_fit-requires-2
counts_fit-requires-2 c =
    let first = read (first_read c.requires.asks) c.contents_of-a.ensures in
    let second = read (second_read c.requires.asks) c.contents_of-b.ensures in
    exact_asks c.requires.asks first second c.beats_at.ensures c.arrays.ensures c.arrays-2.ensures c.count_seams-seams.ensures

pub returns : goal.returns
returns c =
    let first = read (first_read c.requires.asks) c.contents_of-a.ensures in
    let second = read (second_read c.requires.asks) c.contents_of-b.ensures in
    fits_counted c.requires.asks first second c.beats_at.ensures c.arrays.ensures c.arrays-2.ensures c.count_seams-seams.ensures c.counts_fit-2.ensures
