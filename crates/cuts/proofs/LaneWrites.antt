-- A lane's joined notes, written by its functions one behind the other. Assumes nothing.
use mathlib.Core.Path.{◌≡◌, sym, ap, subst, ◌∙◌}
use mathlib.Core.List.{List, ◌++◌, map}
use Prim.Native.Nat.{ℕ, ◌+◌, ◌-◌, ◌*◌, ◌≤◌}
use native.Mathlib.Omega.{arith}
use lib.ListN.{length, length-append}
use Rattle.words.specs.Splice.{splice, length-splice, splice-append}
use Rattle.model.specs.Lists.{gather}
use Rattle.model.specs.Takes.{note_words}
use Rattle.model.specs.declared.Header.{Header}
use Rattle.model.specs.declared.Note.{Note}
use Rattle.laws.specs.JoinWalk.{note_run, note_rest, cell_run, cell_rest}
use Rattle.laws.specs.Lists.{gather_append}
use Rattle.laws.specs.Relations.{all_imp}
use Rattle.laws.specs.SeamWalk.{note_later}
use Rattle.laws.specs.Sessions.{length-note_words}
use Rattle.session.specs.Reading.{last_cells}
use Rattle.std.specs.Prelude.{Option}
use Rattle.cuts.specs.declared.halves.Contents.{Contents}
use Rattle.cuts.specs.declared.lanes.Front.{Front}
use Rattle.cuts.specs.declared.seam.Seam.{Seam}
use Rattle.cuts.specs.Seams.{Shiftable, later_run, NoteRunAsks, NoteRunPut, lane_notes, lane_by}
use Rattle.cuts.specs.LaneNotes.{notes_from, cells_from, lane_joined, Joinable, SeamAsks, seam_end, SeamPut, front_by, back_by, BackFrom, Behind, FirstPut, LanePut}
use Rattle.cuts.proofs.JoinSeam.{all-last_notes}
use Rattle.cuts.proofs.LaneParts.{Still, still, still_lane, lane-parts, front_length, lane_long, front_put, later_none, cells-run, notes-apart}

-- ---- the first take's notes

module _ {s : List ℕ} {to : ℕ} {h : Header} {beats line : ℕ} (lane : ℕ) {first second : Contents}
    (j : Joinable s to h beats line first second (lane_joined h beats lane s first second)) where
  abbrev ms : List Note
  ms = lane_notes lane s first

  abbrev ns : List Note
  ns = lane_notes lane s second

  abbrev all : List Note
  all = lane_joined h beats lane s first second

  run_is : later_run lane 0 s first.notes.end first.notes.left ≡ ms
  run_is = later_none ms

  few : length ms ≤ length all
  unfolding lane_joined
  few = lane_long h beats ms (cell_run lane (cells_from s first)) ns (cell_run lane (cells_from s second))

  pub first_asks : NoteRunAsks s to lane 0 first.notes.end first.notes.left
  first_asks =
      let p = j.first-placed in
      record {
        inside = omega (arith, p.order, p.inside);
        shiftable = all_imp (Shiftable line) (Shiftable 0) (notes_from s first)
            (λ n f. record { start_word = omega (arith, f.start_word); end_word = omega (arith, f.end_word) }) j.first_shiftable;
        apart = notes-apart p first.notes.left to _ (omega arith) (omega arith) (omega (arith, ap length run_is, few));
        room = omega (arith, p.room, ap length run_is, few);
      }

  module _ {s₁ : List ℕ} {rest : ℕ} (p : NoteRunPut s to lane 0 first.notes.end first.notes.left s₁ rest) where
    words₁ : s₁ ≡ splice s to (gather note_words ms)
    words₁ = p.words ∙ ap (λ (ns : List Note). splice s to (gather note_words ns)) run_is

    long₁ : length s₁ ≡ length s
    long₁ = ap length words₁ ∙ length-splice s to (gather note_words ms)

    first_still : Still s s₁ first
    first_still = still j.first-placed (gather note_words ms) (omega (arith, length-note_words ms, few)) words₁

    second_still : Still s s₁ second
    second_still = still j.second_placed (gather note_words ms) (omega (arith, length-note_words ms, few)) words₁

    count : first.notes.left - rest ≡ length ms
    count = omega (arith, p.count, ap length run_is)

    pub count_few : rest ≤ first.notes.left
    count_few = omega (arith, p.count)

    pub cell_run_asks : first.cells.end ≤ length s₁
    cell_run_asks = omega (arith, j.first-placed.inside, long₁)

    module _ {cells : ℕ} (q : (last_cells s₁ first.cells.end cells ≡ cell_rest lane (last_cells s₁ first.cells.end first.cells.left)) × (cells ≤ first.cells.left)) where
      pub seam_asks : SeamAsks s₁ h beats line lane first rest cells second
      seam_asks =
          record {
            notes_read = record {
              inside = omega (arith, first_asks.inside, long₁);
              count = p.count ∙ ap (λ (n : ℕ). rest + n) (ap length run_is ∙ sym (ap (λ (ns : List Note). length (note_run lane ns)) (first_still.notes first.notes.left (omega arith))));
            };
            cells-inside = cell_run_asks;
            cells_count = cells-run s₁ lane first.cells.end first.cells.left cells q.0;
            second_in = record {
              notes-inside = omega (arith, j.second_placed.order, j.second_placed.inside, long₁);
              cells-inside = omega (arith, j.second_placed.inside, long₁);
            };
            second_shiftable = rw (second_still.notes second.notes.left (omega arith)) j.second_shiftable;
            second_reaching = rw (second_still.cells second.cells.left (omega arith)) j.second_reaching;
          }

      pub first_behind : Behind s lane first rest cells
      first_behind = record {
        notes_are = p.rest;
        notes_few = count_few;
        cells_are = sym (first_still.cells cells q.1) ∙ q.0 ∙ ap (cell_rest lane) (first_still.cells first.cells.left (omega arith));
        cells_few = q.1;
      }

      module _ (r : Option Seam) (e : lane_joined h beats lane s₁ first second ≡ lane_by r line (lane_notes lane s₁ first) (lane_notes lane s₁ second)) where
        lane_is : all ≡ lane_by r line ms ns
        lane_is =
            let f = first_still.notes first.notes.left (omega arith) in
            let g = second_still.notes second.notes.left (omega arith) in
            sym (still_lane h beats lane first_still second_still) ∙ e ∙ (λ i. lane_by r line (note_run lane (f i)) (note_run lane (g i)))

        front_few : length (front_by r ms) ≤ length all
        front_few =
            omega (arith, ap length (lane_is ∙ lane-parts r line ms ns), length-append (front_by r ms) (map (note_later line) (back_by r ns)))

        pub put_asks : (to + 4 * (first.notes.left - rest) ≤ length s₁) × (to + 4 * seam_end r (first.notes.left - rest) ≤ length s₁)
        put_asks =
            (omega (arith, count, few, j.first-placed.room, long₁), rw count (omega (arith, front_length r ms, front_few, j.first-placed.room, long₁)))

        pub first-put : {t : List ℕ} {at : ℕ} → SeamPut s₁ to (first.notes.left - rest) r t at → {x : Contents} → Behind s lane first x.notes.left x.cells.left
            → x.notes.end ≡ first.notes.end → x.cells.end ≡ first.cells.end → FirstPut s to h beats line lane first second t (record { at = at; rest = x; seam = r })
        first-put m b f g = record { noted = front_put r ms words₁ (rw count at m); lane_is = lane_is; left = record { middle_is = f; end_is = g; left = b } }

  -- ---- and the second's behind them

  module _ {s₁ : List ℕ} {front : Front} (p : FirstPut s to h beats line lane first second s₁ front) where
    abbrev fs : List Note
    fs = front_by front.seam ms

    abbrev bs : List Note
    bs = map (note_later line) (back_by front.seam ns)

    parts : all ≡ fs ++ bs
    parts = p.lane_is ∙ lane-parts front.seam line ms ns

    sized : length all ≡ length fs + length bs
    sized = ap length parts ∙ length-append fs bs

    front_long : length s₁ ≡ length s
    front_long = ap length p.noted.words ∙ length-splice s to (gather note_words fs)

    behind_still : Still s s₁ second
    behind_still = still j.second_placed (gather note_words fs) (omega (arith, length-note_words fs, sized)) p.noted.words

    pub back_asks : second.notes.end ≤ length s₁
    back_asks = omega (arith, j.second_placed.order, j.second_placed.inside, front_long)

    module _ {left : ℕ} (b : BackFrom s₁ front.seam lane second.notes.end second.notes.left left) where
      back_is : later_run lane line s₁ second.notes.end left ≡ bs
      back_is =
          ap (map (note_later line)) (b.run ∙ ap (λ (ns : List Note). back_by front.seam (note_run lane ns)) (behind_still.notes second.notes.left (omega arith)))

      pub second_asks : {e : ℕ} → e ≡ second.notes.end → NoteRunAsks s₁ front.at lane line e left
      second_asks f = subst (λ (e : ℕ). NoteRunAsks s₁ front.at lane line e left) (sym f) (
          let o = j.second_placed in
          record {
            inside = back_asks;
            shiftable =
                all-last_notes (Shiftable line) s₁ second.notes.end second.notes.left left b.few second.notes.fits
                (rw (behind_still.notes second.notes.left (omega arith)) j.second_shiftable);
            apart = notes-apart o left front.at _ b.few (omega (arith, p.noted.behind)) (omega (arith, p.noted.behind, sized, ap length back_is));
            room = omega (arith, p.noted.behind, sized, ap length back_is, o.room, front_long);
          })

      module _ {s₂ : List ℕ} {rest e : ℕ} (e_is : e ≡ second.notes.end) (put : NoteRunPut s₁ front.at lane line e left s₂ rest) where
        q : NoteRunPut s₁ front.at lane line second.notes.end left s₂ rest
        q = subst (λ (e : ℕ). NoteRunPut s₁ front.at lane line e left s₂ rest) e_is put

        words₂ : s₂ ≡ splice s to (gather note_words all)
        words₂ =
            let place : front.at ≡ to + length (gather note_words fs) = omega (arith, p.noted.behind, length-note_words fs) in
            q.words
            ∙ (λ i. splice (p.noted.words i) (place i) (gather note_words (back_is i)))
            ∙ sym (splice-append s to (gather note_words fs) (gather note_words bs))
            ∙ ap (splice s to) (sym (gather_append note_words fs bs) ∙ ap (gather note_words) (sym parts))

        long₂ : length s₂ ≡ length s
        long₂ = ap length words₂ ∙ length-splice s to (gather note_words all)

        second_still₂ : Still s s₂ second
        second_still₂ = still j.second_placed (gather note_words all) (omega (arith, length-note_words all)) words₂

        pub back_few : rest ≤ left
        back_few = omega (arith, q.count)

        behind : front.at + 4 * (left - rest) ≡ to + 4 * length all
        behind = omega (arith, q.count, ap length back_is, p.noted.behind, sized)

        pub behind-room : front.at + 4 * (left - rest) ≤ length s
        behind-room = omega (arith, behind, j.second_placed.room)

        pub second_behind : {cells : ℕ} → (last_cells s₂ second.cells.end cells ≡ cell_rest lane (last_cells s₂ second.cells.end second.cells.left)) × (cells ≤ second.cells.left)
            → Behind s lane second rest cells
        second_behind {cells} d = record {
          notes_are = sym (behind_still.notes rest (omega (arith, back_few, b.few))) ∙ q.rest ∙ b.rest ∙ ap (note_rest lane) (behind_still.notes second.notes.left (omega arith));
          notes_few = omega (arith, back_few, b.few);
          cells_are = sym (second_still₂.cells cells d.1) ∙ d.0 ∙ ap (cell_rest lane) (second_still₂.cells second.cells.left (omega arith));
          cells_few = d.1;
        }

        pub lane-put : {y : Contents} → Behind s lane second y.notes.left y.cells.left → y.notes.end ≡ e → y.cells.end ≡ second.cells.end
            → LanePut s to h beats lane first second s₂ (record { at = front.at + 4 * (left - rest); first = front.rest; second = y })
        lane-put d f g = record {
          noted = record { words = words₂; behind = behind };
          first-left = p.left;
          second_left = record { middle_is = f ∙ e_is; end_is = g; left = d };
        }
