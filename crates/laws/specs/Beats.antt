-- Ticks, beats and lines.
-- Assumes nothing.
use Rattle.std.specs.Prelude.{false, true, ◌≡◌, ◌%◌, ◌*◌, ◌+◌, ◌-◌, ◌/◌, ◌<◌, ◌≤◌, suc, ℕ, ltb}
use Rattle.std.proofs.Common.{◌∙◌, ap, add-zero, div-add-mod', div-mul-le_self, le-div_iff_mul-le, mod-lt, arith, lt-ltb, ltb-false, ltb-true}
use Rattle.std.proofs.Math.Nat.{div-eq_of_lt, lt-div-mul-add, mod-mod, mul-add-div_right, mul-add-mod_self_right}
use Rattle.model.specs.Pieces.{first_beat, inside, inside_at}
use Rattle.model.specs.Takes.{note_to}
use Rattle.model.specs.declared.Note.{Note}
use Rattle.laws.specs.Booleans.{and_left, and_right, and_yes}

-- the beat of a tick
pub low : (δ s : ℕ) → s / δ * δ ≤ s
low δ s = div-mul-le_self s δ

pub high : (δ : ℕ) → 0 < δ → (s : ℕ) → s < suc (s / δ) * δ
high δ z s = let h = lt-div-mul-add {a = s} z in omega arith

pub touch_line : (δ : ℕ) (n : Note) → inside δ n ≡ false → n.start / δ * δ < n.start → suc (n.start / δ) * δ ≤ n.end
unfolding inside_at
touch_line δ n e a = ltb-false n.end (suc (n.start / δ) * δ) (rw (lt-ltb (n.start / δ * δ) n.start a) at e)

pub inside_low : (δ : ℕ) (n : Note) → inside δ n ≡ true → first_beat δ n * δ < n.start
unfolding inside_at
inside_low δ n e = ltb-true (n.start / δ * δ) n.start (and_left (ltb (n.start / δ * δ) n.start) _ e)

pub inside_high : (δ : ℕ) (n : Note) → inside δ n ≡ true → n.end < suc (first_beat δ n) * δ
unfolding inside_at
inside_high δ n e = ltb-true n.end (suc (n.start / δ) * δ) (and_right (ltb (n.start / δ * δ) n.start) _ e)

pub note_beat : (δ : ℕ) → 0 < δ → (i : ℕ) (n : Note) → first_beat δ (note_to δ i n) ≡ i
note_beat δ z i n = rw (mul-add-div_right z i (n.start % δ), div-eq_of_lt (mod-lt n.start z), add-zero)

pub note_to_lem : (δ : ℕ) (i j : ℕ) (n : Note) → note_to δ i (note_to δ j n) ≡ note_to δ i n
note_to_lem δ i j n =
    let e : j * δ + n.start % δ + (n.end - n.start) - (j * δ + n.start % δ) ≡ n.end - n.start = omega arith in
    rw (mul-add-mod_self_right j δ (n.start % δ), mod-mod, e)

pub div_mono : (δ : ℕ) → 0 < δ → (a b : ℕ) → a ≤ b → a / δ ≤ b / δ
div_mono δ z a b h = (le-div_iff_mul-le z).1 (let l : a / δ * δ ≤ a = div-mul-le_self a δ in omega arith)

-- an inner note stays one in another beat
pub inside-to : (δ : ℕ) → 0 < δ → (i : ℕ) (n : Note) → inside δ n ≡ true → inside δ (note_to δ i n) ≡ true
unfolding inside_at
inside-to δ z i n e =
    let s = n.start in
    let q : (i * δ + s % δ) / δ ≡ i = mul-add-div_right z i (s % δ) ∙ ap (◌+◌ i) (div-eq_of_lt (mod-lt s z)) ∙ add-zero i in
    let a : s / δ * δ < s = ltb-true (s / δ * δ) s (and_left (ltb (s / δ * δ) s) _ e) in
    let b : n.end < suc (s / δ) * δ = ltb-true n.end (suc (s / δ) * δ) (and_right (ltb (s / δ * δ) s) _ e) in
    let d : s / δ * δ + s % δ ≡ s = div-add-mod' s δ in
    let m : s % δ < δ = mod-lt s z in
    rw q (and_yes (lt-ltb (i * δ) (i * δ + s % δ) (omega arith)) (lt-ltb (i * δ + s % δ + (n.end - s)) (suc i * δ) (omega arith)))
