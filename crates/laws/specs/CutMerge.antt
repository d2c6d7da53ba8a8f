-- Cutting the notes of two lists in order, and then merging them, is merging and then cutting.
-- Assumes nothing.
use Rattle.std.specs.Prelude.{Bool, false, true, ◌≡◌, ◌-◌, ◌<◌, ◌≤◌, ℕ}
use mathlib.Core.List.{List, [], ◌++◌, ◌∷◌}
use Rattle.std.proofs.Common.{◌∙◌, arith}
use Rattle.std.proofs.Math.Path.{ap, refl, sym}
use Rattle.model.specs.Lists.{gather}
use Rattle.model.specs.Takes.{merge, note_before, insert}
use Rattle.model.specs.declared.Note.{Note}
use Rattle.laws.specs.Merging.{first_of, merge-first, merge_second, second_of}
use Rattle.laws.specs.Notes.{Away, Before, Follow, Long, above, before, follow_trans, later}
use Rattle.laws.specs.Relations.{All, Pairs, all_append, all_imp}

-- m is what is left of n, s ticks earlier.
pub record Part (s : ℕ) (n m : Note) : Type 0 where
  pub lane_is : m.lane ≡ n.lane
  pub start_is : m.start ≡ n.start - s
  pub end_upto : m.end ≤ n.end - s
  pub order : m.start < m.end

part-before : (s : ℕ) (x y a b : Note) → Part s x a → Part s y b → Follow x y → Before a b
part-before s x y a b p q f = before a b p.order (go f)
  where
    go : Follow x y → Follow a b
    go (above u) = above (omega arith)
    go (later u v) = later (omega arith) (omega arith)

-- ---- several notes in front

merge_firsts : (ns xs ys : List Note) → All (λ n. All (Before n) ys) ns → merge (ns ++ xs) ys ≡ ns ++ merge xs ys
merge_firsts [] xs ys a = refl
merge_firsts (n ∷ ns) xs ys a = merge-first n (ns ++ xs) ys a.0 ∙ ap (◌∷◌ n) (merge_firsts ns xs ys a.1)

pub merge_seconds : (ns xs ys : List Note) → All (λ n. All (Before n) xs) ns → merge xs (ns ++ ys) ≡ ns ++ merge xs ys
merge_seconds [] xs ys a = refl
merge_seconds (n ∷ ns) xs ys a = merge_second n xs (ns ++ ys) a.0 ∙ ap (◌∷◌ n) (merge_seconds ns xs ys a.1)

-- ---- the law, for whatever leaves parts of notes

module _ (s : ℕ) (f : Note → List Note) (parts : (n : Note) → Long n → All (Part s n) (f n)) where
  -- what is left of a note lies before what is left of those that follow it
  parts-before : (x : Note) (ys : List Note) → Long x → All Long ys → All (Follow x) ys → All (λ a. All (Before a) (gather f ys)) (f x)
  parts-before x ys v w p = all_imp (Part s x) (λ a. All (Before a) (gather f ys)) (f x) (λ a u. go a u ys w p) (parts x v)
    where
      go : (a : Note) → Part s x a → (ys : List Note) → All Long ys → All (Follow x) ys → All (Before a) (gather f ys)
      go a u [] w p = tt
      go a u (y ∷ ys) w p =
          all_append (Before a) (f y) (gather f ys)
          (all_imp (Part s y) (Before a) (f y) (λ b r. part-before s x y a b u r p.0) (parts y w.0)) (go a u ys w.1 p.1)

  -- Two lists of notes with ticks, each in order, and clear of each other.
  record Sides (xs ys : List Note) : Type 0 where
    long_first : All Long xs
    long_second : All Long ys
    first-apart : Pairs Follow xs
    second_apart : Pairs Follow ys
    away : All (λ x. All (Away x) ys) xs

  abbrev Merges : List Note → List Note → Type 0
  Merges xs ys = gather f (merge xs ys) ≡ merge (gather f xs) (gather f ys)

  fewer_first : (x : Note) (xs ys : List Note) → Sides (x ∷ xs) ys → Sides xs ys
  fewer_first x xs ys d = record {
    long_first = d.long_first.1;
    long_second = d.long_second;
    first-apart = d.first-apart.1;
    second_apart = d.second_apart;
    away = d.away.1;
  }

  fewer_second : (y : Note) (xs ys : List Note) → Sides xs (y ∷ ys) → Sides xs ys
  fewer_second y xs ys d = record {
    long_first = d.long_first;
    long_second = d.long_second.1;
    first-apart = d.first-apart;
    second_apart = d.second_apart.1;
    away = all_imp (λ x. All (Away x) (y ∷ ys)) (λ x. All (Away x) ys) xs (λ x a. a.1) d.away;
  }

  insert_cut : (x : Note) (xs : List Note) → ((ys : List Note) → Sides xs ys → Merges xs ys) → (ys : List Note) → Sides (x ∷ xs) ys
      → Merges (x ∷ xs) ys
  unfolding merge insert
  insert_cut x xs h [] d =
      ap (◌++◌ (f x)) (h [] (fewer_first x xs [] d)) ∙ sym (merge_firsts (f x) (gather f xs) [] (parts-before x [] d.long_first.0 tt tt))
  insert_cut x xs h (y ∷ ys) d = go (note_before x y) refl (insert_cut x xs h ys (fewer_second y (x ∷ xs) ys d))
    where
      v : Long x
      v = d.long_first.0

      w : Long y
      w = d.long_second.0

      go : (b : Bool) → note_before x y ≡ b → Merges (x ∷ xs) ys → Merges (x ∷ xs) (y ∷ ys)
      go true e ih =
          let g : Follow x y = first_of x y v w d.away.0.0 e in
          let gs : All (Follow x) (y ∷ ys) = (g, all_imp (Follow y) (Follow x) ys (λ m k. follow_trans x y m w g k) d.second_apart.0) in
          rw (e, insert)
          (ap (◌++◌ (f x)) (h (y ∷ ys) (fewer_first x xs (y ∷ ys) d))
          ∙ sym (merge_firsts (f x) (gather f xs) (gather f (y ∷ ys)) (parts-before x (y ∷ ys) v d.long_second gs)))
      go false e ih =
          let g : Follow y x = second_of x y v w d.away.0.0 e in
          let gs : All (Follow y) (x ∷ xs) = (g, all_imp (Follow x) (Follow y) xs (λ m k. follow_trans y x m v g k) d.first-apart.0) in
          rw (e, insert)
          (ap (◌++◌ (f y)) ih
          ∙ sym (merge_seconds (f y) (gather f (x ∷ xs)) (gather f ys) (parts-before y (x ∷ xs) w d.long_first gs)))

  sides_merge : (xs ys : List Note) → Sides xs ys → Merges xs ys
  unfolding merge
  sides_merge [] ys d = refl
  sides_merge (x ∷ xs) ys d = insert_cut x xs (λ zs c. sides_merge xs zs c) ys d

  -- the parts of two merged lists are their parts, merged
  pub gather-merge : (xs ys : List Note) → All Long xs → All Long ys → Pairs Follow xs → Pairs Follow ys → All (λ x. All (Away x) ys) xs
      → gather f (merge xs ys) ≡ merge (gather f xs) (gather f ys)
  gather-merge xs ys v w p q a = sides_merge xs ys (record { long_first = v; long_second = w; first-apart = p; second_apart = q; away = a })
