-- Two lists of notes in one order.
-- Assumes nothing.
use Rattle.std.specs.Prelude.{Bool, ◌≡◌, ◌+◌, suc, ℕ, length}
use Rattle.std.proofs.Math.Bool.{false, not, true}
use Rattle.std.proofs.Common.{true≢false, ◌∙◌, ap, sym, arith}
use mathlib.Core.List.{List, [], ◌∷◌}
use Rattle.std.proofs.Math.Path.{refl}
use Rattle.model.specs.Lists.{cons_if, keep}
use Rattle.model.specs.Takes.{merge, note_before, insert}
use Rattle.model.specs.declared.Note.{Note}
use Rattle.laws.specs.Notes.{Away, Before, Follow, Long, before, follow_trans, left, right}
use Rattle.laws.specs.Relations.{All, Pairs, all_imp, all_keep, keep_no, keep_yes}

module _ (p : Note → Bool) where
  insert-keep : (x : Note) (xs : List Note) (more : List Note → List Note) → p x ≡ true
      → ((ys : List Note) → All (λ y. p y ≡ false) ys → keep p (more ys) ≡ xs)
      → (ys : List Note) → All (λ y. p y ≡ false) ys → keep p (insert x more ys) ≡ x ∷ xs
  unfolding insert
  insert-keep x xs more e f [] a = rw (e, f [] a)
  insert-keep x xs more e f (y ∷ ys) a = go (note_before x y) refl (insert-keep x xs more e f ys a.1)
    where
      go : (b : Bool) → note_before x y ≡ b → keep p (insert x more ys) ≡ x ∷ xs → keep p (insert x more (y ∷ ys)) ≡ x ∷ xs
      go true q ih = rw (q, insert, e, f (y ∷ ys) a)
      go false q ih = rw (q, insert, a.0) ih

  pub merge-keep : (xs ys : List Note) → All (λ x. p x ≡ true) xs → All (λ y. p y ≡ false) ys → keep p (merge xs ys) ≡ xs
  unfolding merge
  merge-keep [] ys a b = keep_no p ys b
  merge-keep (x ∷ xs) ys a b = insert-keep x xs (λ zs. merge xs zs) a.0 (λ zs c. merge-keep xs zs a.1 c) ys b

module _ (p : Note → Bool) where
  insert_other : (x : Note) (more : List Note → List Note) → p x ≡ true
      → ((ys : List Note) → All (λ y. p y ≡ false) ys → keep (λ n. not (p n)) (more ys) ≡ ys)
      → (ys : List Note) → All (λ y. p y ≡ false) ys → keep (λ n. not (p n)) (insert x more ys) ≡ ys
  unfolding insert
  insert_other x more e f [] a = rw (e, f [] a)
  insert_other x more e f (y ∷ ys) a = go (note_before x y) refl (insert_other x more e f ys a.1)
    where
      go : (b : Bool) → note_before x y ≡ b → keep (λ n. not (p n)) (insert x more ys) ≡ ys → keep (λ n. not (p n)) (insert x more (y ∷ ys)) ≡ y ∷ ys
      go true q ih = rw (q, insert, e) (f (y ∷ ys) a)
      go false q ih = rw (q, insert, a.0) (ap (◌∷◌ y) ih)

  pub merge_other : (xs ys : List Note) → All (λ x. p x ≡ true) xs → All (λ y. p y ≡ false) ys → keep (λ n. not (p n)) (merge xs ys) ≡ ys
  unfolding merge
  merge_other [] ys a b = keep_yes (λ n. not (p n)) ys (all_imp (λ y. p y ≡ false) (λ y. not (p y) ≡ true) ys (λ y e. rw e) b)
  merge_other (x ∷ xs) ys a b = insert_other x (λ zs. merge xs zs) a.0 (λ zs c. merge_other xs zs a.1 c) ys b

-- ---- what the merged notes keep

all_insert : (P : Note → Type 0) (x : Note) (more : List Note → List Note) → P x → ((ys : List Note) → All P ys → All P (more ys)) → (ys : List Note)
    → All P ys → All P (insert x more ys)
unfolding insert
all_insert P x more h f [] a = (h, f [] a)
all_insert P x more h f (y ∷ ys) a = go (note_before x y) refl (all_insert P x more h f ys a.1)
  where
    go : (b : Bool) → note_before x y ≡ b → All P (insert x more ys) → All P (insert x more (y ∷ ys))
    go true e ih = rw (e, insert) (h, f (y ∷ ys) a)
    go false e ih = rw (e, insert) (a.0, ih)

pub all-merge : (P : Note → Type 0) (xs ys : List Note) → All P xs → All P ys → All P (merge xs ys)
unfolding merge
all-merge P [] ys a b = b
all-merge P (x ∷ xs) ys a b = all_insert P x (λ zs. merge xs zs) a.0 (λ zs c. all-merge P xs zs a.1 c) ys b

pub first_of : (x y : Note) → Long x → Long y → Away x y → note_before x y ≡ true → Follow x y
first_of x y v w (left f) e = f
first_of x y v w (right f) e = absurd (true≢false (sym e ∙ (before y x w f).1))

pub second_of : (x y : Note) → Long x → Long y → Away x y → note_before x y ≡ false → Follow y x
second_of x y v w (right f) e = f
second_of x y v w (left f) e = absurd (true≢false (sym (before x y v f).0 ∙ e))

insert-pairs : (x : Note) (xs : List Note) → Long x → All Long xs → All (Follow x) xs
    → ((ys : List Note) → All Long ys → Pairs Follow ys → All (λ m. All (Away m) ys) xs → Pairs Follow (merge xs ys))
    → (ys : List Note) → All Long ys → Pairs Follow ys → All (Away x) ys → All (λ m. All (Away m) ys) xs
    → Pairs Follow (insert x (λ zs. merge xs zs) ys)
unfolding insert
insert-pairs x xs v vs a f [] w p b c = (all-merge (Follow x) xs [] a tt, f [] w p c)
insert-pairs x xs v vs a f (y ∷ ys) w p b c = go (note_before x y) refl (insert-pairs x xs v vs a f ys w.1 p.1 b.1 (all_imp (λ m. All (Away m) (y ∷ ys)) (λ m. All (Away m) ys) xs (λ m h. h.1) c))
  where
    go : (t : Bool) → note_before x y ≡ t → Pairs Follow (insert x (λ zs. merge xs zs) ys) → Pairs Follow (insert x (λ zs. merge xs zs) (y ∷ ys))
    go true e ih =
        let g : Follow x y = first_of x y v w.0 b.0 e in
        rw (e, insert) (all-merge (Follow x) xs (y ∷ ys) a (g, all_imp (Follow y) (Follow x) ys (λ m h. follow_trans x y m w.0 g h) p.0), f (y ∷ ys) w p c)
    go false e ih =
        let g : Follow y x = second_of x y v w.0 b.0 e in
        rw (e, insert) (all_insert (Follow y) x (λ zs. merge xs zs) g (λ zs h. all-merge (Follow y) xs zs (all_imp (Follow x) (Follow y) xs (λ m k. follow_trans y x m v g k) a) h) ys p.0, ih)

pub merge-pairs : (xs ys : List Note) → All Long xs → All Long ys → Pairs Follow xs → Pairs Follow ys → All (λ m. All (Away m) ys) xs
    → Pairs Follow (merge xs ys)
unfolding merge
merge-pairs [] ys v w p q a = q
merge-pairs (x ∷ xs) ys v w p q a = insert-pairs x xs v.0 v.1 p.0 (λ zs u r b. merge-pairs xs zs v.1 u p.1 r b) ys w q a.0 a.1

-- ---- a list in order taken apart and merged again

pub merge-first : (n : Note) (xs ys : List Note) → All (Before n) ys → merge (n ∷ xs) ys ≡ n ∷ merge xs ys
unfolding merge
merge-first n xs [] h = refl
merge-first n xs (b ∷ ys) h = rw (h.0.0, insert)

pub merge_second : (n : Note) (xs ys : List Note) → All (Before n) xs → merge xs (n ∷ ys) ≡ n ∷ merge xs ys
unfolding merge
merge_second n [] ys h = refl
merge_second n (a ∷ xs) ys h = rw (h.0.1, insert)

-- a sorted list is the merge of its two parts
pub merge-parts : (p : Note → Bool) (ns : List Note) → Pairs Before ns → merge (keep p ns) (keep (λ n. not (p n)) ns) ≡ ns
unfolding merge
merge-parts p [] s = refl
merge-parts p (n ∷ ns) s = go (p n) (merge-parts p ns s.1)
  where
    go : (b : Bool) → merge (keep p ns) (keep (λ n. not (p n)) ns) ≡ ns
        → merge (cons_if b n (keep p ns)) (cons_if (not b) n (keep (λ n. not (p n)) ns)) ≡ n ∷ ns
    go true ih = merge-first n (keep p ns) (keep (λ n. not (p n)) ns) (all_keep (Before n) (λ n. not (p n)) ns s.0) ∙ ap (◌∷◌ n) ih
    go false ih = merge_second n (keep p ns) (keep (λ n. not (p n)) ns) (all_keep (Before n) p ns s.0) ∙ ap (◌∷◌ n) ih

-- ---- length

length-insert : (x : Note) (n : ℕ) (more : List Note → List Note) → ((ys : List Note) → length (more ys) ≡ n + length ys) → (ys : List Note)
    → length (insert x more ys) ≡ suc n + length ys
unfolding insert
length-insert x n more f [] = let e = f [] in omega arith
length-insert x n more f (y ∷ ys) = go (note_before x y) refl (length-insert x n more f ys)
  where
    go : (b : Bool) → note_before x y ≡ b → length (insert x more ys) ≡ suc n + length ys → length (insert x more (y ∷ ys)) ≡ suc n + suc (length ys)
    go true e ih = let g = f (y ∷ ys) in rw (e, insert) (omega arith)
    go false e ih = rw (e, insert) (omega arith)

pub length-merge : (xs ys : List Note) → length (merge xs ys) ≡ length xs + length ys
unfolding merge
length-merge [] ys = omega arith
length-merge (x ∷ xs) ys = length-insert x (length xs) (λ zs. merge xs zs) (λ zs. length-merge xs zs) ys
