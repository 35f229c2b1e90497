-- How many of the first bytes are equal.
use Rattle.std.proofs.Common.{◌≡◌, ℕ, zero, suc, ◌+◌, ◌<◌, ◌≤◌, ◌⊎◌, inl, inr, min, Bool, true, false, cond, ◌==◌, List, [], ◌∷◌, ◌++◌, length, take, drop, refl, sym, ap, subst, ◌∙◌, arith, eq-eqb}
use Rattle.std.proofs.lemmas.List.{drop_all}
use Rattle.std.proofs.lemmas.Bool.{eqb-true, cond-true, cases_lt}
use Rattle.hm_tree_spelling.specs.Spelling.{spelled_byte}
use Rattle.hm_tree_text.specs.NameRest.{shared}

shared_none : (xs : List ℕ) → shared xs [] ≡ 0
shared_none [] = refl
shared_none (x ∷ xs) = refl

-- ---- place by place

module _ (xs ys : List ℕ) (i : ℕ) where
  pub shared_end : (length xs ≤ i) ⊎ (length ys ≤ i) → shared (drop i xs) (drop i ys) ≡ 0
  shared_end (inl l) = ap (λ x. shared x (drop i ys)) (drop_all i xs l)
  shared_end (inr l) = ap (λ y. shared (drop i xs) y) (drop_all i ys l) ∙ shared_none (drop i xs)

-- at the end of one of the two all are counted
pub shared_done : (xs ys : List ℕ) (count most : ℕ) → most ≡ min (length xs) (length ys) → most ≤ count → count ≤ most
    → count + shared (drop count xs) (drop count ys) ≡ shared xs ys → most ≡ shared xs ys
shared_done xs ys count most is le ge total =
    let ended : (length xs ≤ count) ⊎ (length ys ≤ count) = elim (cases_lt count (length xs)) [ inl l ↦ inr (omega arith) | inr g ↦ inl g ] in
    let none = shared_end xs ys count ended in
    omega arith

-- ---- what is shared

pub shared_le : (xs ys : List ℕ) → shared xs ys ≤ length xs
shared_le [] ys = omega arith
shared_le (x ∷ xs) [] = omega arith
shared_le (x ∷ xs) (y ∷ ys) = by (x == y) (shared_le xs ys)
  where
    by : (b : Bool) → shared xs ys ≤ length xs → cond b (suc (shared xs ys)) 0 ≤ suc (length xs)
    by true l = omega arith
    by false l = omega arith

-- the part that is shared begins the other
pub shared_part : (xs ys : List ℕ) → (rest : List ℕ) × (ys ≡ take (shared xs ys) xs ++ rest)
shared_part [] ys = (ys, refl)
shared_part (x ∷ xs) [] = ([], refl)
shared_part (x ∷ xs) (y ∷ ys) = by (x == y) refl (shared_part xs ys)
  where
    by : (b : Bool) → (x == y) ≡ b → (rest : List ℕ) × (ys ≡ take (shared xs ys) xs ++ rest)
        → (rest : List ℕ) × (y ∷ ys ≡ take (cond b (suc (shared xs ys)) 0) (x ∷ xs) ++ rest)
    by true e next = (next.0, λ i. sym (eqb-true x y e) i ∷ next.1 i)
    by false e next = (y ∷ ys, refl)

-- it is all of the other where the other stands at the front
pub shared_whole : (xs ys : List ℕ) → shared xs ys ≡ length ys → (rest : List ℕ) × (xs ≡ ys ++ rest)
shared_whole xs [] e = (xs, refl)
shared_whole [] (y ∷ ys) e = absurd (omega arith)
shared_whole (x ∷ xs) (y ∷ ys) e = by (x == y) refl (λ is. shared_whole xs ys is) e
  where
    by : (b : Bool) → (x == y) ≡ b → (shared xs ys ≡ length ys → (rest : List ℕ) × (xs ≡ ys ++ rest))
        → cond b (suc (shared xs ys)) 0 ≡ suc (length ys) → (rest : List ℕ) × (x ∷ xs ≡ y ∷ (ys ++ rest))
    by true t again e = let next = again (omega arith) in (next.0, λ i. eqb-true x y t i ∷ next.1 i)
    by false t again e = absurd (omega arith)

pub whole_shared : (ys rest : List ℕ) → shared (ys ++ rest) ys ≡ length ys
whole_shared [] rest = shared_none rest
whole_shared (y ∷ ys) rest = cond-true _ _ _ (eq-eqb y y refl) ∙ ap suc (whole_shared ys rest)

-- bytes that go on as the other: either no more of them than are shared, or the other stands at the front
pub shared_taken : (m : ℕ) (xs ys rest z : List ℕ) → m ≤ length xs → take m xs ++ rest ≡ ys ++ z
    → (m ≤ shared xs ys) ⊎ ((r : List ℕ) × (xs ≡ ys ++ r))
shared_taken m xs [] rest z le e = inr (xs, refl)
shared_taken zero xs (y ∷ ys) rest z le e = inl (omega arith)
shared_taken (suc m) [] (y ∷ ys) rest z le e = absurd (omega arith)
shared_taken (suc m) (x ∷ xs) (y ∷ ys) rest z le e =
    let head : x ≡ y = cc in
    let tail : take m xs ++ rest ≡ ys ++ z = cc in
    let is : shared (x ∷ xs) (y ∷ ys) ≡ suc (shared xs ys) = cond-true _ _ _ (eq-eqb x y head) in
    elim (shared_taken m xs ys rest z (omega arith) tail) [ inl l ↦ inl (omega arith) | inr r ↦ inr (r.0, λ i. head i ∷ r.1 i) ]

-- the spellings of the bytes below a bound
pub spelled_below : (bytes : List ℕ) (bound : ℕ) → ((b : ℕ) (rest : List ℕ) → b < bound → ¬ (bytes ≡ spelled_byte b ++ rest))
    → (shared bytes (spelled_byte bound) ≡ length (spelled_byte bound) → ⊥) → (b : ℕ) (rest : List ℕ) → b < bound + 1
    → ¬ (bytes ≡ spelled_byte b ++ rest)
spelled_below bytes bound below not b rest lt e = elim (cases_lt b bound) [
  | inl l ↦ below b rest l e
  | inr g ↦ (let same : b ≡ bound = omega arith in
      not (subst (λ d. shared bytes (spelled_byte d) ≡ length (spelled_byte d)) same
      (ap (λ x. shared x (spelled_byte b)) e ∙ whole_shared (spelled_byte b) rest)))
]
