-- Lenses that stand among others with a number: where those inside them stand.
use Rattle.std.proofs.Common.{◌≡◌, ℕ, suc, ◌+◌, ◌-◌, ◌<◌, ◌≤◌, List, [], ◌∷◌, ◌++◌, length, map, slice_get, slice_index_or, Some, refl, sym, ap, subst, ◌∙◌, arith, length-append, append_assoc}
use Rattle.std.specs.Option.{option_map}
use Rattle.std.proofs.lemmas.Option.{slice_get-map, slice_get_within, get_or_from_slice_get, same_Some}
use Rattle.hm_terms.specs.Lenses.{Lens, Lenses, none, also, identity, sequence, constant, hoist, plunge, fork, each, among, items, copy, merge, on_concrete, on_view, text, call}
use Rattle.hm_types_rules.specs.Faults.{size_of, size_of_all}
use Rattle.hm_types_terms.specs.declared.part.Part.{Part}
use Rattle.hm_types_terms.specs.Parts.{part_of}
use Rattle.hm_types_terms.specs.Numbers.{parts_of, parts_of_all, StandFrom}

-- ---- how many lenses a lens has

both : (xs ys : List Lens) (a b : ℕ) → length xs ≡ a → length ys ≡ b → length (xs ++ ys) ≡ a + b
both xs ys a b e f = omega (arith, length-append xs ys, e, f)

more : (x : Lens) (xs : List Lens) (a : ℕ) → length xs ≡ a → length (x ∷ xs) ≡ 1 + a
more x xs a e = omega (arith, e)

mutual
  pub count : (l : Lens) → length (parts_of l) ≡ size_of l
  count identity = refl
  count (sequence l k) = more (sequence l k) (parts_of l ++ parts_of k) (size_of l + size_of k) (both (parts_of l) (parts_of k) (size_of l) (size_of k) (count l) (count k))
  count (constant t d) = refl
  count (hoist n) = refl
  count (plunge n) = refl
  count (fork P Q l k) = more (fork P Q l k) (parts_of l ++ parts_of k) (size_of l + size_of k) (both (parts_of l) (parts_of k) (size_of l) (size_of k) (count l) (count k))
  count (each l) = more (each l) (parts_of l) (size_of l) (count l)
  count (among ls) = more (among ls) (parts_of_all ls) (size_of_all ls) (count_all ls)
  count (items l) = more (items l) (parts_of l) (size_of l) (count l)
  count (copy m n) = refl
  count (merge m n) = refl
  count (text x) = refl
  count (on_concrete m l k) = more (on_concrete m l k) (parts_of l ++ parts_of k) (size_of l + size_of k) (both (parts_of l) (parts_of k) (size_of l) (size_of k) (count l) (count k))
  count (on_view m n l k) = more (on_view m n l k) (parts_of l ++ parts_of k) (size_of l + size_of k) (both (parts_of l) (parts_of k) (size_of l) (size_of k) (count l) (count k))
  count (call n) = refl

  pub count_all : (ls : Lenses) → length (parts_of_all ls) ≡ size_of_all ls
  count_all none = refl
  count_all (also n l ls) = both (parts_of l) (parts_of_all ls) (size_of l) (size_of_all ls) (count l) (count_all ls)

-- ---- where lenses stand

module _ (all : List Lens) (n : ℕ) where
  pub stand_inside : (x : Lens) (xs : List Lens) → StandFrom all n (x ∷ xs) → StandFrom all (n + 1) xs
  stand_inside x xs s = record {
    before = s.before ++ x ∷ [];
    after = s.after;
    is = s.is ∙ sym (append_assoc s.before (x ∷ []) (xs ++ s.after));
    number = omega (arith, s.number, length-append s.before (x ∷ []));
  }

  pub stand_first : (xs ys : List Lens) → StandFrom all n (xs ++ ys) → StandFrom all n xs
  stand_first xs ys s = record { before = s.before; after = ys ++ s.after; is = s.is ∙ ap (λ l. s.before ++ l) (append_assoc xs ys s.after); number = s.number }

  pub stand_second : (xs ys : List Lens) → StandFrom all n (xs ++ ys) → StandFrom all (n + length xs) ys
  stand_second xs ys s = record {
    before = s.before ++ xs;
    after = s.after;
    is = s.is ∙ ap (λ l. s.before ++ l) (append_assoc xs ys s.after) ∙ sym (append_assoc s.before xs (ys ++ s.after));
    number = omega (arith, s.number, length-append s.before xs);
  }

  -- the first of them is there, and there is room for all
  pub stand_at : (x : Lens) (xs : List Lens) → StandFrom all (suc n) (x ∷ xs) → slice_get all n ≡ Some x
  stand_at x xs s =
      ap (λ l. slice_get l n) s.is ∙ ap (slice_get (s.before ++ (x ∷ (xs ++ s.after)))) (omega (arith, s.number)) ∙ last s.before
    where
      last : (before : List Lens) → slice_get (before ++ (x ∷ (xs ++ s.after))) (length before) ≡ Some x
      last [] = refl
      last (y ∷ before) = last before

  pub stand_room : (xs : List Lens) → StandFrom all n xs → n + length xs ≤ suc (length all)
  stand_room xs s =
      omega (arith, s.number, ap length s.is, length-append s.before (xs ++ s.after), length-append xs s.after)

-- a lens begins its parts
pub begins : (l : Lens) → (xs : List Lens) × (parts_of l ≡ l ∷ xs)
begins identity = ([], refl)
begins (sequence l k) = (parts_of l ++ parts_of k, refl)
begins (constant t d) = ([], refl)
begins (hoist n) = ([], refl)
begins (plunge n) = ([], refl)
begins (fork P Q l k) = (parts_of l ++ parts_of k, refl)
begins (each l) = (parts_of l, refl)
begins (among ls) = (parts_of_all ls, refl)
begins (items l) = (parts_of l, refl)
begins (copy m n) = ([], refl)
begins (merge m n) = ([], refl)
begins (text x) = ([], refl)
begins (on_concrete m l k) = (parts_of l ++ parts_of k, refl)
begins (on_view m n l k) = (parts_of l ++ parts_of k, refl)
begins (call n) = ([], refl)

-- one lens has a number
pub stand_once : (all : List Lens) (n : ℕ) (l k : Lens) → StandFrom all n (parts_of l) → StandFrom all n (parts_of k) → l ≡ k
stand_once all n l k s t =
    let one = begins l in
    let two = begins k in
    let first : StandFrom all (suc (length s.before)) (l ∷ one.0) = subst (λ xs. StandFrom all (suc (length s.before)) xs) one.1 (subst (λ n. StandFrom all n (parts_of l)) s.number s) in
    let second : StandFrom all (suc (length s.before)) (k ∷ two.0) = subst (λ xs. StandFrom all (suc (length s.before)) xs) two.1 (subst (λ n. StandFrom all n (parts_of k)) s.number t) in
    same_Some l k (sym (stand_at all (length s.before) l one.0 first) ∙ stand_at all (length s.before) k two.0 second)

-- ---- how many lenses the lens of a number has

module _ (all : List Lens) (n : ℕ) (l : Lens) (s : StandFrom all n (parts_of l)) where
  pub here : slice_get all (n - 1) ≡ Some l
  here =
      let b = begins l in
      let first : StandFrom all (suc (length s.before)) (l ∷ b.0) = subst (λ xs. StandFrom all (suc (length s.before)) xs) b.1 (subst (λ n. StandFrom all n (parts_of l)) s.number s) in
      ap (slice_get all) (omega (arith, s.number)) ∙ stand_at all (length s.before) l b.0 first

  pub room_in : n + size_of l ≤ suc (length all)
  room_in = omega (arith, stand_room all n (parts_of l) s, count l)

  module _ (parts : List Part) (are : parts ≡ map part_of all) where
    part_there : slice_get parts (n - 1) ≡ Some (part_of l)
    part_there = ap (λ xs. slice_get xs (n - 1)) are ∙ slice_get-map part_of all (n - 1) ∙ ap (option_map part_of) here

    pub part_in : n - 1 < length parts
    part_in = slice_get_within parts (n - 1) (part_of l) part_there

    pub part_is : (d : Part) → slice_index_or parts (n - 1) d ≡ part_of l
    part_is d = get_or_from_slice_get parts (n - 1) (part_of l) d part_there
