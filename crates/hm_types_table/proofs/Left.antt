-- What is left of lists, item by item, and of the edges and the label of a node.
use Rattle.std.proofs.Common.{◌≡◌, ℕ, zero, suc, ◌+◌, ◌<◌, ◌≤◌, Bool, true, false, ◌||◌, cond, List, [], ◌∷◌, ◌++◌, map, filter, length, take, slice_get, Some, refl, sym, ap, ◌∙◌, arith, add-one}
use Rattle.std.proofs.lemmas.List.{append-nil, take_all}
use Rattle.std.proofs.lemmas.Option.{same_Some}
use Rattle.hm_tree.specs.Names.{Name}
use Rattle.hm_types_table.specs.Classes.{left}
use Rattle.hm_types_table.proofs.Places.{there}

module _ {X : Type 0} where
  left_next : (all : Bool) (bs : List Bool) (xs : List X) (i : ℕ) (c : Bool) (y : X) → slice_get bs i ≡ Some c → slice_get xs i ≡ Some y
      → left all (take (suc i) bs) (take (suc i) xs) ≡ left all (take i bs) (take i xs) ++ cond (all || c) (y ∷ []) []
  left_next all [] xs i c y e f = cc
  left_next all (b ∷ bs) [] i c y e f = cc
  left_next all (b ∷ bs) (x ∷ xs) zero c y e f =
      let bit : b ≡ c = same_Some b c e in
      let item : x ≡ y = same_Some x y f in
      λ i. cond (all || bit i) (item i ∷ []) []
  left_next all (b ∷ bs) (x ∷ xs) (suc i) c y e f = go (all || b) (left_next all bs xs i c y e f)
    where
      go : (kept : Bool) → left all (take (suc i) bs) (take (suc i) xs) ≡ left all (take i bs) (take i xs) ++ cond (all || c) (y ∷ []) []
          → cond kept (x ∷ left all (take (suc i) bs) (take (suc i) xs)) (left all (take (suc i) bs) (take (suc i) xs))
          ≡ cond kept (x ∷ left all (take i bs) (take i xs)) (left all (take i bs) (take i xs)) ++ cond (all || c) (y ∷ []) []
      go true rest = ap (λ l. x ∷ l) rest
      go false rest = rest

  -- one item more
  pub left_more : (all : Bool) (bs : List Bool) (xs : List X) (i : ℕ) (c : Bool) (y : X) → slice_get bs i ≡ Some c → slice_get xs i ≡ Some y
      → left all (take (i + 1) bs) (take (i + 1) xs) ≡ left all (take i bs) (take i xs) ++ cond (all || c) (y ∷ []) []
  left_more all bs xs i c y e f = ap (λ n. left all (take n bs) (take n xs)) (add-one i) ∙ left_next all bs xs i c y e f

  module _ (all : Bool) (bs : List Bool) (xs : List X) (i : ℕ) (kept : Bool) (same : (b : Bool) → slice_get bs i ≡ Some b → kept ≡ (all || b))
      (size : length bs ≡ length xs) (lt : i < length xs) where
    bit : (b : Bool) × (slice_get bs i ≡ Some b)
    bit = there bs i (omega (arith, lt, size))

    pub left_taken : (x : X) → slice_get xs i ≡ Some x → kept ≡ true
        → left all (take (i + 1) bs) (take (i + 1) xs) ≡ left all (take i bs) (take i xs) ++ x ∷ []
    left_taken x e k = left_more all bs xs i bit.0 x bit.1 e
        ∙ ap (λ b. left all (take i bs) (take i xs) ++ cond b (x ∷ []) []) (sym (same bit.0 bit.1) ∙ k)

    pub left_skipped : kept ≡ false → left all (take (i + 1) bs) (take (i + 1) xs) ≡ left all (take i bs) (take i xs)
    left_skipped k =
        let item = there xs i lt in
        left_more all bs xs i bit.0 item.0 bit.1 item.1
        ∙ ap (λ b. left all (take i bs) (take i xs) ++ cond b (item.0 ∷ []) []) (sym (same bit.0 bit.1) ∙ k)
        ∙ append-nil (left all (take i bs) (take i xs))

  -- all items
  pub left_whole : (all : Bool) (bs : List Bool) (xs : List X) (i : ℕ) → length xs ≤ i → length bs ≡ length xs
      → left all (take i bs) (take i xs) ≡ left all bs xs
  left_whole all bs xs i le size = λ t. left all (take_all i bs (omega (arith, le, size)) t) (take_all i xs le t)

-- ---- what is left of the children of a node when it is tidied

module _ {X Y : Type 0} (p : Name → Bool) (f : Name × X → Y) where
  all_left : (cs : List (Name × X)) → left true (map (λ c. p c.0) cs) (map f cs) ≡ map f cs
  all_left [] = refl
  all_left (c ∷ cs) = ap (λ l. f c ∷ l) (all_left cs)

  some_left : (cs : List (Name × X)) → left false (map (λ c. p c.0) cs) (map f cs) ≡ map f (filter (λ c. p c.0) cs)
  some_left [] = refl
  some_left (c ∷ cs) = go (p c.0) (some_left cs)
    where
      go : (b : Bool) → left false (map (λ (c : Name × X). p c.0) cs) (map f cs) ≡ map f (filter (λ (c : Name × X). p c.0) cs)
          → cond b (f c ∷ left false (map (λ (c : Name × X). p c.0) cs) (map f cs)) (left false (map (λ (c : Name × X). p c.0) cs) (map f cs))
          ≡ map f (cond b (c ∷ filter (λ (c : Name × X). p c.0) cs) (filter (λ (c : Name × X). p c.0) cs))
      go true rest = ap (λ l. f c ∷ l) rest
      go false rest = rest

  pub children_kept : (all : Bool) (cs : List (Name × X)) → left all (map (λ c. p c.0) cs) (map f cs) ≡ map f (cond all cs (filter (λ c. p c.0) cs))
  children_kept true cs = all_left cs
  children_kept false cs = some_left cs
