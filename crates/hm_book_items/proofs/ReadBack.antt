-- A new tree written over an old file reads back.
use Rattle.std.proofs.Common.{◌≡◌, ◌≢◌, ℕ, ◌+◌, Bool, true, false, cond, T, List, [], ◌∷◌, ◌++◌, length, slice_get, drop, Option, Some, None, refl, sym, ap, ◌∙◌, subst, arith, inl, inr}
use Rattle.std.specs.declared.cmp.Ordering.{Ordering}
use Rattle.std.specs.declared.cmp.Ordering.TheVariants.{Less, Equal, Greater}
use Rattle.std.specs.Ordering.{eq_by_cmp, is_eq, is_lt}
use Rattle.std.specs.Option.{unwrap_or}
use Rattle.std.specs.Cmp.{IsTotalOrder}
use Rattle.std.proofs.lemmas.Cmp.{tied_itself}
use Rattle.std.specs.FinMap.{is_sorted, find}
use Rattle.std.specs.FinMap.Entries.{below_all, same_entries}
use Rattle.std.proofs.lemmas.List.{append-nil, append_assoc, length-append, drop_all, drop_more}
use Rattle.std.proofs.lemmas.Option.{slice_get_cases}
use Rattle.hm_book_items.specs.Items.{of_key, below_key, IsTree, IsGrouped, survivor, kept, fresh, added, shown, seen, unchanged, IsRewritten, survivor_of, survivor_at}
use Rattle.std.specs.List.{range_with_len}
use Rattle.std.specs.Prelude.{flat_map}
use Rattle.std.proofs.Math.Seq.{take-append_seam}
use Rattle.hm_tree.specs.Nodes.{first, second}

equal : (r : Ordering) → is_eq r ≡ true → r ≡ Equal
equal Less p = let bad : ⊥ = cc in absurd bad
equal Equal p = refl
equal Greater p = let bad : ⊥ = cc in absurd bad

less : (r : Ordering) → T (is_lt r) → is_eq r ≡ false
less Less p = refl
less Equal p = absurd p
less Greater p = absurd p

-- what two look-ups found, where neither is the empty list
found : {A : Type 0} (o p : Option (List A)) → o ≢ Some [] → p ≢ Some [] → unwrap_or o [] ≡ unwrap_or p [] → o ≡ p
found None None a b e = refl
found None (Some l) a b e = absurd (b (ap Some (sym e)))
found (Some l) None a b e = absurd (a (ap Some e))
found (Some l) (Some m) a b e = ap Some e

module _ {K : Type 0} (R : K → K → Ordering) where
  pub of_key-append : {A : Type 0} (k : K) (xs ys : List (K × A)) → of_key R k (xs ++ ys) ≡ of_key R k xs ++ of_key R k ys
  of_key-append k [] ys = refl
  of_key-append k (x ∷ xs) ys =
      elim (eq_by_cmp R k x.0) as (λ b. cond b (x.1 ∷ of_key R k (xs ++ ys)) (of_key R k (xs ++ ys)) ≡ cond b (x.1 ∷ of_key R k xs) (of_key R k xs) ++ of_key R k ys) [
        | true ↦ ap (λ l. x.1 ∷ l) (of_key-append k xs ys)
        | false ↦ of_key-append k xs ys
      ]

  pub shown-append : {C A : Type 0} (xs ys : List (K × Option C × A)) → shown R (xs ++ ys) ≡ shown R xs ++ shown R ys
  shown-append [] ys = refl
  shown-append (x ∷ xs) ys = ap (λ l. (x.0, x.2) ∷ l) (shown-append xs ys)

  module _ (total : IsTotalOrder R) (one : (a b : K) → R a b ≡ Equal → a ≡ b) where
    itself : (k : K) → eq_by_cmp R k k ≡ true
    itself k = ap is_eq (tied_itself total k)

    pub same : (a b : K) → eq_by_cmp R a b ≡ true → a ≡ b
    same a b e = one a b (equal (R a b) e)

    module _ {C : Type 0} where
      one_more : (k : K) (before : List (K × C)) (x : K × C) → eq_by_cmp R k x.0 ≡ true → length (of_key R k (before ++ x ∷ [])) ≡ length (of_key R k before) + 1
      one_more k before x e = ap length (of_key-append k before (x ∷ [])) ∙ rw e (length-append (of_key R k before) (x.1 ∷ []))

      no_more : (k : K) (before : List (K × C)) (x : K × C) → eq_by_cmp R k x.0 ≡ false → length (of_key R k (before ++ x ∷ [])) ≡ length (of_key R k before)
      no_more k before x e = ap length (of_key-append k before (x ∷ []) ∙ rw e (append-nil (of_key R k before)))

    module _ {C A : Type 0} where
      -- what comes of an item at its place of a list
      step : (x : K × C) (l : List A) (n : ℕ) → of_key R x.0 (shown R (survivor R x (slice_get l n))) ++ drop (n + 1) l ≡ drop n l
      step x l n =
          elim ((slice_get_cases l n).1) [
            | inl p ↦ rw (p.2, itself x.0) (sym (drop_more l n p.0 p.1 ∙ ap (λ a. a ∷ drop (n + 1) l) p.3))
            | inr p ↦ rw (p.1) (drop_all (n + 1) l (let q = p.0 in omega arith) ∙ sym (drop_all n l p.0))
          ]

      other : (k : K) (x : K × C) (o : Option A) → eq_by_cmp R k x.0 ≡ false → of_key R k (shown R (survivor R x o)) ≡ []
      other k x None e = refl
      other k x (Some a) e = rw e refl

      turn : (tree : List (K × List A)) (k : K) (before : List (K × C)) (x : K × C) (b : Bool) → eq_by_cmp R k x.0 ≡ b
          → of_key R k (shown R (survivor R x (slice_get (below_key R x.0 tree) (length (of_key R x.0 before))))) ++ drop (length (of_key R k (before ++ x ∷ []))) (below_key R k tree)
          ≡ drop (length (of_key R k before)) (below_key R k tree)
      turn tree k before x true e =
          rw (one_more k before x e) (
          subst (λ j. of_key R j (shown R (survivor R x (slice_get (below_key R x.0 tree) (length (of_key R x.0 before))))) ++ drop (length (of_key R j before) + 1) (below_key R j tree) ≡ drop (length (of_key R j before)) (below_key R j tree))
          (sym (same k x.0 e)) (step x (below_key R x.0 tree) (length (of_key R x.0 before))))
      turn tree k before x false e = rw (no_more k before x e, other k x (slice_get (below_key R x.0 tree) (length (of_key R x.0 before))) e) refl

      pub of_key-kept : (tree : List (K × List A)) (k : K) (before rest : List (K × C))
          → of_key R k (shown R (kept R tree before rest)) ++ drop (length (of_key R k (before ++ rest))) (below_key R k tree) ≡ drop (length (of_key R k before)) (below_key R k tree)
      of_key-kept tree k before [] = ap (λ l. drop (length (of_key R k l)) (below_key R k tree)) (append-nil before)
      of_key-kept tree k before (x ∷ rest) =
          let l = below_key R k tree in
          let s = survivor R x (slice_get (below_key R x.0 tree) (length (of_key R x.0 before))) in
          let more = kept R tree (before ++ x ∷ []) rest in
          let split : of_key R k (shown R (s ++ more)) ≡ of_key R k (shown R s) ++ of_key R k (shown R more) = ap (of_key R k) (shown-append s more) ∙ of_key-append k (shown R s) (shown R more) in
          ap (λ (m : List A). m ++ drop (length (of_key R k (before ++ x ∷ rest))) l) split
          ∙ append_assoc (of_key R k (shown R s)) (of_key R k (shown R more)) (drop (length (of_key R k (before ++ x ∷ rest))) l)
          ∙ ap (λ (b : List (K × C)). of_key R k (shown R s) ++ (of_key R k (shown R more) ++ drop (length (of_key R k b)) l)) (sym (append_assoc before (x ∷ []) rest))
          ∙ ap (λ (m : List A). of_key R k (shown R s) ++ m) (of_key-kept tree k (before ++ x ∷ []) rest)
          ∙ turn tree k before x (eq_by_cmp R k x.0) refl

    module _ (C : Type 0) {A : Type 0} where
      fresh_same : (k : K) (l : List A) → of_key R k (shown R (fresh R {C = C} k l)) ≡ l
      fresh_same k [] = refl
      fresh_same k (a ∷ l) = rw (itself k) (ap (λ m. a ∷ m) (fresh_same k l))

      fresh_other : (k j : K) (l : List A) → eq_by_cmp R k j ≡ false → of_key R k (shown R (fresh R {C = C} j l)) ≡ []
      fresh_other k j [] e = refl
      fresh_other k j (a ∷ l) e = rw e (fresh_other k j l e)

    -- nothing stands at a key below all the others
    pub absent : {X : Type 0} (k : K) (es : List (K × X)) → T (below_all R k es) → find R k es ≡ None
    absent k [] h = refl
    absent k (e ∷ es) h = rw (less (R k e.0) (first _ _ h)) (absent k es (second _ _ h))

    module _ {C A : Type 0} where
      at : (old : List (K × C)) (e : K × List A) (es : List (K × List A)) (k : K) → T (is_sorted R (e ∷ es)) → (b : Bool) → eq_by_cmp R k e.0 ≡ b
          → of_key R k (shown R (fresh R {C = C} e.0 (drop (length (of_key R e.0 old)) e.1))) ++ drop (length (of_key R k old)) (below_key R k es) ≡ drop (length (of_key R k old)) (below_key R k (e ∷ es))
      at old e es k h true q =
          let is = same k e.0 q in
          let nil : List A = [] in
          let none : find R k es ≡ None = subst (λ j. find R j es ≡ None) (sym is) (absent e.0 es (first _ _ h)) in
          rw (q, none, drop_all (length (of_key R k old)) nil (omega arith))
          (append-nil _ ∙ subst (λ j. of_key R k (shown R (fresh R {C = C} j (drop (length (of_key R j old)) e.1))) ≡ drop (length (of_key R k old)) e.1) is (fresh_same C k (drop (length (of_key R k old)) e.1)))
      at old e es k h false q = rw (q, fresh_other C k e.0 (drop (length (of_key R e.0 old)) e.1) q) refl

      pub of_key-added : (old : List (K × C)) (tree : List (K × List A)) (k : K) → T (is_sorted R tree)
          → of_key R k (shown R (added R old tree)) ≡ drop (length (of_key R k old)) (below_key R k tree)
      of_key-added old [] k h = sym (drop_all (length (of_key R k old)) [] (omega arith))
      of_key-added old (e ∷ es) k h =
          let n = length (of_key R k old) in
          let f = fresh R e.0 (drop (length (of_key R e.0 old)) e.1) in
          ap (of_key R k) (shown-append f (added R old es)) ∙ of_key-append k (shown R f) (shown R (added R old es))
          ∙ ap (λ (l : List A). of_key R k (shown R f) ++ l) (of_key-added old es k (second _ _ h))
          ∙ at old e es k h (eq_by_cmp R k e.0) refl

    module _ {A : Type 0} where
      -- two trees of one list are one
      pub grouped_once : (items : List (K × A)) (t u : List (K × List A)) → IsGrouped R items t → IsGrouped R items u → t ≡ u
      grouped_once items t u a b = same_entries R total one t u a.tree_is.sorted b.tree_is.sorted (λ k. found (find R k t) (find R k u) (a.tree_is.filled k) (b.tree_is.filled k) (a.each k ∙ sym (b.each k)))

    module _ {C A : Type 0} where
      -- what was written shows the tree
      pub reads_back : (old : List (K × C)) (tree : List (K × List A)) (new : List (K × Option C × A)) → IsTree R tree → IsRewritten R old tree new → IsGrouped R (shown R new) tree
      reads_back old tree new good made = record {
        tree_is = good;
        each = λ k.
            let a = kept R tree [] old in
            let b = added R old tree in
            sym (ap (λ l. of_key R k (shown R l)) made ∙ ap (of_key R k) (shown-append a b) ∙ of_key-append k (shown R a) (shown R b)
            ∙ ap (λ (l : List A). of_key R k (shown R a) ++ l) (of_key-added old tree k good.sorted)
            ∙ of_key-kept tree k [] old);
      }

    module _ {C A : Type 0} (show : C → A) where
      two : (b : Bool) (c : C) (l : List C) (m : List A) → length l ≡ length m → length (cond b (c ∷ l) l) ≡ length (cond b (show c ∷ m) m)
      two true c l m e = omega (arith, e)
      two false c l m e = e

      -- as many items have a key as show something under it
      as_many : (k : K) (xs : List (K × C)) → length (of_key R k xs) ≡ length (of_key R k (seen R show xs))
      as_many k [] = refl
      as_many k (x ∷ xs) = two (eq_by_cmp R k x.0) x.1 (of_key R k xs) (of_key R k (seen R show xs)) (as_many k xs)

      seen-append : (xs ys : List (K × C)) → seen R show (xs ++ ys) ≡ seen R show xs ++ seen R show ys
      seen-append [] ys = refl
      seen-append (x ∷ xs) ys = ap (λ l. (x.0, show x.1) ∷ l) (seen-append xs ys)

      at_seam : (l m : List A) (a : A) → slice_get (l ++ a ∷ m) (length l) ≡ Some a
      at_seam [] m a = refl
      at_seam (b ∷ l) m a = at_seam l m a

      here : (before rest : List (K × C)) (x : K × C) → slice_get (of_key R x.0 (seen R show (before ++ x ∷ rest))) (length (of_key R x.0 before)) ≡ Some (show x.1)
      here before rest x =
          let split : of_key R x.0 (seen R show (before ++ x ∷ rest)) ≡ of_key R x.0 (seen R show before) ++ show x.1 ∷ of_key R x.0 (seen R show rest) =
          ap (of_key R x.0) (seen-append before (x ∷ rest)) ∙ of_key-append x.0 (seen R show before) (seen R show (x ∷ rest)) ∙ rw (itself x.0) refl in
          rw (split, as_many x.0 before) (at_seam (of_key R x.0 (seen R show before)) (of_key R x.0 (seen R show rest)) (show x.1))

      -- where the tree is that of the file, it has at the place of an item what this shows
      pub own_place : (tree : List (K × List A)) (before rest : List (K × C)) (x : K × C) → ((k : K) → below_key R k tree ≡ of_key R k (seen R show (before ++ x ∷ rest)))
          → slice_get (below_key R x.0 tree) (length (of_key R x.0 before)) ≡ Some (show x.1)
      own_place tree before rest x each = rw (each x.0) (here before rest x)

      all_kept : (tree : List (K × List A)) (before rest : List (K × C)) → ((k : K) → below_key R k tree ≡ of_key R k (seen R show (before ++ rest))) → kept R tree before rest ≡ unchanged R show rest
      all_kept tree before [] each = refl
      all_kept tree before (x ∷ rest) each =
          rw (own_place tree before rest x each)
          (ap (λ l. (x.0, Some x.1, show x.1) ∷ l) (all_kept tree (before ++ x ∷ []) rest (λ k. each k ∙ ap (λ b. of_key R k (seen R show b)) (sym (append_assoc before (x ∷ []) rest)))))

      -- a list in which no key has anything is empty
      nothing : (xs : List (K × Option C × A)) → ((k : K) → of_key R k (shown R xs) ≡ []) → xs ≡ []
      nothing [] h = refl
      nothing (x ∷ xs) h =
          let bad : x.2 ∷ of_key R x.0 (shown R xs) ≡ [] = rw (itself x.0) at (h x.0) in
          let no : ⊥ = cc in absurd no

      -- and no item is new
      pub none_new : (old : List (K × C)) (tree : List (K × List A)) → IsGrouped R (seen R show old) tree → added R {A = A} old tree ≡ []
      none_new old tree g =
          nothing (added R old tree)
          (λ k. of_key-added old tree k g.tree_is.sorted ∙ drop_all (length (of_key R k old)) (below_key R k tree) (let e = ap length (g.each k) in let n = as_many k old in omega arith))

      -- where the tree is that of the file, nothing is dropped or added, and the order stays
      pub unchanged_stays : (old : List (K × C)) (tree : List (K × List A)) (new : List (K × Option C × A)) → IsGrouped R (seen R show old) tree → IsRewritten R old tree new → new ≡ unchanged R show old
      unchanged_stays old tree new g made =
          made ∙ ap (λ l. l ++ added R old tree) (all_kept tree [] old g.each)
          ∙ ap (λ l. unchanged R show old ++ l) (none_new old tree g)
          ∙ append-nil (unchanged R show old)

-- the survivors, each by where it stands in the file
module _ {K C A : Type 0} (R : K → K → Ordering) (tree : List (K × List A)) where
  seam : (l m : List (K × C)) (x : K × C) → slice_get (l ++ x ∷ m) (length l) ≡ Some x
  seam [] m x = refl
  seam (y ∷ l) m x = seam l m x

  from_place : (before rest : List (K × C)) (n : ℕ) → n ≡ length before → kept R tree before rest ≡ flat_map (survivor_at R (before ++ rest) tree) (range_with_len n (length rest))
  from_place before [] n e = refl
  from_place before (x ∷ rest) n e =
      let all = before ++ x ∷ rest in
      let s = survivor R x (slice_get (below_key R x.0 tree) (length (of_key R x.0 before))) in
      let m : n + 1 ≡ length (before ++ x ∷ []) = let p = length-append before (x ∷ []) in omega (arith, p, e) in
      let here : survivor_at R all tree n ≡ s =
      ap (λ j. survivor_of R all tree j (slice_get all j)) e ∙ ap (survivor_of R all tree (length before)) (seam before rest x)
      ∙ ap (λ l. survivor R x (slice_get (below_key R x.0 tree) (length (of_key R x.0 l)))) (take-append_seam before (x ∷ rest)) in
      ap (λ l. s ++ l) (from_place (before ++ x ∷ []) rest (n + 1) m ∙ ap (λ l. flat_map (survivor_at R l tree) (range_with_len (n + 1) (length rest))) (append_assoc before (x ∷ []) rest))
      ∙ ap (λ q. q ++ flat_map (survivor_at R all tree) (range_with_len (n + 1) (length rest))) (sym here)

  pub kept_by_place : (old : List (K × C)) → kept R tree [] old ≡ flat_map (survivor_at R old tree) (range_with_len 0 (length old))
  kept_by_place old = from_place [] old 0 refl
