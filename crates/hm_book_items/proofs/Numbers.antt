-- A plan over numbers, read as contents.
use Rattle.std.proofs.Common.{◌≡◌, ℕ, zero, suc, ◌+◌, ◌<◌, ◌≤◌, Bool, true, false, cond, ◌&&◌, T, List, [], ◌∷◌, length, get_or, slice_get, Option, Some, None, refl, sym, ap, ◌∙◌, subst, arith, inl, inr}
use Rattle.std.specs.List.{range_with_len}
use Rattle.std.specs.Option.{unwrap_or}
use Rattle.std.specs.Ordering.{eq_by_cmp, is_lt}
use Rattle.std.specs.FinMap.{find, is_sorted}
use Rattle.std.specs.FinMap.Entries.{below_all}
use Rattle.std.proofs.lemmas.Bool.{cases_lt}
use Rattle.std.proofs.lemmas.Option.{same_Some, none-some}
use Rattle.hm_tree.specs.Names.{Name, name_cmp}
use Rattle.hm_tree.proofs.Sorted.{name_total, name_one}
use Rattle.hm_book_items.specs.Items.{Each, IsRewritten, of_key, below_key}
pub use Rattle.hm_book_items.specs.Plans.{keys_of, wanted_of}
use Rattle.hm_book_items.specs.Plans.{numbered, places, place_for}
use Rattle.hm_book_items.proofs.Plans.{in_range, past_range}
use Rattle.hm_book_items.proofs.Contents.{olds, trees, news, through, rewritten_through}

module _ {C A : Type 0} where
  module _ (f : ℕ → C) (g : Name → ℕ → A) where
    olds_read : (old : List (Name × C)) (n : ℕ) → ((i : ℕ) (x : Name × C) → i < length old → f (n + i) ≡ (get_or old i x).1) → olds name_cmp name_total name_one f g (numbered n (keys_of old)) ≡ old
    olds_read [] n h = refl
    olds_read (x ∷ xs) n h =
        let z : n ≡ n + 0 = omega arith in
        let here : f n ≡ x.1 = ap f z ∙ h 0 x (omega arith) in
        let rest = olds_read xs (n + 1) (λ i y lt. ap f (let e : (n + 1) + i ≡ n + suc i = omega arith in e) ∙ h (suc i) y (omega arith)) in
        λ i. (x.0, here i) ∷ rest i

    through_read : (k : Name) (l : List A) (n : ℕ) → ((i : ℕ) (a : A) → i < length l → g k (n + i) ≡ get_or l i a) → through name_cmp name_total name_one f g k (range_with_len n (length l)) ≡ l
    through_read k [] n h = refl
    through_read k (a ∷ l) n h =
        let z : n ≡ n + 0 = omega arith in
        let here : g k n ≡ a = ap (g k) z ∙ h 0 a (omega arith) in
        let rest = through_read k l (n + 1) (λ i y lt. ap (g k) (let e : (n + 1) + i ≡ n + suc i = omega arith in e) ∙ h (suc i) y (omega arith)) in
        λ i. here i ∷ rest i

    trees_read : (tree : List (Name × List A)) → Each name_cmp (λ e. (i : ℕ) (a : A) → i < length e.1 → g e.0 (0 + i) ≡ get_or e.1 i a) tree → trees name_cmp name_total name_one f g (places (wanted_of tree)) ≡ tree
    trees_read [] h = refl
    trees_read (e ∷ es) h = let l = through_read e.0 e.1 0 h.0 in let rest = trees_read es h.1 in λ i. (e.0, l i) ∷ rest i

    -- what f and g read at the numbers of a plan is the new file of the contents
    pub plan_read : (old : List (Name × C)) (tree : List (Name × List A)) (slots : List (Name × Option ℕ × ℕ))
        → ((i : ℕ) (x : Name × C) → i < length old → f (0 + i) ≡ (get_or old i x).1)
        → Each name_cmp (λ e. (i : ℕ) (a : A) → i < length e.1 → g e.0 (0 + i) ≡ get_or e.1 i a) tree
        → IsRewritten name_cmp (numbered 0 (keys_of old)) (places (wanted_of tree)) slots
        → IsRewritten name_cmp old tree (news name_cmp name_total name_one f g slots)
    plan_read old tree slots o t made =
        let r = rewritten_through name_cmp name_total name_one f g (numbered 0 (keys_of old)) (places (wanted_of tree)) slots made in
        rw (olds_read old 0 o, trees_read tree t) at r

-- ---- one old item after another

module _ (k : Name) where
  -- as many items have a key as numbers do
  pub counted_read : {C : Type 0} (n : ℕ) (old : List (Name × C)) → length (of_key name_cmp k (numbered n (keys_of old))) ≡ length (of_key name_cmp k old)
  counted_read n [] = refl
  counted_read n (x ∷ old) = go (eq_by_cmp name_cmp k x.0) (counted_read (n + 1) old)
    where
      go : (b : Bool) → length (of_key name_cmp k (numbered (n + 1) (keys_of old))) ≡ length (of_key name_cmp k old)
          → length (cond b (n ∷ of_key name_cmp k (numbered (n + 1) (keys_of old))) (of_key name_cmp k (numbered (n + 1) (keys_of old))))
          ≡ length (cond b (x.1 ∷ of_key name_cmp k old) (of_key name_cmp k old))
      go true e = ap suc e
      go false e = e

  -- and as many places stand under it as trees do
  below_read : {A : Type 0} (tree : List (Name × List A)) → below_key name_cmp k (places (wanted_of tree)) ≡ range_with_len 0 (length (below_key name_cmp k tree))
  below_read [] = refl
  below_read (e ∷ es) = go (eq_by_cmp name_cmp k e.0) (below_read es)
    where
      go : (b : Bool) → below_key name_cmp k (places (wanted_of es)) ≡ range_with_len 0 (length (below_key name_cmp k es))
          → unwrap_or (cond b (Some (range_with_len 0 (length e.1))) (find name_cmp k (places (wanted_of es)))) []
          ≡ range_with_len 0 (length (unwrap_or (cond b (Some e.1) (find name_cmp k es)) []))
      go true r = refl
      go false r = r

  module _ {A : Type 0} (keys : List Name) (tree : List (Name × List A)) where
    before : ℕ
    before = length (of_key name_cmp k (numbered 0 keys))

    place_is : place_for (wanted_of tree) keys k ≡ slice_get (range_with_len 0 (length (below_key name_cmp k tree))) before
    unfolding before
    place_is = ap (λ l. slice_get l (length (of_key name_cmp k (numbered 0 keys)))) (below_read tree)

    -- where there is a place for an item, it's how many before it have its key, and where there is none, the list is too short
    pub place_read : (place : ℕ) → Some place ≡ place_for (wanted_of tree) keys k → place ≡ length (of_key name_cmp k (numbered 0 keys))
    unfolding before
    place_read place e = elim (cases_lt before (length (below_key name_cmp k tree))) [
      | inl lt ↦ same_Some place (0 + before) (e ∙ place_is ∙ in_range 0 (length (below_key name_cmp k tree)) before lt) ∙ omega arith
      | inr le ↦ absurd (none-some place (sym (e ∙ place_is ∙ past_range 0 (length (below_key name_cmp k tree)) before le)))
    ]

    pub none_read : None ≡ place_for (wanted_of tree) keys k → slice_get (below_key name_cmp k tree) (length (of_key name_cmp k (numbered 0 keys))) ≡ None
    unfolding before
    none_read e = elim (cases_lt before (length (below_key name_cmp k tree))) [
      | inl lt ↦ absurd (none-some (0 + before) (e ∙ place_is ∙ in_range 0 (length (below_key name_cmp k tree)) before lt))
      | inr le ↦ gone (below_key name_cmp k tree) before le
    ]
      where
        gone : (l : List A) (n : ℕ) → length l ≤ n → slice_get l n ≡ None
        gone [] n le = refl
        gone (a ∷ l) zero le = absurd (omega (arith, le))
        gone (a ∷ l) (suc n) le = gone l n (omega (arith, le))

-- ---- keys that rise

module _ {A : Type 0} where
  below_same : (k : Name) (tree : List (Name × List A)) → below_all name_cmp k tree ≡ below_all name_cmp k (wanted_of tree)
  below_same k [] = refl
  below_same k (e ∷ tree) = ap (λ b. is_lt (name_cmp k e.0) && b) (below_same k tree)

  sorted_same : (tree : List (Name × List A)) → is_sorted name_cmp tree ≡ is_sorted name_cmp (wanted_of tree)
  sorted_same [] = refl
  sorted_same (e ∷ tree) = λ i. below_same e.0 tree i && sorted_same tree i

  pub wanted_rise : (tree : List (Name × List A)) → T (is_sorted name_cmp tree) → T (is_sorted name_cmp (wanted_of tree))
  wanted_rise tree h = subst T (sorted_same tree) h
