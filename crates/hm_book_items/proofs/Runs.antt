-- The runs of items whose keys rise are the lists of their tree.
use Rattle.std.proofs.Common.{◌≡◌, ◌≢◌, suc, Bool, true, false, ◌&&◌, cond, List, [], ◌∷◌, Some, None, refl, sym, ap, ◌∙◌, subst, arith}
use Rattle.std.specs.Prelude.{T}
use Rattle.std.specs.declared.cmp.Ordering.{Ordering}
use Rattle.std.specs.declared.cmp.Ordering.TheVariants.{Less, Equal, Greater}
use Rattle.std.specs.Ordering.{is_lt, is_eq, eq_by_cmp}
use Rattle.std.specs.Option.{unwrap_or}
use Rattle.std.specs.List.Sorted.{IsSortedBy}
use Rattle.std.specs.Str.{is_utf8}
use Rattle.std.specs.FinMap.{is_sorted, find}
use Rattle.std.proofs.lemmas.Cmp.{tied_itself}
use native.Mathlib.Numerals.{unary_clauses, add-one}
use Rattle.hm_tree.specs.Names.{Name, name_cmp}
use Rattle.hm_tree.specs.Nodes.{are_edges, are_texts, below_all, edges_from, both, first, second}
use Rattle.hm_tree.proofs.Sorted.{name_total, name_one, is_less, back_greater}
use Rattle.hm_book_items.specs.Items.{of_key, below_key, Each, IsGrouped}
use Rattle.hm_book_items.proofs.ReadBack.{absent, same}
use Rattle.hm_book_items.specs.Runs.{lists_behind, with_item, runs}
use Rattle.hm_book_items.proofs.Sorting.{is_below}

-- ---- keys that tie, and keys that don't

pub tied_when : (k j : Name) → k ≡ j → eq_by_cmp name_cmp k j ≡ true
tied_when k j e = ap (eq_by_cmp name_cmp k) (sym e) ∙ ap is_eq (tied_itself name_total k)

pub untied : (k j : Name) → k ≢ j → eq_by_cmp name_cmp k j ≡ false
untied k j other = go (eq_by_cmp name_cmp k j) refl
  where
    go : (b : Bool) → eq_by_cmp name_cmp k j ≡ b → b ≡ false
    go true e = absurd (other (same name_cmp name_total name_one k j e))
    go false e = refl

not_less : (k j : Name) → name_cmp k j ≡ Greater → is_lt (name_cmp j k) ≡ false → ⊥
not_less k j greater h = let less = back_greater j k greater in cc

module _ {X : Type 0} where
  -- the first key of lists isn't less than a key
  abbrev Leads : Name → List (Name × List X) → Type 0
  Leads k [] = Unit {0}
  Leads k (l ∷ ls) = is_lt (name_cmp l.0 k) ≡ false

  -- ---- keys rise

  above_too : (k x : Name) (ls : List (Name × List X)) → name_cmp k x ≡ Less → T (below_all x ls) → T (below_all k ls)
  above_too k x [] p h = tt
  above_too k x (l ∷ ls) p h =
      both _ _ (subst (λ r. T (is_lt r)) (sym (name_total.trans k x l.0 p (is_less _ (first _ _ h)))) tt) (above_too k x ls p (second _ _ h))

  with_item_rises : (x : Name × X) (ls : List (Name × List X)) → Leads x.0 ls → T (is_sorted name_cmp ls) → T (is_sorted name_cmp (with_item x ls))
  with_item_rises x [] leads h = tt
  with_item_rises x (l ∷ ls) leads h = go (name_cmp x.0 l.0) refl
    where
      go : (r : Ordering) → name_cmp x.0 l.0 ≡ r
          → T (below_all x.0 (cond (is_eq r) ls (l ∷ ls)) && is_sorted name_cmp (cond (is_eq r) ls (l ∷ ls)))
      go Less e = both _ _ (both _ _ (subst (λ r. T (is_lt r)) (sym e) tt) (above_too x.0 l.0 ls e (first _ _ h))) h
      go Equal e = both _ _ (subst (λ k. T (below_all k ls)) (sym (name_one x.0 l.0 e)) (first _ _ h)) (second _ _ h)
      go Greater e = absurd (not_less x.0 l.0 e leads)

  -- what holds of each list holds of those behind
  behind_each : (P : Name × List X → Type 0) (k : Name) (ls : List (Name × List X)) → Each name_cmp P ls → Each name_cmp P (lists_behind k ls)
  behind_each P k [] h = tt
  behind_each P k (l ∷ ls) h = go (eq_by_cmp name_cmp k l.0)
    where
      go : (b : Bool) → Each name_cmp P (cond b ls (l ∷ ls))
      go true = h.1
      go false = h

  -- ---- each key has the items that it had

  module _ (x : Name × X) (k : Name) where
    with_item_at : (ls : List (Name × List X)) → Leads x.0 ls → T (is_sorted name_cmp ls)
        → below_key name_cmp k (with_item x ls) ≡ cond (eq_by_cmp name_cmp k x.0) (x.1 ∷ below_key name_cmp k ls) (below_key name_cmp k ls)
    with_item_at [] leads h = go (eq_by_cmp name_cmp k x.0)
      where
        go : (b : Bool) → unwrap_or (cond b (Some (x.1 ∷ [])) None) [] ≡ cond b (x.1 ∷ []) []
        go true = refl
        go false = refl
    with_item_at (l ∷ ls) leads h = go (eq_by_cmp name_cmp k x.0) (name_cmp x.0 l.0) refl refl
      where
        go : (b : Bool) (r : Ordering) → eq_by_cmp name_cmp k x.0 ≡ b → name_cmp x.0 l.0 ≡ r
            → unwrap_or (cond b (Some (x.1 ∷ cond (is_eq r) l.1 [])) (find name_cmp k (cond (is_eq r) ls (l ∷ ls)))) []
            ≡ cond b (x.1 ∷ below_key name_cmp k (l ∷ ls)) (below_key name_cmp k (l ∷ ls))
        go true Less p e =
            let is = same name_cmp name_total name_one k x.0 p in
            let none : find name_cmp x.0 (l ∷ ls) ≡ None =
            absent name_cmp name_total name_one x.0 (l ∷ ls) (both _ _ (subst (λ r. T (is_lt r)) (sym e) tt) (above_too x.0 l.0 ls e (first _ _ h))) in
            ap (λ o. x.1 ∷ unwrap_or o []) (sym (subst (λ j. find name_cmp j (l ∷ ls) ≡ None) (sym is) none))
        go true Equal p e =
            let is = same name_cmp name_total name_one k x.0 p ∙ name_one x.0 l.0 e in
            ap (λ b. x.1 ∷ unwrap_or (cond b (Some l.1) (find name_cmp k ls)) []) (sym (tied_when k l.0 is))
        go b Greater p e = absurd (not_less x.0 l.0 e leads)
        go false Less p e = refl
        go false Equal p e =
            let other : eq_by_cmp name_cmp k l.0 ≡ false = subst (λ j. eq_by_cmp name_cmp k j ≡ false) (name_one x.0 l.0 e) p in
            ap (λ b. unwrap_or (cond b (Some l.1) (find name_cmp k ls)) []) (sym other)

  -- ---- items whose keys rise

  tail_rises : (x : Name × X) (xs : List (Name × X)) → IsSortedBy is_below (x ∷ xs) → IsSortedBy is_below xs
  tail_rises x xs h = λ k d low high. rw add-one (simp unary_clauses at (h (suc k) d (omega arith) (omega arith)))

  leads_runs : (x : Name × X) (xs : List (Name × X)) → IsSortedBy is_below (x ∷ xs) → Leads x.0 (runs xs)
  leads_runs x [] h = tt
  leads_runs x (y ∷ xs) h = h 0 x (omega arith) (omega arith)

  rise : (xs : List (Name × X)) → IsSortedBy is_below xs → T (is_sorted name_cmp (runs xs))
  rise [] h = tt
  rise (x ∷ xs) h = with_item_rises x (runs xs) (leads_runs x xs h) (rise xs (tail_rises x xs h))

  at_key : (k : Name) (xs : List (Name × X)) → IsSortedBy is_below xs → below_key name_cmp k (runs xs) ≡ of_key name_cmp k xs
  at_key k [] h = refl
  at_key k (x ∷ xs) h =
      with_item_at x k (runs xs) (leads_runs x xs h) (rise xs (tail_rises x xs h))
      ∙ ap (λ l. cond (eq_by_cmp name_cmp k x.0) (x.1 ∷ l) l) (at_key k xs (tail_rises x xs h))

  abbrev HasSome : Name × List X → Type 0
  HasSome l = l.1 ≢ []

  no_empty : (xs : List (Name × X)) → Each name_cmp HasSome (runs xs)
  no_empty [] = tt
  no_empty (x ∷ xs) = ((λ e. let no : ⊥ = cc in no), behind_each HasSome x.0 (runs xs) (no_empty xs))

  filled : (k : Name) (ls : List (Name × List X)) → Each name_cmp HasSome ls → find name_cmp k ls ≢ Some []
  filled k [] h = λ e. let no : ⊥ = cc in no
  filled k (l ∷ ls) h = go (eq_by_cmp name_cmp k l.0) (filled k ls h.1)
    where
      go : (b : Bool) → find name_cmp k ls ≢ Some [] → cond b (Some l.1) (find name_cmp k ls) ≢ Some []
      go true others e = h.0 (let none : l.1 ≡ [] = cc in none)
      go false others e = others e

  -- they are the lists of the items in any order in which those of each key stand as here
  pub grouped : (items xs : List (Name × X)) → IsSortedBy is_below xs → ((k : Name) → of_key name_cmp k xs ≡ of_key name_cmp k items)
      → IsGrouped name_cmp items (runs xs)
  grouped items xs h each = record {
    tree_is = record { sorted = rise xs h; filled = λ k. filled k (runs xs) (no_empty xs) };
    each = λ k. at_key k xs h ∙ each k;
  }

  behind_texts : (k : Name) (ls : List (Name × List X)) → T (are_texts ls) → T (are_texts (lists_behind k ls))
  behind_texts k [] h = tt
  behind_texts k (l ∷ ls) h = go (eq_by_cmp name_cmp k l.0)
    where
      go : (b : Bool) → T (are_texts (cond b ls (l ∷ ls)))
      go true = second (is_utf8 l.0) _ h
      go false = h

  texts : (xs : List (Name × X)) → T (are_texts xs) → T (are_texts (runs xs))
  texts [] h = tt
  texts (x ∷ xs) h = both _ _ (first _ _ h) (behind_texts x.0 (runs xs) (texts xs (second (is_utf8 x.0) _ h)))

  -- and may be edges, where the keys are UTF-8
  pub runs_fit : (xs : List (Name × X)) → IsSortedBy is_below xs → T (are_texts xs) → T (are_edges (runs xs))
  runs_fit xs h utf8 = edges_from (runs xs) (rise xs h) (texts xs utf8)
