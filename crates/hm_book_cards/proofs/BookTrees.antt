-- Books by their edges: below each key stands a list of cards. The same of any items.
use Rattle.std.proofs.Common.{◌≡◌, ◌≢◌, ◌<◌, ℕ, Bool, true, false, cond, T, All, List, [], ◌∷◌, length, get_or, Some, refl, sym, ap, subst, ◌∙◌}
use Rattle.std.proofs.lemmas.Option.{slice_get-get_or}
use Rattle.std.proofs.lemmas.List.Elements.{All-nil, All-cons, All-head, All-tail}
use Rattle.std.specs.Option.{unwrap_or}
use Rattle.std.specs.Ordering.{is_lt, eq_by_cmp}
use Rattle.std.specs.FinMap.{is_sorted, find}
use Rattle.hm_tree.specs.Classes.{IsFilled}
use Rattle.hm_tree.specs.Names.{Name, name_cmp}
use Rattle.hm_tree.specs.Nodes.{Tree, edges, below_all, both, first, second}
use Rattle.hm_tree.specs.NodeLaws.{edges_sorted}
use Rattle.hm_schema.proofs.NamesOf.{tie_one, found_value}
use Rattle.hm_book_items.specs.Items.{of_key, IsTree}
use Rattle.hm_book_items.specs.ItemTrees.{AreLists, IsItemTree, Lists}
use Rattle.hm_book_cards.specs.Cards.{Shown, IsCard}
use Rattle.hm_book_cards.specs.Books.{IsBook}
use Rattle.hm_book_cards.proofs.CardLists.{Items}
use Rattle.hm_tree.proofs.Sorted.{found_in_order}

-- ---- lists in the order of their keys

below_lists : (n : Name) (es : List (Name × Tree)) (ls : Lists) → AreLists es ls → T (below_all n es) → T (below_all n ls)
below_lists n [] [] h b = tt
below_lists n [] (l ∷ ls) h b = absurd h
below_lists n (e ∷ es) [] h b = absurd h
below_lists n (e ∷ es) (l ∷ ls) h b = both _ _ (subst (λ k. T (is_lt (name_cmp n k))) h.0.0 (first _ _ b)) (below_lists n es ls h.1 (second _ _ b))

lists_rise : (es : List (Name × Tree)) (ls : Lists) → AreLists es ls → T (is_sorted name_cmp es) → T (is_sorted name_cmp ls)
lists_rise [] [] h r = tt
lists_rise [] (l ∷ ls) h r = absurd h
lists_rise (e ∷ es) [] h r = absurd h
lists_rise (e ∷ es) (l ∷ ls) h r =
    both _ _ (below_lists l.0 es ls h.1 (subst (λ k. T (below_all k es)) h.0.0 (first _ _ r))) (lists_rise es ls h.1 (second _ _ r))

module _ (ls : Lists) (tree_is : IsTree name_cmp ls) (i : ℕ) (d : Name × List Tree) (lt : i < length ls) where
  -- what is at a place is found, and isn't empty
  pub list_found : find name_cmp (get_or ls i d).0 ls ≡ Some (get_or ls i d).1
  list_found = found_in_order ls tree_is.sorted i (get_or ls i d) (slice_get-get_or ls i d lt)

  pub list_filled : (get_or ls i d).1 ≢ []
  list_filled none = tree_is.filled (get_or ls i d).0 (list_found ∙ ap Some none)

-- ---- edges to lists of items, by what their keys are and what the items are

module _ (P : Name → Type 0) (C : Tree → Type 0) where
  -- an edge to a list with an item at least
  abbrev pub IsEntry : Name × Tree → Type 0
  IsEntry e = P e.0 × Items C e.1

  abbrev AreKeys : Lists → Type 0
  AreKeys ls = All (λ (l : Name × List Tree). P l.0) ls

  abbrev AreItems : Lists → Type 0
  AreItems ls = All (λ (l : Name × List Tree). All C l.1) ls

  abbrev AreSome : Lists → Type 0
  AreSome ls = All (λ (l : Name × List Tree). l.1 ≢ []) ls

  pub record ListsBelow (es : List (Name × Tree)) : Type 0 where
    pub lists : Lists
    pub below : AreLists es lists
    pub keys : AreKeys lists
    pub items : AreItems lists
    pub some : AreSome lists

  lists_of : (es : List (Name × Tree)) → All IsEntry es → ListsBelow es
  lists_of [] all = record {
    lists = [];
    below = tt;
    keys = All-nil (λ (l : Name × List Tree). P l.0);
    items = All-nil (λ (l : Name × List Tree). All C l.1);
    some = All-nil (λ (l : Name × List Tree). l.1 ≢ []);
  }
  lists_of (e ∷ es) all =
      let here : IsEntry e = All-head IsEntry e es all in
      let rest = lists_of es (All-tail IsEntry e es all) in
      let l : Name × List Tree = (e.0, here.1.items) in
      record {
        lists = l ∷ rest.lists;
        below = ((refl, here.1.has), rest.below);
        keys = All-cons (λ (l : Name × List Tree). P l.0) l rest.lists here.0 rest.keys;
        items = All-cons (λ (l : Name × List Tree). All C l.1) l rest.lists here.1.all rest.items;
        some = All-cons (λ (l : Name × List Tree). l.1 ≢ []) l rest.lists here.1.some rest.some;
      }

  -- the lists of a tree
  pub lists_below : (t : Tree) → All IsEntry (edges t) → (b : ListsBelow (edges t)) × IsTree name_cmp b.lists
  lists_below t all =
      let b = lists_of (edges t) all in (
        b,
        record {
          sorted = lists_rise (edges t) b.lists b.below (edges_sorted t);
          filled = λ k e. found_value (λ k l. l ≢ []) b.lists b.some k [] e refl;
        },
      )

  entries_of : (es : List (Name × Tree)) (ls : Lists) → AreLists es ls → AreKeys ls → AreItems ls → AreSome ls → All IsEntry es
  entries_of [] [] h keys items some = All-nil IsEntry
  entries_of [] (l ∷ ls) h keys items some = absurd h
  entries_of (e ∷ es) [] h keys items some = absurd h
  entries_of (e ∷ es) (l ∷ ls) h keys items some = All-cons IsEntry e es (
    subst P (sym h.0.0) (All-head (λ (l : Name × List Tree). P l.0) l ls keys),
    record {
      items = l.1;
      has = h.0.1;
      some = All-head (λ (l : Name × List Tree). l.1 ≢ []) l ls some;
      all = All-head (λ (l : Name × List Tree). All C l.1) l ls items;
    },
  ) (entries_of es ls h.1 (All-tail (λ (l : Name × List Tree). P l.0) l ls keys)
      (All-tail (λ (l : Name × List Tree). All C l.1) l ls items) (All-tail (λ (l : Name × List Tree). l.1 ≢ []) l ls some))

  -- and back
  pub entries : (t : Tree) (ls : Lists) → AreLists (edges t) ls → IsTree name_cmp ls → AreKeys ls → AreItems ls → All IsEntry (edges t)
  entries t ls below tree keys items = entries_of (edges t) ls below keys items (list_filled ls tree)

  -- a key that some item has is as all keys of items are
  key_of_some : (k : Name) (items : List (Name × Tree)) → All (λ (x : Name × Tree). P x.0) items → of_key name_cmp k items ≢ [] → P k
  key_of_some k [] all some = absurd (some refl)
  key_of_some k (x ∷ xs) all some =
      go (eq_by_cmp name_cmp k x.0) refl some (All-head (λ (x : Name × Tree). P x.0) x xs all)
      (key_of_some k xs (All-tail (λ (x : Name × Tree). P x.0) x xs all))
    where
      go : (b : Bool) → eq_by_cmp name_cmp k x.0 ≡ b → cond b (x.1 ∷ of_key name_cmp k xs) (of_key name_cmp k xs) ≢ [] → P x.0
          → (of_key name_cmp k xs ≢ [] → P k) → P k
      go true same some here rest = subst P (sym (tie_one k x.0 same)) here
      go false other some here rest = rest some

  -- what holds of all items holds of those with a key
  all_of_key : (k : Name) (items : List (Name × Tree)) → All (λ (x : Name × Tree). C x.1) items → All C (of_key name_cmp k items)
  all_of_key k [] all = All-nil C
  all_of_key k (x ∷ xs) all =
      go (eq_by_cmp name_cmp k x.0) (All-head (λ (x : Name × Tree). C x.1) x xs all) (all_of_key k xs (All-tail (λ (x : Name × Tree). C x.1) x xs all))
    where
      go : (b : Bool) → C x.1 → All C (of_key name_cmp k xs) → All C (cond b (x.1 ∷ of_key name_cmp k xs) (of_key name_cmp k xs))
      go true here rest = All-cons C x.1 (of_key name_cmp k xs) here rest
      go false here rest = rest

  -- the tree of items
  pub items_entries : (items : List (Name × Tree)) (t : Tree) → IsItemTree items t → All (λ (x : Name × Tree). P x.0) items
      → All (λ (x : Name × Tree). C x.1) items → All IsEntry (edges t)
  items_entries items t is keys all = entries t is.lists is.below is.grouped.tree_is
      (λ i d lt. key_of_some (get_or is.lists i d).0 items keys (λ none. list_filled is.lists is.grouped.tree_is i d lt (sym (items_at i d lt) ∙ none)))
      (λ i d lt. subst (All C) (items_at i d lt) (all_of_key (get_or is.lists i d).0 items all))
    where
      items_at : (i : ℕ) (d : Name × List Tree) → i < length is.lists → of_key name_cmp (get_or is.lists i d).0 items ≡ (get_or is.lists i d).1
      items_at i d lt = sym (is.grouped.each (get_or is.lists i d).0) ∙ ap (λ o. unwrap_or o []) (list_found is.lists is.grouped.tree_is i d lt)

-- ---- books

module _ (shown : Shown) where
  -- an edge of a book
  abbrev pub IsBookEntry : Name × Tree → Type 0
  IsBookEntry e = IsEntry IsFilled (IsCard shown) e

  pub book_from : (t : Tree) → All IsBookEntry (edges t) → IsBook shown t
  book_from t all =
      let b = lists_below IsFilled (IsCard shown) t all in
      record { lists = b.0.lists; tree_is = b.1; below = b.0.below; keys = b.0.keys; cards = b.0.items }

  pub book_into : (t : Tree) → IsBook shown t → All IsBookEntry (edges t)
  book_into t b = entries IsFilled (IsCard shown) t b.lists b.below b.tree_is b.keys b.cards

-- the tree of cards is a book
pub items_book : (shown : Shown) (items : List (Name × Tree)) (t : Tree) → IsItemTree items t → All (λ (x : Name × Tree). IsFilled x.0) items
    → All (λ (x : Name × Tree). IsCard shown x.1) items → IsBook shown t
items_book shown items t is keys cards = book_from shown t (items_entries IsFilled (IsCard shown) items t is keys cards)
