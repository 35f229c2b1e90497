-- What stays of the records that are written for a tree.
use Rattle.std.proofs.Common.{◌≡◌, suc, Bool, true, false, cond, inl, inr, List, [], ◌∷◌, ◌++◌, length, slice_get, map, Option, Some, None, refl, sym, ap, ◌∙◌, subst, arith}
use Rattle.std.specs.Ordering.{eq_by_cmp}
use Rattle.std.proofs.lemmas.Option.{none-some, slice_get_cases, slice_get_within}
use Rattle.std.proofs.lemmas.List.{map-append}
use Rattle.hm_tree.specs.Names.{Name, name_cmp}
use Rattle.hm_tree.specs.Nodes.{Tree, edges}
use Rattle.hm_tree.proofs.Sorted.{name_total, name_one}
use Rattle.hm_schema.specs.Values.{OptionsValue}
use Rattle.hm_book_items.specs.Items.{Each, IsTree, IsRewritten, of_key, below_key, survivor, kept, added}
use Rattle.hm_book_items.specs.ItemTrees.{AreLists}
use Rattle.hm_book_items.proofs.Fitting.{AllFit, Fits, all_fit}
use Rattle.hm_book_items.proofs.Laws.{lists_once}
use Rattle.hm_csv_records.specs.Rows.{Fields}
use Rattle.hm_csv_columns.specs.Records.{AreColumns, card_of}
use Rattle.hm_csv_columns.proofs.KeptFields.{row_kept}
use Rattle.hm_csv.specs.Tables.{key_place, columns_of, key_of, items_of}
use Rattle.hm_csv.specs.Kept.{AreKept, behind, survives, goes}
use Rattle.hm_csv.specs.Writing.{keyed, Slots, row_for}
use Rattle.hm_csv.proofs.RowLaws.{FitsTree, FitsFile, AreRows, standing, new_tree, writing, card_by}

module _ (o : OptionsValue) (header : Fields) (are : AreColumns (columns_of o header) (key_place o header) (length header)) where
  -- as many records have a key as items
  count_is : (k : Name) (rows : List Fields) → length (of_key name_cmp k (keyed o header rows)) ≡ length (of_key name_cmp k (items_of o header rows))
  count_is k [] = refl
  count_is k (row ∷ rows) = go (eq_by_cmp name_cmp k (key_of o header row)) (count_is k rows)
    where
      go : (b : Bool) → length (of_key name_cmp k (keyed o header rows)) ≡ length (of_key name_cmp k (items_of o header rows))
          → length (cond b (row ∷ of_key name_cmp k (keyed o header rows)) (of_key name_cmp k (keyed o header rows)))
          ≡ length (cond b (card_of (columns_of o header) row ∷ of_key name_cmp k (items_of o header rows)) (of_key name_cmp k (items_of o header rows)))
      go true rest = ap suc rest
      go false rest = rest

  module _ (lists : List (Name × List Tree)) (now : List Fields) (count : (k : Name) → length (below_key name_cmp k lists) ≡ length (of_key name_cmp k (keyed o header now))) where
    abbrev AllFitting : Slots → Type 0
    AllFitting slots = Each name_cmp (Fits name_cmp name_total name_one (FitsTree o header are) (FitsFile o header are)) slots

    abbrev slots_behind : List Fields → List Fields → Slots
    slots_behind before rows = kept name_cmp lists (keyed o header before) (keyed o header rows)

    one_more : (before rows : List Fields) (row : Fields) → kept name_cmp lists (keyed o header before ++ (key_of o header row, row) ∷ []) (keyed o header rows) ≡ slots_behind (before ++ row ∷ []) rows
    one_more before rows row = ap (λ b. kept name_cmp lists b (keyed o header rows)) (sym (map-append (λ (r : Fields). (key_of o header r, r)) before (row ∷ [])))

    -- where the slots of the survivors and of others fit
    kept_from : (before rows : List Fields) (more : Slots) → AllFitting (slots_behind before rows ++ more)
        → AreKept o header now before rows (map (row_for o header) (slots_behind before rows ++ more))
    kept_from before [] more fits = behind (map (row_for o header) more)
    kept_from before (row ∷ rows) more fits =
        subst (λ (slots : Slots). AllFitting ((survivor name_cmp (key_of o header row, row) (slice_get (below_key name_cmp (key_of o header row) lists) (length (of_key name_cmp (key_of o header row) (keyed o header before)))) ++ slots) ++ more) → AreKept o header now before (row ∷ rows) (map (row_for o header) ((survivor name_cmp (key_of o header row, row) (slice_get (below_key name_cmp (key_of o header row) lists) (length (of_key name_cmp (key_of o header row) (keyed o header before)))) ++ slots) ++ more)))
        (sym (one_more before rows row))
        (go (slice_get (below_key name_cmp (key_of o header row) lists) (length (of_key name_cmp (key_of o header row) (keyed o header before)))) refl (kept_from (before ++ row ∷ []) rows more)) fits
      where
        go : (found : Option Tree) → slice_get (below_key name_cmp (key_of o header row) lists) (length (of_key name_cmp (key_of o header row) (keyed o header before))) ≡ found
            → (AllFitting (slots_behind (before ++ row ∷ []) rows ++ more) → AreKept o header now (before ++ row ∷ []) rows (map (row_for o header) (slots_behind (before ++ row ∷ []) rows ++ more)))
            → AllFitting ((survivor name_cmp (key_of o header row, row) found ++ slots_behind (before ++ row ∷ []) rows) ++ more)
            → AreKept o header now before (row ∷ rows) (map (row_for o header) ((survivor name_cmp (key_of o header row, row) found ++ slots_behind (before ++ row ∷ []) rows) ++ more))
        go None e rest h =
            elim (slice_get_cases (below_key name_cmp (key_of o header row) lists) (length (of_key name_cmp (key_of o header row) (keyed o header before)))).1 [
              | inl there ↦ absurd (none-some there.0 (sym e ∙ there.2))
              | inr past ↦ (let long = past.0 in let same = count (key_of o header row) in goes (omega (arith, long, same)) (rest h))
            ]
        go (Some card) e rest h =
            let there = slice_get_within (below_key name_cmp (key_of o header row) lists) (length (of_key name_cmp (key_of o header row) (keyed o header before))) card e in
            let same = count (key_of o header row) in
            survives (omega (arith, there, same)) ((writing o header are).sound (key_of o header row) (Some row) card h.0.0 h.0.1).key_is
            (row_kept (columns_of o header) card row (key_place o header) (length header) are (card_by o header are card h.0.0.card_is)) (rest h.1)

  -- records that are written for a tree
  pub rows_kept : (others : List Fields) (old : AreRows o header are others) (t : Tree) (lists : List (Name × List Tree)) → AreLists (edges t) lists → IsTree name_cmp lists
      → AllFit name_cmp name_total name_one (FitsTree o header are) (FitsFile o header are) lists → (slots : Slots) → IsRewritten name_cmp (keyed o header others) lists slots
      → AreKept o header (map (row_for o header) slots) [] others (map (row_for o header) slots)
  rows_kept others old t lists below tree_is fits slots made =
      subst (λ (ss : Slots). AreKept o header (map (row_for o header) slots) [] others (map (row_for o header) ss)) (sym made)
      (kept_from lists (map (row_for o header) slots) count [] others (added name_cmp (keyed o header others) lists)
      (all_fit name_cmp name_total name_one (FitsTree o header are) (FitsFile o header are) (keyed o header others) lists (kept name_cmp lists [] (keyed o header others) ++ added name_cmp (keyed o header others) lists)
      fits (standing o header are others old) refl))
    where
      count : (k : Name) → length (below_key name_cmp k lists) ≡ length (of_key name_cmp k (keyed o header (map (row_for o header) slots)))
      count k =
          let tree = new_tree o header are others old t lists below tree_is fits slots made in
          ap (λ (ls : List (Name × List Tree)). length (below_key name_cmp k ls)) (sym (lists_once (edges t) tree.lists lists tree.below below))
          ∙ ap length (tree.grouped.each k) ∙ sym (count_is k (map (row_for o header) slots))
