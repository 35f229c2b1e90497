-- Where the nodes of the schema of books stand.
use Rattle.std.proofs.Common.{◌≡◌, ◌+◌, Bool, true, false, cond, not, ◌||◌, List, [], ◌∷◌, ◌++◌, length, slice_get, Some, None, refl, sym, ◌∙◌}
use Rattle.std.proofs.lemmas.Bool.{true≢false}
use Rattle.std.proofs.lemmas.Option.{same_Some, none-some}
use Rattle.std.specs.List.{list_any}
use Rattle.std.specs.Ordering.{eq_by_cmp}
use Rattle.std.specs.FinMap.{find}
use Rattle.hm_tree.specs.Names.{Name, name_cmp}
use Rattle.hm_schema.specs.Values.{NodeValue, node_at}
use Rattle.hm_schema_lists.specs.ListNodes.{empty_shape, item_shape}
use Rattle.hm_book_cards.specs.Cards.{Shown}
use Rattle.hm_book_cards.specs.Books.{id, open_node, list_node, texts_node, empty_node, differs, kinds, texts_nodes, texts_place, card_node, more_place, book_schema}
use Rattle.hm_tree.specs.declared.class.Class.TheVariants.{Filled}

-- ---- names of one kind

one_kind : (f b : Bool) → cond f (not b) b ≡ false → b ≡ f
one_kind true true h = refl
one_kind true false h = absurd (true≢false h)
one_kind false true h = absurd (true≢false h)
one_kind false false h = refl

not_first : (a b : Bool) → (a || b) ≡ false → (a ≡ false) × (b ≡ false)
not_first true b h = absurd (true≢false h)
not_first false b h = (refl, h)

alike : (f : Bool) (shown : Shown) → list_any (differs f) shown ≡ false → (k : Name) (many : Bool) → find name_cmp k shown ≡ Some many → many ≡ f
alike f [] none k many is = absurd (none-some many is)
alike f (s ∷ shown) none k many is =
    let parts = not_first (differs f s) (list_any (differs f) shown) none in
    go (eq_by_cmp name_cmp k s.0) is (one_kind f s.1 parts.0) (alike f shown parts.1 k many)
  where
    go : (b : Bool) → cond b (Some s.1) (find name_cmp k shown) ≡ Some many → s.1 ≡ f → (find name_cmp k shown ≡ Some many → many ≡ f) → many ≡ f
    go true here same rest = sym (same_Some s.1 many here) ∙ same
    go false later same rest = rest later

alike_first : (s : Name × Bool) (shown : Shown) → list_any (differs s.1) shown ≡ false → (k : Name) (many : Bool) → find name_cmp k (s ∷ shown) ≡ Some many
    → many ≡ s.1
alike_first s shown none k many is = go (eq_by_cmp name_cmp k s.0) is
  where
    go : (b : Bool) → cond b (Some s.1) (find name_cmp k shown) ≡ Some many → many ≡ s.1
    go true here = sym (same_Some s.1 many here)
    go false later = alike s.1 shown none k many later

-- ---- the nodes at the places

module _ (books cards card more : NodeValue) where
  abbrev nodes : List Bool → List NodeValue
  nodes ks = books ∷ cards ∷ card ∷ (texts_nodes ks ++ more ∷ [])

  texts_there : (f b many : Bool) → (b ≡ false → many ≡ f)
      → slice_get (nodes (f ∷ cond b (not f ∷ []) [])) (texts_place (f ∷ cond b (not f ∷ []) []) many) ≡ Some (texts_node many)
  texts_there true true true h = refl
  texts_there true true false h = refl
  texts_there false true true h = refl
  texts_there false true false h = refl
  texts_there true false true h = refl
  texts_there true false false h = absurd (true≢false (sym (h refl)))
  texts_there false false true h = absurd (true≢false (h refl))
  texts_there false false false h = refl

  more_there : (f b : Bool) → slice_get (nodes (f ∷ cond b (not f ∷ []) [])) (3 + length (texts_nodes (f ∷ cond b (not f ∷ []) []))) ≡ Some more
  more_there f true = refl
  more_there f false = refl

-- the node of the texts of a name
pub texts_at_place : (shown : Shown) (k : Name) (many : Bool) → find name_cmp k shown ≡ Some many
    → node_at (book_schema shown) (id (texts_place (kinds shown) many)) ≡ Some (texts_node many)
texts_at_place [] k many is = absurd (none-some many is)
texts_at_place (s ∷ shown) k many is =
    texts_there (open_node Filled 0 None 1) (list_node (item_shape ∷ []) 2 (more_place (s ∷ shown))) (card_node (s ∷ shown))
    (list_node (empty_shape ∷ item_shape ∷ []) 2 (more_place (s ∷ shown))) s.1 (list_any (differs s.1) shown) many
    (λ none. alike_first s shown none k many is)

-- the node of what stands below texts
pub empty_at_place : (shown : Shown) (k : Name) (many : Bool) → find name_cmp k shown ≡ Some many → node_at (book_schema shown) (id 4) ≡ Some empty_node
empty_at_place [] k many is = absurd (none-some many is)
empty_at_place (s ∷ shown) k many is = refl

-- the node of what follows in a list
pub more_at_place : (shown : Shown)
    → node_at (book_schema shown) (id (more_place shown)) ≡ Some (list_node (empty_shape ∷ item_shape ∷ []) 2 (more_place shown))
more_at_place [] = refl
more_at_place (s ∷ shown) =
    more_there (open_node Filled 0 None 1) (list_node (item_shape ∷ []) 2 (more_place (s ∷ shown))) (card_node (s ∷ shown))
    (list_node (empty_shape ∷ item_shape ∷ []) 2 (more_place (s ∷ shown))) s.1 (list_any (differs s.1) shown)
