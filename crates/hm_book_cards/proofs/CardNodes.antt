-- Which trees stand at the node of cards.
use Rattle.std.proofs.Common.{◌≡◌, ◌≤◌, ℕ, zero, suc, Bool, true, false, cond, T, IsTrue, is_some, List, [], ◌∷◌, map, slice_get, Option, Some, None, refl, sym, ap, subst, ◌∙◌, arith, option_map}
use Rattle.std.proofs.lemmas.Bool.{true≢false, or_right}
use Rattle.std.proofs.lemmas.Option.{same_Some, none-some}
use Rattle.std.proofs.lemmas.List.Elements.{All-nil}
use Rattle.std.specs.List.Sorted.{IsStrictlySortedBy}
use Rattle.std.specs.Option.{option_or}
use Rattle.std.specs.Ordering.{eq_by_cmp}
use Rattle.std.specs.FinMap.{find}
use Rattle.std.specs.FinSet.{FinSet, contains, len, from_list}
use Rattle.hm_tree.specs.Names.{Name, name_cmp}
use Rattle.hm_tree.specs.Nodes.{Tree, below, are_edges, edges_rise}
use Rattle.hm_tree.specs.Sets.{ascending}
use Rattle.hm_tree.proofs.Ascending.{ascending_is, set_of-ascending, contains-ascending}
use Rattle.hm_schema.specs.Values.{SchemaValue, is_listed, child_of}
use Rattle.hm_schema.specs.Permitted.{Fits, IsWithin, names_of}
use Rattle.hm_schema.proofs.NamesOf.{tie_one, names_of-below}
use Rattle.hm_tree_parts.proofs.Maps.{same_children}
use Rattle.hm_facts.proofs.Options.{is_there}
use Rattle.hm_schema.specs.Standing.{Stands, Alike}
use Rattle.hm_schema.proofs.NameSets.{len_none, none_len}
use Rattle.hm_schema.proofs.Elements.{any_one, one_any}
use Rattle.hm_schema.proofs.Shapes.{all_listed, zero_count}
use Rattle.hm_schema.proofs.StandingTrees.{alike_then, members_alike, has_below, Inside}
use Rattle.hm_book_cards.specs.Cards.{Shown, Texts, no_texts, texts_tree, card_tree, texts_in, texts_at, Suits, AllSuit, IsCard, texts_of}
use Rattle.hm_book_cards.specs.Books.{id, card_shape, card_node, kinds, texts_place, book_schema}
use Rattle.hm_book_cards.proofs.TextTrees.{names_texts}
use Rattle.hm_book_cards.proofs.CardTrees.{some_tree, tree_at, below_name, suit_edges}
use Rattle.hm_book_cards.proofs.NodeShapes.{not_in_none, edge, card_lists}
use Rattle.hm_book_cards.proofs.KindPlaces.{texts_at_place, empty_at_place}
use Rattle.hm_book_cards.proofs.OpenNodes.{HasTexts, texts_alike}
use Rattle.hm_tree.proofs.Sorted.{found_in_order}

-- ---- look-ups

find_edge : (ks : List Bool) (shown : Shown) (k : Name)
    → find name_cmp k (map (edge ks) shown) ≡ option_map (λ many. id (texts_place ks many)) (find name_cmp k shown)
find_edge ks [] k = refl
find_edge ks (s ∷ shown) k = go (eq_by_cmp name_cmp k s.0) (find_edge ks shown k)
  where
    go : (b : Bool) → find name_cmp k (map (edge ks) shown) ≡ option_map (λ many. id (texts_place ks many)) (find name_cmp k shown)
        → cond b (Some (edge ks s).1) (find name_cmp k (map (edge ks) shown))
        ≡ option_map (λ many. id (texts_place ks many)) (cond b (Some s.1) (find name_cmp k shown))
    go true rest = refl
    go false rest = rest

find_texts : (t : Tree) (shown : Shown) (k : Name) → find name_cmp k (texts_of shown t) ≡ option_map (λ many. texts_at k t) (find name_cmp k shown)
find_texts t [] k = refl
find_texts t (s ∷ shown) k = go (eq_by_cmp name_cmp k s.0) refl (find_texts t shown k)
  where
    go : (b : Bool) → eq_by_cmp name_cmp k s.0 ≡ b → find name_cmp k (texts_of shown t) ≡ option_map (λ many. texts_at k t) (find name_cmp k shown)
        → cond b (Some (texts_at s.0 t)) (find name_cmp k (texts_of shown t)) ≡ option_map (λ many. texts_at k t) (cond b (Some s.1) (find name_cmp k shown))
    go true same rest = ap (λ n. Some (texts_at n t)) (sym (tie_one k s.0 same))
    go false other rest = rest

mapped_there : {A B : Type 0} (f : A → B) (o : Option A) → is_some (option_map f o) ≡ true → (a : A) × (o ≡ Some a)
mapped_there f None h = absurd (true≢false (sym h))
mapped_there f (Some a) h = (a, refl)

-- ---- no texts

bare : ascending no_texts ≡ []
unfolding IsStrictlySortedBy
bare = ascending_is [] no_texts tt refl

none_suit : (many : Bool) → Suits many no_texts
none_suit many = record {
  sound = λ k h. absurd (not_in_none k h);
  filled = λ k h. absurd (not_in_none k h);
  few = λ one. let none = none_len no_texts not_in_none in omega (arith, none);
}

-- the tree of texts, where there are some
some_texts : (texts : FinSet name_cmp) → 1 ≤ len texts → some_tree texts (ascending texts) ≡ Some (texts_tree texts)
some_texts texts some = go (ascending texts) refl
  where
    go : (ks : List Name) → ascending texts ≡ ks → some_tree texts ks ≡ Some (texts_tree texts)
    go [] none =
        let same : no_texts ≡ texts = ap (λ ks. from_list {R = name_cmp} ks) (sym none) ∙ set_of-ascending texts in
        let none = ap len (sym same) ∙ none_len no_texts not_in_none in absurd (omega (arith, some, none))
    go (k ∷ ks) is = refl

-- names of texts that suit are among those that cards may have
suit_found : (shown : Shown) (texts : Texts) → AllSuit shown texts → (k : Name) (set : FinSet name_cmp) → find name_cmp k texts ≡ Some set
    → (many : Bool) × (find name_cmp k shown ≡ Some many) × Suits many set
suit_found [] [] h k set is = absurd (none-some set is)
suit_found [] (e ∷ es) h k set is = absurd h
suit_found (s ∷ ss) [] h k set is = absurd h
suit_found (s ∷ ss) (e ∷ es) h k set is =
    go (eq_by_cmp name_cmp k e.0) is (eq_by_cmp name_cmp k s.0) (ap (eq_by_cmp name_cmp k) h.0.0) (suit_found ss es h.1 k set)
  where
    go : (b : Bool) → cond b (Some e.1) (find name_cmp k es) ≡ Some set → (c : Bool) → c ≡ b
        → (find name_cmp k es ≡ Some set → (many : Bool) × (find name_cmp k ss ≡ Some many) × Suits many set)
        → (many : Bool) × (cond c (Some s.1) (find name_cmp k ss) ≡ Some many) × Suits many set
    go true here true same rest = (s.1, refl, subst (Suits s.1) (same_Some e.1 set here) h.0.1)
    go true here false same rest = absurd (true≢false (sym same))
    go false later true same rest = absurd (true≢false same)
    go false later false same rest = rest later

-- a set has as many names as are in it
some_len : (set : FinSet name_cmp) (n : Name) (ns : List Name) → ascending set ≡ n ∷ ns → 1 ≤ len set
some_len set n ns is = go (len set) refl
  where
    go : (u : ℕ) → len set ≡ u → 1 ≤ u
    go zero none =
        let there : contains set n ≡ true = contains-ascending set 0 n (ap (λ l. slice_get l 0) is) in
        absurd (len_none set none n there)
    go (suc u) e = omega arith

module _ (shown : Shown) (are : T (are_edges shown)) where
  abbrev s : SchemaValue
  s = book_schema shown

  -- texts below a name that cards may have
  record IsAt (k : Name) (x : Tree) : Type 0 where
    many : Bool
    found : find name_cmp k shown ≡ Some many
    texts : HasTexts many x

  child_is : (k : Name) (many : Bool) → find name_cmp k shown ≡ Some many → child_of (card_node shown) k ≡ Some (id (texts_place (kinds shown) many))
  child_is k many found =
      ap (λ o. option_or o None) (find_edge (kinds shown) shown k ∙ ap (option_map (λ many. id (texts_place (kinds shown) many))) found)

  members : (k : Name) (many : Bool) → find name_cmp k shown ≡ Some many → Alike (Inside s (id (texts_place (kinds shown) many))) (HasTexts many)
  members k many found = texts_alike s (empty_at_place shown k many found) (id (texts_place (kinds shown) many)) many (texts_at_place shown k many found)

  -- ---- a tree at the node is a card

  module _ (t : Tree) (h : Stands (Inside s) (card_node shown) t) where
    fits : Fits (card_node shown) (card_shape shown) (names_of t)
    fits = one_any (λ a. Fits (card_node shown) a (names_of t)) (card_shape shown) h.permitted

    at : (k : Name) (x : Tree) → below k t ≡ Some x → IsAt k x
    at k x there =
        let listed = all_listed (card_node shown) (names_of t) (card_shape shown) refl fits k (has_below t k x there) in
        let found = mapped_there (λ many. id (texts_place (kinds shown) many)) (find name_cmp k shown)
        (sym (ap is_some (find_edge (kinds shown) shown k)) ∙ listed) in
        let b = h.children k x there in
        record {
          many = found.0;
          found = found.1;
          texts = (members k found.0 found.1).into x (subst (λ i. Inside s i x) (same_Some b.child _ (sym b.is ∙ child_is k found.0 found.1)) b.inside);
        }

    suits_at : (k : Name) (many : Bool) → find name_cmp k shown ≡ Some many → Suits many (texts_at k t)
    suits_at k many found = go (below k t) refl
      where
        go : (o : Option Tree) → below k t ≡ o → Suits many (texts_in o)
        go None none = none_suit many
        go (Some x) there =
            let a = at k x there in
            let same : a.many ≡ many = same_Some a.many many (sym a.found ∙ found) in
            let names : names_of x ≡ a.texts.texts = ap names_of a.texts.is ∙ names_texts a.texts.texts a.texts.suits.sound in
            subst (λ b. Suits b (names_of x)) same (subst (Suits a.many) (sym names) a.texts.suits)

    all_suit : (ss : Shown) → ((i : ℕ) (e : Name × Bool) → slice_get ss i ≡ Some e → Suits e.1 (texts_at e.0 t)) → AllSuit ss (texts_of ss t)
    all_suit [] each = tt
    all_suit (e ∷ ss) each = ((refl, each 0 e refl), all_suit ss (λ i f is. each (suc i) f is))

    suit : AllSuit shown (texts_of shown t)
    suit = all_suit shown (λ i e is. suits_at e.0 e.1 (found_in_order shown (edges_rise shown are) i e is))

    same_below : (k : Name) → below k t ≡ below k (card_tree (texts_of shown t))
    same_below k =
        go (below k t) refl ∙ sym (below_name (texts_of shown t) (suit_edges shown (texts_of shown t) suit are) k ∙ ap tree_at (find_texts t shown k))
      where
        nothing : (o : Option Bool) → tree_at (option_map (λ many. no_texts) o) ≡ None
        nothing None = refl
        nothing (Some many) = ap (some_tree no_texts) bare

        go : (o : Option Tree) → below k t ≡ o → o ≡ tree_at (option_map (λ many. texts_in o) (find name_cmp k shown))
        go None none = sym (nothing (find name_cmp k shown))
        go (Some x) there =
            let a = at k x there in
            let names : names_of x ≡ a.texts.texts = ap names_of a.texts.is ∙ names_texts a.texts.texts a.texts.suits.sound in
            sym (ap (λ o. tree_at (option_map (λ many. names_of x) o)) a.found ∙ ap (λ texts. some_tree texts (ascending texts)) names
            ∙ some_texts a.texts.texts a.texts.some ∙ ap Some (sym a.texts.is))

    stands_card : IsCard shown t
    stands_card = record { texts = texts_of shown t; suit = suit; is = same_children t (card_tree (texts_of shown t)) same_below }

  -- ---- a card stands at the node

  module _ (t : Tree) (card : IsCard shown t) where
    card_at : (k : Name) (x : Tree) → below k t ≡ Some x → IsAt k x
    card_at k x there = go (find name_cmp k card.texts) refl (sym (ap (below k) card.is ∙ below_name card.texts (suit_edges shown card.texts card.suit are) k) ∙ there)
      where
        made : (set : FinSet name_cmp) (many : Bool) → find name_cmp k shown ≡ Some many → Suits many set → (ks : List Name) → ascending set ≡ ks
            → some_tree set ks ≡ Some x → IsAt k x
        made set many found suits [] none is = absurd (none-some x is)
        made set many found suits (n ∷ ns) some is = record {
          many = many;
          found = found;
          texts = record { texts = set; suits = suits; some = some_len set n ns some; is = sym (same_Some (texts_tree set) x is) };
        }

        go : (o : Option (FinSet name_cmp)) → find name_cmp k card.texts ≡ o → tree_at o ≡ Some x → IsAt k x
        go None none is = absurd (none-some x is)
        go (Some set) there is =
            let f = suit_found shown card.texts card.suit k set there in
            made set f.0 f.1 f.2 (ascending set) refl is

    lists : (k : Name) → IsTrue (contains (names_of t) k) → IsTrue (is_listed (card_node shown) k)
    lists k there =
        let x = is_there (below k t) (sym (names_of-below t k) ∙ there) in
        let a = card_at k x.0 x.1 in
        ap is_some (find_edge (kinds shown) shown k ∙ ap (option_map (λ many. id (texts_place (kinds shown) many))) a.found)

    card_stands : Stands (Inside s) (card_node shown) t
    card_stands = record {
      permitted = any_one (λ a. Fits (card_node shown) a (names_of t)) (card_shape shown) (record {
        listed = record {
          required = λ k r. absurd (not_in_none k r);
          allowed = λ k there l. or_right (contains no_texts k) _ (card_lists shown k ∙ l);
        };
        others = λ k there off. absurd (true≢false (sym (lists k there) ∙ off));
        number = subst (IsWithin (card_shape shown)) (sym (zero_count (card_node shown) (names_of t) lists)) (record { least = omega arith; most = omega arith });
      });
      twins = All-nil _;
      children = λ k x there.
          let a = card_at k x there in
          record { child = id (texts_place (kinds shown) a.many); is = child_is k a.many a.found; inside = (members k a.many a.found).from x a.texts };
    }

  -- the members at the node of cards are the cards
  pub cards_alike : Alike (Inside s (id 2)) (IsCard shown)
  cards_alike = alike_then (members_alike s (id 2) (card_node shown) refl) (record { into = stands_card; from = card_stands })
