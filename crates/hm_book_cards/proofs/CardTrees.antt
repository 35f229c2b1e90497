-- What stands below each name of a card, and that a card is known from it.
use Rattle.std.proofs.Common.{◌≡◌, ℕ, zero, suc, Bool, true, false, cond, T, List, [], ◌∷◌, ◌++◌, length, map, slice_get, Option, Some, None, refl, sym, ap, subst, ◌∙◌, arith}
use Rattle.std.specs.Option.{unwrap_or}
use Rattle.std.specs.Ordering.{is_lt, eq_by_cmp}
use Rattle.std.specs.declared.cmp.Ordering.{Ordering}
use Rattle.std.specs.declared.cmp.Ordering.TheVariants.{Less, Equal, Greater}
use Rattle.std.specs.List.Sorted.{IsStrictlySortedBy}
use Rattle.std.specs.FinMap.{is_sorted, find}
use Rattle.std.specs.FinSet.{FinSet, from_list}
use Rattle.std.specs.Str.{is_utf8}
use Rattle.std.specs.Bool.{◌==◌}
use Rattle.std.proofs.lemmas.Bool.{true≢false}
use Rattle.std.proofs.lemmas.Option.{same_Some, none-some}
use Rattle.std.proofs.lemmas.List.Elements.{All-nil, All-cons, All-head, All-tail}
use Rattle.hm_tree.specs.Names.{Name, name_cmp}
use Rattle.hm_tree.specs.Nodes.{Tree, node, edges, below, are_edges, below_all, edges_rise, edges_cons, edges_head, edges_below, edges_tail, both, first, second}
use Rattle.hm_tree.specs.NodeLaws.{edges-node}
use Rattle.hm_tree.specs.Sets.{ascending}
use Rattle.hm_tree.proofs.Ascending.{set_of-ascending, ascending_is}
use Rattle.hm_tree.proofs.Sorted.{found_in_order}
use Rattle.hm_schema.proofs.NamesOf.{tie_one}
use Rattle.hm_book_cards.specs.Cards.{Shown, Texts, no_texts, leaf, texts_tree, edge_of, card_edges, card_tree, texts_in, texts_at, IsSound, AreSound, AllSuit, IsCard, texts_of}
use Rattle.hm_book_cards.proofs.TextTrees.{names_texts}

-- ---- the edges of a card

below_edge : (n k : Name) (t : Tree) (ks : List Name) (es : List (Name × Tree)) → T (is_lt (name_cmp n k)) → T (below_all n es) → T (below_all n (edge_of k t ks es))
below_edge n k t [] es less h = h
below_edge n k t (x ∷ ks) es less h = both _ _ less h

below_card : (n : Name) (es : Texts) → T (below_all n es) → T (below_all n (card_edges es))
below_card n [] h = tt
below_card n (e ∷ es) h = below_edge n e.0 (texts_tree e.1) (ascending e.1) (card_edges es) (first _ _ h) (below_card n es (second _ _ h))

edge_are : (k : Name) (t : Tree) (ks : List Name) (es : List (Name × Tree)) → T (is_utf8 k) → T (below_all k es) → T (are_edges es) → T (are_edges (edge_of k t ks es))
edge_are k t [] es text less h = h
edge_are k t (x ∷ ks) es text less h = edges_cons (k, t) es text less h

pub card_are : (es : Texts) → T (are_edges es) → T (are_edges (card_edges es))
card_are [] h = tt
card_are (e ∷ es) h =
    edge_are e.0 (texts_tree e.1) (ascending e.1) (card_edges es) (edges_head e es h) (below_card e.0 es (edges_below e es h)) (card_are es (edges_tail e es h))

-- the edges of a card with a name more
pub card_more : (es : Texts) (e : Name × FinSet name_cmp) → card_edges (es ++ e ∷ []) ≡ card_edges es ++ edge_of e.0 (texts_tree e.1) (ascending e.1) []
card_more [] e = refl
card_more (d ∷ es) e = go (ascending d.1) (card_more es e)
  where
    go : (ks : List Name) → card_edges (es ++ e ∷ []) ≡ card_edges es ++ edge_of e.0 (texts_tree e.1) (ascending e.1) []
        → edge_of d.0 (texts_tree d.1) ks (card_edges (es ++ e ∷ []))
        ≡ edge_of d.0 (texts_tree d.1) ks (card_edges es) ++ edge_of e.0 (texts_tree e.1) (ascending e.1) []
    go [] rest = rest
    go (k ∷ ks) rest = ap (λ fs. (d.0, texts_tree d.1) ∷ fs) rest

-- the edge of a name by the texts that it has
module _ (k : Name) (texts : FinSet name_cmp) (ks : List Name) (rise : IsStrictlySortedBy name_cmp ks) (same : from_list {R = name_cmp} ks ≡ texts) where
  pub no_edge : (size : ℕ) → size ≡ length ks → (size == 0) ≡ true → edge_of k (texts_tree texts) (ascending texts) [] ≡ []
  no_edge size of none = ap (λ l. edge_of k (texts_tree texts) l []) (ascending_is ks texts rise same) ∙ go ks (sym of ∙ zero_from size none)
    where
      zero_from : (n : ℕ) → (n == 0) ≡ true → n ≡ 0
      zero_from zero e = refl
      zero_from (suc n) e = search (arith, e)

      go : (l : List Name) → length l ≡ 0 → edge_of k (texts_tree texts) l [] ≡ []
      go [] none = refl
      go (x ∷ xs) none = absurd (omega arith)

  pub one_edge : (size : ℕ) → size ≡ length ks → (size == 0) ≡ false → (t : Tree) → t ≡ node (map leaf ks)
      → edge_of k (texts_tree texts) (ascending texts) [] ≡ (k, t) ∷ []
  one_edge size of some t is = ap (λ l. edge_of k (texts_tree texts) l []) (ascending_is ks texts rise same) ∙ go ks of
    where
      go : (l : List Name) → size ≡ length l → edge_of k (texts_tree texts) l [] ≡ (k, t) ∷ []
      go [] none = absurd (true≢false (sym (ap (λ n. n == 0) none) ∙ some))
      go (x ∷ xs) e = ap (λ u. (k, u) ∷ []) (ap (λ l. node (map leaf l)) (ascending_is ks texts rise same) ∙ sym is)

-- ---- what stands below a name of a card

-- the tree of some texts
abbrev pub some_tree : FinSet name_cmp → List Name → Option Tree
some_tree texts [] = None
some_tree texts (k ∷ ks) = Some (texts_tree texts)

abbrev pub tree_at : Option (FinSet name_cmp) → Option Tree
tree_at None = None
tree_at (Some texts) = some_tree texts (ascending texts)

module _ {X : Type 0} where
  -- a name that is less than all isn't among them
  pub nothing_above : (k : Name) (es : List (Name × X)) → T (below_all k es) → find name_cmp k es ≡ None
  nothing_above k [] h = refl
  nothing_above k (e ∷ es) h = go (name_cmp k e.0) refl (nothing_above k es (second _ _ h))
    where
      go : (r : Ordering) → name_cmp k e.0 ≡ r → find name_cmp k es ≡ None → find name_cmp k (e ∷ es) ≡ None
      go Less is rest = rw is rest
      go Equal is rest = absurd (subst (λ r. T (is_lt r)) is (first _ _ h))
      go Greater is rest = absurd (subst (λ r. T (is_lt r)) is (first _ _ h))

-- the first edge, if the name is that of it, and else what is among the others
find_edge : (k n : Name) (texts : FinSet name_cmp) (ks : List Name) (es : List (Name × Tree)) (later : Option (FinSet name_cmp)) → ascending texts ≡ ks
    → find name_cmp k es ≡ tree_at later → (eq_by_cmp name_cmp k n ≡ true → later ≡ None)
    → find name_cmp k (edge_of n (texts_tree texts) ks es) ≡ tree_at (cond (eq_by_cmp name_cmp k n) (Some texts) later)
find_edge k n texts ks es later is rest absent = go ks is (eq_by_cmp name_cmp k n) refl
  where
    go : (ks : List Name) → ascending texts ≡ ks → (b : Bool) → eq_by_cmp name_cmp k n ≡ b
        → find name_cmp k (edge_of n (texts_tree texts) ks es) ≡ tree_at (cond (eq_by_cmp name_cmp k n) (Some texts) later)
    go [] none true same =
        rest ∙ ap tree_at (absent same) ∙ sym (ap (some_tree texts) none) ∙ sym (ap (λ b. tree_at (cond b (Some texts) later)) same)
    go [] none false other = rest ∙ sym (ap (λ b. tree_at (cond b (Some texts) later)) other)
    go (x ∷ xs) some true same =
        ap (λ b. cond b (Some (texts_tree texts)) (find name_cmp k es)) same ∙ sym (ap (some_tree texts) some)
        ∙ sym (ap (λ b. tree_at (cond b (Some texts) later)) same)
    go (x ∷ xs) some false other =
        ap (λ b. cond b (Some (texts_tree texts)) (find name_cmp k es)) other ∙ rest ∙ sym (ap (λ b. tree_at (cond b (Some texts) later)) other)

find_card : (k : Name) (es : Texts) → T (is_sorted name_cmp es) → find name_cmp k (card_edges es) ≡ tree_at (find name_cmp k es)
find_card k [] h = refl
find_card k (e ∷ es) h =
    find_edge k e.0 e.1 (ascending e.1) (card_edges es) (find name_cmp k es) refl (find_card k es (second _ _ h))
    (λ same. nothing_above k es (subst (λ n. T (below_all n es)) (sym (tie_one k e.0 same)) (first _ _ h)))

module _ (texts : Texts) (are : T (are_edges texts)) where
  pub edges_card : edges (card_tree texts) ≡ card_edges texts
  edges_card = edges-node (card_edges texts) (card_are texts are)

  pub below_name : (k : Name) → below k (card_tree texts) ≡ tree_at (find name_cmp k texts)
  below_name k = ap (find name_cmp k) edges_card ∙ find_card k texts (edges_rise texts are)

-- ---- the texts of a card

-- the texts of the tree of some texts are these
pub texts_again : (texts : FinSet name_cmp) → IsSound texts → texts_in (some_tree texts (ascending texts)) ≡ texts
texts_again texts sound = go (ascending texts) refl
  where
    go : (ks : List Name) → ascending texts ≡ ks → texts_in (some_tree texts ks) ≡ texts
    go [] none = ap (λ ks. from_list {R = name_cmp} ks) (sym none) ∙ set_of-ascending texts
    go (k ∷ ks) some = names_texts texts sound

-- what is found has what all have
pub found_sound : (k : Name) (es : Texts) → AreSound es → (texts : FinSet name_cmp) → find name_cmp k es ≡ Some texts → IsSound texts
found_sound k [] all texts is = absurd (none-some texts is)
found_sound k (e ∷ es) all texts is =
    go (eq_by_cmp name_cmp k e.0) is (found_sound k es (All-tail (λ (e : Name × FinSet name_cmp). IsSound e.1) e es all) texts)
  where
    go : (b : Bool) → cond b (Some e.1) (find name_cmp k es) ≡ Some texts → (find name_cmp k es ≡ Some texts → IsSound texts) → IsSound texts
    go true here rest = subst IsSound (same_Some e.1 texts here) (All-head (λ (e : Name × FinSet name_cmp). IsSound e.1) e es all)
    go false later rest = rest later

-- a card has the texts that it was made with
pub card_texts : (texts : Texts) → T (are_edges texts) → AreSound texts → (k : Name) → texts_at k (card_tree texts) ≡ unwrap_or (find name_cmp k texts) no_texts
card_texts texts are sound k = ap texts_in (below_name texts are k) ∙ go (find name_cmp k texts) refl
  where
    go : (o : Option (FinSet name_cmp)) → find name_cmp k texts ≡ o → texts_in (tree_at o) ≡ unwrap_or o no_texts
    go None is = refl
    go (Some set) is = texts_again set (found_sound k texts sound set is)

-- ---- a card is known from its texts

below_suit : (n : Name) (shown : Shown) (texts : Texts) → AllSuit shown texts → T (below_all n shown) → T (below_all n texts)
below_suit n [] [] h b = tt
below_suit n [] (e ∷ es) h b = absurd h
below_suit n (s ∷ ss) [] h b = absurd h
below_suit n (s ∷ ss) (e ∷ es) h b = both _ _ (subst (λ k. T (is_lt (name_cmp n k))) h.0.0 (first _ _ b)) (below_suit n ss es h.1 (second _ _ b))

-- texts that suit names may be edges where the names may
pub suit_edges : (shown : Shown) (texts : Texts) → AllSuit shown texts → T (are_edges shown) → T (are_edges texts)
suit_edges [] [] h are = tt
suit_edges [] (e ∷ es) h are = absurd h
suit_edges (s ∷ ss) [] h are = absurd h
suit_edges (s ∷ ss) (e ∷ es) h are =
    edges_cons e es (subst (λ k. T (is_utf8 k)) h.0.0 (edges_head s ss are))
    (below_suit e.0 ss es h.1 (subst (λ k. T (below_all k ss)) h.0.0 (edges_below s ss are))) (suit_edges ss es h.1 (edges_tail s ss are))

pub suit_sound : (shown : Shown) (texts : Texts) → AllSuit shown texts → AreSound texts
suit_sound [] [] h = All-nil (λ (e : Name × FinSet name_cmp). IsSound e.1)
suit_sound [] (e ∷ es) h = absurd h
suit_sound (s ∷ ss) [] h = absurd h
suit_sound (s ∷ ss) (e ∷ es) h = All-cons (λ (e : Name × FinSet name_cmp). IsSound e.1) e es h.0.1.sound (suit_sound ss es h.1)

again : (t : Tree) (shown : Shown) (texts : Texts) → AllSuit shown texts → ((i : ℕ) (e : Name × FinSet name_cmp) → slice_get texts i ≡ Some e → texts_at e.0 t ≡ e.1)
    → texts ≡ texts_of shown t
again t [] [] h each = refl
again t [] (e ∷ es) h each = absurd h
again t (s ∷ ss) [] h each = absurd h
again t (s ∷ ss) (e ∷ es) h each =
    λ i. (sym h.0.0 i, (sym (each 0 e refl) ∙ ap (λ k. texts_at k t) (sym h.0.0)) i) ∷ again t ss es h.1 (λ j f at. each (suc j) f at) i

-- a card is made again from its texts, which suit
pub card_again : (shown : Shown) (t : Tree) → T (are_edges shown) → IsCard shown t → AllSuit shown (texts_of shown t) × (t ≡ card_tree (texts_of shown t))
card_again shown t are card =
    let edges = suit_edges shown card.texts card.suit are in
    let each = λ (i : ℕ) (e : Name × FinSet name_cmp) (at : slice_get card.texts i ≡ Some e).
    ap (texts_at e.0) card.is ∙ card_texts card.texts edges (suit_sound shown card.texts card.suit) e.0
    ∙ ap (λ o. unwrap_or o no_texts) (found_in_order card.texts (edges_rise card.texts edges) i e at) in
    let same = again t shown card.texts card.suit each in
    (subst (AllSuit shown) same card.suit, card.is ∙ ap card_tree same)
