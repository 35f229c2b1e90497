-- What stays of the pieces that are rewritten for a tree.
use Rattle.std.proofs.Common.{◌≡◌, suc, Bool, true, false, cond, inl, inr, List, [], ◌∷◌, ◌++◌, length, slice_get, map, Option, Some, None, refl, sym, ap, ◌∙◌, subst, arith}
use Rattle.std.specs.Prelude.{All, IfSome}
use Rattle.std.specs.Ordering.{eq_by_cmp}
use Rattle.std.proofs.lemmas.Option.{none-some, slice_get_cases, slice_get_within}
use Rattle.std.proofs.lemmas.List.Elements.{All-head, All-tail}
use Rattle.hm_tree.specs.Names.{Name, name_cmp}
use Rattle.hm_tree.specs.Classes.{IsFilled}
use Rattle.hm_tree.specs.Nodes.{Tree, edges}
use Rattle.hm_tree.proofs.Sorted.{name_total, name_one}
use Rattle.hm_book_items.specs.Items.{Each, of_key, below_key, survivor}
use Rattle.hm_book_items.specs.ItemTrees.{AreLists, Lists}
use Rattle.hm_book_items.proofs.Fitting.{all_fit}
use Rattle.hm_book_items.proofs.Laws.{lists_once}
use Rattle.hm_book_cards.specs.Cards.{Shown, IsCard}
use Rattle.hm_book_cards.specs.Books.{IsBook}
use Rattle.hm_lines_cards.specs.Lines.{card_of}
use Rattle.hm_lines_cards.proofs.Laws.{lines_kept}
use Rattle.hm_lines_files.specs.Components.{Component, Piece, other, item, components_of, key_of, first_name, items_of}
use Rattle.hm_lines_files.specs.Rewriting.{Template, showing, component_for, keyed, items_for, remaining, rewritten_pieces}
use Rattle.hm_lines_files.specs.Kept.{IsKept, ArePieces, behind, stays, survives, goes}
use Rattle.hm_lines_files.proofs.OneComponent.{IsKind, showing_texts}
use Rattle.hm_lines_files.proofs.Renewed.{slots_behind, new_slots, slots_for, one_more, items_are, each-front, all_fitting}
use Rattle.hm_lines_files.proofs.TreeLaws.{AreSound, tree_again, book_keys, book_cards}

module _ (template : Template) (shown : Shown) (Fits : Component → Type 0) (is : IsKind template shown Fits) where
  -- as many components have a key as items
  count_is : (k : Name) (cs : List Component) → length (of_key name_cmp k (keyed template.key cs)) ≡ length (of_key name_cmp k (items_of template.key shown cs))
  count_is k [] = refl
  count_is k (c ∷ cs) = go (eq_by_cmp name_cmp k (key_of template.key c)) (count_is k cs)
    where
      go : (b : Bool) → length (of_key name_cmp k (keyed template.key cs)) ≡ length (of_key name_cmp k (items_of template.key shown cs))
          → length (cond b (c ∷ of_key name_cmp k (keyed template.key cs)) (of_key name_cmp k (keyed template.key cs)))
          ≡ length (cond b (card_of shown c.lines ∷ of_key name_cmp k (items_of template.key shown cs)) (of_key name_cmp k (items_of template.key shown cs)))
      go true rest = ap suc rest
      go false rest = rest

  component_kept : (c : Component) (card : Tree) → Fits c → IsCard shown card → IsKept template.key shown c (showing shown card c)
  component_kept c card fits is_card = record {
    key_is = ap first_name (showing_texts template shown Fits is card c fits);
    lines = lines_kept shown is.properties card is_card c.lines (is.lines c fits) (is.few c fits);
    end = refl;
  }

  module _ (lists : Lists) (now : List Component) (count : (k : Name) → length (below_key name_cmp k lists) ≡ length (of_key name_cmp k (keyed template.key now))) where
    abbrev P : Name → Tree → Type 0
    P k card = IsFilled k × IsCard shown card

    abbrev Q : Name → Component → Type 0
    Q k c = Fits c

    abbrev FitsSlot : Name × Option Component × Tree → Type 0
    FitsSlot s = P s.0 s.2 × IfSome s.1 (Q s.0)

    kept_from : (before : List Component) (ps : List Piece) (news : List Component) → Each name_cmp FitsSlot (slots_behind template shown lists before (components_of ps))
        → ArePieces template.key shown now before ps (remaining template shown lists before ps ++ map item news)
    kept_from before [] news fits = behind news
    kept_from before (other line ∷ ps) news fits = stays (kept_from before ps news fits)
    kept_from before (item c ∷ ps) news fits =
        go (slice_get (below_key name_cmp (key_of template.key c) lists) (length (of_key name_cmp (key_of template.key c) (keyed template.key before)))) refl
        (subst (Each name_cmp FitsSlot) (one_more template shown lists before (components_of ps) c) fits) (kept_from (before ++ c ∷ []) ps news)
      where
        go : (o : Option Tree) → slice_get (below_key name_cmp (key_of template.key c) lists) (length (of_key name_cmp (key_of template.key c) (keyed template.key before))) ≡ o
            → Each name_cmp FitsSlot (survivor name_cmp (key_of template.key c, c) o ++ slots_behind template shown lists (before ++ c ∷ []) (components_of ps))
            → (Each name_cmp FitsSlot (slots_behind template shown lists (before ++ c ∷ []) (components_of ps)) → ArePieces template.key shown now (before ++ c ∷ []) ps (remaining template shown lists (before ++ c ∷ []) ps ++ map item news))
            → ArePieces template.key shown now before (item c ∷ ps) ((items_for template shown (survivor name_cmp (key_of template.key c, c) o) ++ remaining template shown lists (before ++ c ∷ []) ps) ++ map item news)
        go None e h rest =
            elim (slice_get_cases (below_key name_cmp (key_of template.key c) lists) (length (of_key name_cmp (key_of template.key c) (keyed template.key before)))).1 [
              | inl there ↦ absurd (none-some there.0 (sym e ∙ there.2))
              | inr past ↦ (let long = past.0 in let same = count (key_of template.key c) in goes (omega (arith, long, same)) (rest h))
            ]
        go (Some card) e h rest =
            let there = slice_get_within (below_key name_cmp (key_of template.key c) lists) (length (of_key name_cmp (key_of template.key c) (keyed template.key before))) card e in
            let same = count (key_of template.key c) in
            survives (omega (arith, there, same)) (component_kept c card h.0.1 h.0.0.1) (rest h.1)

  pub pieces_kept : (ps : List Piece) → AreSound template shown Fits is (components_of ps) → (t : Tree) (lists : Lists) → AreLists (edges t) lists → IsBook shown t
      → ArePieces template.key shown (components_of (rewritten_pieces template shown lists ps)) [] ps (rewritten_pieces template shown lists ps)
  pieces_kept ps old t lists below book =
      subst (λ qs. ArePieces template.key shown (components_of (rewritten_pieces template shown lists ps)) [] ps (remaining template shown lists [] ps ++ qs)) (sym (items_are template shown (new_slots template shown lists (components_of ps))))
      (kept_from lists (components_of (rewritten_pieces template shown lists ps)) count [] ps (map (component_for template shown) (new_slots template shown lists (components_of ps)))
      (each-front (FitsSlot lists (components_of (rewritten_pieces template shown lists ps)) count) (slots_behind template shown lists [] (components_of ps)) (new_slots template shown lists (components_of ps)) all))
    where
      count : (k : Name) → length (below_key name_cmp k lists) ≡ length (of_key name_cmp k (keyed template.key (components_of (rewritten_pieces template shown lists ps))))
      count k =
          let tree = tree_again template shown Fits is ps old t lists below book in
          ap (λ (ls : Lists). length (below_key name_cmp k ls)) (sym (lists_once (edges t) tree.lists lists tree.below below))
          ∙ ap length (tree.grouped.each k) ∙ sym (count_is k (components_of (rewritten_pieces template shown lists ps)))

      old_fit : (cs : List Component) → All Fits cs → Each name_cmp (λ (x : Name × Component). Fits x.1) (keyed template.key cs)
      old_fit [] h = tt
      old_fit (c ∷ cs) h = (All-head Fits c cs h, old_fit cs (All-tail Fits c cs h))

      all : Each name_cmp (FitsSlot lists (components_of (rewritten_pieces template shown lists ps)) count) (slots_for template shown lists (components_of ps))
      all =
          all_fit name_cmp name_total name_one (λ k card. IsFilled k × IsCard shown card) (λ k c. Fits c) (keyed template.key (components_of ps)) lists (slots_for template shown lists (components_of ps))
          (all_fitting shown (λ k card. IsFilled k × IsCard shown card) lists (λ k card filled is_card. (filled, is_card)) (book_keys template shown Fits is t lists below book) (book_cards template shown Fits is t lists below book)) (old_fit (components_of ps) old.fit) refl
