-- The components of rewritten pieces are those of the slots of the items, and the pieces are renewed.
use Rattle.std.proofs.Common.{◌≡◌, List, [], ◌∷◌, ◌++◌, length, slice_get, map, Option, Some, None, refl, sym, ap, ◌∙◌, subst}
use Rattle.std.specs.Prelude.{All, IfSome}
use Rattle.std.proofs.lemmas.List.{map-append}
use Rattle.std.proofs.lemmas.List.Elements.{All-nil, All-cons, All-head, All-tail}
use Rattle.hm_tree.specs.Names.{Name, name_cmp}
use Rattle.hm_tree.specs.Classes.{IsFilled}
use Rattle.hm_tree.specs.Nodes.{Tree}
use Rattle.hm_tree.proofs.Sorted.{name_total, name_one}
use Rattle.hm_book_items.specs.Items.{Each, of_key, below_key, survivor, kept, added}
use Rattle.hm_book_items.proofs.Fitting.{all_fit}
use Rattle.hm_book_cards.specs.Cards.{Shown, IsCard}
use Rattle.hm_lines_files.specs.Components.{Component, Piece, other, item, components_of, key_of}
use Rattle.hm_lines_files.specs.Rewriting.{Template, component_for, keyed, items_for, fate, remaining, rewritten_pieces}
use Rattle.hm_lines_files.specs.Renewed.{AreRenewed, behind, stays, goes, exchanged}
use Rattle.hm_lines_files.proofs.OneComponent.{IsKind}
use Rattle.hm_book_items.proofs.EachItem.{each_of}
use Rattle.hm_book_items.specs.ItemTrees.{Lists}

abbrev pub Slots : Type 0
Slots = List (Name × Option Component × Tree)

-- ---- components of pieces

pub components-append : (ps qs : List Piece) → components_of (ps ++ qs) ≡ components_of ps ++ components_of qs
components-append [] qs = refl
components-append (other line ∷ ps) qs = components-append ps qs
components-append (item c ∷ ps) qs = ap (λ cs. c ∷ cs) (components-append ps qs)

module _ (template : Template) (shown : Shown) where
  pub items_are : (slots : Slots) → items_for template shown slots ≡ map item (map (component_for template shown) slots)
  items_are [] = refl
  items_are (s ∷ slots) = ap (λ ps. item (component_for template shown s) ∷ ps) (items_are slots)

  items_components : (slots : Slots) → components_of (items_for template shown slots) ≡ map (component_for template shown) slots
  items_components [] = refl
  items_components (s ∷ slots) = ap (λ cs. component_for template shown s ∷ cs) (items_components slots)

  module _ (lists : Lists) where
    -- the slots of those that survive among components behind others, and of all
    abbrev pub slots_behind : List Component → List Component → Slots
    slots_behind before cs = kept name_cmp lists (keyed template.key before) (keyed template.key cs)

    abbrev pub new_slots : List Component → Slots
    new_slots cs = added name_cmp (keyed template.key cs) lists

    abbrev pub slots_for : List Component → Slots
    slots_for cs = kept name_cmp lists [] (keyed template.key cs) ++ new_slots cs

    abbrev survivors : List Component → Component → Slots
    survivors before c =
        let k = key_of template.key c in
        survivor name_cmp (k, c) (slice_get (below_key name_cmp k lists) (length (of_key name_cmp k (keyed template.key before))))

    pub one_more : (before cs : List Component) (c : Component) → slots_behind before (c ∷ cs) ≡ survivors before c ++ slots_behind (before ++ c ∷ []) cs
    one_more before cs c =
        ap (λ b. survivors before c ++ kept name_cmp lists b (keyed template.key cs)) (sym (map-append (λ c. (key_of template.key c, c)) before (c ∷ [])))

    remaining_components : (before : List Component) (ps : List Piece)
        → components_of (remaining template shown lists before ps) ≡ map (component_for template shown) (slots_behind before (components_of ps))
    remaining_components before [] = refl
    remaining_components before (other line ∷ ps) = remaining_components before ps
    remaining_components before (item c ∷ ps) =
        components-append (fate template shown lists before c) (remaining template shown lists (before ++ c ∷ []) ps)
        ∙ (λ i. items_components (survivors before c) i ++ remaining_components (before ++ c ∷ []) ps i)
        ∙ sym (map-append (component_for template shown) (survivors before c) (slots_behind (before ++ c ∷ []) (components_of ps)))
        ∙ ap (map (component_for template shown)) (sym (one_more before (components_of ps) c))

    -- the components of rewritten pieces are those for the slots
    pub new_components : (ps : List Piece) → components_of (rewritten_pieces template shown lists ps) ≡ map (component_for template shown) (slots_for (components_of ps))
    new_components ps =
        components-append (remaining template shown lists [] ps) (items_for template shown (new_slots (components_of ps)))
        ∙ (λ i. remaining_components [] ps i ++ items_components (new_slots (components_of ps)) i)
        ∙ sym (map-append (component_for template shown) (slots_behind [] (components_of ps)) (new_slots (components_of ps)))

-- ---- renewed pieces

pub all_of : {X : Type 0} (P : X → Type 0) (xs : List X) → Each name_cmp P xs → All P xs
all_of P [] h = All-nil P
all_of P (x ∷ xs) h = All-cons P x xs h.0 (all_of P xs h.1)

pub each-front : {X : Type 0} (P : X → Type 0) (xs ys : List X) → Each name_cmp P (xs ++ ys) → Each name_cmp P xs
each-front P [] ys h = tt
each-front P (x ∷ xs) ys h = (h.0, each-front P xs ys h.1)

pub each-back : {X : Type 0} (P : X → Type 0) (xs ys : List X) → Each name_cmp P (xs ++ ys) → Each name_cmp P ys
each-back P [] ys h = h
each-back P (x ∷ xs) ys h = each-back P xs ys h.1

pub all_fitting : (shown : Shown) (P : Name → Tree → Type 0) (lists : Lists) → ((k : Name) (card : Tree) → IsFilled k → IsCard shown card → P k card)
    → All (λ l. IsFilled l.0) lists → All (λ l. All (IsCard shown) l.1) lists → Each name_cmp (λ l. Each name_cmp (P l.0) l.1) lists
all_fitting shown P [] fits keys cards = tt
all_fitting shown P (l ∷ lists) fits keys cards = (
  (let filled = All-head (λ (l : Name × List Tree). IsFilled l.0) l lists keys in
      let these = All-head (λ (l : Name × List Tree). All (IsCard shown) l.1) l lists cards in
      each_of (P l.0) l.1 (λ i d lt. fits l.0 _ filled (these i d lt))),
  all_fitting shown P lists fits (All-tail (λ (l : Name × List Tree). IsFilled l.0) l lists keys)
      (All-tail (λ (l : Name × List Tree). All (IsCard shown) l.1) l lists cards),
)

module _ (template : Template) (shown : Shown) (Fits : Component → Type 0) (is : IsKind template shown Fits) (lists : Lists) where
  abbrev P : Name → Tree → Type 0
  P k card = IsFilled k × IsCard shown card

  abbrev Q : Name → Component → Type 0
  Q k c = Fits c

  abbrev FitsSlot : Name × Option Component × Tree → Type 0
  FitsSlot s = P s.0 s.2 × IfSome s.1 (Q s.0)

  made_fits : (s : Name × Option Component × Tree) → FitsSlot s → Fits (component_for template shown s)
  made_fits s h = go s.1 h.1
    where
      go : (o : Option Component) → IfSome o (Q s.0) → Fits (component_for template shown (s.0, o, s.2))
      go None q = is.showing _ s.2 (is.new s.0 h.0.0) h.0.1
      go (Some c) q = is.showing c s.2 q h.0.1

  all_made : (slots : Slots) → Each name_cmp FitsSlot slots → All Fits (map (component_for template shown) slots)
  all_made [] h = All-nil Fits
  all_made (s ∷ slots) h = All-cons Fits (component_for template shown s) (map (component_for template shown) slots) (made_fits s h.0) (all_made slots h.1)

  renewed_from : (before : List Component) (ps : List Piece) (news : List Component) → Each name_cmp FitsSlot (slots_behind template shown lists before (components_of ps))
      → All Fits news → AreRenewed Fits ps (remaining template shown lists before ps ++ map item news)
  renewed_from before [] news fits new = behind news new
  renewed_from before (other line ∷ ps) news fits new = stays (renewed_from before ps news fits new)
  renewed_from before (item c ∷ ps) news fits new =
      go (slice_get (below_key name_cmp (key_of template.key c) lists) (length (of_key name_cmp (key_of template.key c) (keyed template.key before))))
      (subst (Each name_cmp FitsSlot) (one_more template shown lists before (components_of ps) c) fits) (renewed_from (before ++ c ∷ []) ps news)
    where
      go : (o : Option Tree) → Each name_cmp FitsSlot (survivor name_cmp (key_of template.key c, c) o ++ slots_behind template shown lists (before ++ c ∷ []) (components_of ps))
          → (Each name_cmp FitsSlot (slots_behind template shown lists (before ++ c ∷ []) (components_of ps)) → All Fits news → AreRenewed Fits ps (remaining template shown lists (before ++ c ∷ []) ps ++ map item news))
          → AreRenewed Fits (item c ∷ ps) ((items_for template shown (survivor name_cmp (key_of template.key c, c) o) ++ remaining template shown lists (before ++ c ∷ []) ps) ++ map item news)
      go None h rest = goes c (rest h new)
      go (Some card) h rest = exchanged (made_fits (key_of template.key c, Some c, card) h.0) (rest h.1 new)

  -- pieces that are rewritten for lists of cards are renewed
  pub renewed : (ps : List Piece) → All Fits (components_of ps) → All (λ l. IsFilled l.0) lists → All (λ l. All (IsCard shown) l.1) lists
      → AreRenewed Fits ps (rewritten_pieces template shown lists ps)
  renewed ps fits keys cards =
      subst (λ qs. AreRenewed Fits ps (remaining template shown lists [] ps ++ qs)) (sym (items_are template shown (new_slots template shown lists (components_of ps))))
      (renewed_from [] ps (map (component_for template shown) (new_slots template shown lists (components_of ps)))
      (each-front FitsSlot (slots_behind template shown lists [] (components_of ps)) (new_slots template shown lists (components_of ps)) all)
      (all_made (new_slots template shown lists (components_of ps)) (each-back FitsSlot (slots_behind template shown lists [] (components_of ps)) (new_slots template shown lists (components_of ps)) all)))
    where
      old_fit : (cs : List Component) → All Fits cs → Each name_cmp (λ x. Q x.0 x.1) (keyed template.key cs)
      old_fit [] h = tt
      old_fit (c ∷ cs) h = (All-head Fits c cs h, old_fit cs (All-tail Fits c cs h))

      all : Each name_cmp FitsSlot (slots_for template shown lists (components_of ps))
      all =
          all_fit name_cmp name_total name_one P Q (keyed template.key (components_of ps)) lists (slots_for template shown lists (components_of ps))
          (all_fitting shown P lists (λ k card filled is_card. (filled, is_card)) keys cards) (old_fit (components_of ps) fits) refl
