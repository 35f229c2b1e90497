-- The lines of pieces and of new components, as they are written one after another.
use Rattle.std.proofs.Common.{◌≡◌, ℕ, zero, suc, ◌+◌, ◌<◌, List, [], ◌∷◌, ◌++◌, length, get_or, slice_get, map, take, drop, Option, Some, None, refl, sym, ap, ◌∙◌, subst, arith}
use Rattle.std.specs.Prelude.{All}
use Rattle.std.specs.List.{flat_map}
use Rattle.std.specs.Borrow.{Bor}
use Rattle.std.proofs.lemmas.List.{append_assoc, append-nil, map-append, length-map, get_or-map, take_more}
use Rattle.std.proofs.lemmas.List.Concat.{flat_map-append}
use Rattle.std.proofs.lemmas.List.Elements.{All-nil, All-cons, All-head, All-tail, All-append}
use Rattle.hm_tree.specs.Names.{Name, name_cmp}
use Rattle.hm_tree.specs.Nodes.{Tree}
use Rattle.hm_book_items.specs.Items.{of_key, below_key, survivor, fresh, added}
use Rattle.hm_book_items.specs.Plans.{numbered, keys_of}
use Rattle.hm_book_items.proofs.Numbers.{counted_read}
use Rattle.hm_lines.specs.Content.{IsWord}
use Rattle.hm_lines.specs.Values.{escaped}
use Rattle.hm_lines.proofs.Laws as lines
use Rattle.hm_book_cards.specs.Cards.{Shown}
use Rattle.hm_lines_cards.specs.Lines.{IsLine}
use Rattle.hm_lines_cards.specs.Lent.{line_of, lent, AreLines}
use Rattle.hm_lines_cards.specs.Rewriting.{new_line}
use Rattle.hm_lines_cards.specs.declared.line.Line.{Line}
use Rattle.hm_lines_files.specs.Components.{Bytes, Component, Piece, other, item, piece_lines, lines_of, components_of, key_of, HasKey}
use Rattle.hm_lines_files.specs.Lent.{piece_of, pieces_of}
use Rattle.hm_lines_files.specs.declared.component.Piece.{Piece as LentPiece}
use Rattle.hm_lines_files.specs.Rewriting.{Template, showing, component_for, keyed, items_for, fate, remaining}
use Rattle.hm_book_items.specs.ItemTrees.{Lists}

-- ---- lines that are lent

lent_are : (ls : List Line) → AreLines ls → All IsLine (lent ls)
lent_are [] h = All-nil IsLine
lent_are (l ∷ ls) h = All-cons IsLine (line_of l) (lent ls) (All-head (λ l. IsLine (line_of l)) l ls h) (lent_are ls (All-tail (λ l. IsLine (line_of l)) l ls h))

are_lines : (ls : List Line) → All IsLine (lent ls) → AreLines ls
are_lines [] h = All-nil (λ l. IsLine (line_of l))
are_lines (l ∷ ls) h = All-cons (λ l. IsLine (line_of l)) l ls (All-head IsLine (line_of l) (lent ls) h) (are_lines ls (All-tail IsLine (line_of l) (lent ls) h))

-- the lines of a blank component have the parts that they say
pub blank_are : (name key : Name) → IsWord name → (front more ls : List Line) → AreLines front → AreLines more → lent ls ≡ lent front ++ new_line name key ∷ lent more → AreLines ls
blank_are name key word front more ls before behind is =
    are_lines ls
    (subst (All IsLine) (sym is)
    (All-append IsLine (lent front) (new_line name key ∷ lent more) (lent_are front before)
    (All-cons IsLine (new_line name key) (lent more) (lines.new_line name (escaped key) word) (lent_are more behind))))

-- ---- keys

module _ (key : Name) where
  pub keys_more : (before : List Component) (c : Component) → keys_of (keyed key before) ++ key_of key c ∷ [] ≡ keys_of (keyed key (before ++ c ∷ []))
  keys_more before c =
      sym (ap keys_of (map-append (λ c. (key_of key c, c)) before (c ∷ [])) ∙ map-append (λ x. x.0) (keyed key before) ((key_of key c, c) ∷ []))

-- ---- old components

module _ (template : Template) (shown : Shown) (lists : Lists) where
  -- what becomes of a component, by the tree that it takes
  module _ (before : List Component) (c : Component) (o : Option Tree)
      (is : o ≡ slice_get (below_key name_cmp (key_of template.key c) lists) (length (of_key name_cmp (key_of template.key c) (numbered 0 (keys_of (keyed template.key before)))))) where
    taken_is : o ≡ slice_get (below_key name_cmp (key_of template.key c) lists) (length (of_key name_cmp (key_of template.key c) (keyed template.key before)))
    taken_is = is ∙ ap (slice_get (below_key name_cmp (key_of template.key c) lists)) (counted_read (key_of template.key c) 0 (keyed template.key before))

    fate_is : flat_map piece_lines (items_for template shown (survivor name_cmp (key_of template.key c, c) o)) ≡ flat_map piece_lines (fate template shown lists before c)
    fate_is = ap (λ o. flat_map piece_lines (items_for template shown (survivor name_cmp (key_of template.key c, c) o))) taken_is

  pub fate_shown : (before : List Component) (c : Component) (card : Tree)
      → Some card ≡ slice_get (below_key name_cmp (key_of template.key c) lists) (length (of_key name_cmp (key_of template.key c) (numbered 0 (keys_of (keyed template.key before)))))
      → lines_of (showing shown card c) ≡ flat_map piece_lines (fate template shown lists before c)
  fate_shown before c card is = sym (append-nil (lines_of (showing shown card c))) ∙ fate_is before c (Some card) is

  pub fate_none : (before : List Component) (c : Component)
      → None ≡ slice_get (below_key name_cmp (key_of template.key c) lists) (length (of_key name_cmp (key_of template.key c) (numbered 0 (keys_of (keyed template.key before)))))
      → [] ≡ flat_map piece_lines (fate template shown lists before c)
  fate_none before c is = fate_is before c None is

  -- one piece
  pub remaining_item : (before : List Component) (c : Component)
      → flat_map piece_lines (fate template shown lists before c) ≡ flat_map piece_lines (remaining template shown lists before (item c ∷ []))
  remaining_item before c = ap (flat_map piece_lines) (sym (append-nil (fate template shown lists before c)))

  -- pieces behind others
  remaining-append : (before : List Component) (ps qs : List Piece)
      → remaining template shown lists before (ps ++ qs) ≡ remaining template shown lists before ps ++ remaining template shown lists (before ++ components_of ps) qs
  remaining-append before [] qs = ap (λ b. remaining template shown lists b qs) (sym (append-nil before))
  remaining-append before (other line ∷ ps) qs = ap (λ rs. other line ∷ rs) (remaining-append before ps qs)
  remaining-append before (item c ∷ ps) qs =
      ap (λ rs. fate template shown lists before c ++ rs)
      (remaining-append (before ++ c ∷ []) ps qs
      ∙ ap (λ b. remaining template shown lists (before ++ c ∷ []) ps ++ remaining template shown lists b qs) (append_assoc before (c ∷ []) (components_of ps)))
      ∙ sym (append_assoc (fate template shown lists before c) (remaining template shown lists (before ++ c ∷ []) ps) (remaining template shown lists (before ++ c ∷ components_of ps) qs))

  pub remaining_more : (ps : List Piece) (p : Piece)
      → flat_map piece_lines (remaining template shown lists [] ps) ++ flat_map piece_lines (remaining template shown lists (components_of ps) (p ∷ []))
      ≡ flat_map piece_lines (remaining template shown lists [] (ps ++ p ∷ []))
  remaining_more ps p =
      sym (flat_map-append piece_lines (remaining template shown lists [] ps) (remaining template shown lists (components_of ps) (p ∷ [])))
      ∙ ap (flat_map piece_lines) (sym (remaining-append [] ps (p ∷ [])))

pub components_more : (ps : List Piece) (p : Piece) → components_of ps ++ components_of (p ∷ []) ≡ components_of (ps ++ p ∷ [])
components_more [] p = refl
components_more (other line ∷ ps) p = components_more ps p
components_more (item c ∷ ps) p = ap (λ cs. c ∷ cs) (components_more ps p)

pub component_at : (P : Component → Type 0) (ps : List Piece) (i : ℕ) (d : Piece) → i < length ps → All P (components_of ps) → All P (components_of (get_or ps i d ∷ []))
component_at P [] i d lt h = absurd (omega (arith, lt))
component_at P (other line ∷ ps) zero d lt h = All-nil P
component_at P (other line ∷ ps) (suc i) d lt h = component_at P ps i d (omega (arith, lt)) h
component_at P (item c ∷ ps) zero d lt h = All-cons P c [] (All-head P c (components_of ps) h) (All-nil P)
component_at P (item c ∷ ps) (suc i) d lt h = component_at P ps i d (omega (arith, lt)) (All-tail P c (components_of ps) h)

-- pieces that are lent
module _ (pieces : List LentPiece) (i : ℕ) (p : LentPiece) (lt : i < length pieces) (is : p ≡ get_or pieces i p) where
  pub piece_keyed : (key : Name) → All (HasKey key) (components_of (pieces_of pieces)) → All (HasKey key) (components_of (piece_of p ∷ []))
  piece_keyed key h =
      let n = length-map pieces piece_of in
      subst (λ q. All (HasKey key) (components_of (q ∷ []))) (get_or-map piece_of pieces i p (piece_of p) lt ∙ ap piece_of (sym is))
      (component_at (HasKey key) (pieces_of pieces) i (piece_of p) (omega (arith, lt, n)) h)

  pub pieces_taken : pieces_of (take i pieces) ++ piece_of p ∷ [] ≡ pieces_of (take (i + 1) pieces)
  pieces_taken =
      sym (map-append piece_of (take i pieces) (p ∷ [])) ∙ ap pieces_of (ap (λ q. take i pieces ++ q ∷ []) is ∙ sym (take_more pieces i p lt))

-- ---- new components

module _ (template : Template) (shown : Shown) where
  -- the lines of a new one, and of all with a key
  abbrev pub new_lines : Name → Tree → List Bytes
  new_lines key card = lines_of (component_for template shown (key, None, card))

  pub with_key : (key : Name) (cards : List (Bor Tree))
      → flat_map (λ (b : Bor Tree). new_lines key b.now) cards ≡ flat_map piece_lines (items_for template shown (fresh name_cmp key (map (λ b. b.now) cards)))
  with_key key [] = refl
  with_key key (b ∷ cards) = ap (λ ls. new_lines key b.now ++ ls) (with_key key cards)

  abbrev pub added_lines : List Component → Name × List Tree → List Bytes
  added_lines cs l = flat_map piece_lines (items_for template shown (fresh name_cmp l.0 (drop (length (of_key name_cmp l.0 (keyed template.key cs))) l.1)))

  pub all_added : (cs : List Component) (lists : Lists) → flat_map (added_lines cs) lists ≡ flat_map piece_lines (items_for template shown (added name_cmp (keyed template.key cs) lists))
  all_added cs [] = refl
  all_added cs (l ∷ lists) =
      let new = fresh name_cmp {C = Component} l.0 (drop (length (of_key name_cmp l.0 (keyed template.key cs))) l.1) in
      ap (λ ls. added_lines cs l ++ ls) (all_added cs lists)
      ∙ sym (flat_map-append piece_lines (items_for template shown new) (items_for template shown (added name_cmp (keyed template.key cs) lists)))
      ∙ ap (flat_map piece_lines) (sym (map-append (λ s. item (component_for template shown s)) new (added name_cmp (keyed template.key cs) lists)))
