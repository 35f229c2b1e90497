-- The components among pieces, one by one, as the code goes over them.
use Rattle.std.proofs.Common.{◌≡◌, ◌≢◌, ℕ, zero, suc, ◌+◌, ◌<◌, ◌≤◌, List, [], ◌∷◌, ◌++◌, length, get_or, take, drop, slice_get, Some, None, refl, sym, ap, ◌∙◌, subst, arith}
use Rattle.std.specs.Prelude.{All}
use Rattle.std.proofs.lemmas.List.{append-nil, map-append, take_more, take_all, length-map}
use Rattle.std.proofs.lemmas.List.Elements.{All-push}
use Rattle.std.proofs.lemmas.Option.{same_Some, none-some}
use Rattle.hm_tree.specs.Names.{Name}
use Rattle.hm_tree.specs.Nodes.{Tree}
use Rattle.hm_book_cards.specs.Cards.{Shown}
use Rattle.hm_lines_cards.specs.Lines.{texts_of, card_of}
use Rattle.hm_lines_files.specs.Components.{Component, Piece as PlainPiece, other, item, components_of, first_name, HasKey, item_of, items_of}
use Rattle.hm_lines_files.specs.Reading.{IsItem, IsFirstKeyless}
use Rattle.hm_lines_files.specs.Lent.{piece_of, pieces_of, HasLines, HaveLines}
use Rattle.hm_lines_files.specs.declared.component.Piece.{Piece}

-- ---- keys

pub no_key : (names : List Name) → None ≡ slice_get names 0 → names ≢ [] → ⊥
no_key [] e some = some refl
no_key (k ∷ names) e some = none-some k e

pub one_key : (names : List Name) (key : Name) → Some key ≡ slice_get names 0 → key ≡ first_name names
one_key [] key e = absurd (none-some key (sym e))
one_key (k ∷ names) key e = same_Some key k e

some_names : (names : List Name) (key : Name) → Some key ≡ slice_get names 0 → names ≢ []
some_names [] key e none = none-some key (sym e)
some_names (k ∷ names) key e none = let bad : ⊥ = cc in bad

pub keyless : (key : Name) (c : Component) → None ≡ slice_get (texts_of key c.lines) 0 → ¬ (HasKey key c)
keyless key c e some = no_key (texts_of key c.lines) e some

pub item_is : (key : Name) (shown : Shown) (c : Component) (k : Name) (card : Tree) → Some k ≡ slice_get (texts_of key c.lines) 0 → card ≡ card_of shown c.lines
    → IsItem key shown c (Some (k, card))
item_is key shown c k card e made = (some_names (texts_of key c.lines) k e, λ i. (one_key (texts_of key c.lines) k e i, made i))

-- ---- pieces

pub components_append : (ps qs : List PlainPiece) → components_of (ps ++ qs) ≡ components_of ps ++ components_of qs
components_append [] qs = refl
components_append (other line ∷ ps) qs = components_append ps qs
components_append (item c ∷ ps) qs = ap (λ (cs : List Component). c ∷ cs) (components_append ps qs)

split_at : {X : Type 0} (n : ℕ) (xs : List X) (x : X) → n < length xs → x ≡ get_or xs n x → xs ≡ take n xs ++ x ∷ drop (suc n) xs
split_at n [] x lt e = absurd (omega (arith, lt))
split_at zero (y ∷ xs) x lt e = ap (λ z. z ∷ xs) (sym e)
split_at (suc n) (y ∷ xs) x lt e = ap (λ l. y ∷ l) (split_at n xs x (omega (arith, lt)) e)

module _ (all : List Piece) (place : ℕ) (x : Piece) (lt : place < length all) (is : x ≡ get_or all place x) where
  abbrev before : List Component
  before = components_of (pieces_of (take place all))

  one_more : components_of (pieces_of (take (place + 1) all)) ≡ before ++ components_of (piece_of x ∷ [])
  one_more =
      ap (λ (ps : List Piece). components_of (pieces_of ps)) (take_more all place x lt ∙ ap (λ (y : Piece). take place all ++ y ∷ []) (sym is))
      ∙ ap components_of (map-append piece_of (take place all) (x ∷ []))
      ∙ components_append (pieces_of (take place all)) (piece_of x ∷ [])

  pub lines_there : HaveLines all → HasLines x
  lines_there have = subst HasLines (sym is) (have place x lt)

  -- another line adds no component
  module _ (line : PlainPiece) (text : List ℕ) (no_item : line ≡ other text) (same : piece_of x ≡ line) where
    pub none_more : components_of (pieces_of (take (place + 1) all)) ≡ before
    none_more = one_more ∙ ap (λ (p : PlainPiece). before ++ components_of (p ∷ [])) (same ∙ no_item) ∙ append-nil before

  -- a component
  module _ (c : Component) (same : piece_of x ≡ item c) where
    next : components_of (pieces_of (take (place + 1) all)) ≡ before ++ c ∷ []
    next = one_more ∙ ap (λ (p : PlainPiece). before ++ components_of (p ∷ [])) same

    module _ (key : Name) (shown : Shown) where
      pub item_more : (items new : List (Name × Tree)) (found : Name × Tree) → items ≡ items_of key shown before → IsItem key shown c (Some found) → new ≡ items ++ found ∷ []
          → new ≡ items_of key shown (components_of (pieces_of (take (place + 1) all)))
      item_more items new found so_far it pushed =
          pushed ∙ (λ i. so_far i ++ it.1 i ∷ [])
          ∙ sym (map-append (item_of key shown) before (c ∷ []))
          ∙ ap (items_of key shown) (sym next)

      pub keyed_more : All (HasKey key) before → HasKey key c → All (HasKey key) (components_of (pieces_of (take (place + 1) all)))
      keyed_more so_far one = subst (All (HasKey key)) (sym next) (All-push (HasKey key) before c so_far one)

      pub keyless_here : (items : List (Name × Tree)) → items ≡ items_of key shown before → All (HasKey key) before → ¬ (HasKey key c)
          → IsFirstKeyless key (components_of (pieces_of all)) (length items + 1)
      keyless_here items are keyed none = record {
        before = before;
        component = c;
        after = components_of (pieces_of (drop (suc place) all));
        are =
            ap (λ (ps : List Piece). components_of (pieces_of ps)) (split_at place all x lt is)
            ∙ ap components_of (map-append piece_of (take place all) (x ∷ drop (suc place) all))
            ∙ components_append (pieces_of (take place all)) (piece_of x ∷ pieces_of (drop (suc place) all))
            ∙ ap (λ (p : PlainPiece). before ++ components_of (p ∷ pieces_of (drop (suc place) all))) same;
        keyed = keyed;
        keyless = none;
        place = let e = ap length are ∙ length-map before (item_of key shown) in omega (arith, e);
      }

pub all_pieces : (all : List Piece) (place : ℕ) → length all ≤ place → take place all ≡ all
all_pieces all place end = take_all place all end
