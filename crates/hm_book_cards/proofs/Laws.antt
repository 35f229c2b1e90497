-- What is known of cards and books: a card has its texts and is known from them, the tree of cards is a book, and the members
-- of the schema of books are the books.
pub use Rattle.hm_book_cards.proofs.CardTrees.{card_texts, card_again}
pub use Rattle.hm_book_cards.proofs.BookTrees.{items_book}
use Rattle.std.proofs.Common.{◌≡◌, Bool, T, All, List, [], ◌∷◌, ◌++◌, map, Some, None, refl, subst}
use Rattle.std.proofs.lemmas.Option.{get_or_from_slice_get, slice_get_within}
use Rattle.std.proofs.lemmas.List.Elements.{All-nil, All-cons}
use Rattle.hm_tree.specs.Nodes.{Tree, are_edges}
use Rattle.hm_tree.specs.States.{state}
use Rattle.hm_schema.specs.Values.{NodeValue, SchemaValue}
use Rattle.hm_schema.specs.Membership.{IsMember, HasNoTwins}
use Rattle.hm_schema_lists.specs.ListNodes.{empty_shape, item_shape}
use Rattle.hm_schema.specs.Standing.{Alike}
use Rattle.hm_schema.proofs.StandingTrees.{alike_then, members_alike, Inside}
use Rattle.hm_book_cards.specs.Cards.{Shown, IsCard}
use Rattle.hm_book_cards.specs.Books.{id, open_node, list_node, texts_node, empty_node, kinds, texts_nodes, card_node, more_place, book_nodes, book_schema, IsBook}
use Rattle.hm_book_cards.proofs.KindPlaces.{more_at_place}
use Rattle.hm_book_cards.proofs.OpenLists.{open_lists}
use Rattle.hm_book_cards.proofs.CardNodes.{cards_alike}
use Rattle.hm_book_cards.proofs.CardLists.{Items, lists_alike}
use Rattle.hm_book_cards.proofs.BookTrees.{book_from, book_into}
use Rattle.hm_tree.specs.declared.class.Class.TheVariants.{Filled}

-- ---- members

module _ (shown : Shown) (are : T (are_edges shown)) where
  abbrev s : SchemaValue
  s = book_schema shown

  lists : Alike (Inside s (id 1)) (Items (IsCard shown))
  lists = lists_alike s 2 (more_place shown) (id 1) refl (more_at_place shown) (IsCard shown) (cards_alike shown are)

  books : Alike (Inside s (id 0)) (IsBook shown)
  books = alike_then (members_alike s (id 0) (open_node Filled 0 None 1) refl)
      (alike_then (open_lists (Inside s) Filled 1 (IsCard shown) lists) (record { into = book_from shown; from = book_into shown }))

  -- a book is a member of the schema
  pub member_book : (t : Tree) → IsBook shown t → IsMember s s.root (state (Some t))
  member_book t b = books.from t b

  -- and a member is a book
  pub book_member : (t : Tree) → IsMember s s.root (state (Some t)) → IsBook shown t
  book_member t m = books.into t m

-- ---- twins

abbrev IsPlain : NodeValue → Type 0
IsPlain n = n.twins ≡ []

module _ (more : NodeValue) (plain : IsPlain more) where
  others_plain : (ks : List Bool) → All IsPlain (map texts_node ks ++ more ∷ [])
  others_plain [] = All-cons IsPlain more [] plain (All-nil IsPlain)
  others_plain (k ∷ ks) = All-cons IsPlain (texts_node k) (map texts_node ks ++ more ∷ []) refl (others_plain ks)

  texts_plain : (ks : List Bool) → All IsPlain (texts_nodes ks ++ more ∷ [])
  texts_plain [] = All-cons IsPlain more [] plain (All-nil IsPlain)
  texts_plain (k ∷ ks) =
      All-cons IsPlain (texts_node k) (empty_node ∷ (map texts_node ks ++ more ∷ [])) refl
      (All-cons IsPlain empty_node (map texts_node ks ++ more ∷ []) refl (others_plain ks))

all_plain : (shown : Shown) → All IsPlain (book_nodes shown)
all_plain shown =
    let more = list_node (empty_shape ∷ item_shape ∷ []) 2 (more_place shown) in
    let texts = texts_nodes (kinds shown) ++ more ∷ [] in
    All-cons IsPlain (open_node Filled 0 None 1) (list_node (item_shape ∷ []) 2 (more_place shown) ∷ card_node shown ∷ texts) refl
    (All-cons IsPlain (list_node (item_shape ∷ []) 2 (more_place shown)) (card_node shown ∷ texts) refl
    (All-cons IsPlain (card_node shown) texts refl (texts_plain more refl (kinds shown))))

-- no node of the schema has twins
pub no_twins : (shown : Shown) → HasNoTwins (book_schema shown)
no_twins shown i n at =
    subst IsPlain (get_or_from_slice_get (book_nodes shown) i.place n n at)
    (all_plain shown i.place n (slice_get_within (book_nodes shown) i.place n at))
