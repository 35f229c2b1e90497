-- Words of ASCII are UTF-8, and so are the names of edges, and the keys of the lists below them.
use Rattle.std.proofs.Common.{◌≡◌, ℕ, true, T, List, [], ◌∷◌, get_or, IsUtf8, subst}
use Rattle.std.specs.Bool.{nat_lt}
use Rattle.std.specs.List.{list_all}
use Rattle.std.proofs.lemmas.Bool.{ltb-true}
use Rattle.std.proofs.lemmas.List.Sums.{AllPass-from_list_all}
use Rattle.std.proofs.lemmas.Str.{IsUtf8-from_ascii, IsUtf8-from_is_utf8}
use Rattle.std.proofs.lemmas.Str.Ascii.{IsAscii-from_all}
use Rattle.hm_facts.proofs.Booleans.{is_true}
use Rattle.hm_tree.specs.Names.{Name, name_cmp}
use Rattle.hm_tree.specs.Nodes.{Tree, edges, are_edges, edges_head, edges_tail}
use Rattle.hm_tree.specs.NodeLaws.{edges_are}
use Rattle.hm_tree_parts.specs.Edges.{IsEdge}
use Rattle.hm_book_items.specs.Items.{Each}
use Rattle.hm_book_items.specs.ItemTrees.{Lists, AreLists}

pub word_utf8 : (word : List ℕ) → list_all (λ b. nat_lt b 128) word ≡ true → IsUtf8 word
word_utf8 word small =
    IsUtf8-from_ascii word (IsAscii-from_all word (λ i d lt. ltb-true (get_or word i d) 128 (AllPass-from_list_all (λ b. nat_lt b 128) word small i d lt)))

-- the name of an edge
pub edge_utf8 : (n : Name) (x t : Tree) → IsEdge n x t → IsUtf8 n
edge_utf8 n x t is = IsUtf8-from_is_utf8 n (is_true _ (edges_head (n, x) [] (subst (λ (es : List (Name × Tree)). T (are_edges es)) is (edges_are t))))

-- ---- keys of lists

-- each item of each list has a key of UTF-8
abbrev pub KeysAreUtf8 : Lists → Type 0
KeysAreUtf8 lists = Each name_cmp (λ (l : Name × List Tree). Each name_cmp (λ t. IsUtf8 l.0) l.1) lists

each_so : (P : Type 0) → P → (ts : List Tree) → Each name_cmp (λ t. P) ts
each_so P p [] = tt
each_so P p (t ∷ ts) = (p, each_so P p ts)

below_utf8 : (es : List (Name × Tree)) (lists : Lists) → T (are_edges es) → AreLists es lists → KeysAreUtf8 lists
below_utf8 [] [] are h = tt
below_utf8 [] (l ∷ lists) are h = absurd h
below_utf8 (e ∷ es) [] are h = absurd h
below_utf8 (e ∷ es) (l ∷ lists) are h = (
  each_so (IsUtf8 l.0) (subst IsUtf8 h.0.0 (IsUtf8-from_is_utf8 e.0 (is_true _ (edges_head e es are)))) l.1,
  below_utf8 es lists (edges_tail e es are) h.1,
)

pub keys_utf8 : (t : Tree) (lists : Lists) → AreLists (edges t) lists → KeysAreUtf8 lists
keys_utf8 t lists below = below_utf8 (edges t) lists (edges_are t) below
