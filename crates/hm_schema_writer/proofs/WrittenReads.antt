-- Each line of written nodes is read as it says.
use Rattle.std.proofs.Common.{◌≡◌, ℕ, suc, IsTrue, is_some, List, [], ◌∷◌, ◌++◌, length, map, Option, Some, None, refl, sym, subst, arith}
use Rattle.std.specs.Prelude.{IsUtf8}
use Rattle.std.specs.List.{Contains}
use Rattle.std.specs.FinMap.{find}
use Rattle.std.proofs.lemmas.List.Elements.{Contains-append_left, Contains-append_right}
use Rattle.std.proofs.lemmas.List.{append-nil}
use Rattle.hm_tree.specs.Names.{Name, name_cmp}
use Rattle.hm_tree.specs.Sets.{ascending}
use Rattle.hm_tree.specs.declared.class.Class.{Class}
use Rattle.hm_schema.specs.declared.node.NodeId.{NodeId}
use Rattle.hm_schema.specs.declared.node.Shape.{Shape}
use Rattle.hm_schema.specs.Values.{NodeValue}
use Rattle.hm_schema.specs.WellFormed.{IsWellFormedShape}
use Rattle.hm_schema_lines.specs.declared.token.Token.TheVariants.{Word}
use Rattle.hm_schema_lines.specs.Tokens.{IsToken}
use Rattle.hm_schema_lines.specs.NodeLines.{NodeLineValue, node, edge, other, shape, IsNodeLine}
use Rattle.hm_schema_lines.specs.Entries.{EntryValue, says}
use Rattle.hm_schema_lines.specs.BadLines.{Says}
use Rattle.hm_schema_writer.specs.Writing.{line_text}
use Rattle.hm_schema_writer.specs.WrittenNodes.{name_at, shape_line, nodes_lines, IsWritableShape, IsWritableNode, IsWritable, AreOfNodes}
use Rattle.hm_schema_lines.proofs.Laws.{at_place, found_from}
use Rattle.hm_schema_writer.proofs.Written.{AreTexts, IsSound, line_reads}
use Rattle.hm_schema_writer.proofs.Lists.{map_at}
use Rattle.hm_schema_writer.proofs.WrittenCuts.{IsInner, an_edge, an_other, a_shape, inner_is}
use Rattle.hm_schema_writer.proofs.Lists.{all_at}
use Rattle.hm_schema_writer.proofs.WrittenLines.{IsInNode, begun, in_node, writable, child_there, other_there}
use Rattle.hm_schema_writer.proofs.WrittenShapes.{in_shape}

all_texts : (ks : List Name) → ((k : Name) → Contains ks k → IsUtf8 k) → AreTexts ks
all_texts [] h = tt
all_texts (k ∷ ks) h = (h k (0, omega arith, refl), all_texts ks (λ q c. h q (suc c.0, omega (arith, c.1), c.2)))

-- the names of a shape are those of edges
shape_texts : (n : NodeValue) (count : ℕ) → IsWritableNode count n → (t : Shape) → IsWellFormedShape n t → (k : Name)
    → Contains (ascending t.required ++ ascending t.optional) k → IsUtf8 k
shape_texts n count f t formed k c = go (find name_cmp k n.children) refl (formed.listed k (in_shape t k c))
  where
    go : (o : Option NodeId) → find name_cmp k n.children ≡ o → IsTrue (is_some o) → IsUtf8 k
    go None is there = let no : ⊥ = cc in absurd no
    go (Some id) is there =
        let at = found_from k id n.children is in
        let child : Name × NodeId = (k, id) in
        all_at (λ (child : Name × NodeId). IsUtf8 child.0) n.children f.texts at.0 child at.1

shape_sound : (n : NodeValue) (count : ℕ) → IsWritableNode count n → (t : Shape) → IsWellFormedShape n t → IsWritableShape t → IsSound (shape_line t)
unfolding IsSound
shape_sound n count f t formed fits = (
  all_texts (ascending t.required) (λ k c. shape_texts n count f t formed k (Contains-append_left (ascending t.required) (ascending t.optional) k c)),
  all_texts (ascending t.optional) (λ k c. shape_texts n count f t formed k (Contains-append_right (ascending t.required) (ascending t.optional) k c)),
  record { least = fits.least; most = fits.most },
)

edge_sound : (k w : Name) → IsUtf8 k → IsToken (Word w) → IsSound (edge k w)
unfolding IsSound
edge_sound k w h g = (h, g)

other_sound : (c : Class) (w : Name) → IsToken (Word w) → IsSound (other c w)
unfolding IsSound
other_sound c w h = h

node_sound : (w : Name) → IsToken (Word w) → IsSound (node w)
unfolding IsSound
node_sound w h = h

module _ (names : List Name) (nodes : List NodeValue) (h : IsWritable names nodes) where
  alone_there : AreOfNodes names nodes (map says (nodes_lines names nodes))
  alone_there = record {
    front = [];
    back = [];
    is = sym (append-nil (map says (nodes_lines names nodes)));
    before = λ x c. omega (arith, c.1);
    behind = λ x c. omega (arith, c.1);
  }

  module _ (es : List EntryValue) (a : AreOfNodes names nodes es) where
    inner_sound : (i : ℕ) (x : NodeLineValue) → IsInNode names nodes h es a i x → IsSound x
    inner_sound i x s = go (inner_is names s.value s.inner x s.line)
      where
        f : IsWritableNode (length nodes) s.value
        f = writable names nodes h es a s.order s.value s.is

        go : IsInner names s.value s.inner x → IsSound x
        go (an_edge child at same) =
            subst IsSound same (edge_sound child.0 (name_at names child.1)
            (all_at (λ (child : Name × NodeId). IsUtf8 child.0) s.value.children f.texts s.inner child at)
            (h.words child.1.place (name_at names child.1) (child_there names nodes h es a s.value f s.inner child at)))
        go (an_other o at place same) =
            subst IsSound same (other_sound o.0 (name_at names o.1)
            (h.words o.1.place (name_at names o.1) (other_there names nodes h es a s.value f o at)))
        go (a_shape t q at same) =
            subst IsSound same (shape_sound s.value (length nodes) f t
            (all_at (IsWellFormedShape s.value) s.value.shapes f.formed.shapes q t at)
            (all_at IsWritableShape s.value.shapes f.shapes q t at))

    line_sound : (i : ℕ) (x : NodeLineValue) → Says es i x → IsSound x
    line_sound i (node w) is = let b = begun names nodes h es a i w is in node_sound w (h.words b.order w b.named)
    line_sound i (edge k w) is = inner_sound i (edge k w) (in_node names nodes h es a i (edge k w) is refl)
    line_sound i (other c w) is = inner_sound i (other c w) (in_node names nodes h es a i (other c w) is refl)
    line_sound i (shape s) is = inner_sound i (shape s) (in_node names nodes h es a i (shape s) is refl)

  pub written_reads : (x : NodeLineValue) → Contains (nodes_lines names nodes) x → IsNodeLine (line_text x) x
  written_reads x c =
      let p = at_place (nodes_lines names nodes) x c in
      line_reads x (line_sound (map says (nodes_lines names nodes)) alone_there p.0 x (map_at says (nodes_lines names nodes) p.0 x p.1))
