-- What a lens shows of a tree: its view (TOPLAS 2007, the get functions). It holds where a finite tree of these rules
-- gives it.
use Rattle.std.specs.Prelude.{◌≡◌, not, Some, None}
use Rattle.std.specs.FinSet.{contains}
use Rattle.hm_tree.specs.Names.{Name}
use Rattle.hm_tree.specs.Classes.{IsInClass}
use Rattle.hm_tree.specs.Nodes.{Tree, below, with_edge, without_edge}
use Rattle.hm_schema.specs.Values.{Names}
use Rattle.hm_text_lens.specs.Meanings.{TextMeaning}
use Rattle.hm_terms.specs.Lenses.{Lens, Lenses, identity, sequence, constant, hoist, plunge, fork, each, among, copy, merge, items, on_concrete, on_view, text, call, lens_at, Setting, body_of}
use Rattle.hm_text_lens.specs.Naming.{first_named}
use Rattle.hm_tree.specs.Parts.{part, Joins}
use Rattle.hm_tree_parts.specs.Edges.{names, IsEdge, IsValue}
use Rattle.hm_tree_parts.specs.Lists.{IsNil, IsItem}

pub data Shows (S : Setting) : Lens → Tree → Tree → Type 0 where
  by_identity : {c : Tree} → Shows S identity c c
  by_sequence : {l k : Lens} {c m v : Tree} → Shows S l c m → Shows S k m v → Shows S (sequence l k) c v
  by_constant : {t d c : Tree} → Shows S (constant t d) c t
  -- the child under the one edge
  by_hoist : {n : Name} {c v : Tree} → IsEdge n v c → Shows S (hoist n) c v
  by_plunge : {n : Name} {c v : Tree} → IsEdge n c v → Shows S (plunge n) c v
  -- what the two lenses show of the two parts, joined
  by_fork : {P Q : Names} {l k : Lens} {c x y v : Tree} → Shows S l (part (contains P) c) x
      → Shows S k (part (λ n. not (contains P n)) c) y → Joins x y v → Shows S (fork P Q l k) c v
  -- each child through the lens
  by_each : {l : Lens} {c v : Tree} → names c ≡ names v
      → ((n : Name) (x y : Tree) → below n c ≡ Some x → below n v ≡ Some y → Shows S l x y) → Shows S (each l) c v
  -- each child whose name has a lens through that, and the others as they are
  by_among : {ls : Lenses} {c v : Tree} → names c ≡ names v
      → ((n : Name) (l : Lens) (x y : Tree) → lens_at n ls ≡ Some l → below n c ≡ Some x → below n v ≡ Some y → Shows S l x y)
      → ((n : Name) → lens_at n ls ≡ None → below n v ≡ below n c) → Shows S (among ls) c v
  -- each item of a list
  by_items_none : {l : Lens} {c v : Tree} → IsNil c → IsNil v → Shows S (items l) c v
  by_items_more : {l : Lens} {c h t v x r : Tree} → IsItem h t c → Shows S l h x → Shows S (items l) t r → IsItem x r v
      → Shows S (items l) c v
  -- the tree, and the child of m under n too
  by_copy : {m n : Name} {c x v : Tree} → below m c ≡ Some x → below n c ≡ None → v ≡ with_edge n x c → Shows S (copy m n) c v
  by_merge : {m n : Name} {c v : Tree} → v ≡ without_edge n c → Shows S (merge m n) c v
  -- the first lens where the tree has n, and the second where it hasn't
  by_concrete_has : {n : Name} {l k : Lens} {c v x : Tree} → below n c ≡ Some x → Shows S l c v → Shows S (on_concrete n l k) c v
  by_concrete_none : {n : Name} {l k : Lens} {c v : Tree} → below n c ≡ None → Shows S k c v → Shows S (on_concrete n l k) c v
  by_view_has : {n m : Name} {l k : Lens} {c v x : Tree} → below n c ≡ Some x → Shows S l c v → Shows S (on_view n m l k) c v
  by_view_none : {n m : Name} {l k : Lens} {c v : Tree} → below n c ≡ None → Shows S k c v → Shows S (on_view n m l k) c v
  -- the value through the text lens, whose class it is of
  by_text : {x v : Name} {m : TextMeaning} {c a : Tree} → first_named x S.texts ≡ Some m → IsInClass m.from_class v → IsValue v c → IsValue (m.get_of v) a
      → Shows S (text x) c a
  by_call : {n : Name} {l : Lens} {c v : Tree} → body_of S.definitions n ≡ Some l → Shows S l c v → Shows S (call n) c v
