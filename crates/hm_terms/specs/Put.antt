-- What a lens puts: the tree that comes of a view and the tree from before, or none (TOPLAS 2007, the putback functions).
use Rattle.std.specs.Prelude.{◌≡◌, not, Option, Some, None, IfSome}
use Rattle.std.specs.Option.{option_map}
use Rattle.std.specs.FinSet.{contains}
use Rattle.hm_tree.specs.Names.{Name}
use Rattle.hm_tree.specs.Classes.{IsInClass}
use Rattle.hm_tree.specs.Nodes.{Tree, below, with_edge, without_edge}
use Rattle.hm_tree.specs.Archives.{under}
use Rattle.hm_schema.specs.Values.{Names}
use Rattle.hm_text_lens.specs.Meanings.{TextMeaning}
use Rattle.hm_terms.specs.Lenses.{Lens, Lenses, identity, sequence, constant, hoist, plunge, fork, each, among, copy, merge, items, on_concrete, on_view, text, call, lens_at, Setting, body_of}
use Rattle.hm_text_lens.specs.Naming.{first_named}
use Rattle.hm_tree.specs.Parts.{part, Joins}
use Rattle.hm_tree_parts.specs.Edges.{names, IsEdge, IsValue}
use Rattle.hm_tree_parts.specs.Lists.{IsNil, IsItem, IsList, head, tail}
use Rattle.hm_tree_parts.specs.Twins.{MergedFrom}
use Rattle.hm_terms.specs.Before.{with_name, without_name}
use Rattle.hm_terms.specs.Shown.{Shows}

-- what a lens shows of the tree from before, where there is one
pub data ShowsBefore (S : Setting) (l : Lens) : Option Tree → Option Tree → Type 0 where
  none_before : ShowsBefore S l None None
  shown_before : {b m : Tree} → Shows S l b m → ShowsBefore S l (Some b) (Some m)

abbrev pub before_or : Tree → Option Tree → Tree
before_or d None = d
before_or d (Some b) = b

-- the text of the value from before, where there is one: it may be read by a text lens
pub data ValueBefore (m : TextMeaning) : Option Tree → Option Name → Type 0 where
  no_value_before : ValueBefore m None None
  value_before : {b : Tree} {u : Name} → IsValue u b → IsInClass m.from_class u → ValueBefore m (Some b) (Some u)

-- a lens puts a view a, with a tree b from before or with none, as a tree c
pub data Puts (S : Setting) : Lens → Tree → Option Tree → Tree → Type 0 where
  put_identity : {a : Tree} {b : Option Tree} → Puts S identity a b a
  -- k puts the view into what l shows of b, and l puts what comes of it into b
  put_sequence : {l k : Lens} {a m c : Tree} {b n : Option Tree} → ShowsBefore S l b n → Puts S k a n m → Puts S l m b c
      → Puts S (sequence l k) a b c
  put_constant : {t d a c : Tree} {b : Option Tree} → c ≡ before_or d b → Puts S (constant t d) a b c
  put_hoist : {n : Name} {a c : Tree} {b : Option Tree} → IsEdge n a c → Puts S (hoist n) a b c
  -- the child under the one edge of the view
  put_plunge : {n : Name} {a c : Tree} {b : Option Tree} → IsEdge n c a → Puts S (plunge n) a b c
  -- the two parts of the view, by the names of Q, into the two parts of b, by those of P
  put_fork : {P Q : Names} {l k : Lens} {a x y c : Tree} {b : Option Tree}
      → Puts S l (part (contains Q) a) (option_map (part (contains P)) b) x
      → Puts S k (part (λ n. not (contains Q n)) a) (option_map (part (λ n. not (contains P n))) b) y → Joins x y c
      → Puts S (fork P Q l k) a b c
  -- each child of the view, with the child of that name from before
  put_each : {l : Lens} {a c : Tree} {b : Option Tree} → names a ≡ names c
      → ((n : Name) (x y : Tree) → below n a ≡ Some x → below n c ≡ Some y → Puts S l x (under n b) y) → Puts S (each l) a b c
  put_among : {ls : Lenses} {a c : Tree} {b : Option Tree} → names a ≡ names c
      → ((n : Name) (l : Lens) (x y : Tree) → lens_at n ls ≡ Some l → below n a ≡ Some x → below n c ≡ Some y → Puts S l x (under n b) y)
      → ((n : Name) → lens_at n ls ≡ None → below n c ≡ below n a) → Puts S (among ls) a b c
  -- each item of the view, with the item at its place from before; what is from before is a list too
  put_items_none : {l : Lens} {a c : Tree} {b : Option Tree} → IfSome b IsList → IsNil a → IsNil c → Puts S (items l) a b c
  put_items_more : {l : Lens} {a x r c h t : Tree} {b : Option Tree} → IfSome b IsList → IsItem x r a
      → Puts S l x (under head b) h → Puts S (items l) r (under tail b) t → IsItem h t c → Puts S (items l) a b c
  put_copy : {m n : Name} {a c : Tree} {b : Option Tree} → c ≡ without_edge n a → Puts S (copy m n) a b c
  put_merge : {m n : Name} {a x y c : Tree} {b : Option Tree} → below m a ≡ Some x → below n a ≡ None → MergedFrom m n x b y
      → c ≡ with_edge n y a → Puts S (merge m n) a b c
  -- the tree from before tells which lens puts
  put_concrete_has : {n : Name} {l k : Lens} {a c x : Tree} {b : Option Tree} → under n b ≡ Some x → Puts S l a b c
      → Puts S (on_concrete n l k) a b c
  put_concrete_none : {n : Name} {l k : Lens} {a c : Tree} {b : Option Tree} → under n b ≡ None → Puts S k a b c
      → Puts S (on_concrete n l k) a b c
  -- the view tells it by m; a tree from before of the other kind counts as none
  put_view_has : {n m : Name} {l k : Lens} {a c x : Tree} {b : Option Tree} → below m a ≡ Some x → Puts S l a (with_name n b) c
      → Puts S (on_view n m l k) a b c
  put_view_none : {n m : Name} {l k : Lens} {a c : Tree} {b : Option Tree} → below m a ≡ None → Puts S k a (without_name n b) c
      → Puts S (on_view n m l k) a b c
  -- the value through the text lens, with the value from before
  put_text : {x w : Name} {m : TextMeaning} {a c : Tree} {b : Option Tree} {u : Option Name} → first_named x S.texts ≡ Some m → IsInClass m.into_class w → IsValue w a
      → ValueBefore m b u → IsValue (m.put_of w u) c → Puts S (text x) a b c
  put_call : {n : Name} {l : Lens} {a c : Tree} {b : Option Tree} → body_of S.definitions n ≡ Some l → Puts S l a b c → Puts S (call n) a b c
