-- What a lens keeps of what it doesn't show, from one tree to another. It doesn't speak of putting.
use Rattle.std.specs.Prelude.{◌≡◌, not, Some, None}
use Rattle.std.specs.FinSet.{contains}
use Rattle.hm_tree.specs.Names.{Name}
use Rattle.hm_tree.specs.Nodes.{Tree, below}
use Rattle.hm_schema.specs.Values.{Names}
use Rattle.hm_text_lens.specs.Meanings.{TextMeaning}
use Rattle.hm_terms.specs.Lenses.{Lens, Lenses, identity, sequence, constant, hoist, plunge, fork, each, among, copy, merge, items, on_concrete, on_view, text, call, lens_at, Setting, body_of}
use Rattle.hm_text_lens.specs.Naming.{first_named}
use Rattle.hm_tree.specs.Parts.{part}
use Rattle.hm_tree_parts.specs.Lists.{IsNil, IsItem}
use Rattle.hm_tree_parts.specs.Edges.{IsValue}
use Rattle.hm_terms.specs.Shown.{Shows}

pub data Keeps (S : Setting) : Lens → Tree → Tree → Type 0 where
  -- these show all of a tree
  keeps_identity : {c d : Tree} → Keeps S identity c d
  keeps_hoist : {n : Name} {c d : Tree} → Keeps S (hoist n) c d
  keeps_plunge : {n : Name} {c d : Tree} → Keeps S (plunge n) c d
  keeps_copy : {m n : Name} {c d : Tree} → Keeps S (copy m n) c d
  -- l keeps between the trees, and k between what l shows of them
  keeps_sequence : {l k : Lens} {c d m n : Tree} → Keeps S l c d → Shows S l c m → Shows S l d n → Keeps S k m n
      → Keeps S (sequence l k) c d
  -- all of a tree
  keeps_constant : {t d c : Tree} → Keeps S (constant t d) c c
  keeps_fork : {P Q : Names} {l k : Lens} {c d : Tree} → Keeps S l (part (contains P) c) (part (contains P) d)
      → Keeps S k (part (λ n. not (contains P n)) c) (part (λ n. not (contains P n)) d) → Keeps S (fork P Q l k) c d
  -- at each name that both have
  keeps_each : {l : Lens} {c d : Tree} → ((n : Name) (x y : Tree) → below n c ≡ Some x → below n d ≡ Some y → Keeps S l x y)
      → Keeps S (each l) c d
  keeps_among : {ls : Lenses} {c d : Tree}
      → ((n : Name) (l : Lens) (x y : Tree) → lens_at n ls ≡ Some l → below n c ≡ Some x → below n d ≡ Some y → Keeps S l x y)
      → Keeps S (among ls) c d
  -- at each place that both have
  keeps_items_from_none : {l : Lens} {c d : Tree} → IsNil c → Keeps S (items l) c d
  keeps_items_to_none : {l : Lens} {c d : Tree} → IsNil d → Keeps S (items l) c d
  keeps_items_more : {l : Lens} {c h t d x r : Tree} → IsItem h t c → IsItem x r d → Keeps S l h x → Keeps S (items l) t r
      → Keeps S (items l) c d
  -- two children that were the same are the same, and one that was another stays
  keeps_merge_same : {m n : Name} {c d x y : Tree} → below m c ≡ Some x → below n c ≡ Some x → below m d ≡ Some y → below n d ≡ Some y
      → Keeps S (merge m n) c d
  keeps_merge_other : {m n : Name} {c d x y : Tree} → below m c ≡ Some x → below n c ≡ Some y → ¬ (x ≡ y) → below n d ≡ Some y
      → Keeps S (merge m n) c d
  -- both trees have n, or neither has
  keeps_concrete_has : {n : Name} {l k : Lens} {c d x y : Tree} → below n c ≡ Some x → below n d ≡ Some y → Keeps S l c d
      → Keeps S (on_concrete n l k) c d
  keeps_concrete_none : {n : Name} {l k : Lens} {c d : Tree} → below n c ≡ None → below n d ≡ None → Keeps S k c d
      → Keeps S (on_concrete n l k) c d
  -- the same; where one alone has it, nothing is asked
  keeps_view_has : {n m : Name} {l k : Lens} {c d x y : Tree} → below n c ≡ Some x → below n d ≡ Some y → Keeps S l c d
      → Keeps S (on_view n m l k) c d
  keeps_view_none : {n m : Name} {l k : Lens} {c d : Tree} → below n c ≡ None → below n d ≡ None → Keeps S k c d
      → Keeps S (on_view n m l k) c d
  keeps_view_in : {n m : Name} {l k : Lens} {c d y : Tree} → below n c ≡ None → below n d ≡ Some y → Keeps S (on_view n m l k) c d
  keeps_view_out : {n m : Name} {l k : Lens} {c d x : Tree} → below n c ≡ Some x → below n d ≡ None → Keeps S (on_view n m l k) c d
  -- what a text hides, where both show the same
  keeps_text : {x u v : Name} {m : TextMeaning} {c d : Tree} → first_named x S.texts ≡ Some m → IsValue u c → IsValue v d
      → (m.get_of u ≡ m.get_of v → m.hidden_of u ≡ m.hidden_of v) → Keeps S (text x) c d
  keeps_call : {n : Name} {l : Lens} {c d : Tree} → body_of S.definitions n ≡ Some l → Keeps S l c d → Keeps S (call n) c d
