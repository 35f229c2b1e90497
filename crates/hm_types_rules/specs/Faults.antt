-- Where a lens goes from a source to no view: the first condition that isn't met. A lens has its conditions on the source
-- first, then its inner lenses from left to right, then its conditions on their views.
use Rattle.std.specs.Prelude.{◌≡◌, ℕ, ◌+◌, true, Some}
use Rattle.std.specs.declared.cmp.Ordering.TheVariants.{Less}
use Rattle.hm_tree.specs.Names.{Name, name_cmp}
use Rattle.hm_tree.specs.Nodes.{Tree}
use Rattle.hm_schema.specs.declared.node.Shape.{Shape}
use Rattle.hm_schema.specs.Values.{Names, NodeOver}
use Rattle.hm_terms.specs.Lenses.{Lens, Lenses, none, also, identity, sequence, constant, hoist, plunge, fork, each, among, items, copy, merge, on_concrete, on_view, text, call, lens_at}
use Rattle.hm_tree.specs.declared.class.Class.{Class}
use Rattle.hm_terms.specs.WellFormedPrograms.{IsAmong}
use Rattle.hm_types_nodes.specs.Branching.{node_with, node_without}
use Rattle.hm_types_nodes.specs.Copying.{CanCopy, CanHide}
use Rattle.hm_types_forms.specs.Forms.{Form, Label, Step, named, others, under, node_of, formed, can_be}
use Rattle.hm_types_forms.specs.Members.{Member}
use Rattle.hm_types_forms.specs.SameForms.{IsSame}
use Rattle.hm_types_rules.specs.Typing.{Types, Goes, IsAlone, IsForked, inside_form, outside_form, AreJoinable, IsPlain, AreListed, IsList, IsItems, IsBranched, AreMergeable, AreValues}

-- how many lenses a lens has, itself among them: these are numbered, a lens before its inner ones, from left to right
abbrev mutual
  pub size_of : Lens → ℕ
  size_of identity = 1
  size_of (sequence l k) = 1 + (size_of l + size_of k)
  size_of (constant t d) = 1
  size_of (hoist n) = 1
  size_of (plunge n) = 1
  size_of (fork P Q l k) = 1 + (size_of l + size_of k)
  size_of (each l) = 1 + size_of l
  size_of (among ls) = 1 + size_of_all ls
  size_of (items l) = 1 + size_of l
  size_of (copy m n) = 1
  size_of (merge m n) = 1
  size_of (text x) = 1
  size_of (on_concrete m l k) = 1 + (size_of l + size_of k)
  size_of (on_view m n l k) = 1 + (size_of l + size_of k)
  size_of (call n) = 1

  pub size_of_all : Lenses → ℕ
  size_of_all none = 0
  size_of_all (also n l ls) = size_of l + size_of_all ls

-- the number of a lens, and the rule whose condition isn't met
pub record At : Type 0 where
  pub term : ℕ
  pub rule : ℕ

abbrev pub at : ℕ → ℕ → At
at term rule = record { term = term; rule = rule }

-- listed names in ascending order, then all other names
abbrev pub Before : Step → Step → Type 0
Before (named k) (named m) = name_cmp k m ≡ Less
Before (named k) others = Unit {0}
Before others s = ⊥

-- a lens goes somewhere
pub record GoesOn (T : Types) (l : Lens) (u : Form) : Type 0 where
  pub view : Form
  pub goes : Goes T l u view

-- named lenses behind others
abbrev pub behind : Lenses → Lenses → Lenses
behind none ls = ls
behind (also k l rest) ls = also k l (behind rest ls)

pub data Faults (T : Types) : Lens → ℕ → Form → At → Type 0 where
  fault_first : {l k : Lens} {n : ℕ} {u : Form} {f : At} → Faults T l (n + 1) u f → Faults T (sequence l k) n u f
  fault_second : {l k : Lens} {n : ℕ} {u m : Form} {f : At} → Goes T l u m → Faults T k (n + 1 + size_of l) m f
      → Faults T (sequence l k) n u f
  fault_constant : {t d : Tree} {n : ℕ} {u : Form} → ¬ (Member u d) → Faults T (constant t d) n u (at n 3)
  fault_hoist : {m : Name} {n : ℕ} {u : Form} → ((w : NodeOver Form) → node_of u ≡ Some w → ¬ (IsAlone m w))
      → Faults T (hoist m) n u (at n 4)
  -- the source can't be parted; a part is at fault; the two views can't be joined
  fault_fork : {P Q : Names} {l k : Lens} {n : ℕ} {u : Form} → ((w : NodeOver Form) (a : Shape) → ¬ (IsForked P u w a))
      → Faults T (fork P Q l k) n u (at n 6)
  fault_inside : {P Q : Names} {l k : Lens} {n : ℕ} {u : Form} {w : NodeOver Form} {a : Shape} {f : At} → IsForked P u w a
      → Faults T l (n + 1) (inside_form P w a) f → Faults T (fork P Q l k) n u f
  fault_outside : {P Q : Names} {l k : Lens} {n : ℕ} {u x : Form} {w : NodeOver Form} {a : Shape} {f : At} → IsForked P u w a
      → Goes T l (inside_form P w a) x → Faults T k (n + 1 + size_of l) (outside_form P w a) f → Faults T (fork P Q l k) n u f
  fault_joined : {P Q : Names} {l k : Lens} {n : ℕ} {u x y : Form} {w : NodeOver Form} {a : Shape} → IsForked P u w a
      → Goes T l (inside_form P w a) x → Goes T k (outside_form P w a) y → ((one two : NodeOver Form) → ¬ (AreJoinable Q x y one two))
      → Faults T (fork P Q l k) n u (at n 6)
  -- the source has twins; the lens inside is at fault on the first step on which it doesn't go
  fault_each : {l : Lens} {n : ℕ} {u : Form} → ((a : Label) → ¬ (IsPlain u a)) → Faults T (each l) n u (at n 7)
  fault_child : {l : Lens} {n : ℕ} {u : Form} {a : Label} {f : At} (s : Step) → IsPlain u a → can_be a s ≡ true
      → ((r : Step) → Before r s → can_be a r ≡ true → GoesOn T l (under r u)) → Faults T l (n + 1) (under s u) f
      → Faults T (each l) n u f
  -- the source has twins or doesn't list a name; the first named lens that doesn't go, in their order, is at fault
  fault_among : {ls : Lenses} {n : ℕ} {u : Form} → ((a : Label) → IsPlain u a → ¬ (AreListed a ls)) → Faults T (among ls) n u (at n 8)
  fault_named : {ls : Lenses} (before after : Lenses) {k : Name} {l : Lens} {n : ℕ} {u : Form} {a : Label} {f : At} → IsPlain u a → AreListed a ls
      → ls ≡ behind before (also k l after) → lens_at k ls ≡ Some l
      → ((m : Name) (j : Lens) → IsAmong m j before → GoesOn T j (under (named m) u))
      → Faults T l (n + 1 + size_of_all before) (under (named k) u) f → Faults T (among ls) n u f
  -- the source is no list; the lens inside is at fault on its items
  fault_items : {l : Lens} {n : ℕ} {u : Form} → ((x : Form) (b : _) → ¬ (IsList u x b)) → ((x : Form) (b : _) → ¬ (IsItems u x b))
      → Faults T (items l) n u (at n 9)
  fault_list_item : {l : Lens} {n : ℕ} {u x : Form} {b : _} {f : At} → IsList u x b → Faults T l (n + 1) x f → Faults T (items l) n u f
  fault_some_item : {l : Lens} {n : ℕ} {u x : Form} {b : _} {f : At} → IsItems u x b → Faults T l (n + 1) x f → Faults T (items l) n u f
  fault_copy : {m o : Name} {n : ℕ} {u : Form} → ((w : NodeOver Form) → node_of u ≡ Some w → ¬ (CanCopy m o w))
      → Faults T (copy m o) n u (at n 10)
  fault_merge : {m o : Name} {n : ℕ} {u : Form} → ((w : NodeOver Form) → node_of u ≡ Some w → ¬ (CanHide IsSame m o w))
      → Faults T (merge m o) n u (at n 11)
  -- the source has no two sides; a side is at fault; the views of the two sides aren't the same
  fault_concrete : {m : Name} {l k : Lens} {n : ℕ} {u : Form} → ((w : NodeOver Form) → ¬ (IsBranched m u w))
      → Faults T (on_concrete m l k) n u (at n 12)
  fault_where_it_has : {m : Name} {l k : Lens} {n : ℕ} {u : Form} {w : NodeOver Form} {f : At} → IsBranched m u w
      → Faults T l (n + 1) (formed (node_with m w)) f → Faults T (on_concrete m l k) n u f
  fault_where_it_lacks : {m : Name} {l k : Lens} {n : ℕ} {u x : Form} {w : NodeOver Form} {f : At} → IsBranched m u w
      → Goes T l (formed (node_with m w)) x → Faults T k (n + 1 + size_of l) (formed (node_without m w)) f
      → Faults T (on_concrete m l k) n u f
  fault_apart : {m : Name} {l k : Lens} {n : ℕ} {u x y : Form} {w : NodeOver Form} → IsBranched m u w
      → Goes T l (formed (node_with m w)) x → Goes T k (formed (node_without m w)) y → ¬ (IsSame x y)
      → Faults T (on_concrete m l k) n u (at n 12)
  -- the same where the view tells the sides apart: the two views can't be merged
  fault_view : {m o : Name} {l k : Lens} {n : ℕ} {u : Form} → ((w : NodeOver Form) → ¬ (IsBranched m u w))
      → Faults T (on_view m o l k) n u (at n 13)
  fault_where_it_showed : {m o : Name} {l k : Lens} {n : ℕ} {u : Form} {w : NodeOver Form} {f : At} → IsBranched m u w
      → Faults T l (n + 1) (formed (node_with m w)) f → Faults T (on_view m o l k) n u f
  fault_where_it_did_not : {m o : Name} {l k : Lens} {n : ℕ} {u x : Form} {w : NodeOver Form} {f : At} → IsBranched m u w
      → Goes T l (formed (node_with m w)) x → Faults T k (n + 1 + size_of l) (formed (node_without m w)) f
      → Faults T (on_view m o l k) n u f
  fault_merged : {m o : Name} {l k : Lens} {n : ℕ} {u x y : Form} {w : NodeOver Form} → IsBranched m u w
      → Goes T l (formed (node_with m w)) x → Goes T k (formed (node_without m w)) y
      → ((one two : NodeOver Form) → ¬ (AreMergeable o x y one two)) → Faults T (on_view m o l k) n u (at n 13)
  -- there is no text lens of this name, or the source doesn't have values of the class that it reads
  fault_text : {x : Name} {n : ℕ} {u : Form} → ((c d : Class) (w : NodeOver Form) → T.texts x ≡ Some (c, d) → ¬ (AreValues c u w))
      → Faults T (text x) n u (at n 14)
  -- there is no definition of this name, or its source is another
  fault_call : {m : Name} {n : ℕ} {u : Form} → ((x v : Form) → T.declared m ≡ Some (x, v) → ¬ (IsSame u x)) → Faults T (call m) n u (at n 15)
