-- A node of a table stands for the same form after the table has grown.
use Rattle.std.proofs.Common.{◌≡◌, ℕ, ◌<◌, ◌≤◌, List, [], ◌∷◌, ◌++◌, length, map, slice_get, Option, Some, None, IfSome, All, refl, sym, ap, ◌∙◌, arith, option_and_then, length-append, append_assoc}
use Rattle.std.specs.Option.{option_map}
use Rattle.std.proofs.lemmas.List.{append-nil}
use Rattle.std.proofs.lemmas.List.Elements.{All-weaker, All-head, All-tail}
use Rattle.hm_tree.specs.declared.class.Class.{Class}
use Rattle.hm_tree.specs.Names.{Name}
use Rattle.hm_schema.specs.declared.node.NodeId.{NodeId}
use Rattle.hm_schema.specs.Values.{NodeValue}
use Rattle.hm_schema.specs.WellFormed.{IsWellFormedNode}
use Rattle.hm_schema.proofs.Lists.{all_read}
use Rattle.hm_types_forms.specs.Forms.{Form, Way, label_of, next_of, form}
use Rattle.hm_types_forms.proofs.TidiedSteps.{next_in_range}
use Rattle.hm_types_table.specs.Tables.{Nodes, AreFormed, Extends, opened}
use Rattle.hm_types_table.proofs.Places.{at_front}

-- ---- tables that grow

pub extends_self : (nodes : Nodes) → Extends nodes nodes
extends_self nodes = record { more = []; is = sym (append-nil nodes) }

pub extends_then : (one two three : Nodes) → Extends one two → Extends two three → Extends one three
extends_then one two three a b =
    record { more = a.more ++ b.more; is = b.is ∙ ap (λ l. l ++ b.more) a.is ∙ append_assoc one a.more b.more }

pub extends_length : (old new : Nodes) → Extends old new → length old ≤ length new
extends_length old new e = omega (arith, ap length e.is, length-append old e.more)

pub extends_at : (old new : Nodes) (i : ℕ) → Extends old new → i < length old → slice_get new i ≡ slice_get old i
extends_at old new i e lt = ap (λ nodes. slice_get nodes i) e.is ∙ at_front old e.more i lt

-- a node that is well formed among so many nodes is so among more
pub well_more : (count more : ℕ) (n : NodeValue) → count ≤ more → IsWellFormedNode count n → IsWellFormedNode more n
well_more count more n le h = record {
  ascending = h.ascending;
  children = All-weaker (λ (c : Name × NodeId). c.1.place < count) (λ (c : Name × NodeId). c.1.place < more) (λ c lt. omega (arith, lt)) n.children h.children;
  other = other n.other h.other;
  shapes = h.shapes;
  some_shape = h.some_shape;
  twins = h.twins;
}
  where
    other : (o : Option (Class × NodeId)) → IfSome o (λ o. o.1.place < count) → IfSome o (λ o. o.1.place < more)
    other None h = tt
    other (Some o) h = omega (arith, h)

pub formed_at : (nodes : Nodes) (i : NodeId) (n : NodeValue) → AreFormed nodes → slice_get nodes i.place ≡ Some n → IsWellFormedNode (length nodes) n
formed_at nodes i n h e = all_read (IsWellFormedNode (length nodes)) nodes i.place n e h

-- ---- forms

module _ (old new : Nodes) (h : AreFormed old) (extends : Extends old new) where
  form_at : (w : Way) (i : NodeId) → i.place < length old → form new i w ≡ form old i w
  form_at [] i lt = ap (option_map label_of) (extends_at old new i.place extends lt)
  form_at (s ∷ w) i lt =
      ap (option_and_then (λ n. option_and_then (λ j. form new j w) (next_of n s))) (extends_at old new i.place extends lt)
      ∙ go (slice_get old i.place) refl (λ j lt. form_at w j lt)
    where
      next : (n : NodeValue) → IsWellFormedNode (length old) n → ((j : NodeId) → j.place < length old → form new j w ≡ form old j w)
          → (x : Option NodeId) → next_of n s ≡ x → option_and_then (λ j. form new j w) x ≡ option_and_then (λ j. form old j w) x
      next n formed rest None e = refl
      next n formed rest (Some j) e = rest j (next_in_range (length old) n s j formed e)

      go : (x : Option NodeValue) → slice_get old i.place ≡ x → ((j : NodeId) → j.place < length old → form new j w ≡ form old j w)
          → option_and_then (λ n. option_and_then (λ j. form new j w) (next_of n s)) x
          ≡ option_and_then (λ n. option_and_then (λ j. form old j w) (next_of n s)) x
      go None e rest = refl
      go (Some n) e rest = next n (formed_at old i n h e) rest (next_of n s) refl

  pub form_extends : (i : NodeId) → i.place < length old → form new i ≡ form old i
  form_extends i lt = λ p w. form_at w i lt p

  -- and so does what the edges of a well formed node lead to
  pub opened_extends : (n : NodeValue) → IsWellFormedNode (length old) n → opened new n ≡ opened old n
  opened_extends n w =
      let cs = children n.children w.children in
      let o = other n.other w.other in
      λ i. record { shapes = n.shapes; children = cs i; other = o i; twins = n.twins }
    where
      children : (cs : List (Name × NodeId)) → All (λ c. c.1.place < length old) cs
          → map {B = Name × Form} (λ c. (c.0, form new c.1)) cs ≡ map {B = Name × Form} (λ c. (c.0, form old c.1)) cs
      children [] all = refl
      children (c ∷ cs) all =
          let one = form_extends c.1 (All-head (λ (c : Name × NodeId). c.1.place < length old) c cs all) in
          let rest = children cs (All-tail (λ (c : Name × NodeId). c.1.place < length old) c cs all) in
          λ i. (c.0, one i) ∷ rest i

      other : (o : Option (Class × NodeId)) → IfSome o (λ o. o.1.place < length old)
          → option_map {U = Class × Form} (λ o. (o.0, form new o.1)) o ≡ option_map {U = Class × Form} (λ o. (o.0, form old o.1)) o
      other None lt = refl
      other (Some o) lt = ap (λ (u : Form). let p : Class × Form = (o.0, u) in Some p) (form_extends o.1 lt)
