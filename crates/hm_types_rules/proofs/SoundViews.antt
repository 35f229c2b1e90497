-- A view of a sound form is sound.
use Rattle.std.proofs.Common.{◌≡◌, ◌⊎◌, ◌<◌, Bool, true, false, cond, List, [], ◌∷◌, length, Option, Some, None, All, refl, sym, ap, subst, ◌∙◌, arith, inl, inr}
use Rattle.std.specs.Option.{option_map, option_or}
use Rattle.std.specs.Ordering.{eq_by_cmp}
use Rattle.std.specs.FinMap.{find}
use Rattle.std.specs.FinSet.{contains}
use Rattle.std.proofs.lemmas.Option.{same_Some, none-some}
use Rattle.hm_tree.specs.declared.class.Class.{Class}
use Rattle.hm_tree.specs.Names.{Name, name_cmp}
use Rattle.hm_schema.specs.declared.node.Shape.{Shape}
use Rattle.hm_schema.specs.Values.{Names, NodeOver}
use Rattle.hm_schema.specs.WellFormed.{IsWellFormedShape}
use Rattle.hm_schema.specs.Shapes.{RequiresTwins, shaped}
use Rattle.hm_types_nodes.specs.Parting.{part_node, shape_in, shape_out}
use Rattle.hm_types_nodes.specs.Joining.{CanJoin, IsJoined}
use Rattle.hm_types_nodes.specs.Branching.{node_with, node_without}
use Rattle.hm_types_nodes.specs.Merging.{CanMerge, IsMerged}
use Rattle.hm_types_nodes.specs.Copying.{CanCopy, IsCopied, CanHide, hidden_node}
use Rattle.hm_schema_lists.specs.Plain.{edge_node}
use Rattle.hm_schema_lists.specs.Values.{with_class}
use Rattle.hm_types_nodes.proofs.Parting.{part_nodes_require, part_nodes_well}
use Rattle.hm_types_nodes.proofs.JoinedNodes.{join_child, join_some, join_requires, join_well}
use Rattle.hm_types_nodes.proofs.Branching.{with_well, without_well}
use Rattle.hm_types_nodes.proofs.MergedNodes.{merged_well, merged_some}
use Rattle.hm_types_nodes.proofs.Copying.{copied_well, copied_requires, copied_some}
use Rattle.hm_schema.proofs.Reshaped.{plain_requires}
use Rattle.hm_types_nodes.proofs.Hiding.{hidden_well, hidden_some}
use Rattle.hm_schema_lists.proofs.Plain.{edge_node_of}
use Rattle.hm_types_forms.specs.Forms.{Form, named, others, node_of, formed}
use Rattle.hm_types_forms.specs.SameForms.{IsSame}
use Rattle.hm_types_forms.specs.Sound.{IsSoundNode, IsSound}
use Rattle.hm_types_rules.specs.Typing.{IsForked, inside_form, outside_form, IsBranched, AreValues}
use Rattle.hm_types_forms.specs.Members.{Member}
use Rattle.hm_types_forms.proofs.SameMembers.{AreSoundSame, sound_same}
use Rattle.hm_types_forms.proofs.SoundForms.{LeadsToSound, formed_sound, node_sound, leads_sound}

module _ (u : Form) (n : NodeOver Form) (is : node_of u ≡ Some n) (h : IsSound u) where
  -- a node with other shapes and twins
  pub shaped_sound : (shapes : List Shape) (twins : List (Name × Name)) → 0 < length shapes
      → All (IsWellFormedShape (shaped n shapes twins)) shapes → RequiresTwins (shaped n shapes twins) → IsSound (formed (shaped n shapes twins))
  shaped_sound shapes twins some well own = formed_sound (shaped n shapes twins)
      (record { ascending = (node_sound u n is h).ascending; some = some; well = well; own = own })
      (leads u n is h)
    where
      leads : (u : Form) (n : NodeOver Form) → node_of u ≡ Some n → IsSound u → LeadsToSound (shaped n shapes twins)
      leads u n is h (named k) v e = leads_sound u n is h (named k) v e
      leads u n is h others v e = leads_sound u n is h others v e

-- ---- what the two lenses of a fork and of a conditional are checked at

module _ (P : Names) (u : Form) (n : NodeOver Form) (a : Shape) (f : IsForked P u n a) (h : IsSound u) where
  pub inside_sound : IsSound (inside_form P n a)
  inside_sound =
      let s = node_sound u n f.node h in
      let w = part_nodes_well (contains P) n a f.parted.one s.well in
      let r = part_nodes_require (contains P) n a f.parted.one s.own in
      shaped_sound u n f.node h (shape_in (contains P) a ∷ []) (part_node n (shape_in (contains P) a)).twins (omega arith) w.0 r.0

  pub outside_sound : IsSound (outside_form P n a)
  outside_sound =
      let s = node_sound u n f.node h in
      let w = part_nodes_well (contains P) n a f.parted.one s.well in
      let r = part_nodes_require (contains P) n a f.parted.one s.own in
      shaped_sound u n f.node h (shape_out (contains P) a ∷ []) (part_node n (shape_out (contains P) a)).twins (omega arith) w.1 r.1

module _ (m : Name) (u : Form) (n : NodeOver Form) (b : IsBranched m u n) (h : IsSound u) where
  pub with_sound : IsSound (formed (node_with m n))
  with_sound = shaped_sound u n b.node h (node_with m n).shapes [] b.with_it (with_well n m b.listed (node_sound u n b.node h).well)
      (plain_requires (node_with m n) refl)

  pub without_sound : IsSound (formed (node_without m n))
  without_sound = shaped_sound u n b.node h (node_without m n).shapes [] b.without_it (without_well n m b.listed (node_sound u n b.node h).well)
      (plain_requires (node_without m n) refl)

-- ---- the views

module _ (q : Name → Bool) (x y : Form) (one two w : NodeOver Form) (is_one : node_of x ≡ Some one) (is_two : node_of y ≡ Some two)
    (c : CanJoin q one two) (j : IsJoined q one two w) (h : IsSound x) (g : IsSound y) where
  pub joined_sound : IsSound (formed w)
  joined_sound = formed_sound w (record {
    ascending = j.ascending;
    some = join_some q one two w c j a.some b.some;
    well = join_well q one two w c j a.well b.well;
    own = join_requires q one two w c j a.own b.own;
  }) leads
    where
      a : IsSoundNode one
      a = node_sound x one is_one h

      b : IsSoundNode two
      b = node_sound y two is_two g

      leads : LeadsToSound w
      leads (named k) v e = elim (join_child q one two w c j k v e) [
        | inl i ↦ leads_sound x one is_one h (named k) v i
        | inr i ↦ leads_sound y two is_two g (named k) v i
      ]
      leads others v e = leads_sound y two is_two g others v (sym (ap (option_map (λ (o : Class × Form). o.1)) j.other) ∙ e)

-- one of two values, the first where it is there
either : {X : Type 0} (x y : Option X) (v : X) → option_or x y ≡ Some v → (x ≡ Some v) ⊎ (y ≡ Some v)
either None y v e = inr e
either (Some z) y v e = inl e

either_other : (x y : Option (Class × Form)) (v : Form) → option_map (λ (o : Class × Form). o.1) (option_or x y) ≡ Some v
    → (option_map (λ (o : Class × Form). o.1) x ≡ Some v) ⊎ (option_map (λ (o : Class × Form). o.1) y ≡ Some v)
either_other None y v e = inr e
either_other (Some z) y v e = inl e

module _ (o : Name) (x y : Form) (one two w : NodeOver Form) (is_one : node_of x ≡ Some one) (is_two : node_of y ≡ Some two)
    (c : CanMerge IsSame o one two) (j : IsMerged o one two w) (h : IsSound x) (g : IsSound y) where
  -- what the two views lead to is the same and sound
  pub sound_merge : CanMerge AreSoundSame o one two
  sound_merge = record {
    required = c.required;
    absent = c.absent;
    lists = c.lists;
    agree = record {
      children = λ k a b e f. record {
        same = c.agree.children k a b e f;
        first = leads_sound x one is_one h (named k) a e;
        second = leads_sound y two is_two g (named k) b f;
      };
      others = λ a b e f. (
        (c.agree.others a b e f).0,
        record {
          same = (c.agree.others a b e f).1;
          first = leads_sound x one is_one h others a.1 (ap (option_map (λ (o : Class × Form). o.1)) e);
          second = leads_sound y two is_two g others b.1 (ap (option_map (λ (o : Class × Form). o.1)) f);
        },
      );
      listed = c.agree.listed;
    };
    plain_one = c.plain_one;
    plain_two = c.plain_two;
    few = c.few;
  }

  pub merged_sound : IsSound (formed w)
  merged_sound = formed_sound w (record {
    ascending = j.ascending;
    some = merged_some Member AreSoundSame sound_same o one two w sound_merge j a.well b.well a.some;
    well = merged_well Member AreSoundSame sound_same o one two w sound_merge j a.well b.well a.some;
    own = plain_requires w j.plain;
  }) leads
    where
      a : IsSoundNode one
      a = node_sound x one is_one h

      b : IsSoundNode two
      b = node_sound y two is_two g

      leads : LeadsToSound w
      leads (named k) v e = elim (either (find name_cmp k one.children) (find name_cmp k two.children) v (sym (j.children k) ∙ e)) [
        | inl i ↦ leads_sound x one is_one h (named k) v i
        | inr i ↦ leads_sound y two is_two g (named k) v i
      ]
      leads others v e = elim (either_other one.other two.other v (sym (ap (option_map (λ (o : Class × Form). o.1)) j.other) ∙ e)) [
        | inl i ↦ leads_sound x one is_one h others v i
        | inr i ↦ leads_sound y two is_two g others v i
      ]

module _ (m o : Name) (u : Form) (n w : NodeOver Form) (is : node_of u ≡ Some n) (c : CanCopy m o n) (j : IsCopied m o n w) (h : IsSound u) where
  pub copied_sound : IsSound (formed w)
  copied_sound = formed_sound w (record {
    ascending = j.ascending;
    some = copied_some m o n w c j a.well a.some;
    well = copied_well m o n w c j a.well a.some;
    own = copied_requires m o n w c j a.well a.some;
  }) leads
    where
      a : IsSoundNode n
      a = node_sound u n is h

      of_one : (k : Name) (v : Form) (b : Bool) → cond b (find name_cmp m n.children) (find name_cmp k n.children) ≡ Some v → IsSound v
      of_one k v true e = leads_sound u n is h (named m) v e
      of_one k v false e = leads_sound u n is h (named k) v e

      leads : LeadsToSound w
      leads (named k) v e = of_one k v (eq_by_cmp name_cmp k o) (sym (j.children k) ∙ e)
      leads others v e = leads_sound u n is h others v (sym (ap (option_map (λ (o : Class × Form). o.1)) j.other) ∙ e)

module _ (m o : Name) (u : Form) (n : NodeOver Form) (is : node_of u ≡ Some n) (c : CanHide IsSame m o n) (h : IsSound u) where
  pub hidden_sound : IsSound (formed (hidden_node o n))
  hidden_sound =
      let a = node_sound u n is h in
      shaped_sound u n is h (hidden_node o n).shapes [] (hidden_some IsSame m o n c a.well a.some) (hidden_well IsSame m o n c a.well a.some)
      (plain_requires (hidden_node o n) refl)

module _ (c d : Class) (u : Form) (n : NodeOver Form) (a : AreValues c u n) (h : IsSound u) where
  pub classed_sound : IsSound (formed (with_class d n))
  classed_sound = formed_sound (with_class d n) (record { ascending = s.ascending; some = s.some; well = well; own = s.own }) leads
    where
      s : IsSoundNode n
      s = node_sound u n a.node h

      classed : Class × Form → Class × Form
      classed o = (d, o.1)

      well : All (IsWellFormedShape (with_class d n)) n.shapes
      well i z lt =
          let w = s.well i z lt in
          record { listed = w.listed; apart = w.apart; ordered = w.ordered; none = λ e. w.none (no_other n.other e) }
        where
          no_other : (o : Option (Class × Form)) → option_map classed o ≡ None → o ≡ None
          no_other None e = refl
          no_other (Some o) e = absurd (none-some (classed o) (sym e))

      same_other : (o : Option (Class × Form)) → option_map (λ (o : Class × Form). o.1) (option_map classed o) ≡ option_map (λ (o : Class × Form). o.1) o
      same_other None = refl
      same_other (Some o) = refl

      leads : LeadsToSound (with_class d n)
      leads (named k) v e = leads_sound u n a.node h (named k) v e
      leads others v e = leads_sound u n a.node h others v (sym (same_other n.other) ∙ e)

module _ (m : Name) (u : Form) (h : IsSound u) where
  pub edge_sound : IsSound (formed (edge_node m u))
  edge_sound = formed_sound (edge_node m u) (record {
    ascending = tt;
    some = omega arith;
    well = (edge_node_of m u).well;
    own = plain_requires (edge_node m u) refl;
  }) leads
    where
      of_one : (v : Form) (b : Bool) → cond b (Some u) None ≡ Some v → IsSound v
      of_one v true e = subst IsSound (same_Some u v e) h
      of_one v false e = absurd (none-some v e)

      leads : LeadsToSound (edge_node m u)
      leads (named k) v e = of_one v (eq_by_cmp name_cmp k m) e
      leads others v e = absurd (none-some v e)
