-- Forks, conditionals and single lenses fit the members of a form and of their view, where the lenses inside do.
use Rattle.std.proofs.Common.{◌≡◌, ℕ, Bool, not, Some, ap}
use Rattle.std.specs.Str.{IsUtf8}
use Rattle.std.specs.Option.{option_map, option_or}
use Rattle.std.specs.FinMap.{find}
use Rattle.std.specs.FinSet.{contains}
use Rattle.hm_tree.specs.Names.{Name, name_cmp}
use Rattle.hm_tree.specs.Nodes.{Tree}
use Rattle.hm_tree.specs.Parts.{part}
use Rattle.hm_tree.proofs.Texts.{text_test}
use Rattle.hm_schema.specs.declared.node.Shape.{Shape}
use Rattle.hm_schema.specs.Values.{Names, NodeOver}
use Rattle.hm_terms.specs.Lenses.{Lens, constant, hoist, plunge, fork, copy, merge, on_concrete, on_view, Setting}
use Rattle.hm_terms.proofs.Laws.{fits_constant, fits_hoist, fits_plunge}
use Rattle.hm_terms_laws.specs.Bounded.{FitsTo}
use Rattle.hm_tree_parts.specs.Sets.{IsSplitSet, IsBranched, Side, with_it, without_it}
use Rattle.hm_schema.specs.OneName.{alone}
use Rattle.hm_terms_laws.proofs.Bounded.{fits_to, fits_same}
use Rattle.hm_terms_laws.proofs.Fork.{fits_fork}
use Rattle.hm_terms_laws.proofs.Branches.{fits_concrete, fits_view}
use Rattle.hm_schema.specs.Standing.{Stands, Alike}
use Rattle.hm_types_nodes.specs.Parting.{part_node, shape_in, shape_out}
use Rattle.hm_types_nodes.specs.Joining.{IsJoined}
use Rattle.hm_types_nodes.specs.Branching.{node_with, node_without}
use Rattle.hm_types_nodes.specs.Merging.{IsMerged}
use Rattle.hm_types_nodes.specs.Copying.{CanCopy, IsCopied, CanHide, hidden_node}
use Rattle.hm_schema_lists.specs.Plain.{edge_node}
use Rattle.hm_types_nodes.proofs.Parting.{part_set}
use Rattle.hm_types_nodes.proofs.Joining.{join_set}
use Rattle.hm_types_nodes.proofs.Branching.{branch_set}
use Rattle.hm_types_nodes.proofs.MergedNodes.{merge_set}
use Rattle.hm_types_sound.proofs.CopyFits.{copy_fits}
use Rattle.hm_types_sound.proofs.HideFits.{hide_fits}
use Rattle.hm_schema_lists.proofs.Plain.{edge_stands, stands_edge, edge_node_of, edge_node_leads, exact_all}
use Rattle.hm_types_forms.specs.Forms.{Form, named, node_of, formed}
use Rattle.hm_types_forms.specs.Members.{Member}
use Rattle.hm_types_forms.specs.SameForms.{IsSame}
use Rattle.hm_types_forms.specs.Sound.{IsSound}
use Rattle.hm_types_rules.specs.Typing.{IsAlone, exactly, IsForked, inside_form, outside_form, AreJoinable, AreMergeable, IsBranched as IsBranchedForm}
use Rattle.hm_types_forms.proofs.MemberNodes.{members_alike, formed_alike}
use Rattle.hm_types_forms.proofs.SameMembers.{AreSoundSame, sound_same}
use Rattle.hm_types_forms.proofs.SoundForms.{node_sound, leads_sound}
use Rattle.hm_types_rules.proofs.SoundViews.{sound_merge}
use Rattle.hm_types_rules.proofs.TreeForms.{exactly_member}

-- ---- sets with the same trees

pub fits_alike : (S : Setting) (d : ℕ) (l : Lens) (C A C2 A2 : Tree → Type 0) → Alike C2 C → Alike A2 A → FitsTo d S l C A → FitsTo d S l C2 A2
fits_alike S d l C A C2 A2 c a f = fits_same S d l C A C2 A2 c.into c.from a.into a.from f

split_alike : (p : Name → Bool) (C C1 C2 B B1 B2 : Tree → Type 0) → IsSplitSet p C C1 C2 → Alike B C → Alike B1 C1 → Alike B2 C2 → IsSplitSet p B B1 B2
split_alike p C C1 C2 B B1 B2 s c c1 c2 = record {
  inside = λ t h. c1.from (part p t) (s.inside t (c.into t h));
  outside = λ t h. c2.from (part (λ n. not (p n)) t) (s.outside t (c.into t h));
  whole = λ t h g. c.from t (s.whole t (c1.into (part p t) h) (c2.into (part (λ n. not (p n)) t) g));
  in_one = λ t h. s.in_one t (c1.into t h);
  in_two = λ t h. s.in_two t (c2.into t h);
}

branch_alike : (m : Name) (C C1 C2 B B1 B2 : Tree → Type 0) → IsBranched m C C1 C2 → Alike B C → Alike B1 C1 → Alike B2 C2 → IsBranched m B B1 B2
branch_alike m C C1 C2 B B1 B2 b c c1 c2 = record {
  side = λ t h. side t (b.side t (c.into t h));
  one = λ t h. c.from t (b.one t (c1.into t h));
  two = λ t h. c.from t (b.two t (c2.into t h));
  one_has = λ t h. b.one_has t (c1.into t h);
  two_lacks = λ t h. b.two_lacks t (c2.into t h);
}
  where
    side : (t : Tree) → Side m C C1 C2 t → Side m B B1 B2 t
    side t (with_it e h) = with_it e (c1.from t h)
    side t (without_it e h) = without_it e (c2.from t h)

module _ (S : Setting) (d : ℕ) where
  -- ---- forks

  module _ (P Q : Names) (l k : Lens) (u x y : Form) (n one two w : NodeOver Form) (a : Shape) (f : IsForked P u n a) (j : AreJoinable Q x y one two)
      (is : IsJoined (contains Q) one two w) (h : IsSound u) (hx : IsSound x) (hy : IsSound y) where
    pub fork_fits : FitsTo d S l (Member (inside_form P n a)) (Member x) → FitsTo d S k (Member (outside_form P n a)) (Member y)
        → FitsTo d S (fork P Q l k) (Member u) (Member (formed w))
    fork_fits g i =
        let s = node_sound u n f.node h in
        let s1 = node_sound x one j.node_one hx in
        let s2 = node_sound y two j.node_two hy in
        let inside = part_node n (shape_in (contains P) a) in
        let outside = part_node n (shape_out (contains P) a) in
        fits_fork S P Q l k (Member u) (Member (inside_form P n a)) (Member (outside_form P n a)) (Member (formed w)) (Member x) (Member y)
        (split_alike (contains P) (Stands Member n) (Stands Member inside) (Stands Member outside)
        (Member u) (Member (inside_form P n a)) (Member (outside_form P n a))
        (part_set Member (contains P) n a f.parted s.own) (members_alike u n f.node) (formed_alike inside s.ascending) (formed_alike outside s.ascending))
        (split_alike (contains Q) (Stands Member w) (Stands Member one) (Stands Member two) (Member (formed w)) (Member x) (Member y)
        (join_set (contains Q) one two w j.can is s1.well s1.own s2.own Member) (formed_alike w is.ascending)
        (members_alike x one j.node_one) (members_alike y two j.node_two)) d g i

  -- ---- conditionals

  module _ (m : Name) (u : Form) (n : NodeOver Form) (b : IsBranchedForm m u n) (h : IsSound u) where
    branched : IsBranched m (Member u) (Member (formed (node_with m n))) (Member (formed (node_without m n)))
    branched =
        let s = node_sound u n b.node h in
        branch_alike m (Stands Member n) (Stands Member (node_with m n)) (Stands Member (node_without m n))
        (Member u) (Member (formed (node_with m n))) (Member (formed (node_without m n)))
        (branch_set Member n m b.listed b.plain) (members_alike u n b.node) (formed_alike (node_with m n) s.ascending)
        (formed_alike (node_without m n) s.ascending)

    pub concrete_fits : (l k : Lens) (v y : Form) → IsSound v → IsSound y → IsSame v y → FitsTo d S l (Member (formed (node_with m n))) (Member v)
        → FitsTo d S k (Member (formed (node_without m n))) (Member y) → FitsTo d S (on_concrete m l k) (Member u) (Member v)
    concrete_fits l k v y hv hy same f g =
        fits_concrete S m l k (Member u) (Member (formed (node_with m n))) (Member (formed (node_without m n))) (Member v) branched d f
        (fits_alike S d k (Member (formed (node_without m n))) (Member y) (Member (formed (node_without m n))) (Member v)
        (record { into = λ t h. h; from = λ t h. h }) (sound_same v y (record { same = same; first = hv; second = hy })) g)

    pub view_fits : (o : Name) (l k : Lens) (x y : Form) (one two w : NodeOver Form) (c : AreMergeable o x y one two) (is : IsMerged o one two w)
        → IsSound x → IsSound y → FitsTo d S l (Member (formed (node_with m n))) (Member x)
        → FitsTo d S k (Member (formed (node_without m n))) (Member y) → FitsTo d S (on_view m o l k) (Member u) (Member (formed w))
    view_fits o l k x y one two w c is hx hy f g =
        let s1 = node_sound x one c.node_one hx in
        let s2 = node_sound y two c.node_two hy in
        fits_view S m o l k (Member u) (Member (formed (node_with m n))) (Member (formed (node_without m n))) (Member (formed w)) (Member x) (Member y) branched
        (branch_alike o (Stands Member w) (Stands Member one) (Stands Member two) (Member (formed w)) (Member x) (Member y)
        (merge_set Member AreSoundSame sound_same o one two w (sound_merge o x y one two w c.node_one c.node_two c.can is hx hy) is s1.well s2.well s1.some)
        (formed_alike w is.ascending) (members_alike x one c.node_one) (members_alike y two c.node_two)) d f g

  -- ---- single lenses

  pub constant_fits : (t e : Tree) (u : Form) → Member u e → FitsTo d S (constant t e) (Member u) (Member (exactly t))
  constant_fits t e u h = fits_alike S d (constant t e) (Member u) (λ v. v ≡ t) (Member u) (Member (exactly t))
      (record { into = λ t h. h; from = λ t h. h }) (exactly_member t) (fits_to S (constant t e) (Member u) (λ v. v ≡ t) (fits_constant S t e (Member u) h) d)

  module _ (m : Name) (text : IsUtf8 m) where
    pub hoist_fits : (u v : Form) (n : NodeOver Form) → node_of u ≡ Some n → IsAlone m n → find name_cmp m n.children ≡ Some v → IsSound u
        → FitsTo d S (hoist m) (Member u) (Member v)
    hoist_fits u v n is alone_m at h =
        let s = node_sound u n is h in
        let o = exact_all n (alone m) alone_m.shapes s.some s.well alone_m.plain in
        let a = members_alike u n is in
        let leads = ap (λ x. option_or x (option_map (λ o. o.1) n.other)) at in
        fits_to S (hoist m) (Member u) (Member v) (fits_hoist S m (text_test m text) (Member u) (Member v)
        (λ c g. stands_edge Member n m o v leads c (a.into c g)) (λ c x e g. a.from c (edge_stands Member n m o v leads c x e g))) d

    pub plunge_fits : (u : Form) → FitsTo d S (plunge m) (Member u) (Member (formed (edge_node m u)))
    plunge_fits u =
        let a = formed_alike (edge_node m u) tt in
        fits_to S (plunge m) (Member u) (Member (formed (edge_node m u))) (fits_plunge S m (text_test m text) (Member u) (Member (formed (edge_node m u)))
        (λ c g. stands_edge Member (edge_node m u) m (edge_node_of m u) u (edge_node_leads m u) c (a.into c g))
        (λ c x e g. a.from c (edge_stands Member (edge_node m u) m (edge_node_of m u) u (edge_node_leads m u) c x e g))) d

  module _ (m o : Name) (text : IsUtf8 o) (u : Form) (n : NodeOver Form) (is : node_of u ≡ Some n) (h : IsSound u) where
    pub copied_fits : (w : NodeOver Form) → CanCopy m o n → IsCopied m o n w → FitsTo d S (copy m o) (Member u) (Member (formed w))
    copied_fits w can copied =
        let s = node_sound u n is h in
        fits_alike S d (copy m o) (Stands Member n) (Stands Member w) (Member u) (Member (formed w)) (members_alike u n is) (formed_alike w copied.ascending)
        (fits_to S (copy m o) (Stands Member n) (Stands Member w) (copy_fits m o n w can copied s.well s.some Member S text) d)

    -- the two names lead to what is the same and sound
    sound_hide : CanHide IsSame m o n → CanHide AreSoundSame m o n
    sound_hide can = record {
      apart = can.apart;
      first = can.first;
      second = can.second;
      alike = λ x y e f. record { same = can.alike x y e f; first = leads_sound u n is h (named m) x e; second = leads_sound u n is h (named o) y f };
      twins = can.twins;
    }

    pub hidden_fits : CanHide IsSame m o n → FitsTo d S (merge m o) (Member u) (Member (formed (hidden_node o n)))
    hidden_fits can =
        let s = node_sound u n is h in
        fits_alike S d (merge m o) (Stands Member n) (Stands Member (hidden_node o n)) (Member u) (Member (formed (hidden_node o n)))
        (members_alike u n is) (formed_alike (hidden_node o n) s.ascending)
        (fits_to S (merge m o) (Stands Member n) (Stands Member (hidden_node o n))
        (hide_fits AreSoundSame m o n (sound_hide can) s.well s.some Member sound_same S text) d)
