-- A line of written nodes, and its node.
use Rattle.std.proofs.Common.{◌≡◌, ◌⊎◌, inl, inr, ℕ, zero, suc, ◌+◌, ◌<◌, true, List, [], length, map, get_or, Some, None, IfSome, sym, ap, subst, ◌∙◌, arith, slice_get, take}
use Rattle.std.specs.Prelude.{codes}
use Rattle.std.specs.List.{Contains}
use Rattle.std.proofs.lemmas.Bool.{true≢false}
use Rattle.std.proofs.lemmas.Option.{same_Some, slice_get_within, slice_get-get_or}
use Rattle.hm_tree.specs.Names.{Name}
use Rattle.hm_tree.specs.declared.class.Class.{Class}
use Rattle.hm_schema.specs.declared.node.NodeId.{NodeId}
use Rattle.hm_schema.specs.Values.{NodeValue}
use Rattle.hm_schema_lines.specs.NodeLines.{NodeLineValue, node, is_inside}
use Rattle.hm_schema_lines.specs.Entries.{EntryValue, says}
use Rattle.hm_schema_lines.specs.BadLines.{Says, IsNode, behind, earlier, around}
use Rattle.hm_schema_writer.specs.WrittenNodes.{name_at, inner_lines, node_lines, declared_names, IsWritableNode, IsWritable, AreOfNodes}
use Rattle.hm_schema_lines.proofs.Laws.{IsInFile, at_place, empty_or, from_place, in_file}
use Rattle.hm_schema_writer.proofs.DeclaredNames.{EmptyIsLast, declared_at, at_declared}
use Rattle.hm_schema_writer.proofs.Lists.{IsInEither, in_either, get_front, map_at}
use Rattle.hm_schema_writer.proofs.WrittenCuts.{unsaid, all_inside, IsCut, IsSaidIn, cuts, said}
use Rattle.hm_schema_writer.proofs.Lists.{all_at, in_take}

module _ (names : List Name) (nodes : List NodeValue) (h : IsWritable names nodes) (es : List EntryValue) (a : AreOfNodes names nodes es) where
  pub record IsBegun (i : ℕ) (w : Name) : Type 0 where
    pub order : ℕ
    pub value : NodeValue
    pub named : slice_get names order ≡ Some w
    pub differs : ¬ (w ≡ codes "Empty")
    pub is : slice_get nodes order ≡ Some value
    pub cut : IsCut names es i w value order

  pub record IsInNode (i : ℕ) (x : NodeLineValue) : Type 0 where
    pub order : ℕ
    pub name : Name
    pub value : NodeValue
    pub start : ℕ
    pub inner : ℕ
    pub is : slice_get nodes order ≡ Some value
    pub cut : IsCut names es start name value order
    pub place : i ≡ suc start + inner
    pub line : slice_get (inner_lines names value) inner ≡ Some x

  abbrev SaidIn : ℕ → NodeLineValue → Type 0
  SaidIn i x = IsSaidIn names a.back a.behind (declared_names names) nodes es i x

  pub begun : (i : ℕ) (w : Name) → Says es i (node w) → IsBegun i w
  begun i w is = by (said names nodes es a i (node w) is)
    where
      by : SaidIn i (node w) → IsBegun i w
      by s = go s.inner s.place s.line
        where
          name_is : node s.name ≡ node w → s.name ≡ w
          name_is e = cc

          go : (m : ℕ) → i ≡ s.start + m → slice_get (node_lines names s.name s.value) m ≡ Some (node w) → IsBegun i w
          go zero place line =
              let same : s.name ≡ w = name_is (same_Some (node s.name) (node w) line) in
              let at : s.start ≡ i = omega (arith, place) in
              let d = declared_at names s.order w (s.named ∙ ap Some same) in record {
                order = s.order;
                value = s.value;
                named = d.0;
                differs = d.1;
                is = s.is;
                cut = subst (λ (z : ℕ × Name). IsCut names es z.0 z.1 s.value s.order) (λ j. (at j, same j)) s.cut;
              }
          go (suc m) place line = absurd (true≢false (sym (all_inside names s.value m (node w) line)))

  pub in_node : (i : ℕ) (x : NodeLineValue) → Says es i x → is_inside x ≡ true → IsInNode i x
  in_node i x is inside = by (said names nodes es a i x is)
    where
      by : SaidIn i x → IsInNode i x
      by s = go s.inner s.place s.line
        where
          go : (m : ℕ) → i ≡ s.start + m → slice_get (node_lines names s.name s.value) m ≡ Some x → IsInNode i x
          go zero place line = absurd (true≢false (sym inside ∙ ap is_inside (sym (same_Some (node s.name) x line))))
          go (suc m) place line = record {
            order = s.order;
            name = s.name;
            value = s.value;
            start = s.start;
            inner = m;
            is = s.is;
            cut = s.cut;
            place = omega (arith, place);
            line = line;
          }

  -- a line of the node, by its place behind the node line
  pub behind_line : (i : ℕ) (w : Name) (n : NodeValue) (k : ℕ) → IsCut names es i w n k → (m : ℕ) (x : NodeLineValue)
      → slice_get (behind es i) m ≡ Some (says x) → slice_get (inner_lines names n) m ≡ Some x
  behind_line i w n k c m x is =
      by (in_either (map says (inner_lines names n)) c.tail m (says x) (ap (λ z. slice_get z m) (sym c.behind_is) ∙ is))
    where
      by : IsInEither (map says (inner_lines names n)) c.tail m (says x) → slice_get (inner_lines names n) m ≡ Some x
      by (inl at) = unsaid (inner_lines names n) m x at
      by (inr b) = absurd (c.nothing x (from_place c.tail (says x) (b.0, b.2)))

  pub line_behind : (i : ℕ) (w : Name) (n : NodeValue) (k : ℕ) → IsCut names es i w n k → (m : ℕ) (x : NodeLineValue)
      → slice_get (inner_lines names n) m ≡ Some x → slice_get (behind es i) m ≡ Some (says x)
  line_behind i w n k c m x is =
      ap (λ z. slice_get z m) c.behind_is
      ∙ get_front (map says (inner_lines names n)) c.tail m (says x) (map_at says (inner_lines names n) m x is)

  pub contains_behind : (i : ℕ) (w : Name) (n : NodeValue) (k : ℕ) → IsCut names es i w n k → (m : ℕ) (x : NodeLineValue)
      → slice_get (inner_lines names n) m ≡ Some x → Contains (behind es i) (says x)
  contains_behind i w n k c m x is = from_place (behind es i) (says x) (m, line_behind i w n k c m x is)

  pub file : (i : ℕ) (x : NodeLineValue) (s : IsInNode i x) → IsInFile es s.start s.inner (says x)
  file i x s = in_file es s.start s.name s.cut.at s.inner (says x) (line_behind s.start s.name s.value s.order s.cut s.inner x s.line)

  pub around_it : (i : ℕ) (x : NodeLineValue) (s : IsInNode i x) → around es i ≡ behind es s.start
  around_it i x s = ap (around es) s.place ∙ (file i x s).around_is

  pub earlier_it : (i : ℕ) (x : NodeLineValue) (s : IsInNode i x) → earlier es i ≡ take s.inner (behind es s.start)
  earlier_it i x s = ap (earlier es) s.place ∙ (file i x s).earlier_are

  -- a line before another in its node
  pub earlier_line : (i : ℕ) (x y : NodeLineValue) (s : IsInNode i x) → Contains (earlier es i) (says y)
      → (m : ℕ) × (m < s.inner) × (slice_get (inner_lines names s.value) m ≡ Some y)
  earlier_line i x y s c =
      let p = at_place (take s.inner (behind es s.start)) (says y) (subst (λ z. Contains z (says y)) (earlier_it i x s) c) in
      let t = in_take (behind es s.start) s.inner p.0 (says y) p.1 in
      (p.0, t.0, behind_line s.start s.name s.value s.order s.cut p.0 y t.1)

  pub writable : (k : ℕ) (n : NodeValue) → slice_get nodes k ≡ Some n → IsWritableNode (length nodes) n
  writable = all_at (IsWritableNode (length nodes)) nodes h.each

  pub empty_last : EmptyIsLast names
  empty_last i is = (h.last i is).0

  -- ---- names

  pub value_at : (k : ℕ) (w : Name) → slice_get names k ≡ Some w → (n : NodeValue) × (slice_get nodes k ≡ Some n)
  value_at k w is =
      let within = slice_get_within names k w is in
      let long = h.named in
      (get_or nodes k none, slice_get-get_or nodes k none (omega arith))
    where
      none : NodeValue
      none = record { shapes = []; children = []; other = None; twins = [] }

  pub node_cut : (k : ℕ) (w : Name) → slice_get names k ≡ Some w → ¬ (w ≡ codes "Empty") → (i : ℕ) × (n : NodeValue) × IsCut names es i w n k
  node_cut k w is differs =
      let v = value_at k w is in
      let c = cuts names nodes es a k w v.0 (at_declared names empty_last k w is differs) v.1 in
      (c.0, v.0, c.1)

  pub is_node : (k : ℕ) (w : Name) → slice_get names k ≡ Some w → IsNode es w
  is_node k w is = go (empty_or w)
    where
      go : (w ≡ codes "Empty") ⊎ ((w ≡ codes "Empty") → ⊥) → IsNode es w
      go (inl same) = inr same
      go (inr differs) = let c = node_cut k w is differs in inl (from_place es (says (node w)) (c.0, c.2.at))

  pub name_there : (id : NodeId) → id.place < length nodes → slice_get names id.place ≡ Some (name_at names id)
  name_there id below = slice_get-get_or names id.place [] (let long = h.named in omega arith)

  pub child_there : (n : NodeValue) → IsWritableNode (length nodes) n → (m : ℕ) (child : Name × NodeId) → slice_get n.children m ≡ Some child
      → slice_get names child.1.place ≡ Some (name_at names child.1)
  child_there n f m child is = name_there child.1 (all_at (λ (c : Name × NodeId). c.1.place < length nodes) n.children f.formed.children m child is)

  pub other_there : (n : NodeValue) → IsWritableNode (length nodes) n → (o : Class × NodeId) → n.other ≡ Some o
      → slice_get names o.1.place ≡ Some (name_at names o.1)
  other_there n f o is = name_there o.1 (subst (λ z. IfSome z (λ (o : Class × NodeId). o.1.place < length nodes)) is f.formed.other)
