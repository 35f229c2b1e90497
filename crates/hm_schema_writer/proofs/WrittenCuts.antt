-- Where the lines of written nodes stand among the lines of their file.
use Rattle.std.proofs.Common.{◌≡◌, inl, inr, ℕ, zero, suc, ◌+◌, Bool, true, false, cond, List, [], ◌∷◌, ◌++◌, length, map, Option, Some, None, refl, sym, ap, subst, ◌∙◌, append_assoc, arith, slice_get, take, drop, count_by}
use Rattle.std.specs.List.{Contains}
use Rattle.std.proofs.lemmas.Bool.{true≢false}
use Rattle.std.proofs.lemmas.List.{map-append}
use Rattle.std.proofs.lemmas.Option.{same_Some}
use Rattle.hm_tree.specs.Names.{Name}
use Rattle.hm_tree.specs.declared.class.Class.{Class}
use Rattle.hm_schema.specs.declared.node.NodeId.{NodeId}
use Rattle.hm_schema.specs.declared.node.Shape.{Shape}
use Rattle.hm_schema.specs.Values.{NodeValue}
use Rattle.hm_schema_lines.specs.NodeLines.{NodeLineValue, node, edge, other, shape, is_inside}
use Rattle.hm_schema_lines.specs.Entries.{EntryValue, skipped, unknown, says}
use Rattle.hm_schema_lines.specs.BadLines.{Says, begins_node, nodes_before, behind, up_to_node}
use Rattle.hm_schema_writer.specs.WrittenNodes.{name_at, edge_line, other_lines, shape_line, inner_lines, node_lines, declared_names, lines_under, SaysNothing, AreOfNodes}
use Rattle.hm_schema_lines.proofs.Laws.{count_cons, from_place}
use Rattle.hm_schema_writer.proofs.Lists.{nil_plus, suc_plus, take_past, get_past, get_front, IsInEither, in_either, mapped, map_at}

pub unsaid : (xs : List NodeLineValue) (m : ℕ) (x : NodeLineValue) → slice_get (map says xs) m ≡ Some (says x) → slice_get xs m ≡ Some x
unsaid xs m x is =
    let s = mapped says xs m (says x) is in
    let same : s.0 ≡ x = said_once s.0 x s.2 in
    s.1 ∙ ap Some same
  where
    said_once : (x y : NodeLineValue) → says x ≡ says y → x ≡ y
    said_once x y e = cc

pub count_both : (p : EntryValue → Bool) (xs ys : List EntryValue) → count_by p (xs ++ ys) ≡ count_by p xs + count_by p ys
count_both p [] ys = sym (nil_plus (count_by p ys))
count_both p (x ∷ xs) ys =
    let l = count_cons p x (xs ++ ys) (p x) refl in
    let r = count_cons p x xs (p x) refl in
    let rest = count_both p xs ys in
    omega (arith, l, r, rest)

-- ---- the lines inside a node

-- what a line inside a node says
pub data IsInner (names : List Name) (n : NodeValue) (m : ℕ) (x : NodeLineValue) : Type 0 where
  an_edge : (child : Name × NodeId) → slice_get n.children m ≡ Some child → edge_line names child ≡ x → IsInner names n m x
  an_other : (o : Class × NodeId) → n.other ≡ Some o → m ≡ length n.children → other o.0 (name_at names o.1) ≡ x → IsInner names n m x
  a_shape : (s : Shape) (q : ℕ) → slice_get n.shapes q ≡ Some s → shape_line s ≡ x → IsInner names n m x

module _ (names : List Name) (n : NodeValue) where
  edges : List NodeLineValue
  edges = map (edge_line names) n.children

  others : List NodeLineValue
  others = other_lines names n.other

  edge_count : (cs : List (Name × NodeId)) → length (map (edge_line names) cs) ≡ length cs
  edge_count [] = refl
  edge_count (c ∷ cs) = ap suc (edge_count cs)

  pub inner_is : (m : ℕ) (x : NodeLineValue) → slice_get (inner_lines names n) m ≡ Some x → IsInner names n m x
  inner_is m x is = by (in_either (map (edge_line names) n.children) (other_lines names n.other ++ map shape_line n.shapes) m x is)
    where
      one : (o : Option (Class × NodeId)) → n.other ≡ o → (j : ℕ) → slice_get (other_lines names o) j ≡ Some x → m ≡ length n.children + j
          → IsInner names n m x
      one None o_is j at place = let f : ⊥ = cc in absurd f
      one (Some o) o_is zero at place = an_other o o_is (omega arith) (same_Some (other o.0 (name_at names o.1)) x at)
      one (Some o) o_is (suc j) at place = let f : ⊥ = cc in absurd f

      behind_edges : (j : ℕ) → m ≡ length n.children + j → IsInEither (other_lines names n.other) (map shape_line n.shapes) j x → IsInner names n m x
      behind_edges j place (inl at) = one n.other refl j at place
      behind_edges j place (inr b) = let s = mapped shape_line n.shapes b.0 x b.2 in a_shape s.0 b.0 s.1 s.2

      by : IsInEither (map (edge_line names) n.children) (other_lines names n.other ++ map shape_line n.shapes) m x → IsInner names n m x
      by (inl at) = let c = mapped (edge_line names) n.children m x at in an_edge c.0 c.1 c.2
      by (inr b) = behind_edges b.0 (b.1 ∙ ap (λ z. z + b.0) (edge_count n.children))
          (in_either (other_lines names n.other) (map shape_line n.shapes) b.0 x b.2)

  pub edge_in : (m : ℕ) (child : Name × NodeId) → slice_get n.children m ≡ Some child → slice_get (inner_lines names n) m ≡ Some (edge_line names child)
  edge_in m child is =
      get_front (map (edge_line names) n.children) (other_lines names n.other ++ map shape_line n.shapes) m (edge_line names child)
      (map_at (edge_line names) n.children m child is)

  pub other_in : (o : Class × NodeId) → n.other ≡ Some o
      → slice_get (inner_lines names n) (length (map (edge_line names) n.children) + 0) ≡ Some (other o.0 (name_at names o.1))
  other_in o is =
      get_past (map (edge_line names) n.children) (other_lines names n.other ++ map shape_line n.shapes) 0
      ∙ ap (λ z. slice_get (other_lines names z ++ map shape_line n.shapes) 0) is

  pub shape_in : (q : ℕ) (s : Shape) → slice_get n.shapes q ≡ Some s
      → slice_get (inner_lines names n) (length (map (edge_line names) n.children) + (length (other_lines names n.other) + q)) ≡ Some (shape_line s)
  shape_in q s is =
      get_past (map (edge_line names) n.children) (other_lines names n.other ++ map shape_line n.shapes) (length (other_lines names n.other) + q)
      ∙ get_past (other_lines names n.other) (map shape_line n.shapes) q
      ∙ map_at shape_line n.shapes q s is

  pub all_inside : (m : ℕ) (x : NodeLineValue) → slice_get (inner_lines names n) m ≡ Some x → is_inside x ≡ true
  all_inside m x is = go (inner_is m x is)
    where
      go : IsInner names n m x → is_inside x ≡ true
      go (an_edge child at same) = ap is_inside (sym same)
      go (an_other o at place same) = ap is_inside (sym same)
      go (a_shape s q at same) = ap is_inside (sym same)

-- ---- up to the next node

not_begun : (x : NodeLineValue) → is_inside x ≡ true → begins_node (says x) ≡ false
not_begun (node w) h = absurd (true≢false (sym h))
not_begun (edge k w) h = refl
not_begun (other c w) h = refl
not_begun (shape s) h = refl

AllInside : List NodeLineValue → Type 0
AllInside xs = (m : ℕ) (x : NodeLineValue) → slice_get xs m ≡ Some x → is_inside x ≡ true

up_inside : (xs : List NodeLineValue) (ds : List EntryValue) → ((m : ℕ) (x : NodeLineValue) → slice_get xs m ≡ Some x → is_inside x ≡ true)
    → up_to_node (map says xs ++ ds) ≡ map says xs ++ up_to_node ds
up_inside [] ds h = refl
up_inside (x ∷ xs) ds h =
    ap (λ b. cond b [] (says x ∷ up_to_node (map says xs ++ ds))) (not_begun x (h 0 x refl))
    ∙ ap (λ z. says x ∷ z) (up_inside xs ds (λ m y is. h (suc m) y is))

count_inside : (xs : List NodeLineValue) → ((m : ℕ) (x : NodeLineValue) → slice_get xs m ≡ Some x → is_inside x ≡ true)
    → count_by begins_node (map says xs) ≡ 0
count_inside [] h = refl
count_inside (x ∷ xs) h =
    count_cons begins_node (says x) (map says xs) false (not_begun x (h 0 x refl)) ∙ nil_plus _ ∙ count_inside xs (λ m y is. h (suc m) y is)

nothing_begun : (e : EntryValue) → ((x : NodeLineValue) → ¬ (e ≡ says x)) → begins_node e ≡ false
nothing_begun skipped h = refl
nothing_begun unknown h = refl
nothing_begun (says x) h = absurd (h x refl)

nothing_first : (e : EntryValue) (es : List EntryValue) → SaysNothing (e ∷ es) → begins_node e ≡ false
nothing_first e es h = nothing_begun e (λ x same. h x (0, omega arith, same))

nothing_left : (e : EntryValue) (es : List EntryValue) → SaysNothing (e ∷ es) → SaysNothing es
nothing_left e es h x c = h x (suc c.0, omega (arith, c.1), c.2)

pub nothing_up : (es : List EntryValue) → SaysNothing es → up_to_node es ≡ es
nothing_up [] h = refl
nothing_up (e ∷ es) h = ap (λ b. cond b [] (e ∷ up_to_node es)) (nothing_first e es h) ∙ ap (λ z. e ∷ z) (nothing_up es (nothing_left e es h))

pub nothing_counted : (es : List EntryValue) → SaysNothing es → count_by begins_node es ≡ 0
nothing_counted [] h = refl
nothing_counted (e ∷ es) h = count_cons begins_node e es false (nothing_first e es h) ∙ nil_plus _ ∙ nothing_counted es (nothing_left e es h)

-- ---- a node in its file

pub record IsCut (names : List Name) (es : List EntryValue) (i : ℕ) (w : Name) (n : NodeValue) (k : ℕ) : Type 0 where
  pub at : Says es i (node w)
  pub before : nodes_before es i ≡ k
  pub tail : List EntryValue
  pub behind_is : behind es i ≡ map says (inner_lines names n) ++ tail
  pub nothing : SaysNothing tail

further_cut : (names : List Name) (p es : List EntryValue) (i : ℕ) (w : Name) (n : NodeValue) (k l : ℕ) → IsCut names es i w n k
    → count_by begins_node p + k ≡ l → IsCut names (p ++ es) (length p + i) w n l
further_cut names p es i w n k l c sum = record {
  at = get_past p es i ∙ c.at;
  before = ap (count_by begins_node) (take_past p es i) ∙ count_both begins_node p (take i es) ∙ ap (λ z. count_by begins_node p + z) c.before ∙ sum;
  tail = c.tail;
  behind_is = ap up_to_node (past_one p es i) ∙ c.behind_is;
  nothing = c.nothing;
}
  where
    past_one : (p es : List EntryValue) (i : ℕ) → drop (suc (length p + i)) (p ++ es) ≡ drop (suc i) es
    past_one [] es i = ap (λ z. drop (suc z) es) (nil_plus i)
    past_one (x ∷ p) es i = ap (λ z. drop (suc z) (x ∷ (p ++ es))) (suc_plus (length p) i) ∙ past_one p es i

module _ (names : List Name) (back : List EntryValue) (none : SaysNothing back) where
  abbrev pub rest : List Name → List NodeValue → List EntryValue
  rest ws ns = map says (lines_under names ws ns) ++ back

  tail_nothing : (ws : List Name) (ns : List NodeValue) → SaysNothing (up_to_node (rest ws ns))
  tail_nothing [] ns x c = none x (subst (λ z. Contains z (says x)) (nothing_up back none) c)
  tail_nothing (w ∷ ws) [] x c = none x (subst (λ z. Contains z (says x)) (nothing_up back none) c)
  tail_nothing (w ∷ ws) (n ∷ ns) x c = absurd (omega (arith, c.1))

  pub inner_rest : (ws : List Name) (n : NodeValue) (ns : List NodeValue)
      → map says (inner_lines names n ++ lines_under names ws ns) ++ back ≡ map says (inner_lines names n) ++ rest ws ns
  inner_rest ws n ns =
      ap (λ z. z ++ back) (map-append says (inner_lines names n) (lines_under names ws ns))
      ∙ append_assoc (map says (inner_lines names n)) (map says (lines_under names ws ns)) back

  first_cut : (w : Name) (ws : List Name) (n : NodeValue) (ns : List NodeValue) → IsCut names (rest (w ∷ ws) (n ∷ ns)) 0 w n 0
  first_cut w ws n ns = record {
    at = refl;
    before = refl;
    tail = up_to_node (rest ws ns);
    behind_is = ap up_to_node (inner_rest ws n ns) ∙ up_inside (inner_lines names n) (rest ws ns) (all_inside names n);
    nothing = tail_nothing ws ns;
  }

  counts_one : (c d k : ℕ) → c ≡ 1 + d → d ≡ 0 → c + k ≡ suc k
  counts_one c d k e f = omega arith

  next_cut : (v : Name) (ws : List Name) (m : NodeValue) (ns : List NodeValue) (i : ℕ) (w : Name) (n : NodeValue) (k : ℕ)
      → IsCut names (rest ws ns) i w n k
      → IsCut names (rest (v ∷ ws) (m ∷ ns)) (length (map says (node_lines names v m)) + i) w n (suc k)
  next_cut v ws m ns i w n k c =
      subst (λ z. IsCut names z (length (map says (node_lines names v m)) + i) w n (suc k)) (ap (λ z. says (node v) ∷ z) (sym (inner_rest ws m ns)))
      (further_cut names (map says (node_lines names v m)) (rest ws ns) i w n k (suc k) c
      (counts_one (count_by begins_node (map says (node_lines names v m))) (count_by begins_node (map says (inner_lines names m))) k
      (count_cons begins_node (says (node v)) (map says (inner_lines names m)) true refl)
      (count_inside (inner_lines names m) (all_inside names m))))

  cut_at : (ws : List Name) (ns : List NodeValue) (k : ℕ) (w : Name) (n : NodeValue) → slice_get ws k ≡ Some w → slice_get ns k ≡ Some n
      → (i : ℕ) × IsCut names (rest ws ns) i w n k
  cut_at [] ns k w n name is = let f : ⊥ = cc in absurd f
  cut_at (v ∷ ws) [] k w n name is = let f : ⊥ = cc in absurd f
  cut_at (v ∷ ws) (m ∷ ns) zero w n name is = (
    0,
    subst (λ (z : Name × NodeValue). IsCut names (rest (v ∷ ws) (m ∷ ns)) 0 z.0 z.1 0) (λ i. (same_Some v w name i, same_Some m n is i))
        (first_cut v ws m ns),
  )
  cut_at (v ∷ ws) (m ∷ ns) (suc k) w n name is =
      let c = cut_at ws ns k w n name is in (length (map says (node_lines names v m)) + c.0, next_cut v ws m ns c.0 w n k c.1)

  -- a line, and its node
  pub record IsSaidIn (ws : List Name) (ns : List NodeValue) (es : List EntryValue) (i : ℕ) (x : NodeLineValue) : Type 0 where
    pub order : ℕ
    pub name : Name
    pub value : NodeValue
    pub start : ℕ
    pub inner : ℕ
    pub named : slice_get ws order ≡ Some name
    pub is : slice_get ns order ≡ Some value
    pub cut : IsCut names es start name value order
    pub place : i ≡ start + inner
    pub line : slice_get (node_lines names name value) inner ≡ Some x

  next_said : (v : Name) (ws : List Name) (m : NodeValue) (ns : List NodeValue) (i j : ℕ) (x : NodeLineValue)
      → i ≡ length (map says (node_lines names v m)) + j → IsSaidIn ws ns (rest ws ns) j x
      → IsSaidIn (v ∷ ws) (m ∷ ns) (rest (v ∷ ws) (m ∷ ns)) i x
  next_said v ws m ns i j x place s = record {
    order = suc s.order;
    name = s.name;
    value = s.value;
    start = length (map says (node_lines names v m)) + s.start;
    inner = s.inner;
    named = s.named;
    is = s.is;
    cut = next_cut v ws m ns s.start s.name s.value s.order s.cut;
    place = omega (arith, place, s.place);
    line = s.line;
  }

  said_in : (ws : List Name) (ns : List NodeValue) (i : ℕ) (x : NodeLineValue) → Says (rest ws ns) i x → IsSaidIn ws ns (rest ws ns) i x
  said_in [] ns i x is = absurd (none x (from_place back (says x) (i, is)))
  said_in (v ∷ ws) [] i x is = absurd (none x (from_place back (says x) (i, is)))
  said_in (v ∷ ws) (m ∷ ns) i x is =
      by (said_in ws ns) (in_either (map says (node_lines names v m)) (rest ws ns) i (says x)
      (ap (λ z. slice_get (says (node v) ∷ z) i) (sym (inner_rest ws m ns)) ∙ is))
    where
      by : ((j : ℕ) (x : NodeLineValue) → Says (rest ws ns) j x → IsSaidIn ws ns (rest ws ns) j x)
          → IsInEither (map says (node_lines names v m)) (rest ws ns) i (says x) → IsSaidIn (v ∷ ws) (m ∷ ns) (rest (v ∷ ws) (m ∷ ns)) i x
      by more (inl here) = record {
        order = 0;
        name = v;
        value = m;
        start = 0;
        inner = i;
        named = refl;
        is = refl;
        cut = first_cut v ws m ns;
        place = sym (nil_plus i);
        line = unsaid (node_lines names v m) i x here;
      }
      by more (inr b) = next_said v ws m ns i b.0 x b.1 (more b.0 x b.2)

-- ---- a file of nodes

module _ (names : List Name) (nodes : List NodeValue) (es : List EntryValue) (a : AreOfNodes names nodes es) where
  pub cuts : (k : ℕ) (w : Name) (n : NodeValue) → slice_get (declared_names names) k ≡ Some w → slice_get nodes k ≡ Some n
      → (i : ℕ) × IsCut names es i w n k
  cuts k w n name is =
      let c = cut_at names a.back a.behind (declared_names names) nodes k w n name is in (
        length a.front + c.0,
        subst (λ z. IsCut names z (length a.front + c.0) w n k) (sym a.is)
            (further_cut names a.front _ c.0 w n k k c.1 (ap (λ z. z + k) (nothing_counted a.front a.before) ∙ nil_plus k)),
      )

  pub said : (i : ℕ) (x : NodeLineValue) → Says es i x → IsSaidIn names a.back a.behind (declared_names names) nodes es i x
  said i x is = by (in_either a.front (rest names a.back a.behind (declared_names names) nodes) i (says x) (ap (λ z. slice_get z i) (sym a.is) ∙ is))
    where
      by : IsInEither a.front (rest names a.back a.behind (declared_names names) nodes) i (says x)
          → IsSaidIn names a.back a.behind (declared_names names) nodes es i x
      by (inl here) = absurd (a.before x (from_place a.front (says x) (i, here)))
      by (inr b) =
          let s = said_in names a.back a.behind (declared_names names) nodes b.0 x b.2 in record {
            order = s.order;
            name = s.name;
            value = s.value;
            start = length a.front + s.start;
            inner = s.inner;
            named = s.named;
            is = s.is;
            cut = subst (λ z. IsCut names z (length a.front + s.start) s.name s.value s.order) (sym a.is)
                (further_cut names a.front _ s.start s.name s.value s.order s.order s.cut (ap (λ z. z + s.order) (nothing_counted a.front a.before) ∙ nil_plus s.order));
            place = omega (arith, b.1, s.place);
            line = s.line;
          }
