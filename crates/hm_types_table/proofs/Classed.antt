-- What is kept beside nodes, as nodes are added.
use Rattle.std.proofs.Common.{◌≡◌, ℕ, ◌+◌, ◌<◌, inl, inr, Bool, true, false, ◌||◌, cond, List, [], ◌∷◌, ◌++◌, map, filter, length, get_or, slice_get, Option, Some, None, unwrap_or, All, IfSome, refl, sym, ap, subst, ◌∙◌, arith, length-append}
use Rattle.std.specs.List.{zip}
use Rattle.std.specs.Option.{option_map}
use Rattle.std.proofs.lemmas.Bool.{cases_lt}
use Rattle.std.proofs.lemmas.List.{append-nil, get_or_default, length-map}
use Rattle.std.proofs.lemmas.List.Elements.{All-nil, All-cons, All-head, All-tail, All-append, All-map, All-filter}
use Rattle.std.proofs.lemmas.Option.{same_Some, unwrap_or-slice_get, slice_get_within}
use Rattle.std.proofs.lemmas.Slice.Zip.{firsts-zip}
use Rattle.hm_graph.specs.Same.{Graph}
use Rattle.hm_graph_classes.specs.Reduced.{IsReduced, HasVertex, Grows, class_at}
use Rattle.hm_tree.specs.declared.class.Class.{Class}
use Rattle.hm_tree.specs.Names.{Name}
use Rattle.hm_schema.specs.declared.node.NodeId.{NodeId}
use Rattle.hm_schema.specs.Values.{NodeValue}
use Rattle.hm_schema.specs.Tidied.{tidied, stands, lets_some_in}
use Rattle.hm_schema.specs.WellFormed.{IsWellFormedNode}
use Rattle.hm_schema.specs.Labels.{Numbers, label_cmp}
use Rattle.hm_schema.specs.Numbering.{IsNumbering, KeepsNumbers}
use Rattle.hm_schema.proofs.LabelNumbers.{number_stays}
use Rattle.hm_types_forms.specs.Forms.{Label, label_of}
use Rattle.hm_types_table.specs.declared.kind.NodeKind.{NodeKind}
use Rattle.hm_types_table.specs.declared.outline.Outline.{Outline}
use Rattle.hm_types_table.specs.declared.annotations.Annotations.{Annotations}
use Rattle.hm_types_table.specs.Tables.{Nodes, seated}
use Rattle.hm_types_table.specs.Classes.{IsOutline, kind_label, other_ends, ends, left, ends_left, classes_of, IsClassed, AreClassed, Keeps, IsClassFor}
use Rattle.hm_types_table.proofs.Places.{at_front, at_last, there}
use Rattle.hm_types_table.proofs.Grown.{formed_at}
use Rattle.hm_types_table.proofs.Left.{children_kept}
use Rattle.hm_types_table.proofs.Outlines.{bare_keys, bare, other_bare}
use Rattle.hm_types_table.proofs.Rows.{formed_more}

-- ---- outlines

pub outline_stays : (old new : Numbers) (l : Label) (o : Outline) → KeepsNumbers label_cmp old new → IsOutline old l o → IsOutline new l o
outline_stays old new l o stays h =
    record { number = number_stays old new (tidied l) o.label stays h.number; lets_in = h.lets_in; standing = h.standing }

-- the label of a node of a kind
pub seated_label : (k : NodeKind) (next : List NodeId) (other : Option (Class × NodeId)) → length next ≡ length k.names.items
    → label_of (seated k next other) ≡ kind_label k (option_map (λ o. o.0) other)
seated_label k next other count =
    let cs = bare_keys (zip k.names.items next) ∙ ap (map bare) (firsts-zip k.names.items next count) in
    let o = other_bare other (option_map (λ o. o.0) other) refl in
    λ i. record { shapes = k.shapes.items; children = cs i; other = o i; twins = k.twins.items }

module _ (known : Numbers) (n : NodeValue) (o : Outline) (h : IsOutline known (label_of n) o) where
  flags : (p : Name → Bool) (cs : List (Name × NodeId)) → map (λ (c : Name × Unit {0}). p c.0) (map (λ c. (c.0, tt)) cs) ≡ map (λ c. p c.0) cs
  flags p [] = refl
  flags p (c ∷ cs) = ap (λ l. p c.0 ∷ l) (flags p cs)

  pub standing_is : o.standing.items ≡ map (λ c. stands n c.0) n.children
  standing_is = h.standing ∙ flags (stands n) n.children

  pub standing_size : length o.standing.items ≡ length n.children
  standing_size = ap length standing_is ∙ length-map n.children (λ c. stands n c.0)

  -- the edges that are left
  pub ends_are : ends_left o (map (λ c. c.1) n.children) n.other ≡ ends (tidied n)
  ends_are = (λ t. left (h.lets_in t) (standing_is t) (map (λ c. c.1) n.children) ++ other_ends (cond (h.lets_in t) n.other None))
      ∙ ap (λ l. l ++ other_ends (tidied n).other) (children_kept (stands n) (λ (c : Name × NodeId). c.1) (lets_some_in n) n.children)

-- ---- edges in range

module _ {X : Type 0} (P : X → Type 0) where
  pub left_all : (all : Bool) (bs : List Bool) (xs : List X) → All P xs → All P (left all bs xs)
  left_all all [] xs h = All-nil P
  left_all all (b ∷ bs) [] h = All-nil P
  left_all all (b ∷ bs) (x ∷ xs) h = go (all || b) (left_all all bs xs (All-tail P x xs h))
    where
      go : (kept : Bool) → All P (left all bs xs) → All P (cond kept (x ∷ left all bs xs) (left all bs xs))
      go true rest = All-cons P x (left all bs xs) (All-head P x xs h) rest
      go false rest = rest

  pub other_all : (b : Bool) (o : Option (Class × X)) → IfSome o (λ o. P o.1) → All P (other_ends (cond b o None))
  other_all true None h = All-nil P
  other_all true (Some o) h = All-cons P o.1 [] h (All-nil P)
  other_all false o h = All-nil P

pub left_inside : (bound : ℕ) (o : Outline) (next : List NodeId) (other : Option (Class × NodeId)) → All (λ j. j.place < bound) next
    → IfSome other (λ o. o.1.place < bound) → All (λ j. j.place < bound) (ends_left o next other)
left_inside bound o next other h g =
    All-append (λ (j : NodeId). j.place < bound) (left o.lets_in o.standing.items next) (other_ends (cond o.lets_in other None))
    (left_all (λ (j : NodeId). j.place < bound) o.lets_in o.standing.items next h)
    (other_all (λ (j : NodeId). j.place < bound) o.lets_in other g)

-- a well formed node, tidied, leads to nodes in range
pub ends_inside : (count : ℕ) (n : NodeValue) → IsWellFormedNode count n → All (λ j. j.place < count) (ends (tidied n))
ends_inside count n w =
    All-append (λ (j : NodeId). j.place < count) (map (λ c. c.1) (tidied n).children) (other_ends (tidied n).other)
    (children (lets_some_in n))
    (other_all (λ (j : NodeId). j.place < count) (lets_some_in n) n.other w.other)
  where
    seconds : (cs : List (Name × NodeId)) → All (λ c. c.1.place < count) cs → All (λ (j : NodeId). j.place < count) (map (λ (c : Name × NodeId). c.1) cs)
    seconds cs h = All-map (λ (j : NodeId). j.place < count) (λ (c : Name × NodeId). c.1) cs h

    children : (b : Bool) → All (λ (j : NodeId). j.place < count) (map (λ c. c.1) (cond b n.children (filter (λ c. stands n c.0) n.children)))
    children true = seconds n.children w.children
    children false = seconds (filter (λ c. stands n c.0) n.children)
        (All-filter (λ c. stands n c.0) (λ (c : Name × NodeId). c.1.place < count) n.children w.children)

-- ---- classes of more nodes

pub class_front : (classes more : List ℕ) (i : ℕ) → i < length classes → class_at (classes ++ more) i ≡ class_at classes i
class_front classes more i lt =
    sym (unwrap_or-slice_get (classes ++ more) i 0) ∙ ap (λ x. unwrap_or x 0) (at_front classes more i lt) ∙ unwrap_or-slice_get classes i 0

pub class_last : (classes : List ℕ) (c : ℕ) → class_at (classes ++ c ∷ []) (length classes) ≡ c
class_last classes c = sym (unwrap_or-slice_get (classes ++ c ∷ []) (length classes) 0) ∙ ap (λ x. unwrap_or x 0) (at_last classes c)

pub classes_front : (classes more : List ℕ) (js : List NodeId) → All (λ j. j.place < length classes) js
    → classes_of (classes ++ more) js ≡ classes_of classes js
classes_front classes more [] h = refl
classes_front classes more (j ∷ js) h =
    let one = class_front classes more j.place (All-head (λ (j : NodeId). j.place < length classes) j js h) in
    let rest = classes_front classes more js (All-tail (λ (j : NodeId). j.place < length classes) j js h) in
    λ t. one t ∷ rest t

-- ---- vertices of a graph that grows

pub vertex_stays : (old new : Graph) (c label : ℕ) (next : List ℕ) → Grows old new → HasVertex old c label next → HasVertex new c label next
vertex_stays old new c label next grows h = record {
  vertex = h.vertex;
  is = ap (λ g. slice_get g c) grows.is ∙ at_front old grows.more c (slice_get_within old c h.vertex h.is) ∙ h.is;
  label_is = h.label_is;
  next_is = h.next_is;
}

-- ---- what is kept

pub graph_same : (g : Graph) → Grows g g
graph_same g = record { more = []; is = sym (append-nil g) }

module _ (nodes : Nodes) (old new : Annotations) (h : AreClassed nodes old) (k : Keeps old new) where
  one_kept : (i : ℕ) (n : NodeValue) → IsClassed old i n → IsClassed new i n
  one_kept i n c = record {
    seen = c.seen;
    is_seen = ap (λ l. slice_get l i) k.seen ∙ c.is_seen;
    outline = c.outline;
    is_outline = k.outlines c.seen c.outline c.is_outline;
    outlined = outline_stays old.numbers new.numbers (label_of n) c.outline k.stays c.outlined;
    vertex = subst (λ l. HasVertex new.reduced (class_at l i) c.outline.label (classes_of l (ends (tidied n)))) (sym k.classes)
        (vertex_stays old.reduced new.reduced (class_at old.classes.items i) c.outline.label (classes_of old.classes.items (ends (tidied n)))
        k.grows c.vertex);
  }

  pub classed_kept : AreClassed nodes new
  classed_kept = record {
    formed = h.formed;
    numbering = k.numbering h.numbering;
    reduced = k.reduced h.reduced;
    seen_size = ap length k.seen ∙ h.seen_size;
    classes_size = ap length k.classes ∙ h.classes_size;
    each = λ i n at. one_kept i n (h.each i n at);
  }

pub class_for_kept : (old new : Annotations) (seen class : ℕ) (next : List NodeId) (other : Option (Class × NodeId)) → Keeps old new
    → IsClassFor old seen class next other → IsClassFor new seen class next other
class_for_kept old new seen class next other k c = record {
  outline = c.outline;
  is_outline = k.outlines seen c.outline c.is_outline;
  vertex = subst (λ l. HasVertex new.reduced class c.outline.label (classes_of (l ++ class ∷ []) (ends_left c.outline next other))) (sym k.classes)
      (vertex_stays old.reduced new.reduced class c.outline.label (classes_of (old.classes.items ++ class ∷ []) (ends_left c.outline next other))
      k.grows c.vertex);
}

-- ---- a node more

module _ (nodes : Nodes) (old new : Annotations) (n : NodeValue) (seen class : ℕ) (h : AreClassed nodes old) (well : IsWellFormedNode (length nodes + 1) n)
    (numbers : new.numbers ≡ old.numbers) (outlines : new.outlines ≡ old.outlines) (reduced : new.reduced ≡ old.reduced)
    (seen_is : new.seen.items ≡ old.seen.items ++ seen ∷ []) (classes_is : new.classes.items ≡ old.classes.items ++ class ∷ [])
    (told : (o : Outline) → slice_get old.outlines.items seen ≡ Some o → IsOutline old.numbers (label_of n) o)
    (put : IsClassFor old seen class (map (λ c. c.1) n.children) n.other) where
  before : (i : ℕ) (m : NodeValue) → slice_get nodes i ≡ Some m → IsClassed new i m
  before i m at =
      let c = h.each i m at in
      let lt = slice_get_within nodes i m at in
      let inside = ends_inside (length nodes) m (formed_at nodes (record { place = i }) m h.formed at) in
      let in_classes = subst (λ count. All (λ (j : NodeId). j.place < count) (ends (tidied m))) (sym h.classes_size) inside in
      let its_class : class_at (old.classes.items ++ class ∷ []) i ≡ class_at old.classes.items i =
      class_front old.classes.items (class ∷ []) i (omega (arith, lt, h.classes_size)) in
      let its_edges = classes_front old.classes.items (class ∷ []) (ends (tidied m)) in_classes in
      record {
        seen = c.seen;
        is_seen = ap (λ l. slice_get l i) seen_is ∙ at_front old.seen.items (seen ∷ []) i (omega (arith, lt, h.seen_size)) ∙ c.is_seen;
        outline = c.outline;
        is_outline = ap (λ v. slice_get v.items c.seen) outlines ∙ c.is_outline;
        outlined = subst (λ known. IsOutline known (label_of m) c.outline) (sym numbers) c.outlined;
        vertex = subst (λ g. HasVertex g (class_at new.classes.items i) c.outline.label (classes_of new.classes.items (ends (tidied m)))) (sym reduced)
            (subst (λ l. HasVertex old.reduced (class_at l i) c.outline.label (classes_of l (ends (tidied m)))) (sym classes_is)
            (subst (λ a. HasVertex old.reduced a c.outline.label (classes_of (old.classes.items ++ class ∷ []) (ends (tidied m)))) (sym its_class)
            (subst (HasVertex old.reduced (class_at old.classes.items i) c.outline.label) (sym its_edges) c.vertex)));
      }

  last : (i : ℕ) → i ≡ length nodes → IsClassed new i n
  last i e =
      let outlined = told put.outline put.is_outline in
      let edges = ends_are old.numbers n put.outline outlined in
      let its_class : class ≡ class_at (old.classes.items ++ class ∷ []) i =
      sym (class_last old.classes.items class) ∙ ap (class_at (old.classes.items ++ class ∷ [])) (h.classes_size ∙ sym e) in
      record {
        seen = seen;
        is_seen = (λ t. slice_get (seen_is t) ((e ∙ sym h.seen_size) t)) ∙ at_last old.seen.items seen;
        outline = put.outline;
        is_outline = ap (λ v. slice_get v.items seen) outlines ∙ put.is_outline;
        outlined = subst (λ known. IsOutline known (label_of n) put.outline) (sym numbers) outlined;
        vertex = subst (λ g. HasVertex g (class_at new.classes.items i) put.outline.label (classes_of new.classes.items (ends (tidied n)))) (sym reduced)
            (subst (λ l. HasVertex old.reduced (class_at l i) put.outline.label (classes_of l (ends (tidied n)))) (sym classes_is)
            (subst (λ a. HasVertex old.reduced a put.outline.label (classes_of (old.classes.items ++ class ∷ []) (ends (tidied n)))) its_class
            (subst (λ js. HasVertex old.reduced class put.outline.label (classes_of (old.classes.items ++ class ∷ []) js)) edges put.vertex)));
      }

  pub classed_put : AreClassed (nodes ++ n ∷ []) new
  classed_put = record {
    formed = formed_more nodes (n ∷ []) h.formed (All-cons (IsWellFormedNode (length nodes + 1)) n [] well (All-nil (IsWellFormedNode (length nodes + 1))));
    numbering = subst (λ known. IsNumbering label_cmp known) (sym numbers) h.numbering;
    reduced = subst IsReduced (sym reduced) h.reduced;
    seen_size = ap length seen_is ∙ omega (arith, h.seen_size, length-append old.seen.items (seen ∷ []), length-append nodes (n ∷ []));
    classes_size = ap length classes_is ∙ omega (arith, h.classes_size, length-append old.classes.items (class ∷ []), length-append nodes (n ∷ []));
    each = each;
  }
    where
      each : (i : ℕ) (m : NodeValue) → slice_get (nodes ++ n ∷ []) i ≡ Some m → IsClassed new i m
      each i m at = elim (cases_lt i (length nodes)) [
        | inl lt ↦ before i m (sym (at_front nodes (n ∷ []) i lt) ∙ at)
        | inr le ↦
            let within = slice_get_within (nodes ++ n ∷ []) i m at in
            let e : i ≡ length nodes = omega (arith, le, within, length-append nodes (n ∷ [])) in
            let is : n ≡ m = same_Some n m (sym (at_last nodes n) ∙ ap (slice_get (nodes ++ n ∷ [])) (sym e) ∙ at) in
            subst (IsClassed new i) is (last i e)
      ]

-- ---- all classes are vertices

pub classes_inside : (nodes : Nodes) (s : Annotations) → AreClassed nodes s → All (λ c. c < length s.reduced) s.classes.items
classes_inside nodes s h i d lt =
    let n = there nodes i (omega (arith, lt, h.classes_size)) in
    let c = h.each i n.0 n.1 in
    let e : class_at s.classes.items i ≡ get_or s.classes.items i d = get_or_default s.classes.items i 0 d lt in
    subst (λ a. a < length s.reduced) e (slice_get_within s.reduced (class_at s.classes.items i) c.vertex.vertex c.vertex.is)
