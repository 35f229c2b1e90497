-- What is kept beside nodes, on the way to one node more.
use Rattle.std.proofs.Common.{◌≡◌, ℕ, ◌+◌, ◌<◌, true, IsTrue, List, [], ◌∷◌, ◌++◌, map, length, get_or, slice_get, Option, Some, None, All, refl, sym, ap, subst, ◌∙◌, arith}
use Rattle.std.specs.List.{zip, list_any}
use Rattle.std.specs.Option.{option_map}
use Rattle.std.proofs.lemmas.List.Elements.{All-head, All-tail, All-map}
use Rattle.std.proofs.lemmas.Option.{same_Some, get_or_from_slice_get}
use Rattle.std.proofs.lemmas.Slice.Zip.{firsts-zip, seconds-zip}
use Rattle.hm_tree.specs.declared.class.Class.{Class}
use Rattle.hm_tree.specs.Names.{Name}
use Rattle.hm_schema.specs.declared.node.NodeId.{NodeId}
use Rattle.hm_schema.specs.Values.{NodeValue}
use Rattle.hm_schema.specs.Tidied.{has_name}
use Rattle.hm_schema.specs.WellFormed.{IsWellFormedNode}
use Rattle.hm_schema.specs.Labels.{Numbers}
use Rattle.hm_types_forms.specs.Forms.{label_of}
use Rattle.hm_types_table.specs.declared.kind.NodeKind.{NodeKind}
use Rattle.hm_types_table.specs.declared.outline.Outline.{Outline}
use Rattle.hm_types_table.specs.declared.annotations.Annotations.{Annotations}
use Rattle.hm_types_table.specs.Tables.{Nodes, keys, replaced, seated, Replaces}
use Rattle.hm_types_table.specs.Classes.{IsOutline, HasOutline, AreClassed, Keeps, IsClassFor, kind_label}
use Rattle.hm_types_table.proofs.Classed.{outline_stays, graph_same, classed_kept, class_for_kept, classed_put}
use Rattle.hm_types_table.proofs.Keys.{keys_size}
use Rattle.hm_types_table.proofs.Outlines.{bare, bare_keys}

pub keeps_self : (s : Annotations) → Keeps s s
keeps_self s = record {
  numbering = λ h. h;
  stays = λ q n e. e;
  outlines = λ i o at. at;
  reduced = λ h. h;
  grows = graph_same s.reduced;
  seen = refl;
  classes = refl;
}

-- the nodes that the names of a node of a kind lead to are in range
pub next_inside : (bound : ℕ) (k : NodeKind) (next : List NodeId) (other : Option (Class × NodeId)) → length next ≡ length k.names.items
    → All (λ c. c.1.place < bound) (seated k next other).children → All (λ j. j.place < bound) next
next_inside bound k next other count h = subst (All (λ (j : NodeId). j.place < bound)) (seconds-zip k.names.items next count)
    (All-map (λ (j : NodeId). j.place < bound) (λ (c : Name × NodeId). c.1) (zip k.names.items next) h)

-- a node has the label of the node that it is like
pub replaced_label : (nodes : Nodes) (n : NodeValue) (next : List NodeId) (other : Option (Class × NodeId)) → length next ≡ length n.children
    → Replaces nodes n.other other → label_of (replaced n next other) ≡ label_of n
replaced_label nodes n next other count fits =
    let cs = bare_keys (zip (keys n.children) next)
    ∙ ap (map bare) (firsts-zip (keys n.children) next (count ∙ sym (keys_size n.children))) ∙ sym (bare_keys n.children) in
    let o = go n.other other fits in
    λ i. record { shapes = n.shapes; children = cs i; other = o i; twins = n.twins }
  where
    go : (p q : Option (Class × NodeId)) → Replaces nodes p q
        → option_map {U = Class × Unit {0}} (λ o. (o.0, tt)) q ≡ option_map {U = Class × Unit {0}} (λ o. (o.0, tt)) p
    go None None r = refl
    go None (Some q) r = absurd r
    go (Some p) None r = absurd r
    go (Some p) (Some q) r = ap (λ (c : Class). let x : Class × Unit {0} = (c, tt) in Some x) r.0

-- ---- an outline, a class, room, and the node

module _ (nodes : Nodes) (start outlined found room : Annotations) (h : AreClassed nodes start)
    (one : Keeps start outlined) (two : Keeps outlined found) (three : Keeps found room) where
  pub after_outline : AreClassed nodes outlined
  after_outline = classed_kept nodes start outlined h one

  pub after_class : AreClassed nodes found
  after_class = classed_kept nodes outlined found after_outline two

  pub after_room : AreClassed nodes room
  after_room = classed_kept nodes found room after_class three

  module _ (n : NodeValue) (seen class : ℕ) (o : Outline) (is : slice_get outlined.outlines.items seen ≡ Some o)
      (told : IsOutline outlined.numbers (label_of n) o) where
    still_told : (p : Outline) → slice_get room.outlines.items seen ≡ Some p → IsOutline room.numbers (label_of n) p
    still_told p at =
        let same : o ≡ p = same_Some o p (sym (three.outlines seen o (two.outlines seen o is)) ∙ at) in
        subst (IsOutline room.numbers (label_of n)) same (outline_stays found.numbers room.numbers (label_of n) o three.stays
        (outline_stays outlined.numbers found.numbers (label_of n) o two.stays told))

    module _ (end : Annotations) (well : IsWellFormedNode (length nodes + 1) n) (next : List NodeId) (other : Option (Class × NodeId))
        (numbers : end.numbers ≡ room.numbers) (outlines : end.outlines ≡ room.outlines) (reduced : end.reduced ≡ room.reduced)
        (seen_is : end.seen.items ≡ room.seen.items ++ seen ∷ []) (classes_is : end.classes.items ≡ room.classes.items ++ class ∷ []) where
      pub after_put : next ≡ map (λ c. c.1) n.children → other ≡ n.other → IsClassFor found seen class next other → AreClassed (nodes ++ n ∷ []) end
      after_put ends rest put = classed_put nodes room end n seen class after_room well numbers outlines reduced seen_is classes_is still_told
          (subst (λ js. IsClassFor room seen class js n.other) ends
          (subst (IsClassFor room seen class next) rest (class_for_kept found room seen class next other three put)))

-- the outline of a node that is there
pub outline_there : (nodes : Nodes) (s : Annotations) (i : ℕ) (n : NodeValue) (seen d : ℕ) → AreClassed nodes s → slice_get nodes i ≡ Some n
    → seen ≡ get_or s.seen.items i d → HasOutline s seen (label_of n)
outline_there nodes s i n seen d h at is =
    let c = h.each i n at in
    let same : c.seen ≡ seen = sym (is ∙ get_or_from_slice_get s.seen.items i c.seen d c.is_seen) in
    record { outline = c.outline; is = ap (slice_get s.outlines.items) (sym same) ∙ c.is_outline; told = c.outlined }

-- both names of a kind of two names stand
pub two_stand : (known : Numbers) (k : NodeKind) (class : Option Class) (o : Outline) → IsOutline known (kind_label k class) o → length k.names.items ≡ 2
    → All (λ m. IsTrue (list_any (λ a. has_name a m) k.shapes.items)) k.names.items → o.standing.items ≡ true ∷ true ∷ []
two_stand known k class o told two h = told.standing ∙ go k.names.items two h
  where
    P : Name → Type 0
    P m = IsTrue (list_any (λ a. has_name a m) k.shapes.items)

    go : (names : List Name) → length names ≡ 2 → All P names
        → map (λ (c : Name × Unit {0}). list_any (λ a. has_name a c.0) k.shapes.items) (map bare names) ≡ true ∷ true ∷ []
    go [] e h = absurd (omega (arith, e))
    go (m ∷ []) e h = absurd (omega (arith, e))
    go (m ∷ n ∷ []) e h =
        let one = All-head P m (n ∷ []) h in
        let two = All-head P n [] (All-tail P m (n ∷ []) h) in
        λ t. one t ∷ two t ∷ []
    go (m ∷ n ∷ l ∷ ls) e h = absurd (omega (arith, e))
