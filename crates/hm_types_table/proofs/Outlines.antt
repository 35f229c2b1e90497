-- The label of a kind of nodes, tidied.
use Rattle.std.proofs.Common.{◌≡◌, Bool, true, false, cond, List, [], ◌∷◌, map, filter, Option, Some, None, refl, sym, ap, ◌∙◌}
use Rattle.std.specs.List.{list_any}
use Rattle.std.specs.Option.{option_map}
use Rattle.hm_tree.specs.declared.class.Class.{Class}
use Rattle.hm_tree.specs.Names.{Name}
use Rattle.hm_schema.specs.declared.label.Label.{Label as Kept}
use Rattle.hm_schema.specs.declared.node.NodeId.{NodeId}
use Rattle.hm_schema.specs.Values.{NodeOver}
use Rattle.hm_schema.specs.Labels.{IsLabel, rank}
use Rattle.hm_schema.specs.Tidied.{tidied, has_name, lets_in}
use Rattle.hm_types_forms.specs.Forms.{label_of}
use Rattle.hm_types_forms.proofs.Matching.{keys_bare}
use Rattle.hm_types_table.specs.declared.kind.NodeKind.{NodeKind}
use Rattle.hm_types_table.specs.Tables.{keys}
use Rattle.hm_types_table.specs.Classes.{kind_label, left}

-- ---- names without what they lead to

abbrev pub bare : Name → Name × Unit {0}
bare m = (m, tt)

pub bare_keys : {X : Type 0} (cs : List (Name × X)) → map {B = Name × Unit {0}} (λ c. (c.0, tt)) cs ≡ map bare (keys cs)
bare_keys [] = refl
bare_keys (c ∷ cs) = ap (λ l. bare c.0 ∷ l) (bare_keys cs)

module _ (p : Name → Bool) where
  bare_all : (ms : List Name) → map bare (left true (map p ms) ms) ≡ map bare ms
  bare_all [] = refl
  bare_all (m ∷ ms) = ap (λ l. bare m ∷ l) (bare_all ms)

  bare_some : (ms : List Name) → map bare (left false (map p ms) ms) ≡ filter (λ c. p c.0) (map bare ms)
  bare_some [] = refl
  bare_some (m ∷ ms) = go (p m) (bare_some ms)
    where
      go : (b : Bool) → map bare (left false (map p ms) ms) ≡ filter (λ (c : Name × Unit {0}). p c.0) (map bare ms)
          → map bare (cond b (m ∷ left false (map p ms) ms) (left false (map p ms) ms))
          ≡ cond b (bare m ∷ filter (λ (c : Name × Unit {0}). p c.0) (map bare ms)) (filter (λ (c : Name × Unit {0}). p c.0) (map bare ms))
      go true rest = ap (λ l. bare m ∷ l) rest
      go false rest = rest

  bare_left : (all : Bool) (ms : List Name) → map bare (left all (map p ms) ms) ≡ cond all (map bare ms) (filter (λ c. p c.0) (map bare ms))
  bare_left true ms = bare_all ms
  bare_left false ms = bare_some ms

  pub flags_bare : (ms : List Name) → map p ms ≡ map (λ (c : Name × Unit {0}). p c.0) (map bare ms)
  flags_bare [] = refl
  flags_bare (m ∷ ms) = ap (λ l. p m ∷ l) (flags_bare ms)

-- ---- all other names without what they lead to

pub other_bare : (o : Option (Class × NodeId)) (x : Option Class) → option_map (λ o. o.0) o ≡ x
    → option_map {U = Class × Unit {0}} (λ o. (o.0, tt)) o ≡ option_map {U = Class × Unit {0}} (λ c. (c, tt)) x
other_bare None x e = ap (option_map {U = Class × Unit {0}} (λ c. (c, tt))) e
other_bare (Some o) x e = ap (option_map {U = Class × Unit {0}} (λ c. (c, tt))) e

other_cond : (all : Bool) (x : Option Class) → option_map {U = Class × Unit {0}} (λ c. (c, tt)) (cond all x None)
    ≡ cond all (option_map {U = Class × Unit {0}} (λ c. (c, tt)) x) None
other_cond true x = refl
other_cond false x = refl

-- ---- a node of a kind, tidied

module _ (k : NodeKind) (class : Option Class) (n : NodeOver NodeId) (standing : List Bool) where
  pub label_left : n.shapes ≡ k.shapes.items → n.twins ≡ k.twins.items
      → standing ≡ map (λ m. list_any (λ a. has_name a m) k.shapes.items) k.names.items
      → keys n.children ≡ left (list_any lets_in k.shapes.items) standing k.names.items
      → option_map (λ o. o.0) n.other ≡ cond (list_any lets_in k.shapes.items) class None
      → label_of n ≡ tidied (kind_label k class)
  label_left shapes twins flags names other =
      let all = list_any lets_in k.shapes.items in
      let p : Name → Bool = λ m. list_any (λ a. has_name a m) k.shapes.items in
      let cs = bare_keys n.children ∙ ap (map bare) (names ∙ ap (λ bs. left all bs k.names.items) flags) ∙ bare_left p all k.names.items in
      let o = other_bare n.other (cond all class None) other ∙ other_cond all class in
      λ i. record { shapes = shapes i; children = cs i; other = o i; twins = twins i }

-- ---- a label is also that of the node without what its edges lead to

module _ {I : Type 0} (n : NodeOver I) (l : Kept) (h : IsLabel n l) where
  pub label_bare : IsLabel (label_of n) l
  label_bare = record { shapes = h.shapes; names = h.names ∙ sym (keys_bare n.children); class = h.class ∙ go n.other; twins = h.twins }
    where
      go : (o : Option (Class × I)) → option_map (λ o. rank o.0) o ≡ option_map (λ o. rank o.0) (option_map {U = Class × Unit {0}} (λ o. (o.0, tt)) o)
      go None = refl
      go (Some o) = refl
