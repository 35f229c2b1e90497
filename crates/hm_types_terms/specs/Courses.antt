-- What a lens is checked with, and what is found of it.
use Rattle.std.specs.Prelude.{◌≡◌, ◌<◌, ◌^◌, ℕ, suc, T, List, map, length, Some, slice_get, All, Contains, find as find_first}
use Rattle.std.specs.Option.{option_map}
use Rattle.std.specs.FinMap.{find, is_sorted}
use Rattle.hm_tree.specs.Names.{Name, name_cmp}
use Rattle.hm_schema.specs.declared.node.NodeId.{NodeId}
use Rattle.hm_terms.specs.Lenses.{Lens, Lenses, among}
use Rattle.hm_terms.specs.WellFormedPrograms.{HasOnce, row_names}
use Rattle.hm_terms.specs.Programs.{lens_of}
use Rattle.hm_types_forms.specs.Forms.{form}
use Rattle.hm_types_forms.specs.Sound.{IsSound}
use Rattle.hm_types_rules.specs.Typing.{Classes, Types, Goes}
use Rattle.hm_types_rules.specs.Faults.{At, Faults}
use Rattle.hm_types_table.specs.Tables.{Nodes, AreFormed, Extends}
use Rattle.std.specs.Ordering.{eq_by_cmp}
use Rattle.hm_types_terms.specs.declared.course.Course.{Course}
use Rattle.hm_types_terms.specs.declared.texts.TextType.{TextType}
use Rattle.hm_types_terms.specs.declared.memo.Memo.{Memo}
use Rattle.hm_types_terms.specs.Numbers.{parts_of, StandFrom}
use Rattle.hm_types_terms.specs.Parts.{part_of}
use Rattle.hm_types_terms.specs.Memos.{Knows}
use Rattle.hm_types_terms.specs.Alike.{AreAlike}

-- names of definitions with the nodes of their sources and views
abbrev pub Declared : Type 0
Declared = List (Name × (NodeId × NodeId))

-- what a lens may name: text lenses, and definitions
pub record Scope : Type 0 where
  pub texts : Classes
  pub declared : Declared

-- the types of these
pub record AreTypes (nodes : Nodes) (scope : Scope) (types : Types) : Type 0 where
  pub texts : (x : Name) → types.texts x ≡ scope.texts x
  pub is : (n : Name) → types.declared n ≡ option_map (λ (d : NodeId × NodeId). (form nodes d.0, form nodes d.1)) (find name_cmp n scope.declared)

-- the nodes that definitions are declared with are there, and sound
pub record AreDeclared (nodes : Nodes) (scope : Scope) : Type 0 where
  pub sorted : T (is_sorted name_cmp scope.declared)
  pub sources : All (λ (d : Name × (NodeId × NodeId)). d.1.0.place < length nodes) scope.declared
  pub views : All (λ (d : Name × (NodeId × NodeId)). d.1.1.place < length nodes) scope.declared
  pub sound_sources : All (λ (d : Name × (NodeId × NodeId)). IsSound (form nodes d.1.0)) scope.declared
  pub sound_views : All (λ (d : Name × (NodeId × NodeId)). IsSound (form nodes d.1.1)) scope.declared

-- the classes of the first of some text types of a name
abbrev pub classes_of : List TextType → Classes
classes_of types x = option_map (λ (t : TextType). (t.from, t.into)) (find_first (λ t. eq_by_cmp name_cmp x t.name) types)

abbrev pub scoped : List TextType → Declared → Scope
scoped texts declared = record { texts = classes_of texts; declared = declared }

-- what the lenses of a course may name
abbrev pub scope_of : Course → Scope
scope_of c = scoped c.texts.now c.declared.now

-- the lens of a course and all in it
abbrev pub lenses_in : Course → List Lens
lenses_in c = parts_of (lens_of c.root.now)

-- a lens goes from a node to a node
pub record IsView (scope : Scope) (old new : Nodes) (l : Lens) (i j : NodeId) : Type 0 where
  pub in_range : j.place < length new
  pub goes : (types : Types) → AreTypes old scope types → Goes types l (form old i) (form new j)

-- what is remembered of the lens at a place at a node is its view
pub record IsMemo (c : Course) (nodes : Nodes) (memo : Memo) : Type 0 where
  pub in_range : (n : ℕ) (i j : NodeId) → Knows memo n i j → i.place < length nodes
  pub each : (n : ℕ) (i j : NodeId) → Knows memo n i j → (l : Lens) → slice_get (lenses_in c) n ≡ Some l
      → IsView (scope_of c) nodes nodes l i j

-- nodes that lead to one another, a sound one among them, and definitions
pub record IsStart (nodes : Nodes) (scope : Scope) (i : NodeId) : Type 0 where
  pub formed : AreFormed nodes
  pub in_range : i.place < length nodes
  pub sound : IsSound (form nodes i)
  pub declared : AreDeclared nodes scope

-- the lenses of a course are known by their numbers, which are in range
pub record IsSized (c : Course) : Type 0 where
  pub parts : c.parts.now ≡ map part_of (lenses_in c)
  -- what is found of a lens is remembered under the place of an equal one
  pub count : length c.alike.now ≡ length (lenses_in c)
  pub alike : AreAlike (lenses_in c) c.alike.now
  pub room : suc (length (lenses_in c)) < 2 ^ 64

-- all that lenses are checked with
pub record IsReady (c : Course) (nodes : Nodes) (known : Memo) (xs : List Lens) (n : ℕ) (i : NodeId) : Type 0 where
  pub start : IsStart nodes (scope_of c) i
  pub memo : IsMemo c nodes known
  pub stand : StandFrom (lenses_in c) n xs
  pub sized : IsSized c
  -- no name has two lenses
  pub rows : (ls : Lenses) → Contains (lenses_in c) (among ls) → HasOnce (row_names ls)

-- what stays true as nodes are added
pub record IsGrown (c : Course) (old new : Nodes) (known : Memo) : Type 0 where
  pub formed : AreFormed new
  pub extends : Extends old new
  pub memo : IsMemo c new known

-- a lens has no view at a node, and this is the first condition that isn't met
abbrev pub IsAt : Scope → Nodes → Lens → ℕ → NodeId → At → Type 0
IsAt scope nodes l n i a = (types : Types) → AreTypes nodes scope types → Faults types l n (form nodes i) a

-- a lens of a course has this number
pub record IsNumbered (c : Course) (n : ℕ) : Type 0 where
  pub lens : Lens
  pub stand : StandFrom (lenses_in c) n (parts_of lens)
  pub sized : IsSized c
