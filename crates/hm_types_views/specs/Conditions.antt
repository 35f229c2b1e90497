-- The conditions of rules as they are read off the kind of a node.
use Rattle.std.specs.Prelude.{◌≡◌, ◌⊎◌, ◌<◌, ◌*◌, ◌≤◌, Bool, true, false, IsTrue, List, [], length, All}
use Rattle.std.specs.List.{list_any}
use Rattle.std.specs.Ordering.{eq_by_cmp}
use Rattle.std.specs.FinSet.{contains}
use Rattle.hm_tree.specs.Names.{Name, name_cmp}
use Rattle.hm_schema.specs.declared.node.Shape.{Shape}
use Rattle.hm_schema.specs.Values.{Names}
use Rattle.hm_schema.specs.Tidied.{has_name}
use Rattle.hm_schema.specs.Shapes.{IsShut}
use Rattle.hm_types_nodes.specs.Branching.{shapes_with, shapes_without}
use Rattle.hm_types_table.specs.Shapes.{HasAll}
use Rattle.hm_types_table.specs.declared.kind.NodeKind.{NodeKind}

-- a name is among names
abbrev pub IsIn : List Name → Name → Type 0
IsIn names k = IsTrue (list_any (eq_by_cmp name_cmp k) names)

-- no shape lets an unlisted name in, or each name of a set is listed
abbrev pub Separates : Names → NodeKind → Type 0
Separates names k = All IsShut k.shapes.items ⊎ ((m : Name) → IsTrue (contains names m) → IsIn k.names.items m)

-- both names of a twin are in a set, or neither is
abbrev pub IsTogether : Names → Name × Name → Type 0
IsTogether names twin = contains names twin.0 ≡ contains names twin.1

pub record CanPart (names : Names) (k : NodeKind) : Type 0 where
  pub one : length k.shapes.items ≡ 1
  pub separate : Separates names k
  pub together : All (IsTogether names) k.twins.items

pub record CanBranch (m : Name) (k : NodeKind) : Type 0 where
  pub plain : k.twins.items ≡ []
  pub listed : IsIn k.names.items m
  pub with_it : 0 < length (shapes_with m k.shapes.items)
  pub without_it : 0 < length (shapes_without m k.shapes.items)

-- a shape requires a name, hasn't a second one, and lets no unlisted name in where that isn't listed
pub record MayCopy (m n : Name) (listed : Bool) (a : Shape) : Type 0 where
  pub required : IsTrue (contains a.required m)
  pub absent : has_name a n ≡ false
  pub lists : IsShut a ⊎ IsTrue listed

pub record CanJoinKinds (names : Names) (one two : NodeKind) : Type 0 where
  pub shut : All IsShut one.shapes.items
  pub inside : All (HasAll names true) one.shapes.items
  pub outside : All (HasAll names false) two.shapes.items
  pub separate : Separates names two
  pub few : length one.shapes.items * length two.shapes.items ≤ 256

-- a shape that counts no unlisted names
pub record AddsNothing (a : Shape) : Type 0 where
  pub least : a.least ≡ 0
  pub most : IsShut a
