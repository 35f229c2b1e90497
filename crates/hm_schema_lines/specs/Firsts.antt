-- The first place of each name.
use Rattle.std.specs.Prelude.{String, ◌≡◌, ℕ, suc, cond, List, [], ◌∷◌, Option, Some, None}
use Rattle.indexmap.specs.IndexMap.{IndexMap, get_by_text}
use Rattle.std.specs.declared.alloc.Global.{Global}
use Rattle.std.specs.declared.hash.BuildHasherDefault.{BuildHasherDefault}
use Rattle.std.specs.declared.hash.FoldHasher.{FoldHasher}
use Rattle.std.specs.List.{filter_map}
use Rattle.std.specs.Option.{option_map, option_or}
use Rattle.std.specs.Str.{bytes_eq}
use Rattle.hm_tree.specs.Names.{Name}
use Rattle.hm_schema_lines.specs.declared.firsts.Naming.{Naming}
use Rattle.hm_schema_lines.specs.declared.firsts.Naming.TheVariants.{Nodes, Edges}
use Rattle.hm_schema_lines.specs.NodeLines.{node, edge}
use Rattle.hm_schema_lines.specs.Entries.{EntryValue, says}

-- the first place of a name in a list
abbrev pub place_in : Name → List Name → Option ℕ
place_in q [] = None
place_in q (n ∷ ns) = cond (bytes_eq q n) (Some 0) (option_map suc (place_in q ns))

-- the name of the node that a line begins
abbrev pub begun_name : EntryValue → Option Name
begun_name (says (node w)) = Some w
begun_name e = None

-- the name that a line lists
abbrev pub listed_name : EntryValue → Option Name
listed_name (says (edge k w)) = Some k
listed_name e = None

abbrev pub name_by : Naming → EntryValue → Option Name
name_by Nodes = begun_name
name_by Edges = listed_name

-- the names that lines bring, in their order
abbrev pub names_by : Naming → List EntryValue → List Name
names_by n es = filter_map (name_by n) es

abbrev pub node_names : List EntryValue → List Name
node_names es = names_by Nodes es

abbrev pub edge_names : List EntryValue → List Name
edge_names es = names_by Edges es

-- a place for a name that had none
abbrev pub kept_first : Option ℕ → Name → Name → ℕ → Option ℕ
kept_first old q name place = option_or old (cond (bytes_eq q name) (Some place) None)

-- a table of places by name
abbrev pub FirstPlaces : Type 0
FirstPlaces = IndexMap (String Global) ℕ (BuildHasherDefault FoldHasher)

-- a table holds the first place of each name of a list
abbrev pub AreFirsts : FirstPlaces → List Name → Type 0
AreFirsts table names = (q : List ℕ) → get_by_text table q ≡ place_in q names
