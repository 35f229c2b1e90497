-- What the check of a program begins with.
use Rattle.std.proofs.Common.{◌≡◌, ◌<◌, ℕ, zero, suc, List, [], ◌∷◌, ◌++◌, length, map, get_or, slice_get, Some, All, sym, ap, subst, ◌∙◌}
use Rattle.std.specs.Option.{option_map}
use Rattle.std.proofs.lemmas.List.{length-map}
use Rattle.std.proofs.lemmas.Option.{slice_get-map, slice_get-get_or, same_Some, none-some}
use Rattle.hm_tree.specs.Names.{Name}
use Rattle.hm_schema.specs.declared.node.Node.{Node}
use Rattle.hm_schema.specs.Values.{SchemaValue, node_value}
use Rattle.hm_schema.specs.WellFormed.{IsWellFormed}
use Rattle.hm_schema.proofs.Lists.{all_read}
use Rattle.hm_terms.specs.declared.term.Definition.{Definition}
use Rattle.hm_terms.specs.Lenses.{DefinitionValue}
use Rattle.hm_terms.specs.Programs.{ProgramValue, definition_value}
use Rattle.hm_types_table.specs.Tables.{Nodes, AreFormed, shifted}
use Rattle.hm_types_terms.specs.Courses.{Declared}
use Rattle.hm_types.specs.DeclaredNodes.{DeclaresAll}
use Rattle.hm_types.proofs.CheckSteps.{base, IsBegun}

-- the first table is that of the nodes of the schema and of the types
pub base_is : (p : ProgramValue) (s : SchemaValue) (first second : List Node) (table : Nodes) → map node_value first ≡ s.nodes
    → map node_value second ≡ p.options.types → table ≡ map node_value first ++ map (shifted (length first)) (map node_value second) → table ≡ base p s
base_is p s first second table e f is =
    let by : length first ≡ length s.nodes = sym (length-map first node_value) ∙ ap length e in
    is ∙ (λ t. e t ++ map (shifted (by t)) (f t))

pub begun : (p : ProgramValue) (s : SchemaValue) (first second : List Node) (defs : List Definition) (table : Nodes) (ds : Declared) → map node_value first ≡ s.nodes
    → map node_value second ≡ p.options.types → map definition_value defs ≡ p.definitions → IsWellFormed s
    → table ≡ map node_value first ++ map (shifted (length first)) (map node_value second) → AreFormed table
    → DeclaresAll (map definition_value defs) (length first) ds → IsBegun p s (length first) ds
begun p s first second defs table ds e f g well is formed declares =
    let by : length first ≡ length s.nodes = sym (length-map first node_value) ∙ ap length e in
    record {
      by_is = by;
      source = well;
      formed = subst AreFormed (base_is p s first second table e f is) formed;
      declares = subst (λ n. DeclaresAll p.definitions n ds) by (subst (λ d. DeclaresAll d (length first) ds) g declares);
    }

-- the nodes that a definition is declared with
module _ (defs : List Definition) (n : ℕ) (inside : All (λ (d : Name × DefinitionValue). (d.1.source.place < n) × (d.1.view.place < n)) (map definition_value defs)) where
  pub definition_at : (k : ℕ) (d : Definition) → slice_get defs k ≡ Some d → slice_get (map definition_value defs) k ≡ Some (definition_value d)
  definition_at k d e = slice_get-map definition_value defs k ∙ ap (option_map definition_value) e

  pub declared_inside : (k : ℕ) (d : Definition) → k < length defs → ((get_or defs k d).source.place < n) × ((get_or defs k d).view.place < n)
  declared_inside k d lt =
      all_read (λ (d : Name × DefinitionValue). (d.1.source.place < n) × (d.1.view.place < n)) (map definition_value defs) k (definition_value (get_or defs k d))
      (definition_at k (get_or defs k d) (slice_get-get_or defs k d lt)) inside

-- the name of a definition at a place
pub name_at : (defs : List Definition) (i : ℕ) (d : Definition) (name : Name) → d ≡ get_or defs i d
    → slice_get (map (λ (d : Name × DefinitionValue). d.0) (map definition_value defs)) i ≡ Some name → name ≡ d.name
name_at [] i d name is e = absurd (none-some name e)
name_at (x ∷ defs) zero d name is e = sym (same_Some x.name name e) ∙ ap (λ (d : Definition). d.name) (sym is)
name_at (x ∷ defs) (suc i) d name is e = name_at defs i d name is e
