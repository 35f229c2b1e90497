-- What reading a file comes to: its first bad line, or its schema.
use Rattle.std.proofs.Common.{◌≡◌, ℕ, ◌+◌, ◌<◌, List, [], ◌∷◌, map, length, count_by, refl, sym, subst, ◌∙◌, arith}
use Rattle.std.proofs.lemmas.List.{length-map}
use Rattle.hm_tree.specs.Names.{Name}
use Rattle.hm_schema.specs.declared.node.NodeId.{NodeId}
use Rattle.hm_schema.specs.declared.node.Node.{Node}
use Rattle.hm_schema.specs.Values.{SchemaValue, node_value, schema_value}
use Rattle.hm_schema.specs.WellFormed.{IsWellFormed}
use Rattle.hm_schema_lines.specs.declared.entry.Entry.{Entry}
use Rattle.hm_schema_lines.specs.Entries.{entry_value, entry_values, AreEntries}
use Rattle.hm_schema_lines.specs.BadLines.{is_counted}
use Rattle.hm_schema_lines.specs.FirstBad.{HasNoBad, IsTold, behind_all}
use Rattle.hm_schema_lines.specs.Nodes.{IsPlaceOf, AreNodesOf}
use Rattle.hm_schema_lines.proofs.Laws.{nodes_formed, own_in_range}
use Rattle.hm_schema_text.specs.Head.{NamesRoot}
use Rattle.hm_schema_text.specs.BadLines.{IsBadLine, of_node, IsFirstBadLine}
use Rattle.hm_schema_text.specs.SchemaFiles.{IsSchemaFile}

module _ (bytes : List ℕ) (entries : List Entry) (read : AreEntries bytes (entry_values entries))
    (sound : HasNoBad (IsBadLine bytes (entry_values entries))) where
  pub missing_line : (n : ℕ) → n ≡ length entries → count_by is_counted (entry_values entries) < 2 → IsFirstBadLine bytes (n + 1)
  missing_line n told few = record {
    entries = entry_values entries;
    read = read;
    told = subst (λ m. IsTold (IsBadLine bytes (entry_values entries)) (count_by is_counted (entry_values entries) < 2)
        (length (entry_values entries)) (m + 1))
        (length-map entries entry_value ∙ sym told)
        (behind_all sound few);
  }

  pub schema_file : (nodes : List Node) (id : NodeId) (w : Name) → NamesRoot bytes (entry_values entries) w
      → IsPlaceOf (entry_values entries) w id.place → AreNodesOf (entry_values entries) (w ∷ []) (map node_value nodes)
      → IsSchemaFile bytes (schema_value nodes id)
  schema_file nodes id w named place are =
      record { entries = entry_values entries; read = read; sound = sound; name = w; named = named; nodes = are; root = place }

pub file_formed : (bytes : List ℕ) (s : SchemaValue) → IsSchemaFile bytes s → IsWellFormed s
file_formed bytes s f = record {
  nodes = nodes_formed f.entries (f.name ∷ []) s.nodes (λ i bad. f.sound i (of_node bad)) f.nodes;
  root = own_in_range f.entries (f.name ∷ []) s.nodes f.nodes f.name s.root.place (0, omega arith, refl) f.root;
}
