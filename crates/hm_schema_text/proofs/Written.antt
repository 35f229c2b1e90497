-- The text of a schema, put together.
use Rattle.std.proofs.Common.{◌≡◌, ℕ, List, ◌++◌, length, sym, ap, ◌∙◌, codes, decimal}
use Rattle.std.proofs.lemmas.List.Folds.{flat_map-map}
use Rattle.hm_tree.specs.Names.{Name}
use Rattle.hm_schema.specs.declared.node.NodeId.{NodeId}
use Rattle.hm_schema.specs.Values.{NodeValue, SchemaValue}
use Rattle.hm_schema_lines.specs.NodeLines.{NodeLineValue}
use Rattle.hm_schema_writer.specs.Writing.{line_text, ended}
use Rattle.hm_schema_writer.specs.WrittenNodes.{nodes_lines, nodes_text}
use Rattle.hm_schema_text.specs.Writing.{number_names, schema_text}

module _ (s : SchemaValue) where
  abbrev head_text : NodeId → List ℕ
  head_text root = codes "harmony schema 1\nroot N" ++ (decimal root.place ++ codes "\n")

  abbrev lines : List NodeLineValue
  lines = nodes_lines (number_names (length s.nodes)) s.nodes

  whole : head_text s.root ++ nodes_text (number_names (length s.nodes)) s.nodes ≡ schema_text s
  unfolding schema_text
  whole = ap (λ (z : List ℕ). head_text s.root ++ z) (sym (flat_map-map ended line_text lines))

  pub schema_put : (head text new : List ℕ) (names : List Name) (nodes : List NodeValue) (root : NodeId) → root ≡ s.root → head ≡ head_text root → text ≡ head
      → names ≡ number_names (length s.nodes) → nodes ≡ s.nodes → new ≡ text ++ nodes_text names nodes → new ≡ schema_text s
  schema_put head text new names nodes root root_is head_is text_is names_are nodes_are new_is =
      new_is
      ∙ ap (λ (z : List ℕ). z ++ nodes_text names nodes) (text_is ∙ head_is ∙ ap head_text root_is)
      ∙ ap (λ (z : List Name × List NodeValue). head_text s.root ++ nodes_text z.0 z.1) (λ i. (names_are i, nodes_are i))
      ∙ whole
