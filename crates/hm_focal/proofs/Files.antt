-- What reading a file comes to: its first bad line, or its program.
use Rattle.std.proofs.Common.{◌≡◌, ◌⊎◌, inl, inr, ℕ, ◌+◌, List, map, length, filter_map, Some, None, Vec, sym, subst, ◌∙◌}
use Rattle.std.specs.declared.alloc.Global.{Global}
use Rattle.std.specs.List.{AllZip}
use Rattle.std.proofs.lemmas.List.{length-map}
use Rattle.std.proofs.lemmas.Option.{MatchOption-at_some, MatchOption-at_none}
use Rattle.hm_tree.specs.Names.{Name}
use Rattle.hm_schema.specs.declared.node.Node.{Node}
use Rattle.hm_schema.specs.Values.{node_value}
use Rattle.hm_terms.specs.declared.term.Term.{Term}
use Rattle.hm_terms.specs.declared.term.Definition.{Definition}
use Rattle.hm_terms.specs.Programs.{definition_value, program_value}
use Rattle.hm_schema_lines.specs.declared.entry.Entry.{Entry}
use Rattle.hm_schema_lines.specs.Entries.{entry_value, entry_values, texts_of}
use Rattle.hm_schema_lines.specs.FirstBad.{HasNoBad, IsFirstBad, IsTold, at, behind_all}
use Rattle.hm_schema_lines.specs.Nodes.{AreTypeNames, AreNodesOf}
use Rattle.hm_focal.specs.declared.own.Own.{Own}
use Rattle.hm_focal.specs.declared.own.FormatLine.{FormatLine}
use Rattle.hm_focal.specs.declared.program.Parts.{Parts}
use Rattle.hm_focal.specs.OwnLines.{lens_in, own_values, named_nodes}
use Rattle.hm_focal.specs.Lines.{AreLines}
use Rattle.hm_focal.specs.BadLines.{IsBadLine, Lacks, IsFirstBadLine}
use Rattle.hm_focal.specs.LensFiles.{IsDefinitionOf, IsLensFile}
use Rattle.hm_focal.specs.Building.{AreBuilt}

module _ (bytes : List ℕ) (entries : List Entry) (own : List Own) (read : AreLines (texts_of bytes) (entry_values entries) (own_values own)) where
  pub first_told : (es : List Entry) (os : List Own) → es ≡ entries → os ≡ own → (place : ℕ)
      → IsFirstBad (IsBadLine (entry_values es) (own_values os)) place → IsFirstBadLine bytes (place + 1)
  first_told es os e o place h = record {
    entries = entry_values entries;
    own = own_values own;
    read = read;
    told = at (subst (λ (z : List Entry × List Own). IsFirstBad (IsBadLine (entry_values z.0) (own_values z.1)) place) (λ i. (e i, o i)) h);
  }

  pub sound_of : (es : List Entry) (os : List Own) → es ≡ entries → os ≡ own → HasNoBad (IsBadLine (entry_values es) (own_values os))
      → HasNoBad (IsBadLine (entry_values entries) (own_values own))
  sound_of es os e o h = subst (λ (z : List Entry × List Own). HasNoBad (IsBadLine (entry_values z.0) (own_values z.1))) (λ i. (e i, o i)) h

  module _ (sound : HasNoBad (IsBadLine (entry_values entries) (own_values own))) (parts : Parts)
      (built : AreBuilt (entry_values entries) (own_values own) parts) where
    lacks : (parts.format ≡ None) ⊎ (parts.main ≡ None) → Lacks (own_values own)
    lacks (inl e) = inl (MatchOption-at_none _ _ e built.format)
    lacks (inr e) = inr (MatchOption-at_none _ _ e built.main)

    pub missing_line : (n : ℕ) → n ≡ length entries → (parts.format ≡ None) ⊎ (parts.main ≡ None) → IsFirstBadLine bytes (n + 1)
    missing_line n e h = record {
      entries = entry_values entries;
      own = own_values own;
      read = read;
      told = subst (λ m. IsTold (IsBadLine (entry_values entries) (own_values own)) (Lacks (own_values own)) (length (entry_values entries)) (m + 1))
          (length-map entries entry_value ∙ sym e) (behind_all sound (lacks h));
    }

    pub lens_file : (nodes : List Name) → nodes ≡ named_nodes (own_values own) → (types : Vec Node Global)
        → AreNodesOf (entry_values entries) nodes (map node_value types.items) → (names : Vec Name Global)
        → AreTypeNames (entry_values entries) nodes names.items → (f : FormatLine) (ds : Vec Definition Global) (m : Term) → parts.format ≡ Some f
        → parts.definitions ≡ ds → parts.main ≡ Some m → IsLensFile bytes (program_value (record {
          format = f.word;
          options = record { pairs = f.pairs; type_names = names; types = types };
          definitions = ds;
          main = m;
        }))
    lens_file nodes n types t names k f ds m is_f is_ds is_m = record {
      entries = entry_values entries;
      own = own_values own;
      read = read;
      sound = sound;
      format = MatchOption-at_some _ _ _ is_f built.format;
      type_names = subst (λ (z : List Name). AreTypeNames (entry_values entries) z names.items) n k;
      types = subst (λ (z : List Name). AreNodesOf (entry_values entries) z (map node_value types.items)) n t;
      definitions = subst (λ (z : Vec Definition Global). AllZip (IsDefinitionOf (entry_values entries)) (filter_map lens_in (own_values own))
          (map definition_value z.items))
          is_ds built.definitions;
      main = MatchOption-at_some _ _ _ is_m built.main;
    }
