-- How the text of a lens file grows.
use Rattle.std.proofs.Common.{◌≡◌, ℕ, ◌<◌, List, [], ◌∷◌, ◌++◌, length, map, sym, ap, ◌∙◌, subst, arith, append_assoc}
use Rattle.std.specs.Prelude.{All, codes, flat_map}
use Rattle.std.proofs.lemmas.Grind.{flat_map-append}
use Rattle.std.proofs.lemmas.List.Folds.{flat_map-map}
use Rattle.std.proofs.lemmas.List.{get_or-map, length-map}
use mathlib.Core.List.{append-nil}
use Rattle.hm_tree.specs.Names.{Name}
use Rattle.hm_terms.specs.Lenses.{DefinitionValue}
use Rattle.hm_terms.specs.declared.term.Definition.{Definition}
use Rattle.hm_terms.specs.Programs.{ProgramValue, definition_value}
use Rattle.hm_schema_writer.specs.Writing.{line_text, ended}
use Rattle.hm_schema_writer.specs.WrittenNodes.{nodes_lines, nodes_text}
use Rattle.hm_focal_writer.specs.Writing.{header_text, format_text, definition_text, main_text, lens_text}

-- a definition, by its parts
pub definition_put : (old name source view body a b c d e f g h : List ℕ) → a ≡ old ++ codes "lens " → b ≡ a ++ name → c ≡ b ++ 32 ∷ []
    → d ≡ c ++ source → e ≡ d ++ 32 ∷ [] → f ≡ e ++ view → g ≡ f ++ codes " = " → h ≡ g ++ body → (new : List ℕ) → new ≡ h ++ 10 ∷ []
    → new ≡ old ++ ended (codes "lens " ++ (name ++ (32 ∷ (source ++ (32 ∷ (view ++ (codes " = " ++ body)))))))
definition_put old name source view body a b c d e f g h ea eb ec ed ee ef eg eh new n =
    let flat : (((((((((old ++ codes "lens ") ++ name) ++ 32 ∷ []) ++ source) ++ 32 ∷ []) ++ view) ++ codes " = ") ++ body) ++ 10 ∷ []
    ≡ old ++ ended (codes "lens " ++ (name ++ (32 ∷ (source ++ (32 ∷ (view ++ (codes " = " ++ body)))))))) =
    simp append_assoc in
    n ∙ ap (λ z. z ++ 10 ∷ []) (eh ∙ ap (λ z. z ++ body) (eg ∙ ap (λ z. z ++ codes " = ") (ef ∙ ap (λ z. z ++ view) (ee ∙ ap (λ z. z ++ 32 ∷ [])
    (ed ∙ ap (λ z. z ++ source) (ec ∙ ap (λ z. z ++ 32 ∷ []) (eb ∙ ap (λ z. z ++ name) ea))))))) ∙ flat

-- the parts of a file
module _ (p : ProgramValue) where
  definitions_text : List (Name × DefinitionValue) → List ℕ
  definitions_text ds = flat_map (λ v. ended (definition_text p.options.type_names v)) ds

  whole : lens_text p ≡ ended header_text ++ (ended (format_text p.format p.options.pairs) ++ (nodes_text p.options.type_names p.options.types
      ++ (definitions_text p.definitions ++ ended (main_text p.main))))
  unfolding definitions_text
  whole =
      ap (λ z. ended header_text ++ (ended (format_text p.format p.options.pairs) ++ z))
      (flat_map-append ended (map line_text (nodes_lines p.options.type_names p.options.types))
      (map (definition_text p.options.type_names) p.definitions ++ main_text p.main ∷ [])
      ∙ ap (λ z. z ++ flat_map ended (map (definition_text p.options.type_names) p.definitions ++ main_text p.main ∷ []))
      (flat_map-map ended line_text (nodes_lines p.options.type_names p.options.types))
      ∙ ap (λ z. nodes_text p.options.type_names p.options.types ++ z)
      (flat_map-append ended (map (definition_text p.options.type_names) p.definitions) (main_text p.main ∷ [])
      ∙ ap (λ z. z ++ (ended (main_text p.main) ++ [])) (flat_map-map ended (definition_text p.options.type_names) p.definitions)
      ∙ ap (λ z. definitions_text p.definitions ++ z) (append-nil (ended (main_text p.main)))))

  pub lens_put : (ds : List Definition) → p.definitions ≡ map definition_value ds → (t a b c d e f : List ℕ) → t ≡ [] → a ≡ t ++ codes "harmony lens 1\n"
      → b ≡ a ++ ended (format_text p.format p.options.pairs) → c ≡ b ++ nodes_text p.options.type_names p.options.types
      → d ≡ c ++ flat_map (λ v. ended (definition_text p.options.type_names (definition_value v))) ds
      → e ≡ d ++ codes "main = " → (main : List ℕ) → f ≡ e ++ main → main_text p.main ≡ codes "main = " ++ main → (new : List ℕ) → new ≡ f ++ 10 ∷ []
      → new ≡ lens_text p
  unfolding definitions_text
  lens_put ds is t a b c d e f et ea eb ec ed ee main ef em new n =
      let line : List ℕ = ended (format_text p.format p.options.pairs) in
      let nodes : List ℕ = nodes_text p.options.type_names p.options.types in
      let put : List ℕ = flat_map (λ v. ended (definition_text p.options.type_names (definition_value v))) ds in
      let flat : ((((((([] ++ codes "harmony lens 1\n") ++ line) ++ nodes) ++ put) ++ codes "main = ") ++ main) ++ 10 ∷ [])
      ≡ ended header_text ++ (line ++ (nodes ++ (put ++ ended (codes "main = " ++ main)))) = simp append_assoc in
      n ∙ ap (λ z. z ++ 10 ∷ []) (ef ∙ ap (λ z. z ++ main) (ee ∙ ap (λ z. z ++ codes "main = ") (ed ∙ ap (λ z. z ++ put) (ec ∙ ap (λ z. z ++ nodes)
      (eb ∙ ap (λ z. z ++ line) (ea ∙ ap (λ z. z ++ codes "harmony lens 1\n") et))))))
      ∙ flat
      ∙ ap (λ z. ended header_text ++ (line ++ (nodes ++ (put ++ ended z)))) (sym em)
      ∙ ap (λ z. ended header_text ++ (line ++ (nodes ++ (z ++ ended (main_text p.main)))))
      (sym (flat_map-map (λ v. ended (definition_text p.options.type_names v)) definition_value ds) ∙ ap definitions_text (sym is))
      ∙ sym whole

-- each definition goes between two of the nodes
pub within : (m n : ℕ) → n ≡ m → (ds : List Definition)
    → All (λ (v : Name × DefinitionValue). (v.1.source.place < m) × (v.1.view.place < m)) (map definition_value ds)
    → All (λ (d : Definition). (d.source.place < n) × (d.view.place < n)) ds
within m n e ds h = λ k d lt.
    let here : k < length (map definition_value ds) = omega (arith, length-map ds definition_value, lt) in
    subst (λ (z : (Name × DefinitionValue) × ℕ). (z.0.1.source.place < z.1) × (z.0.1.view.place < z.1))
    (λ i. (get_or-map definition_value ds k d (definition_value d) lt i, sym e i)) (h k (definition_value d) here)
