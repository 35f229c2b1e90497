use Rattle.std.proofs.Common.{◌++◌, List, map, refl, ap, sym, ◌∙◌, subst, length, ◌<◌}
use Rattle.std.specs.Prelude.{All, flat_map}
use Rattle.hm_tree.specs.Names.{Name}
use Rattle.hm_schema.specs.Values.{pair_value, node_value}
use Rattle.hm_terms.specs.declared.term.Definition.{Definition}
use Rattle.hm_terms.specs.Programs.{definition_value, program_value, lens_of}
use Rattle.hm_focal_terms.specs.Written.{term_text}
use Rattle.hm_schema_writer.specs.Writing.{ended}
use Rattle.hm_schema_writer.specs.WrittenNodes.{nodes_text}
use Rattle.std.proofs.lemmas.List.{length-map}
use Rattle.hm_focal.specs.LensFiles.{IsLensFile}
use Rattle.hm_focal_writer.proofs.WrittenFiles.{written_lens_reads}
use Rattle.hm_focal_writer.specs.Writing.{format_text, definition_text}
use Rattle.hm_focal_writer.proofs.Writing.{lens_put, within}
use Rattle.hm_focal.proofs.Laws.{file_formed}
use Rattle.hm_focal_writer.proofs.writer.write_lens.Goals as goal

pub put_definitions-requires : goal.put_definitions-requires
put_definitions-requires c =
    let formed = file_formed _ _ c.requires.1 in
    subst (λ (z : List Definition). All (λ (d : Definition). (d.source.place < length c.deref-4.result.now) × (d.view.place < length c.deref-4.result.now)) z)
    (sym c.deref-5.ensures.value)
    (within _ _ (ap length c.deref-4.ensures.value ∙ formed.named) c.args.program.now.definitions.items formed.in_range)

pub returns-clause-written : goal.returns-clause-written
returns-clause-written c =
    lens_put (program_value c.args.program.now) c.args.program.now.definitions.items refl
    _ _ _ _ _ _ _ c.new-text.ensures.items c.in_ok-extend_from_slice.ensures.items
    (c.in_ok-put_format.ensures
    ∙ ap (λ z. c.extend_from_slice.new.self.items ++ ended (format_text c.args.program.now.format (map pair_value z))) c.deref.ensures.value)
    (c.in_ok-append_nodes.ensures
    ∙ ap (λ z. c.put_format.new.text.items ++ nodes_text z (map node_value c.deref-3.result.now)) c.deref-2.ensures.value
    ∙ ap (λ z. c.put_format.new.text.items ++ nodes_text c.args.program.now.options.type_names.items (map node_value z)) c.deref-3.ensures.value)
    (c.in_ok-put_definitions.ensures
    ∙ ap (λ (z : List Name). c.append_nodes.new.text.items
    ++ flat_map (λ (d : Definition). ended (definition_text z (definition_value d))) c.deref-5.result.now)
    c.deref-4.ensures.value
    ∙ ap (λ (z : List Definition). c.append_nodes.new.text.items
    ++ flat_map (λ (d : Definition). ended (definition_text c.args.program.now.options.type_names.items (definition_value d))) z)
    c.deref-5.ensures.value)
    c.in_ok-extend_from_slice-2.ensures.items (term_text (lens_of c.args.program.now.main)) c.in_ok-append_term.ensures.ok refl _ c.in_ok-push.ensures.items

pub returns-clause-reads : goal.returns-clause-reads
returns-clause-reads c = λ small. subst (λ z. IsLensFile z (program_value c.args.program.now)) (sym (returns-clause-written c))
    (written_lens_reads c.requires.0 (program_value c.args.program.now) c.requires.1 small)

pub append_nodes-requires : goal.append_nodes-requires
append_nodes-requires c =
    let formed = file_formed _ _ c.requires.1 in
    ap length c.deref-2.ensures.value ∙ formed.named ∙ length-map c.args.program.now.options.types.items node_value ∙ sym (ap length c.deref-3.ensures.value)
