use Rattle.std.proofs.Common.{List, map, sym, ap, subst, ◌∙◌, arith}
use Rattle.hm_schema_lines.specs.declared.entry.Entry.{Entry}
use Rattle.hm_schema_lines.specs.Entries.{entry_values}
use Rattle.hm_schema_lines.specs.BadLines.{IsBadNodeLine}
use Rattle.hm_schema_lines.specs.FirstBad.{HasNoBad}
use Rattle.hm_schema_lines.specs.Nodes.{AreTypeNames, AreNodesOf}
use Rattle.hm_tree.specs.Names.{Name}
use Rattle.hm_schema.specs.Values.{node_value}
use Rattle.hm_focal.specs.declared.own.Own.{Own}
use Rattle.hm_focal.specs.OwnLines.{own_values, named_nodes}
use Rattle.hm_focal.specs.Building.{AreBuilt}
use Rattle.hm_focal.specs.BadLines.{IsBadLine, of_node}
use Rattle.hm_focal.proofs.Files.{missing_line, lens_file}
use Rattle.hm_focal.proofs.Formed.{file_formed}
use Rattle.hm_focal.proofs.read.program_of.Goals as goal

pub build_nodes-requires-clause-sound : goal.build_nodes-requires-clause-sound
build_nodes-requires-clause-sound c = λ i bad.
    c.requires.1.sound i (of_node (subst (λ (z : List Entry). IsBadNodeLine (entry_values z) i) c.deref-2.ensures.value bad))

pub build_parts-requires-clause-sound : goal.build_parts-requires-clause-sound
build_parts-requires-clause-sound c =
    subst (λ (z : List Entry). HasNoBad (IsBadLine (entry_values z) (own_values c.args.sound.lines.own.items))) (sym c.deref-6.ensures.value) c.requires.1.sound

pub returns-in_default-clause-read : goal.returns-in_default-clause-read
returns-in_default-clause-read c = λ bytes s _.
    missing_line bytes c.args.sound.lines.entries.items c.args.sound.lines.own.items s.read s.sound c.in_ok-parts.parts
    (subst (λ (z : List Entry). AreBuilt (entry_values z) (own_values c.args.sound.lines.own.items) c.in_ok-parts.parts) c.deref-6.ensures.value
    c.in_ok-parts.ensures)
    _ (omega arith) c.in_default.ensures

pub returns-clause-read : goal.returns-clause-read
returns-clause-read c = λ bytes s _.
    lens_file bytes c.args.sound.lines.entries.items c.args.sound.lines.own.items s.read s.sound c.in_ok-parts.parts
    (subst (λ (z : List Entry). AreBuilt (entry_values z) (own_values c.args.sound.lines.own.items) c.in_ok-parts.parts) c.deref-6.ensures.value
    c.in_ok-parts.ensures)
    c.in_ok-nodes.nodes.items
    (c.in_ok-nodes.ensures ∙ ap (λ (z : List Own). named_nodes (own_values z)) c.deref.ensures.value)
    c.in_ok-types.types
    (subst (λ (z : List Entry × List Name). AreNodesOf (entry_values z.0) z.1 (map node_value c.in_ok-types.types.items))
    (λ i. (c.deref-2.ensures.value i, c.deref-3.ensures.value i)) c.in_ok-types.ensures)
    c.in_ok-names.names
    (subst (λ (z : List Entry × List Name). AreTypeNames (entry_values z.0) z.1 c.in_ok-names.names.items)
    (λ i. (c.deref-4.ensures.value i, c.deref-5.ensures.value i)) c.in_ok-names.ensures)
    c.in-Some.format c.in-Some.definitions c.in-Some.main c.in-Some.ensures.0 c.in-Some.ensures.1 c.in-Some.ensures.2

pub returns-clause-well_formed : goal.returns-clause-well_formed
returns-clause-well_formed c =
    let s = c.requires.1 in
    file_formed _ _ (
    lens_file c.requires.0 c.args.sound.lines.entries.items c.args.sound.lines.own.items s.read s.sound c.in_ok-parts.parts
    (subst (λ (z : List Entry). AreBuilt (entry_values z) (own_values c.args.sound.lines.own.items) c.in_ok-parts.parts) c.deref-6.ensures.value
    c.in_ok-parts.ensures)
    c.in_ok-nodes.nodes.items
    (c.in_ok-nodes.ensures ∙ ap (λ (z : List Own). named_nodes (own_values z)) c.deref.ensures.value)
    c.in_ok-types.types
    (subst (λ (z : List Entry × List Name). AreNodesOf (entry_values z.0) z.1 (map node_value c.in_ok-types.types.items))
    (λ i. (c.deref-2.ensures.value i, c.deref-3.ensures.value i)) c.in_ok-types.ensures)
    c.in_ok-names.names
    (subst (λ (z : List Entry × List Name). AreTypeNames (entry_values z.0) z.1 c.in_ok-names.names.items)
    (λ i. (c.deref-4.ensures.value i, c.deref-5.ensures.value i)) c.in_ok-names.ensures)
    c.in-Some.format c.in-Some.definitions c.in-Some.main c.in-Some.ensures.0 c.in-Some.ensures.1 c.in-Some.ensures.2)
