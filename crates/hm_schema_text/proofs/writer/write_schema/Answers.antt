use Rattle.std.proofs.Common.{◌∙◌, ℕ, All, length, sym, ap, subst}
use Rattle.std.specs.Prelude.{Vec}
use Rattle.std.specs.declared.alloc.Global.{Global}
use Rattle.std.proofs.lemmas.List.{length-map}
use Rattle.hm_schema.specs.Values.{node_value}
use Rattle.hm_schema_text.specs.SchemaFiles.{IsSchemaFile}
use Rattle.hm_schema_text.specs.Writing.{number_names, IsHeld}
use Rattle.hm_schema_text.proofs.Written.{schema_put}
use Rattle.hm_schema_text.proofs.WrittenFiles.{names_long, written_schema_reads}
use Rattle.hm_schema_text.proofs.writer.write_schema.Goals as goal

pub append_nodes-requires : goal.append_nodes-requires
append_nodes-requires c = ap length c.deref.ensures.value ∙ ap length c.in_ok-names.ensures ∙ names_long (length c.nodes-nodes.result.now)

pub returns-clause-written : goal.returns-clause-written
returns-clause-written c =
    schema_put c.args.schema.now _ _ _ _ _ _ c.root-root.ensures.root c.in_ok-head.ensures.ok (ap (λ (v : Vec ℕ Global). v.items) c.into_bytes-text.ensures.value)
    (c.deref.ensures.value ∙ c.in_ok-names.ensures ∙ ap number_names (sym (length-map c.nodes-nodes.result.now node_value) ∙ ap length c.nodes-nodes.ensures.nodes))
    c.nodes-nodes.ensures.nodes c.in_ok-append_nodes.ensures

pub returns-clause-reads : goal.returns-clause-reads
returns-clause-reads c = λ limits. subst (λ z. IsSchemaFile z c.args.schema.now) (sym (returns-clause-written c))
    (written_schema_reads c.args.schema.now c.nodes-nodes.ensures.well_formed
    (subst (All IsHeld) c.nodes-nodes.ensures.nodes c.nodes_are_held.ensures) limits)
