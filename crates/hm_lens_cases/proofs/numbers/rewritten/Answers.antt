use Rattle.std.proofs.Common.{◌≡◌, [], length, map, All, sym, subst, ◌∙◌}
use Rattle.std.proofs.lemmas.List.{append-nil}
use Rattle.hm_schema.specs.Values.{NodeValue, node_value}
use Rattle.hm_schema.specs.WellFormed.{IsWellFormedNode}
use Rattle.hm_types_forms.specs.Forms.{form}
use Rattle.hm_types_forms.specs.Sound.{IsSound}
use Rattle.hm_types_sound.proofs.TypedFits.{form_sound}
use Rattle.hm_types_table.specs.Tables.{Nodes}
use Rattle.hm_lens_cases.proofs.numbers.rewritten.Goals as goal

-- well formed nodes without twins are sound
bare_sound : (nodes : Nodes) → All (IsWellFormedNode (length nodes)) nodes → All (λ (n : NodeValue). n.twins ≡ []) nodes
    → All (λ n. IsWellFormedNode (length nodes) n × (n.twins ≡ [])) nodes
bare_sound nodes well bare i d lt = (well i d lt, bare i d lt)

pub numbered-requires-clause-sound : goal.numbered-requires-clause-sound
numbered-requires-clause-sound c =
    let nodes = c.args.schema.now.nodes in
    let same : c.in_ok-table.table ≡ nodes = c.in_ok-table.ensures.nodes ∙ append-nil (map node_value c.nodes.result.now) ∙ c.nodes.ensures.nodes in
    subst (λ (nodes : Nodes). IsSound (form nodes c.root.result)) (sym same)
    (form_sound nodes (bare_sound nodes c.nodes.ensures.well_formed.nodes (c.is_plain.ensures.0 c.if-not-is_plain.false)) c.root.result)
