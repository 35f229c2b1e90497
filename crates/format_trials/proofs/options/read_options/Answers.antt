use Rattle.std.proofs.Common.{map, subst, All, IsUtf8, List}
use Rattle.hm_tree.specs.Names.{Name}
use Rattle.hm_schema.specs.Values.{pair_value}
use Rattle.format_trials.proofs.options.read_options.Goals as goal

pub returns : goal.returns
returns c =
    let well = c.in_ok-program.ensures.well_formed in
    record {
      texts = subst (λ pairs. All (λ (q : Name × List Name). All IsUtf8 q.1) (map pair_value pairs)) c.deref-2.ensures.value c.values_are_texts.ensures;
      named = well.named;
      types = well.types;
    }
