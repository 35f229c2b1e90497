use Rattle.std.proofs.Common.{rules, ◌≡◌, ◌∷◌, [], length, slice_get, refl, ap, ◌∙◌}
use Rattle.std.proofs.lemmas.Option.{slice_get_within}
use Rattle.hm_types_table.proofs.Places.{at_front, at_last}
use Rattle.hm_types_table.proofs.Classed.{graph_same}
use Rattle.hm_types_table.proofs.annotations.Annotations.outlined.Goals as goal

pub returns-clause-keeps : goal.returns-clause-keeps
returns-clause-keeps c = record {
  numbering = λ h. c.in_ok-outline.ensures.numbering;
  stays = c.in_ok-outline.ensures.stays;
  outlines = λ i o at. ap (λ l. slice_get l i) c.in_ok-push.ensures.items
      ∙ at_front c.args.self.now.outlines.items (c.in_ok-outline.outline ∷ []) i (slice_get_within c.args.self.now.outlines.items i o at) ∙ at;
  reduced = λ h. h;
  grows = graph_same c.args.self.now.reduced;
  seen = refl;
  classes = refl;
}

pub returns-clause-outline : goal.returns-clause-outline
returns-clause-outline c =
    let place : c.len-seen.result ≡ length c.args.self.now.outlines.items = search rules in
    record {
      outline = c.in_ok-outline.outline;
      is = (λ t. slice_get (c.in_ok-push.ensures.items t) (place t)) ∙ at_last c.args.self.now.outlines.items c.in_ok-outline.outline;
      told = c.in_ok-outline.ensures.outline;
    }
