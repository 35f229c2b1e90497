use Rattle.std.proofs.Common.{◌≡◌, ◌↔◌, ℕ, true, ◌<◌, ◌≤◌, length, subst, rules}
use Rattle.std.proofs.lemmas.List.{take_all}
use Rattle.hm_graph_classes.specs.Calm.{Lacks, flag_at}
use Rattle.hm_graph_classes.proofs.CalmVertices.{clear_more}
use Rattle.hm_graph_classes.proofs.calm.clear.Goals as goal

pub loop-place-preserved : goal.loop-place-preserved
loop-place-preserved c =
    let lt : c.loop-place.place-index < length c.args.places.now = search rules in
    record {
      size = search rules;
      each = clear_more c.args.flags.now.items c.loop-place.flags.items c.args.places.now c.loop-place.place-index lt (search rules) c.loop-place.invariant.each;
    }

pub returns-clause-each : goal.returns-clause-each
returns-clause-each c =
    let end : length c.args.places.now ≤ c.loop-place.place-index = search rules in
    subst (λ ps. (i : ℕ) → (flag_at c.loop-place.flags.items i ≡ true) ↔ ((flag_at c.args.flags.now.items i ≡ true) × Lacks ps i))
    (take_all c.loop-place.place-index c.args.places.now end) c.loop-place.invariant.each
