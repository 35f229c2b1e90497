use Rattle.std.proofs.Common.{rules, ◌≡◌, ◌↔◌, ◌+◌, ◌<◌, ℕ, true, length, All, sym, subst}
use Rattle.std.proofs.lemmas.Option.{slice_get_read}
use Rattle.hm_graph_classes.specs.Calm.{AreCalmBelow, Lacks, flag_at}
use Rattle.hm_graph_classes.proofs.CalmVertices.{calm_same, calm_moved, sources_within}
use Rattle.hm_graph_classes.proofs.calm.calm_of.Goals as goal
use Rattle.hm_graph_classes.proofs.calm.calm_of.Goals.{then-old-i, else-old-i}

pub clear-requires : goal.clear-requires
clear-requires c =
    let g = c.args.graph.now in
    let list = c.index-sources-i.result in
    let lt : c.loop-i.i < length g = search rules in
    let at = slice_get_read c.args.sources.now (length g) c.loop-i.i list (sym c.requires.sources.size) lt c.index-sources-i.is in
    let within = sources_within g c.args.sources.now c.loop-i.i list c.requires.sources at in
    let size : length g ≡ length c.loop-i.calm.items = sym c.loop-i.invariant.size in
    subst (λ n. All (λ k. k < n) c.deref.result.now) size (subst (λ ns. All (λ k. k < length g) ns) (sym c.deref.ensures.value) within)

pub loop-i-preserved : goal.loop-i-preserved
loop-i-preserved c =
    let g = c.args.graph.now in
    let old = c.args.old.now in
    let new = c.args.new.now in
    let i = c.loop-i.i in
    let lt : i < length g = search rules in
    elim c.if-old-i.branch [
      | then-old-i w ↦
          let list = w.index-sources-i.result in
          let at = slice_get_read c.args.sources.now (length g) i list (sym c.requires.sources.size) lt w.index-sources-i.is in
          let cleared = subst (λ ns. (k : ℕ) → (flag_at w.clear.new.flags.items k ≡ true) ↔ ((flag_at c.loop-i.calm.items k ≡ true) × Lacks ns k))
          w.deref.ensures.value w.clear.ensures.each in
          subst (λ v. AreCalmBelow g old new (i + 1) v.items) (sym w.calm-is)
          (calm_moved g old new i c.loop-i.calm.items w.clear.new.flags.items list c.loop-i.invariant w.if-old-i.true
          (λ k less. c.requires.sources.each i list at k less) w.clear.ensures.size cleared)
      | else-old-i w ↦
          subst (λ v. AreCalmBelow g old new (i + 1) v.items) (sym w.calm-is)
          (calm_same g old new i c.loop-i.calm.items c.loop-i.invariant w.if-old-i.false)
    ]
