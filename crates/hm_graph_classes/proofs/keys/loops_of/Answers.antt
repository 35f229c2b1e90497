use Rattle.std.proofs.Common.{rules, ◌≡◌, ◌+◌, ◌<◌, length, slice_get, Some, refl, sym, subst}
use Rattle.std.proofs.lemmas.Option.{slice_get_read}
use Rattle.hm_graph_classes.specs.Indexed.{AreLoops}
use Rattle.hm_graph_classes.proofs.Indexes.{loops_next, loops_same}
use Rattle.hm_graph_classes.proofs.keys.loops_of.Goals.{in-Some+in_ok-insert, in_default}
use Rattle.hm_graph_classes.proofs.keys.loops_of.Goals as goal

pub loop-i-preserved : goal.loop-i-preserved
loop-i-preserved c =
    let g = c.args.vertices.now in
    let i = c.loop-i.i in
    let v = c.index-vertices-i.result in
    let lt : i < length g = search rules in
    let at : slice_get g i ≡ Some v = slice_get_read g _ i v refl lt c.index-vertices-i.is in
    elim c.match-first_of_loop.branch [
      | in-Some+in_ok-insert w ↦
          subst (AreLoops g (i + 1)) (sym w.loops-is)
          (loops_next g c.requires i v at c.loop-i.loops w.insert.new.self (v.label, w.in-Some.first) refl w.in-Some.ensures c.loop-i.invariant
          w.in_ok-insert.ensures.updates)
      | in_default w ↦
          subst (AreLoops g (i + 1)) (sym w.loops-is) (loops_same g c.requires i v at c.loop-i.loops w.in_default.ensures c.loop-i.invariant)
    ]
