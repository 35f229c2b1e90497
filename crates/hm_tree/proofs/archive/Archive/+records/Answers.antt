use Rattle.std.proofs.Common.{length, refl, ap, arith, rules}
use mathlib.Core.Bool.{false≢true}
use Rattle.std.proofs.lemmas.List.{length-map}
use Rattle.hm_tree.specs.Nodes.{edges}
use Rattle.hm_tree.proofs.Kept.{record_edge, recorded_root, recorded_edges, is_recorded, beside, both_longer, all_taken}
use Rattle.hm_tree.proofs.archive.Archive.+records.Goals as goal
use Rattle.hm_tree.proofs.archive.Archive.+records.Goals.{then-not-same-via-then-not-same, then-not-same-via-else-not-same+then-not-records}

pub returns-in_default : goal.returns-in_default
returns-in_default t c = (
  λ f. absurd (false≢true f),
  λ e. absurd (c.in_default.not-Present (recorded_root _ _ _ c.self.invariant c.self.view_is _ e)),
)

pub returns-then-len-count : goal.returns-then-len-count
returns-then-len-count t c = (
  λ f. absurd (false≢true f),
  λ e. let same = ap length (recorded_edges _ _ _ c.self.invariant c.self.view_is c.args.tree.now e) in
      absurd (omega (arith, length-map (edges c.args.tree.now) record_edge, c.if-len-count.true)),
)

pub returns-then-not-same : goal.returns-then-not-same
returns-then-not-same t c = (
  λ f. absurd (false≢true f),
  λ e. let items = recorded_edges _ _ _ c.self.invariant c.self.view_is c.args.tree.now e in
      let alike = beside c.self.inside.edges.items c.args.tree.now c.loop-at.at c.index-here.result.now c.edge.result.0.now c.edge.result.1.now
      (search rules) c.index-here.ensures c.edge.ensures items in
      elim c.then-not-same.branch [
        | then-not-same-via-then-not-same w ↦ let s = c.same.ensures.1 alike.0 in search rules
        | then-not-same-via-else-not-same+then-not-records w ↦ let s = w.records.ensures.1 alike.1 in search rules
      ],
)

pub loop-at-preserved : goal.loop-at-preserved
loop-at-preserved t c = both_longer c.self.inside.edges.items c.args.tree.now c.loop-at.at c.index-here.result.now c.edge.result.0.now
    c.edge.result.1.now (search rules) c.index-here.ensures c.edge.ensures (search rules) (search rules) c.loop-at.invariant

pub returns : goal.returns
returns t c = (
  λ _. is_recorded _ _ _ c.self.invariant c.self.view_is c.args.tree.now c.in-Present.is
      (all_taken c.self.inside.edges.items c.args.tree.now c.loop-at.at (search rules) (search rules) c.loop-at.invariant),
  λ _. refl,
)
