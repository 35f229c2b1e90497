-- Schemas that are the same have the same members.
use Rattle.std.proofs.Common.{IsTrue}
use Rattle.hm_schema.specs.declared.node.NodeId.{NodeId}
use Rattle.hm_schema.specs.Values.{SchemaValue}
use Rattle.hm_schema.specs.WellFormed.{IsWellFormed}
use Rattle.hm_schema.specs.Sameness.{MatchAt, AreSame}
use Rattle.hm_schema.proofs.References.{well_formed_at}
use Rattle.hm_schema.specs.Standing.{Alike}
use Rattle.hm_schema.proofs.StandingTrees.{Inside, members_alike}
use Rattle.hm_schema.proofs.SameNodes.{IsMatched, matched_alike}

module _ (one two : SchemaValue) (well_one : IsWellFormed one) (well_two : IsWellFormed two) where
  pub matched_at : (R : NodeId → NodeId → Type 0) (i j : NodeId) → MatchAt one two R i j → IsMatched R (Inside one) (Inside two) i j
  matched_at R i j m = record {
    first = m.first;
    second = m.second;
    stands_first = members_alike one i m.first m.is_first;
    stands_second = members_alike two j m.second m.is_second;
    well_first = (well_formed_at one i m.first well_one m.is_first).shapes;
    well_second = (well_formed_at two j m.second well_two m.is_second).shapes;
    match = m.match;
  }

  -- the roots have the same members
  pub same_members : AreSame one two → Alike (Inside one one.root) (Inside two two.root)
  same_members same = matched_alike (λ a b. IsTrue (same.paired a b)) (Inside one) (Inside two)
      (λ i j r. matched_at (λ a b. IsTrue (same.paired a b)) i j (same.pairing.matches i j r)) one.root two.root same.roots
