use Rattle.std.proofs.Common.{arith, inl, inr}
use Rattle.hm_graph.proofs.Shortened.{shortened_trans, climbs_old}
use Rattle.hm_graph.proofs.sameness.roots.Goals as goal

pub returns-then-first-second-clause-shortened : goal.returns-then-first-second-clause-shortened
returns-then-first-second-clause-shortened c = shortened_trans _ _ _ c.root-first.ensures.shortened c.root-second.ensures.shortened

pub returns-then-first-second-clause-roots : goal.returns-then-first-second-clause-roots
returns-then-first-second-clause-roots c =
    let short = c.root-first.ensures.shortened in
    record {
      climb = inl (c.root-first.ensures.climbs, climbs_old short c.root-second.ensures.climbs);
      order = c.if-first-second.true;
      in_range = omega (arith, short.size, c.root-second.ensures.in_range);
      low_root = c.root-first.ensures.root;
      high_root = (short.roots c.root-second.result).0 c.root-second.ensures.root;
    }

pub returns-else-first-second-clause-shortened : goal.returns-else-first-second-clause-shortened
returns-else-first-second-clause-shortened c = shortened_trans _ _ _ c.root-first.ensures.shortened c.root-second.ensures.shortened

pub returns-else-first-second-clause-roots : goal.returns-else-first-second-clause-roots
returns-else-first-second-clause-roots c =
    let short = c.root-first.ensures.shortened in
    record {
      climb = inr (c.root-first.ensures.climbs, climbs_old short c.root-second.ensures.climbs);
      order = omega arith;
      in_range = c.root-first.ensures.in_range;
      low_root = (short.roots c.root-second.result).0 c.root-second.ensures.root;
      high_root = c.root-first.ensures.root;
    }
