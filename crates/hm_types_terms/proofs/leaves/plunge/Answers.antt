use Rattle.hm_types_terms.proofs.leaves.plunge.Goals as goal

pub returns-clause-view : goal.returns-clause-view
returns-clause-view c = record { in_range = c.in_ok-plunged.ensures.in_range; goes = λ types t. c.in_ok-plunged.ensures.goes types }
