use Rattle.std.proofs.Common.{◌≡◌, drop}
use Rattle.hm_terms.specs.Programs.{lenses_of}
use Rattle.hm_eval.specs.Oblivious.{oblivious_all}
use Rattle.hm_eval.proofs.oblivious.+has_oblivious_form.Given as goal

abbrev pub invariant-loop-term : goal.invariant-loop-term
invariant-loop-term l = oblivious_all (lenses_of l.term-items) ≡ oblivious_all (lenses_of (drop l.term-index l.term-items))
