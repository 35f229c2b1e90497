use Rattle.std.proofs.Common.{sym, ◌∙◌}
use Rattle.hm_terms.specs.Programs.{lens_of}
use Rattle.hm_eval.proofs.WithoutBefore.{is_oblivious}
use Rattle.hm_eval.proofs.oblivious.is_oblivious.Goals as goal

pub returns-clause-meaning : goal.returns-clause-meaning
returns-clause-meaning c told S = is_oblivious S (lens_of c.args.lens.now) (sym c.has_oblivious_form.ensures ∙ told)
