use Rattle.hm_marks_tokens.proofs.Known.{one_rest, no_misfit, one_number}
use Rattle.hm_marks_tokens.proofs.laws.folders_are_known.Goals as goal

pub returns-clause-rest : goal.returns-clause-rest
returns-clause-rest c = one_rest

pub returns-clause-misfit : goal.returns-clause-misfit
returns-clause-misfit c = no_misfit

pub returns-clause-number : goal.returns-clause-number
returns-clause-number c = one_number
