use Rattle.hm_marks_tokens.proofs.Readdressed.{address_again, still_of_link}
use Rattle.hm_marks_tokens.proofs.laws.addresses_are_replaced.Goals as goal

pub returns-clause-link : goal.returns-clause-link
returns-clause-link c = still_of_link

pub returns-clause-address : goal.returns-clause-address
returns-clause-address c = address_again
