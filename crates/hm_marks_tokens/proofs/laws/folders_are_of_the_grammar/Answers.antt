use Rattle.hm_marks_tokens.proofs.Folders.{by_contents, counted, one_contents}
use Rattle.hm_marks_tokens.proofs.laws.folders_are_of_the_grammar.Goals as goal

pub returns-clause-grammar : goal.returns-clause-grammar
returns-clause-grammar c = by_contents

pub returns-clause-count : goal.returns-clause-count
returns-clause-count c = counted

pub returns-clause-contents : goal.returns-clause-contents
returns-clause-contents c = one_contents
