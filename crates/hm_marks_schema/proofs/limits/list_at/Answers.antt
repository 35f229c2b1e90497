use Rattle.hm_marks_schema.proofs.Walks.{list_here}
use Rattle.hm_marks_schema.proofs.limits.list_at.Goals as goal

pub returns-clause-list : goal.returns-clause-list
returns-clause-list c = list_here c.args.folder.now c.args.place c.edge.result.0.now c.edge.result.1.now c.requires.member c.edge.ensures
