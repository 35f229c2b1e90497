use Rattle.hm_marks_schema.proofs.TopNode.{top_alike}
use Rattle.hm_marks_schema.proofs.Nodes.{folder_alike, link_alike}
use Rattle.hm_marks_schema.proofs.ItemNodes.{item_alike}
use Rattle.hm_marks_schema.proofs.Schemas.{no_twins}
use Rattle.hm_marks_schema.proofs.laws.members_are_told.Goals as goal

pub returns-clause-files : goal.returns-clause-files
returns-clause-files c = λ t. (top_alike.into t, top_alike.from t)

pub returns-clause-folders : goal.returns-clause-folders
returns-clause-folders c = λ t. (folder_alike.into t, folder_alike.from t)

pub returns-clause-items : goal.returns-clause-items
returns-clause-items c = λ t. (item_alike.into t, item_alike.from t)

pub returns-clause-links : goal.returns-clause-links
returns-clause-links c = λ t. (link_alike.into t, link_alike.from t)

pub returns-clause-no_twins : goal.returns-clause-no_twins
returns-clause-no_twins c = no_twins
