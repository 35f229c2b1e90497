use Rattle.hm_netscape_files.proofs.WholeAnew.{anew_tree, anew_stands}
use Rattle.hm_netscape_files.proofs.laws.folders_show_their_tree.Goals as goal

pub returns-clause-tree : goal.returns-clause-tree
returns-clause-tree c = anew_tree

pub returns-clause-sound : goal.returns-clause-sound
returns-clause-sound c = anew_stands
