use Rattle.hm_netscape_files.proofs.ReadOnce.{read_once}
use Rattle.hm_netscape_files.proofs.laws.files_are_known.Goals as goal

pub returns : goal.returns
returns c = read_once
