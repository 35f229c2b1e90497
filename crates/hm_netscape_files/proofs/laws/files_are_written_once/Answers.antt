use Rattle.hm_netscape_files.proofs.WritesOnce.{writes_once}
use Rattle.hm_netscape_files.proofs.laws.files_are_written_once.Goals as goal

pub returns : goal.returns
returns c = writes_once
