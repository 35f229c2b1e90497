use Rattle.hm_netscape_files.proofs.SomeFile.{some_read}
use Rattle.hm_netscape_files.proofs.laws.files_are_told.Goals as goal

pub returns : goal.returns
returns c = some_read
