use Rattle.hm_netscape_files.proofs.ReadAnew.{read_anew}
use Rattle.hm_netscape_files.proofs.laws.files_are_read_again.Goals as goal

pub returns : goal.returns
returns c = read_anew
