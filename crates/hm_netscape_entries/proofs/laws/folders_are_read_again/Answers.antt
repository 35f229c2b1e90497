use Rattle.hm_netscape_entries.proofs.ReadAgain.{anew_read}
use Rattle.hm_netscape_entries.proofs.laws.folders_are_read_again.Goals as goal

pub returns : goal.returns
returns c = anew_read
