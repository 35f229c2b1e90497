use Rattle.hm_netscape_entries.proofs.Sound.{list_sound}
use Rattle.hm_netscape_entries.proofs.laws.lists_may_stand.Goals as goal

pub returns : goal.returns
returns c = list_sound
