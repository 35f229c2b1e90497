use Rattle.hm_netscape_entries.proofs.Layouts.{html_layout}
use Rattle.hm_netscape_entries.proofs.laws.entries_are_read.Goals as goal

pub returns : goal.returns
returns c = html_layout
