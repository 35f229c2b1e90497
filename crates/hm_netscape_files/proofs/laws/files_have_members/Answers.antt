use Rattle.hm_netscape_files.proofs.MemberTrees.{member_read}
use Rattle.hm_netscape_files.proofs.laws.files_have_members.Goals as goal

pub returns : goal.returns
returns c = member_read
