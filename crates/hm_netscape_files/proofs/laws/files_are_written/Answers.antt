use Rattle.hm_netscape_files.proofs.WritesOnce.{some_written}
use Rattle.hm_netscape_files.proofs.laws.files_are_written.Goals as goal

pub returns : goal.returns
returns c = λ before old t read member. some_written t before read.0.contents read.0.file member
