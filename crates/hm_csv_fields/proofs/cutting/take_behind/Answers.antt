use Rattle.std.proofs.Common.{rules}
use Rattle.hm_csv_fields.specs.Cutting.{all_bytes}
use Rattle.hm_csv_fields.proofs.Led.{behind_special, behind_other}
use Rattle.hm_csv_fields.proofs.cutting.take_behind.Goals as goal

pub returns-then-is_special : goal.returns-then-is_special
returns-then-is_special c rest =
    behind_special (all_bytes c.args.cut.now.whole) c.args.cut.now.piece.items rest c.args.byte c.args.cut.now.behind_backslash
    c.push.new.self.items c.requires c.in_ok-push.ensures.items (search rules)

pub returns : goal.returns
returns c rest =
    behind_other (all_bytes c.args.cut.now.whole) c.args.cut.now.piece.items rest c.args.byte c.args.cut.now.behind_backslash
    c.push-2.new.self.items c.push-3.new.self.items c.requires c.in_ok-push-2.ensures.items c.in_ok-push-3.ensures.items (search rules)
