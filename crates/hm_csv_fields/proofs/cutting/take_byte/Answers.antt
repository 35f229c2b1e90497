use Rattle.std.proofs.Common.{rules}
use Rattle.hm_csv_fields.specs.Cutting.{all_bytes}
use Rattle.hm_csv_fields.proofs.Led.{plain_byte}
use Rattle.hm_csv_fields.proofs.cutting.take_byte.Goals as goal

pub returns-in_ok-push-in_default : goal.returns-in_ok-push-in_default
returns-in_ok-push-in_default c rest =
    plain_byte (all_bytes c.args.cut.now.whole) c.args.cut.now.piece.items rest c.args.byte c.args.cut.now.behind_backslash c.push.new.self.items
    c.if-cut.false c.in_ok-push-in_default.ensures.items (search rules) (search rules)
