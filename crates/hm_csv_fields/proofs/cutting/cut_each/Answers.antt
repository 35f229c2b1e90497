use Rattle.std.proofs.Common.{map, false, ◌++◌, ◌∙◌}
use Rattle.hm_csv_fields.specs.Pieces.{led, pieces_behind}
use Rattle.hm_csv_fields.specs.Cutting.{bytes_of}
use Rattle.hm_csv_fields.proofs.Led.{led_nothing}
use Rattle.hm_csv_fields.proofs.cutting.cut_each.Goals as goal

pub loop-byte-init : goal.loop-byte-init
loop-byte-init c =
    (λ i. map bytes_of (c.new.ensures.items i) ++ led (c.new-2.ensures.items i) (pieces_behind false c.args.bytes.now))
    ∙ led_nothing false c.args.bytes.now
