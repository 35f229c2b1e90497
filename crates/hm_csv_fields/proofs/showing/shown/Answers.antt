use Rattle.std.proofs.Common.{rules}
use Rattle.hm_csv_fields.proofs.Items.{item_utf8}
use Rattle.hm_csv_fields.proofs.showing.shown.Goals as goal

pub cleaned_bytes-requires : goal.cleaned_bytes-requires
cleaned_bytes-requires c =
    let utf8 = item_utf8 c.args.pieces.now c.loop-piece.piece-index c.piece-item.result c.requires (search rules) c.piece-item.is in
    search rules
