use Rattle.hm_csv_fields.specs.Pieces.{pieces}
use Rattle.hm_csv_fields.proofs.Items.{cut_utf8}
use Rattle.hm_csv_fields.proofs.Utf8Pieces.{pieces_utf8}
use Rattle.hm_csv_fields.proofs.cutting.pieces.Goals as goal

pub returns-clause-utf8 : goal.returns-clause-utf8
returns-clause-utf8 c =
    cut_utf8 c.cut_bytes.result (pieces c.as_bytes.result.now) (pieces_utf8 c.as_bytes.result.now c.as_bytes.ensures.utf8) c.cut_bytes.ensures
