use Rattle.std.proofs.Common.{◌∙◌, ◌++◌, ◌∷◌, [], List, ap}
use Rattle.csv.specs.Records.{fields_of}
use Rattle.hm_csv_columns.proofs.Rows.{blank_more}
use Rattle.hm_csv_columns.proofs.rewriting.blank.Goals as goal

pub loop-at-preserved : goal.loop-at-preserved
loop-at-preserved c =
    let inv = c.loop-at.invariant in (
      blank_more c.args.place c.args.key.now c.loop-at.at c.key_or_nothing.result.now (fields_of c.loop-at.new) (fields_of c.push_field.new.self) inv.0
          c.key_or_nothing.ensures
          (c.in_ok-push_field.ensures.fields ∙ ap (λ (p : List _). fields_of c.loop-at.new ++ (p ++ c.key_or_nothing.result.now) ∷ []) inv.1),
      c.in_ok-push_field.ensures.partial,
    )
