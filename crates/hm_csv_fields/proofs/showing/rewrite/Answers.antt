use Rattle.std.proofs.Common.{rules, ◌≡◌, ◌∙◌, ap}
use Rattle.std.specs.Prelude.{IfOk}
use Rattle.std.proofs.lemmas.Result.{IfOk-weaker}
use Rattle.hm_csv_fields.specs.Pieces.{written}
use Rattle.hm_csv_fields.specs.Texts.{texts, new_pieces}
use Rattle.hm_csv_fields.proofs.Laws.{rewritten_texts}
use Rattle.hm_csv_fields.proofs.showing.rewrite.Goals as goal

pub returns-clause-shows : goal.returns-clause-shows
returns-clause-shows c filled =
    let made : IfOk c.write_pieces.result (λ made. made.items ≡ written (new_pieces c.args.field.now c.args.set.now)) = search rules in
    IfOk-weaker c.write_pieces.result _ _ (λ made e. ap texts e ∙ rewritten_texts c.args.field.now c.args.set.now filled) made
