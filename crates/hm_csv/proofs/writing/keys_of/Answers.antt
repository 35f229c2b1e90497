use Rattle.std.proofs.Common.{◌∙◌, ap, arith}
use Rattle.hm_tree.specs.Cleaned.{cleaned}
use Rattle.hm_csv.proofs.Slots.{text_at, key_more}
use Rattle.hm_csv.proofs.writing.keys_of.Goals as goal

pub cleaned_bytes-requires : goal.cleaned_bytes-requires
cleaned_bytes-requires c =
    c.field.ensures.text (text_at c.args.rows.now c.requires.text c.loop-at.at c.index-rows-at.result c.index-rows-at.result c.loop-at-test.true c.index-rows-at.is)

pub loop-at-preserved : goal.loop-at-preserved
loop-at-preserved c =
    let one = c.loop-at.invariant.1 in (
      key_more c.args.key c.loop-at.at c.args.rows.now c.index-rows-at.result c.field.result.now c.in_ok-cleaned_bytes.field-0 c.loop-at.keys.items c.push.new.self.items
          one c.loop-at-test.true c.index-rows-at.is c.loop-at.invariant.0 (c.in_ok-cleaned_bytes.ensures ∙ ap cleaned c.field.ensures.field) c.in_ok-push.ensures.items,
      omega (arith, one),
    )
