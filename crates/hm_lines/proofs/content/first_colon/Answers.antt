use Rattle.std.proofs.Common.{◌∙◌, sym}
use Rattle.hm_lines.proofs.Colons.{quotes_more, colons_more}
use Rattle.hm_lines.proofs.content.first_colon.Goals as goal

pub loop-place-preserved : goal.loop-place-preserved
loop-place-preserved c = record {
  quoted =
      c.is_quoted_behind-quoted.ensures
      ∙ quotes_more c.args.bytes.now c.loop-place.place c.loop-place-test.true c.loop-place.quoted c.loop-place.invariant.quoted;
  first =
      colons_more c.args.bytes.now c.loop-place.place c.loop-place-test.true c.loop-place.quoted c.loop-place.invariant.quoted
      c.loop-place.invariant.first (sym c.is_end.ensures ∙ c.if-is_end.false);
}
