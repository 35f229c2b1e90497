use Rattle.std.proofs.Common.{rules, ◌-◌, ◌<◌, set, Some, sym, subst, arith}
use Rattle.hm_csv_columns.specs.declared.column.Column.{Column}
use Rattle.hm_csv.proofs.Signs.{AreLateSigns, sign_more}
use Rattle.hm_csv.proofs.opening.signs.Goals as goal

pub loop-at-preserved : goal.loop-at-preserved
loop-at-preserved c =
    let at = c.loop-at.at - 1 in
    let here = c.index-columns-at.result in
    let known : here.place < c.args.count = search rules in
    let some = c.loop-at-test.true in
    let most = c.loop-at.auto.at in
    let step = sign_more c.args.columns.now at c.loop-at.at c.args.count c.loop-at.signs.items here (omega (arith, some)) (omega (arith, some, most)) (sym c.index-columns-at.is) known c.loop-at.invariant in
    subst (λ (col : Column). AreLateSigns c.args.columns.now at (set c.loop-at.signs.items col.place (Some at)) c.args.count) c.index-columns-at.is step
