use Rattle.std.proofs.Common.{◌≡◌, Some, sym, ap, subst, ◌∙◌}
use Rattle.std.specs.Prelude.{IsTrue, ◌↔◌}
use Rattle.hm_schema_lines.specs.declared.entry.Entry.{Entry}
use Rattle.hm_schema_lines.specs.NodeLines.{node_line_value}
use Rattle.hm_schema_lines.specs.Entries.{entry_value, says, unknown}
use Rattle.hm_schema_lines.specs.Judging.{lines_of}
use Rattle.hm_schema_lines.proofs.Laws.{entry_at, always}
use Rattle.hm_focal.specs.OwnLines.{own_value, own_values, nothing}
use Rattle.hm_focal.proofs.LensNames.{own_at}
use Rattle.hm_focal.proofs.JudgingOwn.{own_bad, node_told, quiet_told, skipped_says, unknown_says}
use Rattle.hm_focal.proofs.judge.is_bad.Goals as goal

pub returns-then-is_bad_own : goal.returns-then-is_bad_own
returns-then-is_bad_own c =
    let es = lines_of c.args.line.now in
    let os = own_values c.args.own.now in
    let i = c.args.line.now.place in
    let e = entry_value c.index-line-line.result in
    let o = own_value c.index-own-line.result in
    let at_e = entry_at c.args.line.now.entries.now i c.index-line-line.result c.requires.place c.index-line-line.is in
    let at_o = own_at c.args.own.now i c.index-own-line.result c.requires.own c.index-own-line.is in
    always (own_bad es os i e o at_e at_o c.args.lenses.now c.requires.lenses c.args.before c.requires.before (c.is_bad_own.ensures.0 c.if-is_bad_own.true))

pub is_bad_line-requires-clause-says : goal.is_bad_line-requires-clause-says
is_bad_line-requires-clause-says c =
    entry_at c.args.line.now.entries.now c.args.line.now.place c.index-line-line.result c.requires.place c.index-line-line.is
    ∙ ap (λ z. Some (entry_value z)) (c.index-line-line.is ∙ c.in-Says.is)
    ∙ ap (λ z. Some (says (node_line_value z))) (sym c.deref.ensures)

pub returns-in_ok-is_bad_line-in-Says : goal.returns-in_ok-is_bad_line-in-Says
returns-in_ok-is_bad_line-in-Says c =
    let es = lines_of c.args.line.now in
    let os = own_values c.args.own.now in
    let i = c.args.line.now.place in
    let e = entry_value c.index-line-line.result in
    let o = own_value c.index-own-line.result in
    let at_e = entry_at c.args.line.now.entries.now i c.index-line-line.result c.requires.place c.index-line-line.is in
    let at_o = own_at c.args.own.now i c.index-own-line.result c.requires.own c.index-own-line.is in
    node_told es os i e o at_e at_o c.args.lenses.now c.requires.lenses c.args.before c.requires.before c.is_unreadable.result c.is_bad_own.result
    (subst (λ (z : Entry). IsTrue c.is_unreadable.result ↔ ((entry_value z ≡ unknown) × (own_value c.index-own-line.result ≡ nothing)))
    (sym c.index-line-line.is) c.is_unreadable.ensures)
    c.if-is_unreadable.false
    c.is_bad_own.ensures c.if-is_bad_own.false _ c.in_ok-is_bad_line-in-Says.ensures

pub returns-in-Skipped : goal.returns-in-Skipped
returns-in-Skipped c =
    let es = lines_of c.args.line.now in
    let os = own_values c.args.own.now in
    let i = c.args.line.now.place in
    let e = entry_value c.index-line-line.result in
    let o = own_value c.index-own-line.result in
    let at_e = entry_at c.args.line.now.entries.now i c.index-line-line.result c.requires.place c.index-line-line.is in
    let at_o = own_at c.args.own.now i c.index-own-line.result c.requires.own c.index-own-line.is in
    quiet_told es os i e o at_e at_o c.args.lenses.now c.requires.lenses c.args.before c.requires.before c.is_unreadable.result c.is_bad_own.result
    (subst (λ (z : Entry). IsTrue c.is_unreadable.result ↔ ((entry_value z ≡ unknown) × (own_value c.index-own-line.result ≡ nothing)))
    (sym c.index-line-line.is) c.is_unreadable.ensures)
    c.if-is_unreadable.false
    c.is_bad_own.ensures c.if-is_bad_own.false (skipped_says e (ap entry_value (c.index-line-line.is ∙ c.in-Skipped.is)))

pub returns-in-Unknown : goal.returns-in-Unknown
returns-in-Unknown c =
    let es = lines_of c.args.line.now in
    let os = own_values c.args.own.now in
    let i = c.args.line.now.place in
    let e = entry_value c.index-line-line.result in
    let o = own_value c.index-own-line.result in
    let at_e = entry_at c.args.line.now.entries.now i c.index-line-line.result c.requires.place c.index-line-line.is in
    let at_o = own_at c.args.own.now i c.index-own-line.result c.requires.own c.index-own-line.is in
    quiet_told es os i e o at_e at_o c.args.lenses.now c.requires.lenses c.args.before c.requires.before c.is_unreadable.result c.is_bad_own.result
    (subst (λ (z : Entry). IsTrue c.is_unreadable.result ↔ ((entry_value z ≡ unknown) × (own_value c.index-own-line.result ≡ nothing)))
    (sym c.index-line-line.is) c.is_unreadable.ensures)
    c.if-is_unreadable.false
    c.is_bad_own.ensures c.if-is_bad_own.false (unknown_says e (ap entry_value (c.index-line-line.is ∙ c.in-Unknown.is)))
