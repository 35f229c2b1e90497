use Rattle.std.proofs.Common.{◌≡◌, ◌∙◌, ◌+◌, ◌++◌, ◌∷◌, [], take, map, sym, ap, subst, List, ℕ}
use Rattle.std.specs.Prelude.{Vec}
use Rattle.std.specs.declared.alloc.Global.{Global}
use Rattle.std.specs.Str.{IsUtf8}
use Rattle.std.proofs.lemmas.List.{take_all, take_more, map-append}
use Rattle.hm_lines.specs.Folding.{AreFolded, IsFolded}
use Rattle.hm_lines.specs.Shown.{bytes_of}
use Rattle.hm_lines.proofs.FoldedPieces.{one_more_line}
use Rattle.hm_lines.proofs.UnfoldedLines.{folded_lines}
use Rattle.hm_lines.proofs.folding.fold.Goals as goal

pub unreachable-requires : goal.unreachable-requires
unreachable-requires c =
    c.in-Err.ensures.cases.0
    (subst IsUtf8 (sym c.deref.ensures.value)
    (subst (λ (v : Vec ℕ Global). IsUtf8 v.items) (sym c.line-item.is) (c.requires c.loop-line.line-index c.line-item.result c.loop-line-test.true)))

pub loop-line-preserved : goal.loop-line-preserved
loop-line-preserved c =
    let more = c.in_ok-append_folded-in-Ok.ensures.ok in
    let line : c.in-Ok.text.now ≡ c.line-item.result.items = c.in-Ok.ensures.cases.0 ∙ c.deref.ensures.value in
    let taken : take (c.loop-line.line-index + 1) c.args.lines.now ≡ take c.loop-line.line-index c.args.lines.now ++ c.line-item.result ∷ [] =
    take_more c.args.lines.now c.loop-line.line-index c.line-item.result c.loop-line-test.true
    ∙ ap (λ (v : Vec ℕ Global). take c.loop-line.line-index c.args.lines.now ++ v ∷ []) (sym c.line-item.is) in
    subst (λ (vs : List (Vec ℕ Global)). AreFolded (map bytes_of vs) c.append_folded.new.folded.items) (sym taken)
    (subst (λ ls. AreFolded ls c.append_folded.new.folded.items)
    (sym (map-append bytes_of (take c.loop-line.line-index c.args.lines.now) (c.line-item.result ∷ [])))
    (subst (AreFolded _) (sym more.1.0)
    (one_more_line (map bytes_of (take c.loop-line.line-index c.args.lines.now)) c.line-item.result.items c.loop-line.folded.items more.0
    c.loop-line.invariant (subst (λ l. IsFolded l more.0) line more.1.1))))

pub returns-clause-folded : goal.returns-clause-folded
returns-clause-folded c =
    subst (λ (vs : List (Vec ℕ Global)). AreFolded (map bytes_of vs) c.loop-line.folded.items) (take_all c.loop-line.line-index c.args.lines.now c.loop-line-test.false)
    c.loop-line.invariant

pub returns-clause-unfolded : goal.returns-clause-unfolded
returns-clause-unfolded c plain = folded_lines _ c.loop-line.folded.items plain (returns-clause-folded c)
