use Rattle.std.proofs.Common.{sym, subst}
use Rattle.hm_tree.specs.declared.class.Class.{Class}
use Rattle.hm_text_lens.specs.Meanings.{IsTextIn, IsFrom, IsInto, IsBefore}
use Rattle.hm_text_lens.proofs.chain.ChainTextLens.put.Goals.{After-as_ref, in-Some+in_ok-get-in-Some, in-None}
use Rattle.hm_text_lens.proofs.chain.ChainTextLens.put.Goals as goal

-- what the first part shows of the text from before, the second may read
pub put-requires-clause-before : goal.put-requires-clause-before
put-requires-clause-before g c =
    let parts = c.args.self.now.parts in
    let one = g.F.TextLens.meaning parts.first in
    let two = g.G.TextLens.meaning parts.second in
    let before : IsBefore two c.match-before.shown = elim c.match-before.branch [
      | in-Some+in_ok-get-in-Some w ↦
          let shown : IsInto one w.in_ok-get-in-Some.field-0 =
          subst (IsInto one) (sym w.in_ok-get-in-Some.ensures) ((g.met.F.TextLens.lawful parts.first).gets w.in-Some.before.now (rw w.in-Some.is at c.requires.before)) in
          rw w.shown-is (subst (λ (k : Class). IsTextIn k w.in_ok-get-in-Some.field-0) parts.classes shown)
      | in-None w ↦ rw w.shown-is tt
    ] in
    subst (IsBefore two) (sym c.as_ref.ensures.value) before

-- what the second part puts, the first may put
pub put-requires-2-clause-text : goal.put-requires-2-clause-text
put-requires-2-clause-text g c =
    let parts = c.args.self.now.parts in
    let two = g.G.TextLens.meaning parts.second in
    let made = (g.met.G.TextLens.lawful parts.second).puts c.args.text.now _ c.requires.text (put-requires-clause-before g (goal.at.put-requires-2-clause-text g c).After-as_ref) in
    subst (λ (k : Class). IsTextIn k c.in_ok-middle.middle) (sym parts.classes) (subst (IsFrom two) (sym c.in_ok-middle.ensures) made)
