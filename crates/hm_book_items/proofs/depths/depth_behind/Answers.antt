use Rattle.std.proofs.Common.{◌≡◌, true, false, refl, sym, ◌∙◌}
use Rattle.hm_book_items.proofs.ListDepths.{depth_first, depth_other}
use Rattle.hm_book_items.proofs.depths.depth_behind.Goals as goal

pub returns-then-same : goal.returns-then-same
returns-then-same g c =
    c.requires ∙ depth_first g.D.Deep.deep c.args.name.now c.args.items.now c.in-Some.next.now (sym c.in-Some.ensures.value) (c.if-same.ensures.0 refl)

pub returns-else-same : goal.returns-else-same
returns-else-same g c =
    depth_other g.D.Deep.deep c.args.name.now c.args.items.now c.in-Some.next.now (sym c.in-Some.ensures.value)
    (λ is. let no : false ≡ true = c.if-same.ensures.1 is in let bad : ⊥ = cc in bad)
