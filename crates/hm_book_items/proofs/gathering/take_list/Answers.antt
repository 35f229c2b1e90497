use Rattle.std.proofs.Common.{◌≡◌, true, false, refl, arith}
use Rattle.hm_book_items.proofs.Made.{no_edge, key_first, other_first}
use Rattle.hm_book_items.proofs.gathering.take_list.Goals as goal

pub returns-in_default : goal.returns-in_default
returns-in_default c =
    no_edge c.args.name.now c.args.edges.now.items c.pop.new.self.items c.empty.result c.in_default.ensures.items
    (omega (arith, c.args.edges.now.ok, c.in_default.ensures.cases.0)) c.empty.ensures

pub returns-then-same : goal.returns-then-same
returns-then-same c =
    key_first c.args.name.now c.args.edges.now.items c.pop.new.self.items (c.in-Some.key, c.in-Some.list) c.in-Some.ensures.items
    (c.if-same.ensures.0 refl)

pub returns : goal.returns
returns c =
    other_first c.args.name.now c.args.edges.now.items c.pop.new.self.items c.push.new.self.items (c.in-Some.key, c.in-Some.list) c.empty-2.result
    c.in-Some.ensures.items c.in_ok-push.ensures.items (λ is. let no : false ≡ true = c.if-same.ensures.1 is in let bad : ⊥ = cc in bad)
    c.empty-2.ensures
