use Rattle.std.proofs.Common.{rules, ◌≡◌, refl}
use Rattle.hm_schema.proofs.Lists.{all_next, all_done}
use Rattle.hm_tree.specs.Names.{Name}
use Rattle.hm_types_views.proofs.hiding.all_are.Goals as goal

pair : (twin : Name × Name) (m n : Name) → twin.0 ≡ m → twin.1 ≡ n → twin ≡ (m, n)
pair twin m n e f = λ i. (e i, f i)

pub loop-twin-preserved : goal.loop-twin-preserved
loop-twin-preserved c = all_next (λ (twin : Name × Name). twin ≡ (c.args.first.now, c.args.second.now)) c.args.twins.now _ _ (search rules)
    c.twin-item.is c.loop-twin.invariant (pair c.twin-item.result c.args.first.now c.args.second.now (c.same.ensures.0 c.if-not-same.false)
    (c.same-else-not-same.ensures.0 c.if-not-same-2.false))

pub returns : goal.returns
returns c = (
  λ _. all_done (λ (twin : Name × Name). twin ≡ (c.args.first.now, c.args.second.now)) c.args.twins.now _ (search rules) c.loop-twin.invariant,
  λ _. refl,
)
