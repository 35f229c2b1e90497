use Rattle.std.proofs.Common.{refl, sym, ◌∙◌}
use mathlib.Core.Bool.{false≢true}
use Rattle.hm_tree.proofs.Under.{front_rest, rest_sorted, found_behind, found_first, later_too, not_there, tied_later, popped, none_left}
use Rattle.hm_tree.proofs.edges.take_under.Goals.{in-Some+in-Equal+in-None, in-Some+in-Greater, in_default}
use Rattle.hm_tree.proofs.edges.take_under.Goals as goal

pub loop-first-preserved-in-Less : goal.loop-first-preserved-in-Less
loop-first-preserved-in-Less g c =
    let n = c.args.name.now in
    let es = c.loop-first.rest.items in
    let rest = c.pop_front.new.self.items in
    let e = c.in-Some.first.now in
    let is = front_rest es rest e c.in-Some.ensures.item.3.0 c.in-Some.ensures.lookup c.pop_front.ensures.rest in
    let less = sym c.order.ensures ∙ c.in-Less.is in
    record {
      sorted = rest_sorted n es rest e c.loop-first.invariant.sorted is;
      same = found_behind n es rest e c.loop-first.invariant.sorted is n less ∙ c.loop-first.invariant.same;
      later = λ k after. found_behind n es rest e c.loop-first.invariant.sorted is k (later_too n es rest e c.loop-first.invariant.sorted is k less after) ∙ c.loop-first.invariant.later k after;
    }

pub returns-in-Some-pop_front-clause-taken : goal.returns-in-Some-pop_front-clause-taken
returns-in-Some-pop_front-clause-taken g c =
    let n = c.args.name.now in
    let es = c.loop-first.rest.items in
    let rest = c.pop_front-in-Equal.new.self.items in
    let e = c.in-Some.first.now in
    let is = front_rest es rest e c.in-Some.ensures.item.3.0 c.in-Some.ensures.lookup c.pop_front-in-Equal.ensures.rest in
    popped es rest e (c.in-Some-pop_front.field-0-0, c.in-Some-pop_front.under) is c.in-Some-pop_front.ensures.items
    ∙ found_first n es rest e c.loop-first.invariant.sorted is (sym c.order.ensures ∙ c.in-Equal.is) ∙ c.loop-first.invariant.same

pub returns-in-Some-pop_front-clause-later : goal.returns-in-Some-pop_front-clause-later
returns-in-Some-pop_front-clause-later g c =
    let n = c.args.name.now in
    let es = c.loop-first.rest.items in
    let rest = c.pop_front-in-Equal.new.self.items in
    let e = c.in-Some.first.now in
    let is = front_rest es rest e c.in-Some.ensures.item.3.0 c.in-Some.ensures.lookup c.pop_front-in-Equal.ensures.rest in
    λ k after. found_behind n es rest e c.loop-first.invariant.sorted is k (tied_later e.0 n k (sym c.order.ensures ∙ c.in-Equal.is) after) ∙ c.loop-first.invariant.later k after

pub returns-clause-taken : goal.returns-clause-taken
returns-clause-taken g c =
    elim c.match-front.branch [
      | in-Some+in-Equal+in-None w ↦ absurd (false≢true (w.in-None.ensures.variant.1 (w.in-Some.ensures.variant.0 refl)))
      | in-Some+in-Greater w ↦ not_there c.args.name.now c.loop-first.rest.items w.in-Some.first.now c.loop-first.invariant.sorted w.in-Some.ensures.item.3.0 w.in-Some.ensures.lookup (sym w.order.ensures ∙ w.in-Greater.is) ∙ c.loop-first.invariant.same
      | in_default w ↦ none_left c.args.name.now c.loop-first.rest.items w.in_default.ensures.item.3 ∙ c.loop-first.invariant.same
    ]
