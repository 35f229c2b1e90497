use Rattle.std.proofs.Common.{rules, ◌≡◌, ◌≢◌, ◌<◌, length, sym, subst, arith, ◌∙◌}
use Rattle.std.proofs.lemmas.List.{get_or-set_same, length-set}
use Rattle.hm_graph.specs.Forests.{Climbs}
use Rattle.hm_graph.specs.Forests.Climbs.{here}
use Rattle.hm_graph.proofs.Shortened.{shortened_refl, read_up, v_below, step_shortened, step_climbs}
use Rattle.hm_graph.proofs.sameness.root.Goals as goal

pub loop-here-init : goal.loop-here-init
loop-here-init c = record { in_range = c.requires.in_range; shortened = shortened_refl c.args.parents.now.items c.requires.falls; climbs = here }

pub index-requires-in-loop-here : goal.index-requires-in-loop-here
index-requires-in-loop-here c =
    let ps = c.loop-here.parents.items in
    let up_is = read_up ps c.loop-here.here c.index-above.result.now c.loop-here.invariant.in_range c.index-above.ensures in
    let lt : c.index-above.result.now < length ps = omega (arith, c.loop-here.invariant.shortened.falls c.loop-here.here, c.loop-here.invariant.in_range) in
    search rules

pub loop-here-preserved : goal.loop-here-preserved
loop-here-preserved c =
    let ps = c.loop-here.parents.items in
    let i = c.loop-here.here in
    let a = c.index-above.result.now in
    let v = c.index-in-loop-here.result.now in
    let inv = c.loop-here.invariant in
    let is_a = read_up ps i a inv.in_range c.index-above.ensures in
    let ne : a ≢ i = λ e. c.loop-here-test.true (read_up ps i c.index.result.now inv.in_range c.index.ensures ∙ sym is_a ∙ e) in
    let lt : a < length ps = omega (arith, inv.shortened.falls i, inv.in_range, is_a) in
    let is_v = read_up ps a v lt c.index-in-loop-here.ensures in
    let read : c.index-here.result.now ≡ v = c.index-here.ensures ∙ get_or-set_same ps i v c.index-here.result.now inv.in_range in
    let low = v_below c.args.parents.now.items ps c.args.start i a v inv.shortened inv.in_range is_a is_v ne in
    record {
      in_range = omega (arith, low, inv.in_range, length-set ps i v, read);
      shortened = step_shortened c.args.parents.now.items ps c.args.start i a v inv.shortened inv.in_range is_a is_v ne;
      climbs = subst (Climbs c.args.parents.now.items c.args.start) (sym read)
          (step_climbs c.args.parents.now.items ps c.args.start i a v inv.shortened inv.in_range is_a is_v ne inv.climbs);
    }

pub loop-here-smaller : goal.loop-here-smaller
loop-here-smaller c =
    let ps = c.loop-here.parents.items in
    let i = c.loop-here.here in
    let a = c.index-above.result.now in
    let v = c.index-in-loop-here.result.now in
    let inv = c.loop-here.invariant in
    let is_a = read_up ps i a inv.in_range c.index-above.ensures in
    let ne : a ≢ i = λ e. c.loop-here-test.true (read_up ps i c.index.result.now inv.in_range c.index.ensures ∙ sym is_a ∙ e) in
    let lt : a < length ps = omega (arith, inv.shortened.falls i, inv.in_range, is_a) in
    let is_v = read_up ps a v lt c.index-in-loop-here.ensures in
    let read : c.index-here.result.now ≡ v = c.index-here.ensures ∙ get_or-set_same ps i v c.index-here.result.now inv.in_range in
    omega (arith, read, v_below c.args.parents.now.items ps c.args.start i a v inv.shortened inv.in_range is_a is_v ne)

pub returns : goal.returns
returns c =
    let ps = c.loop-here.parents.items in
    let i = c.loop-here.here in
    let inv = c.loop-here.invariant in
    let same : c.index.result.now ≡ i = search rules in
    record {
      shortened = inv.shortened;
      climbs = inv.climbs;
      root = (inv.shortened.roots i).0 (sym (read_up ps i c.index.result.now inv.in_range c.index.ensures) ∙ same);
      in_range = omega (arith, inv.in_range, inv.shortened.size);
    }
