use Rattle.std.proofs.Common.{rules, ◌<◌, length, arith, refl, sym, ◌∙◌}
use Rattle.std.proofs.lemmas.Option.{slice_get_read}
use Rattle.hm_terms_cycles.proofs.Searches.{calls_read, lent_below, way_below, search_begins, search_goes_on, search_ends}
use Rattle.hm_terms_cycles.proofs.ways.ways.Goals as goal

pub loop-at-init : goal.loop-at-init
loop-at-init c = record {
  set = c.in_ok-add_behind.ensures.set;
  count = c.add_behind.ensures.count ∙ c.in_ok-found.ensures.count;
  search = search_begins c.args.callees.now c.args.start _ _ _ c.in_ok-found.ensures.none
      (c.deref.ensures.value ∙ sym (calls_read c.args.callees.now c.args.start _ c.requires.start c.index-callees-start.is))
      c.in_ok-add_behind.ensures.adds;
}

pub bounds-callees-way : goal.bounds-callees-way
bounds-callees-way c =
    way_below c.args.callees.now c.args.start c.requires.closed c.loop-at.at _ _ c.loop-at.invariant.search
    (omega (arith, c.loop-at-test.true, c.len.ensures)) c.index-way.ensures

pub offset_bounds-callees-way : goal.offset_bounds-callees-way
offset_bounds-callees-way c =
    let below = bounds-callees-way c in
    search rules

pub add_behind-requires-in-loop-at-clause-known : goal.add_behind-requires-in-loop-at-clause-known
add_behind-requires-in-loop-at-clause-known c =
    lent_below c.args.callees.now c.index-way.result.now.place _
    (way_below c.args.callees.now c.args.start c.requires.closed c.loop-at.at _ _ c.loop-at.invariant.search
    (omega (arith, c.loop-at-test.true, c.len.ensures)) c.index-way.ensures)
    c.index-callees-way.is c.requires.closed _ _ c.loop-at.invariant.count c.deref-in-loop-at.ensures.value

pub loop-at-preserved : goal.loop-at-preserved
loop-at-preserved c =
    let way = c.index-way.result.now in
    let lt : c.loop-at.at < length c.loop-at.found.calls.items = omega (arith, c.loop-at-test.true, c.len.ensures) in
    record {
      set = c.in_ok-add_behind-2.ensures.set;
      count = c.add_behind-in-loop-at.ensures.count ∙ c.loop-at.invariant.count;
      search = search_goes_on c.args.callees.now c.args.start c.loop-at.at _ _ _ way c.loop-at.invariant.search lt
          (slice_get_read _ _ _ _ refl lt c.index-way.ensures)
          (c.deref-in-loop-at.ensures.value ∙ sym (calls_read c.args.callees.now way.place _
          (way_below c.args.callees.now c.args.start c.requires.closed c.loop-at.at _ _ c.loop-at.invariant.search lt c.index-way.ensures)
          c.index-callees-way.is))
          c.in_ok-add_behind-2.ensures.adds;
    }

pub returns : goal.returns
returns c = λ x. (
  c.loop-at.invariant.search.sound x,
  λ w. search_ends c.args.callees.now c.args.start c.loop-at.at _ c.loop-at.invariant.search (omega (arith, c.loop-at-test.false, c.len.ensures)) w,
)
