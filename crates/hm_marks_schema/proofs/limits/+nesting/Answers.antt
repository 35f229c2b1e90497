use Rattle.std.proofs.Common.{sym, arith}
use Rattle.hm_marks_schema.proofs.Nesting.{in_link}
use Rattle.hm_marks_schema.proofs.Walks.{edge_less, one_place_more, all_places, one_ahead, none_ahead, item_less, rest_less, folder_less, one_more}
use Rattle.hm_marks_schema.proofs.limits.+nesting.Goals as goal

pub nested_in_folder-nested_in_list-requires : goal.nested_in_folder-nested_in_list-requires
nested_in_folder-nested_in_list-requires t c =
    let less = edge_less c.args.folder.now c.loop-place.place c.list_at.ensures.there.0 c.list_at.result.now c.list_at.ensures.there.1 in
    (omega (arith, less, c.decreases), c.list_at.ensures.list)

pub nested_in_folder-loop-place-preserved : goal.nested_in_folder-loop-place-preserved
nested_in_folder-loop-place-preserved t c =
    one_place_more c.args.folder.now c.loop-place.place c.list_at.ensures.there.0 c.list_at.result.now c.loop-place.most c.nested_in_list.result c.max-most.result
    c.loop-place.invariant c.list_at.ensures.there.1 c.nested_in_list.ensures c.max-most.ensures

pub nested_in_folder-returns : goal.nested_in_folder-returns
nested_in_folder-returns t c =
    all_places c.args.folder.now c.loop-place.place c.loop-place.most c.loop-place.invariant (omega (arith, c.loop-place-test.false, c.count-place-end.ensures))

pub nested_in_item-nested_in_folder-requires : goal.nested_in_item-nested_in_folder-requires
nested_in_item-nested_in_folder-requires t c =
    let is = rw c.in-Folder.is at c.item_of.ensures in
    let less = folder_less c.in-Folder.folder.now c.args.item.now is.0 in
    (omega (arith, less, c.decreases), is.1)

pub nested_in_item-overflow_add-result : goal.nested_in_item-overflow_add-result
nested_in_item-overflow_add-result t c =
    let is = rw c.in-Folder.is at c.item_of.ensures in
    let more = one_more c.in-Folder.folder.now c.args.item.now c.nested_in_folder.result is.0 c.nested_in_folder.ensures in
    omega (arith, more.1, c.depth-more.ensures, c.depth-more.type_inv)

pub nested_in_item-returns-in-Folder : goal.nested_in_item-returns-in-Folder
nested_in_item-returns-in-Folder t c =
    let is = rw c.in-Folder.is at c.item_of.ensures in
    (one_more c.in-Folder.folder.now c.args.item.now c.nested_in_folder.result is.0 c.nested_in_folder.ensures).0

pub nested_in_item-returns-in-Link : goal.nested_in_item-returns-in-Link
nested_in_item-returns-in-Link t c =
    let is = rw c.in-Link.is at c.item_of.ensures in
    sym (in_link is.0.value c.args.item.now is.0.below)

pub nested_in_list-nested_in_item-requires : goal.nested_in_list-nested_in_item-requires
nested_in_list-nested_in_item-requires t c =
    let less = item_less c.args.list.now c.loop-item.rest.now c.loop-item.most c.loop-item.invariant c.in-Some.item.now c.in-Some.others.now c.in-Some.ensures in
    (omega (arith, less, c.decreases), c.in-Some.ensures.item_at)

pub nested_in_list-loop-item-smaller : goal.nested_in_list-loop-item-smaller
nested_in_list-loop-item-smaller t c = rest_less c.loop-item.rest.now c.in-Some.item.now c.in-Some.others.now c.in-Some.ensures

pub nested_in_list-loop-item-preserved : goal.nested_in_list-loop-item-preserved
nested_in_list-loop-item-preserved t c =
    one_ahead c.args.list.now c.loop-item.rest.now c.loop-item.most c.loop-item.invariant c.in-Some.item.now c.in-Some.others.now c.nested_in_item.result
    c.max-most.result c.in-Some.ensures c.nested_in_item.ensures c.max-most.ensures

pub nested_in_list-returns : goal.nested_in_list-returns
nested_in_list-returns t c = none_ahead c.args.list.now c.loop-item.rest.now c.loop-item.most c.loop-item.invariant c.in_default.ensures
