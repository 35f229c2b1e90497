use Rattle.std.proofs.Common.{◌≡◌, ◌∙◌, ◌≤◌, false, Some, None, vec_capacity, refl, ap, sym, subst, rules}
use Rattle.std.specs.BTreeMap.{Updates, get_by_text}
use Rattle.std.specs.String.{string_cmp}
use Rattle.hm_outside.specs.declared.room.Room.{Room}
use Rattle.hm_outside.specs.Room.{file_in}
use Rattle.hm_outside.proofs.Places.{is_written, contents_of-written, rooms_stay-written, IsNew, put_at, contents_of-new, rooms_stay-new, contents_of-same}
use Rattle.hm_outside.proofs.room.make_room.Goals as goal

pub returns-in_err-reserve-clause-contents : goal.returns-in_err-reserve-clause-contents
returns-in_err-reserve-clause-contents c =
    let was = c.in-Some.room.now in
    let room : Room = record { stands = was.stands; bytes = c.reserve.new.self } in
    let new = c.get_mut.follows.lender room in
    let written = is_written c.args.rooms.now new _ c.args.name.now was room c.text.ensures.value (search rules) (c.get_mut.follows.holds room) in
    let file : file_in (Some room) ≡ file_in (Some was) = search rules in
    contents_of-written c.args.rooms.now new _ was room written file

pub returns-in_err-reserve-clause-stay : goal.returns-in_err-reserve-clause-stay
returns-in_err-reserve-clause-stay c =
    let was = c.in-Some.room.now in
    let room : Room = record { stands = was.stands; bytes = c.reserve.new.self } in
    let new = c.get_mut.follows.lender room in
    let written = is_written c.args.rooms.now new _ c.args.name.now was room c.text.ensures.value (search rules) (c.get_mut.follows.holds room) in
    let grown : vec_capacity was.bytes ≤ vec_capacity room.bytes = search rules in
    rooms_stay-written c.args.rooms.now new _ was room written grown

pub returns-in-Some-clause-contents : goal.returns-in-Some-clause-contents
returns-in-Some-clause-contents c =
    let was = c.in-Some.room.now in
    let room : Room = record { stands = was.stands; bytes = c.reserve.new.self } in
    let new = c.get_mut.follows.lender room in
    let written = is_written c.args.rooms.now new _ c.args.name.now was room c.text.ensures.value (search rules) (c.get_mut.follows.holds room) in
    let file : file_in (Some room) ≡ file_in (Some was) = search rules in
    contents_of-written c.args.rooms.now new _ was room written file

pub returns-in-Some-clause-stay : goal.returns-in-Some-clause-stay
returns-in-Some-clause-stay c =
    let was = c.in-Some.room.now in
    let room : Room = record { stands = was.stands; bytes = c.reserve.new.self } in
    let new = c.get_mut.follows.lender room in
    let written = is_written c.args.rooms.now new _ c.args.name.now was room c.text.ensures.value (search rules) (c.get_mut.follows.holds room) in
    let grown : vec_capacity was.bytes ≤ vec_capacity room.bytes = search rules in
    rooms_stay-written c.args.rooms.now new _ was room written grown

pub returns-in_err-insert-clause-contents : goal.returns-in_err-insert-clause-contents
returns-in_err-insert-clause-contents c = contents_of-same c.args.rooms.now c.insert.new.self (search rules)

pub returns-clause-contents : goal.returns-clause-contents
returns-clause-contents c =
    let room : Room = record { stands = false; bytes = c.in_ok-bytes.bytes } in
    let absent : get_by_text c.args.rooms.now c.text.result.now ≡ None = search rules in
    let new : IsNew c.args.rooms.now c.insert.new.self c.args.name.now room = record {
      absent = ap (get_by_text c.args.rooms.now) (sym c.text.ensures.value) ∙ absent;
      put = put_at c.args.rooms.now c.insert.new.self c.in_ok-key.key c.args.name.now room (c.in_ok-key.ensures.ok ∙ c.text-2.ensures.value)
          (subst (λ old. Updates string_cmp old c.insert.new.self c.in_ok-key.key (Some room)) c.get_mut.follows.holds-at-none c.in_ok-insert.ensures.updates);
    } in
    contents_of-new c.args.rooms.now c.insert.new.self _ room new refl

pub returns-clause-stay : goal.returns-clause-stay
returns-clause-stay c =
    let room : Room = record { stands = false; bytes = c.in_ok-bytes.bytes } in
    let absent : get_by_text c.args.rooms.now c.text.result.now ≡ None = search rules in
    let new : IsNew c.args.rooms.now c.insert.new.self c.args.name.now room = record {
      absent = ap (get_by_text c.args.rooms.now) (sym c.text.ensures.value) ∙ absent;
      put = put_at c.args.rooms.now c.insert.new.self c.in_ok-key.key c.args.name.now room (c.in_ok-key.ensures.ok ∙ c.text-2.ensures.value)
          (subst (λ old. Updates string_cmp old c.insert.new.self c.in_ok-key.key (Some room)) c.get_mut.follows.holds-at-none c.in_ok-insert.ensures.updates);
    } in
    rooms_stay-new c.args.rooms.now c.insert.new.self _ room new
