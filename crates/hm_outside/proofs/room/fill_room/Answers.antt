use Rattle.std.proofs.Common.{◌≡◌, ◌≤◌, true, Some, vec_capacity, ap, refl, arith, rules}
use Rattle.hm_outside.specs.declared.room.Room.{Room}
use Rattle.hm_outside.proofs.Places.{is_written, contents_of-put, contents_of-written, room_sizes-written, rooms_stay-written}
use Rattle.hm_outside.proofs.room.fill_room.Goals as goal

pub returns-then-bytes-capacity-clause-stay : goal.returns-then-bytes-capacity-clause-stay
returns-then-bytes-capacity-clause-stay c =
    let room = c.in-Some.room.now in
    let new = c.get_mut.follows.lender room in
    let written = is_written c.args.rooms.now new _ c.args.name.now room room c.text.ensures.value (search rules) (c.get_mut.follows.holds room) in
    rooms_stay-written c.args.rooms.now new _ room room written (omega arith)

pub returns-then-bytes-capacity-clause-same : goal.returns-then-bytes-capacity-clause-same
returns-then-bytes-capacity-clause-same c =
    let room = c.in-Some.room.now in
    let new = c.get_mut.follows.lender room in
    let written = is_written c.args.rooms.now new _ c.args.name.now room room c.text.ensures.value (search rules) (c.get_mut.follows.holds room) in
    λ _. contents_of-written c.args.rooms.now new _ room room written refl

pub returns-then-bytes-capacity-clause-same_rooms : goal.returns-then-bytes-capacity-clause-same_rooms
returns-then-bytes-capacity-clause-same_rooms c =
    let room = c.in-Some.room.now in
    let new = c.get_mut.follows.lender room in
    let written = is_written c.args.rooms.now new _ c.args.name.now room room c.text.ensures.value (search rules) (c.get_mut.follows.holds room) in
    λ _. room_sizes-written c.args.rooms.now new _ room room written refl

pub returns-clause-filled : goal.returns-clause-filled
returns-clause-filled c =
    let was = c.in-Some.room.now in
    let room : Room = record { stands = true; bytes = c.extend_from_slice.new.self } in
    let new = c.get_mut.follows.lender room in
    let written = is_written c.args.rooms.now new _ c.args.name.now was room c.text.ensures.value (search rules) (c.get_mut.follows.holds room) in
    let bytes : c.extend_from_slice.new.self.items ≡ c.args.bytes.now = search rules in
    λ _. contents_of-put c.args.rooms.now new _ room written.put c.args.bytes.now (ap Some bytes)

pub returns-clause-stay : goal.returns-clause-stay
returns-clause-stay c =
    let was = c.in-Some.room.now in
    let room : Room = record { stands = true; bytes = c.extend_from_slice.new.self } in
    let new = c.get_mut.follows.lender room in
    let written = is_written c.args.rooms.now new _ c.args.name.now was room c.text.ensures.value (search rules) (c.get_mut.follows.holds room) in
    let grown : vec_capacity was.bytes ≤ vec_capacity room.bytes = search rules in
    rooms_stay-written c.args.rooms.now new _ was room written grown
