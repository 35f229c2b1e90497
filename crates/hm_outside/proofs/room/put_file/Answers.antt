use Rattle.std.proofs.Common.{◌≡◌, ◌∙◌, ◌≤◌, ℕ, true, Option, Some, vec_capacity, length, ap, sym, subst, rules}
use Rattle.hm_tree.specs.Names.{Name}
use Rattle.hm_outside.specs.declared.room.Room.{Room}
use Rattle.hm_outside.specs.Contents.{replaced}
use Rattle.hm_outside.specs.Room.{contents_of, room_sizes, HasRoom, RoomsStay}
use Rattle.hm_outside.proofs.Places.{put_at, contents_of-put, contents_of-same, room_sizes-same, rooms_stay-replaced}
use Rattle.hm_outside.proofs.room.put_file.Goals as goal

pub returns-in_err-insert-clause-same : goal.returns-in_err-insert-clause-same
returns-in_err-insert-clause-same c =
    let same : contents_of c.insert.new.self ≡ contents_of c.fill_room.new.rooms = contents_of-same _ _ (search rules) in
    search rules

pub returns-in_err-insert-clause-same_rooms : goal.returns-in_err-insert-clause-same_rooms
returns-in_err-insert-clause-same_rooms c =
    let same : room_sizes c.insert.new.self ≡ room_sizes c.fill_room.new.rooms = room_sizes-same c.fill_room.new.rooms c.insert.new.self (search rules) in
    search rules

pub returns-clause-put : goal.returns-clause-put
returns-clause-put c =
    let old = c.fill_room.new.rooms in
    let room : Room = record { stands = true; bytes = c.extend_from_slice.new.self } in
    let put = put_at old c.insert.new.self c.in_ok-key.key c.args.name.now room (c.in_ok-key.ensures.ok ∙ c.text.ensures.value) c.in_ok-insert.ensures.updates in
    let bytes : c.extend_from_slice.new.self.items ≡ c.args.bytes.now = search rules in
    let same : contents_of old ≡ contents_of c.args.rooms.now = search rules in
    contents_of-put old c.insert.new.self _ room put c.args.bytes.now (ap Some bytes) ∙ ap (λ held. replaced held c.args.name.now c.args.bytes.now) same

pub returns-clause-stay : goal.returns-clause-stay
returns-clause-stay c =
    let old = c.fill_room.new.rooms in
    let room : Room = record { stands = true; bytes = c.extend_from_slice.new.self } in
    let put = put_at old c.insert.new.self c.in_ok-key.key c.args.name.now room (c.in_ok-key.ensures.ok ∙ c.text.ensures.value) c.in_ok-insert.ensures.updates in
    let large : length c.args.bytes.now ≤ vec_capacity room.bytes = search rules in
    let same : room_sizes old ≡ room_sizes c.args.rooms.now = c.fill_room.ensures.same_rooms c.if-fill_room.false in
    let small : ¬ (HasRoom (room_sizes c.args.rooms.now) c.args.name.now (length c.args.bytes.now)) = c.fill_room.ensures.small c.if-fill_room.false in
    subst (λ (sizes : Name → Option ℕ). RoomsStay sizes (room_sizes c.insert.new.self)) same
    (rooms_stay-replaced old c.insert.new.self c.args.name.now room put (length c.args.bytes.now)
    (subst (λ (sizes : Name → Option ℕ). ¬ (HasRoom sizes c.args.name.now (length c.args.bytes.now))) (sym same) small) large)
