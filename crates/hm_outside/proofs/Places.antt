-- What a change at one name leaves of rooms: the files in them, look-up by look-up, and how much they can take.
use Rattle.std.proofs.Common.{◌≡◌, ⊎_elim, ◌≤◌, ℕ, List, [], ◌∷◌, Bool, true, false, cond, Option, Some, None, string_bytes, vec_capacity, refl, sym, ◌∙◌, ap, subst, arith, option_map}
use Rattle.std.specs.BTreeMap.{Updates, WritesThrough, get_by_text}
use Rattle.std.specs.Map.{lookup, update}
use Rattle.std.specs.Option.{is_some}
use Rattle.std.specs.Cmp.{both_ways}
use Rattle.std.specs.Ordering.{is_eq, nat_cmp}
use Rattle.std.specs.Cmp.Lexicographic.{slice_cmp}
use Rattle.std.specs.Str.{bytes_eq}
use Rattle.std.specs.declared.alloc.Global.{Global}
use Rattle.std.specs.declared.string.String.{String}
use Rattle.std.specs.String.{string_cmp}
use Rattle.std.proofs.lemmas.Bool.{cases_lt}
use Rattle.std.proofs.lemmas.Option.{same_Some, none-some}
use Rattle.std.proofs.lemmas.Map.Text.{btree_map_updates_text, is_eq-slice_cmp}
use Rattle.std.proofs.lemmas.Slice.Eq.{bytes_eq-Decides}
use Rattle.hm_tree.specs.Names.{Name}
use Rattle.hm_outside.specs.declared.room.Room.{Room}
use Rattle.hm_outside.specs.Contents.{Contents, nothing_held, held, replaced, removed}
use Rattle.hm_outside.specs.Room.{Rooms, file_in, contents_among, contents_of, room_sizes, HasRoom, RoomsStay}
use Rattle.hm_outside.proofs.Contents.{same_contents, held-nothing_held, held-replaced, held-removed}

file_in-cond : (b : Bool) (x y : Option Room) → file_in (cond b x y) ≡ cond b (file_in x) (file_in y)
file_in-cond true x y = refl
file_in-cond false x y = refl

-- a look-up in contents to which the file in a room was added, or where it is none, under whose name nothing stands
held-added : (stands : Bool) (contents : Contents) (key : Name) (bytes : List ℕ) (name : Name)
    → held (cond stands (replaced contents key bytes) (removed contents key)) name
    ≡ cond (bytes_eq name key) (cond stands (Some bytes) None) (held contents name)
held-added true contents key bytes name = held-replaced contents key bytes name
held-added false contents key bytes name = held-removed contents key name

held-among : (name : Name) (es : List (String Global × Room))
    → held (contents_among es) name ≡ file_in (lookup (λ k. is_eq (slice_cmp nat_cmp name (string_bytes k))) es)
held-among name [] = held-nothing_held name
held-among name (e ∷ es) = held-added e.1.stands (contents_among es) (string_bytes e.0) e.1.bytes.items name
    ∙ ap (λ b. cond b (file_in (Some e.1)) (held (contents_among es) name)) (sym (is_eq-slice_cmp name (string_bytes e.0)))
    ∙ ap (cond (is_eq (slice_cmp nat_cmp name (string_bytes e.0))) (file_in (Some e.1))) (held-among name es)
    ∙ sym (file_in-cond (is_eq (slice_cmp nat_cmp name (string_bytes e.0))) (Some e.1)
    (lookup (λ k. is_eq (slice_cmp nat_cmp name (string_bytes k))) es))

-- a name has the bytes of the file in its room
pub held-contents_of : (rooms : Rooms) (name : Name) → held (contents_of rooms) name ≡ file_in (get_by_text rooms name)
unfolding contents_of
held-contents_of rooms name = held-among name rooms.entries

pub contents_of-empty : (rooms : Rooms) → rooms.entries ≡ [] → contents_of rooms ≡ nothing_held
unfolding contents_of
contents_of-empty rooms none = ap contents_among none

-- equal entries stand for equal contents, and rooms of equal sizes
pub contents_of-same : (old new : Rooms) → new.entries ≡ old.entries → contents_of new ≡ contents_of old
unfolding contents_of
contents_of-same old new same = ap contents_among same

sizes_among : List (String Global × Room) → Name → Option ℕ
sizes_among es name = option_map (λ room. vec_capacity room.bytes) (lookup (λ k. is_eq (slice_cmp nat_cmp name (string_bytes k))) es)

pub room_sizes-same : (old new : Rooms) → new.entries ≡ old.entries → room_sizes new ≡ room_sizes old
unfolding sizes_among
room_sizes-same old new same = ap sizes_among same

pub room_sizes-empty : (rooms : Rooms) → rooms.entries ≡ [] → room_sizes rooms ≡ λ _. None
unfolding sizes_among
room_sizes-empty rooms none = ap sizes_among none

pub rooms_stay-same : (old new : Rooms) → new.entries ≡ old.entries → RoomsStay (room_sizes old) (room_sizes new)
rooms_stay-same old new same name size has = subst (λ (sizes : Name → Option ℕ). HasRoom sizes name size) (sym (room_sizes-same old new same)) has

bytes_eq_symm : (a b : List ℕ) → bytes_eq a b ≡ bytes_eq b a
bytes_eq_symm a b = both_ways _ _ (λ h. (bytes_eq-Decides b a).1 (sym ((bytes_eq-Decides a b).0 h)))
    (λ h. (bytes_eq-Decides a b).1 (sym ((bytes_eq-Decides b a).0 h)))

cond_same : {A : Type 0} (b : Bool) (x y : A) → (b ≡ true → x ≡ y) → cond b x y ≡ y
cond_same true x y same = same refl
cond_same false x y same = refl

-- `new` is `old` with this room at the name
abbrev pub IsPut : Rooms → Rooms → Name → Room → Type 0
IsPut old new name room = (other : Name) → get_by_text new other ≡ update bytes_eq (get_by_text old) name (Some room) other

module _ (old new : Rooms) (name : Name) (room : Room) (put : IsPut old new name room) where
  held_put : (other : Name) → held (contents_of new) other ≡ cond (bytes_eq name other) (file_in (Some room)) (held (contents_of old) other)
  held_put other = held-contents_of new other ∙ ap file_in (put other) ∙ file_in-cond (bytes_eq name other) (Some room) (get_by_text old other)
      ∙ ap (cond (bytes_eq name other) (file_in (Some room))) (sym (held-contents_of old other))

  -- a file in it is what the name has now
  pub contents_of-put : (bytes : List ℕ) → file_in (Some room) ≡ Some bytes → contents_of new ≡ replaced (contents_of old) name bytes
  contents_of-put bytes file = same_contents _ _ (λ other. held_put other
      ∙ ap (λ x. cond (bytes_eq name other) x (held (contents_of old) other)) file
      ∙ ap (λ b. cond b (Some bytes) (held (contents_of old) other)) (bytes_eq_symm name other)
      ∙ sym (held-replaced (contents_of old) name bytes other))

  -- where it has the file that the name had, no file has changed
  pub contents_of-kept : file_in (Some room) ≡ file_in (get_by_text old name) → contents_of new ≡ contents_of old
  contents_of-kept file = same_contents _ _ (λ other. held_put other
      ∙ cond_same (bytes_eq name other) (file_in (Some room)) (held (contents_of old) other)
      (λ same. file ∙ sym (held-contents_of old name) ∙ ap (held (contents_of old)) ((bytes_eq-Decides name other).0 same)))

  size_put : (other : Name) → room_sizes new other ≡ cond (bytes_eq name other) (Some (vec_capacity room.bytes)) (room_sizes old other)
  size_put other = ap (option_map (λ r. vec_capacity r.bytes)) (put other) ∙ size_of (bytes_eq name other)
    where
      size_of : (b : Bool) → option_map (λ r. vec_capacity r.bytes) (cond b (Some room) (get_by_text old other))
          ≡ cond b (Some (vec_capacity room.bytes)) (room_sizes old other)
      size_of true = refl
      size_of false = refl

  pub has_room : (size : ℕ) → size ≤ vec_capacity room.bytes → HasRoom (room_sizes new) name size
  has_room size large = record {
    room = vec_capacity room.bytes;
    is = size_put name ∙ ap (λ b. cond b (Some (vec_capacity room.bytes)) (room_sizes old name)) ((bytes_eq-Decides name name).1 refl);
    large = large;
  }

  -- its size is what the name had
  pub room_sizes-kept : room_sizes old name ≡ Some (vec_capacity room.bytes) → room_sizes new ≡ room_sizes old
  room_sizes-kept same = λ i other. at other i
    where
      at : (other : Name) → room_sizes new other ≡ room_sizes old other
      at other = size_put other ∙ cond_same (bytes_eq name other) (Some (vec_capacity room.bytes)) (room_sizes old other)
          (λ is. sym same ∙ ap (room_sizes old) ((bytes_eq-Decides name other).0 is))

  -- no room is less where this one is no less than what the name had
  rooms_stay : ((size : ℕ) → HasRoom (room_sizes old) name size → size ≤ vec_capacity room.bytes) → RoomsStay (room_sizes old) (room_sizes new)
  rooms_stay more other size has = stays (bytes_eq name other) refl
    where
      stays : (b : Bool) → bytes_eq name other ≡ b → HasRoom (room_sizes new) other size
      stays true same =
          let is = (bytes_eq-Decides name other).0 same in
          subst (λ (n : Name). HasRoom (room_sizes new) n size) is
          (has_room size (more size (subst (λ (n : Name). HasRoom (room_sizes old) n size) (sym is) has)))
      stays false apart = record {
        room = has.room;
        is = size_put other ∙ ap (λ b. cond b (Some (vec_capacity room.bytes)) (room_sizes old other)) apart ∙ has.is;
        large = has.large;
      }

  -- a room has grown
  pub rooms_stay-grown : (was : ℕ) → room_sizes old name ≡ Some was → was ≤ vec_capacity room.bytes → RoomsStay (room_sizes old) (room_sizes new)
  rooms_stay-grown was is grown = rooms_stay (λ size has. omega (arith, has.large, grown, same_Some _ _ (sym has.is ∙ is)))

  -- a room that was too small for a size makes place for one that isn't
  pub rooms_stay-replaced : (size : ℕ) → ¬ (HasRoom (room_sizes old) name size) → size ≤ vec_capacity room.bytes
      → RoomsStay (room_sizes old) (room_sizes new)
  rooms_stay-replaced size small large = rooms_stay (λ other has. ⊎_elim
      (λ less. omega (arith, less, large))
      (λ more. absurd (small record { room = has.room; is = has.is; large = omega (arith, more, has.large) }))
      (cases_lt other size))

-- a room was written through its loan
pub record IsWritten (old new : Rooms) (name : Name) (was room : Room) : Type 0 where
  pub found : get_by_text old name ≡ Some was
  pub put : IsPut old new name room

pub is_written : (old new : Rooms) (text name : Name) (was room : Room) → text ≡ name → get_by_text old text ≡ Some was
    → WritesThrough string_cmp (λ k. slice_cmp nat_cmp text (string_bytes k)) old room new → IsWritten old new name was room
is_written old new text name was room is found writes = subst (λ (n : Name). IsWritten old new n was room) is record {
  found = found;
  put = btree_map_updates_text text old new (Some room) (writes.3 (ap is_some found));
}

module _ (old new : Rooms) (name : Name) (was room : Room) (written : IsWritten old new name was room) where
  size_was : room_sizes old name ≡ Some (vec_capacity was.bytes)
  size_was = ap (option_map (λ r. vec_capacity r.bytes)) written.found

  -- with the file that was there, no file has changed
  pub contents_of-written : file_in (Some room) ≡ file_in (Some was) → contents_of new ≡ contents_of old
  contents_of-written file = contents_of-kept old new name room written.put (file ∙ ap file_in (sym written.found))

  pub room_sizes-written : vec_capacity room.bytes ≡ vec_capacity was.bytes → room_sizes new ≡ room_sizes old
  room_sizes-written same = room_sizes-kept old new name room written.put (size_was ∙ ap Some (sym same))

  pub rooms_stay-written : vec_capacity was.bytes ≤ vec_capacity room.bytes → RoomsStay (room_sizes old) (room_sizes new)
  rooms_stay-written grown = rooms_stay-grown old new name room written.put (vec_capacity was.bytes) size_was grown

-- what is inserted at a text is put at the name with its bytes
pub put_at : (old new : Rooms) (key : String Global) (name : Name) (room : Room) → string_bytes key ≡ name → Updates string_cmp old new key (Some room)
    → IsPut old new name room
put_at old new key name room is updates =
    subst (λ (n : Name). IsPut old new n room) is (btree_map_updates_text (string_bytes key) old new (Some room) updates)

-- a room was put where there was none
pub record IsNew (old new : Rooms) (name : Name) (room : Room) : Type 0 where
  pub absent : get_by_text old name ≡ None
  pub put : IsPut old new name room

module _ (old new : Rooms) (name : Name) (room : Room) (is : IsNew old new name room) where
  -- with no file in it, no file has changed
  pub contents_of-new : file_in (Some room) ≡ None → contents_of new ≡ contents_of old
  contents_of-new none = contents_of-kept old new name room is.put (none ∙ ap file_in (sym is.absent))

  pub rooms_stay-new : RoomsStay (room_sizes old) (room_sizes new)
  rooms_stay-new = rooms_stay old new name room is.put
      (λ size has. absurd (none-some has.room (sym (ap (option_map (λ r. vec_capacity r.bytes)) is.absent) ∙ has.is)))
