-- The rooms of a store in memory: what the names have, and how many bytes they can take without memory.
use Rattle.std.specs.Prelude.{◌≡◌, ℕ, ◌≤◌, cond, List, [], ◌∷◌, Option, Some, None, string_bytes, vec_capacity}
use Rattle.std.specs.Option.{option_map}
use Rattle.std.specs.BTreeMap.{BTreeMap, get_by_text}
use Rattle.std.specs.declared.alloc.Global.{Global}
use Rattle.std.specs.declared.string.String.{String}
use Rattle.hm_tree.specs.Names.{Name}
use Rattle.hm_outside.specs.declared.room.Room.{Room}
use Rattle.hm_outside.specs.Contents.{Contents, nothing_held, replaced, removed}

abbrev pub Rooms : Type 0
Rooms = BTreeMap (String Global) Room

-- the bytes of the file in a room; none where there is no room, or it was only given
abbrev pub file_in : Option Room → Option (List ℕ)
file_in None = None
file_in (Some room) = cond room.stands (Some room.bytes.items) None

abbrev pub contents_among : List (String Global × Room) → Contents
contents_among [] = nothing_held
contents_among (e ∷ es) =
    cond e.1.stands (replaced (contents_among es) (string_bytes e.0) e.1.bytes.items) (removed (contents_among es) (string_bytes e.0))

-- the files in rooms, each under its name
unfoldable pub contents_of : Rooms → Contents
contents_of rooms = contents_among rooms.entries

-- how many bytes the room of a name can take
abbrev pub room_sizes : Rooms → Name → Option ℕ
room_sizes rooms name = option_map (λ room. vec_capacity room.bytes) (get_by_text rooms name)

-- a name has a room of at least so many bytes
pub record HasRoom (sizes : Name → Option ℕ) (name : Name) (size : ℕ) : Type 0 where
  pub room : ℕ
  pub is : sizes name ≡ Some room
  pub large : size ≤ room

-- no room is taken away or made less
abbrev pub RoomsStay : (Name → Option ℕ) → (Name → Option ℕ) → Type 0
RoomsStay old new = (name : Name) (size : ℕ) → HasRoom old name size → HasRoom new name size
