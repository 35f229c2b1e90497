-- Calls of definitions by their places, and ways of such calls.
use Rattle.std.specs.Prelude.{◌≡◌, ◌⊎◌, ℕ, ◌<◌, true, false, ◌||◌, All, List, [], length, Option, Some, None, slice_get, Vec}
use Rattle.std.specs.List.{Contains}
use Rattle.std.specs.declared.alloc.Global.{Global}
use Rattle.hm_terms_cycles.specs.declared.call.Call.{Call}

-- the way on from a way by one more call
abbrev pub behind : Call → Call → Call
behind way next = record { place = next.place; sequence = way.sequence || next.sequence; children = way.children || next.children }

-- the calls of the body of each definition
abbrev pub Callees : Type 0
Callees = List (Vec Call Global)

abbrev pub items_of : Option (Vec Call Global) → List Call
items_of None = []
items_of (Some v) = v.items

abbrev pub calls_from : Callees → ℕ → List Call
calls_from g i = items_of (slice_get g i)

-- each call is of one of the definitions
abbrev pub IsClosed : Callees → Type 0
IsClosed g = All (λ (v : Vec Call Global). All (λ (x : Call). x.place < length g) v.items) g

-- a way leads from a definition
pub data Leads (g : Callees) (i : ℕ) : Call → Type 0 where
  by_one : {x : Call} → Contains (calls_from g i) x → Leads g i x
  by_more : {x y : Call} → Leads g i x → Contains (calls_from g x.place) y → Leads g i (behind x y)

-- a way comes back to a definition with a call inside a sequence on it, or with none inside a lens on children or items
abbrev pub IsBackBadly : ℕ → Call → Type 0
IsBackBadly i x = (x.place ≡ i) × ((x.sequence ≡ true) ⊎ (x.children ≡ false))

pub record ComesBackBadly (g : Callees) (i : ℕ) : Type 0 where
  pub way : Call
  pub leads : Leads g i way
  pub bad : IsBackBadly i way
