-- Sets of calls: each call once, and marks that tell which calls of each definition are there.
use Rattle.std.specs.Prelude.{◌≡◌, ◌↔◌, ◌⊎◌, ℕ, ◌+◌, ◌*◌, Bool, true, false, cond, List, ◌++◌, length, slice_index_or}
use Rattle.std.specs.List.{Contains, sum_by}
use Rattle.hm_terms_cycles.specs.declared.call.Call.{Call}
use Rattle.hm_terms_cycles.specs.declared.call_set.CallSet.{CallSet}
use Rattle.hm_terms_cycles.specs.declared.call_set.Marks.{Marks}
use Rattle.hm_terms_cycles.specs.Calls.{behind}

abbrev pub no_marks : Marks
no_marks = record { neither = false; sequence = false; children = false; both = false }

abbrev pub marked : Marks → Call → Bool
marked m x = cond x.sequence (cond x.children m.both m.sequence) (cond x.children m.children m.neither)

abbrev pub mark : Marks → Call → Marks
mark m x = cond x.sequence
    (cond x.children (record m { both = true }) (record m { sequence = true }))
    (cond x.children (record m { children = true }) (record m { neither = true }))

-- how many calls of a definition aren't marked
abbrev pub unmarked : Marks → ℕ
unmarked m = cond m.neither 0 1 + cond m.sequence 0 1 + cond m.children 0 1 + cond m.both 0 1

abbrev pub is_marked : List Marks → Call → Bool
is_marked ms x = marked (slice_index_or ms x.place no_marks) x

-- the calls of a set are those that are marked
pub record AreMarked (calls : List Call) (ms : List Marks) : Type 0 where
  pub same : (x : Call) → Contains calls x ↔ (is_marked ms x ≡ true)
  -- of each definition there are four calls, marked or not
  pub count : length calls + sum_by unmarked ms ≡ 4 * length ms

abbrev pub IsSet : CallSet → Type 0
IsSet s = AreMarked s.calls.items s.marks.items

-- the calls that meet P are added behind others, those that aren't there
pub record Adds (P : Call → Type 0) (old new : List Call) : Type 0 where
  pub added : List Call
  pub is : new ≡ old ++ added
  pub all : (x : Call) → Contains new x ↔ (Contains old x ⊎ P x)

-- the ways by a way and one of some calls
abbrev pub BehindOne : Call → List Call → Call → Type 0
BehindOne way calls x = (y : Call) × Contains calls y × (x ≡ behind way y)
