-- The calls of lenses, by the places of the definitions that they are of.
use Rattle.std.specs.Prelude.{◌≡◌, ◌↔◌, ℕ, ◌<◌, Bool, false, ◌||◌, List, length, slice_get, Some}
use Rattle.std.specs.List.{Contains}
use Rattle.std.specs.FinMap.{find}
use Rattle.hm_tree.specs.Names.{Name, name_cmp}
use Rattle.hm_terms.specs.declared.term.Definition.{Definition}
use Rattle.hm_terms.specs.Lenses.{Lens}
use Rattle.hm_terms.specs.Programs.{lens_of}
use Rattle.hm_terms.specs.Calls.{Calls}
use Rattle.hm_terms_cycles.specs.declared.call.Call.{Call}
use Rattle.hm_terms_cycles.specs.Calls.{Callees, calls_from}

abbrev pub AreBelow : ℕ → List (Name × ℕ) → Type 0
AreBelow count places = (n : Name) (i : ℕ) → find name_cmp n places ≡ Some i → i < count

-- a lens calls a definition, where the lens itself stands inside a sequence or not, and inside a lens on children or items
-- or not
pub record IsCallIn (places : List (Name × ℕ)) (sequence children : Bool) (l : Lens) (x : Call) : Type 0 where
  pub name : Name
  pub there : find name_cmp name places ≡ Some x.place
  pub in_sequence : Bool
  pub in_children : Bool
  pub calls : Calls l in_sequence in_children name
  pub is_sequence : x.sequence ≡ sequence || in_sequence
  pub is_children : x.children ≡ children || in_children

-- the calls of the body of each definition
pub record AreCallees (ds : List Definition) (places : List (Name × ℕ)) (g : Callees) : Type 0 where
  pub size : length g ≡ length ds
  pub each : (i : ℕ) (d : Definition) → slice_get ds i ≡ Some d → (x : Call)
      → Contains (calls_from g i) x ↔ IsCallIn places false false (lens_of d.body) x
