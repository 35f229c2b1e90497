-- Lenses on the items of lists.
use Rattle.std.proofs.Common.{◌≡◌, ◌<◌, ◌+◌, ℕ, Bool, true, false, cond, length}
use Rattle.hm_schema.specs.declared.node.NodeId.{NodeId}
use Rattle.hm_terms.specs.Lenses.{Lens, items}
use Rattle.hm_types_forms.specs.Forms.{Form, form}
use Rattle.hm_types_forms.specs.Sound.{IsSound}
use Rattle.hm_types_rules.specs.Typing.{Types, Goes, goes_list, goes_items, list_form, items_form}
use Rattle.hm_types_rules.specs.Faults.{At, at, Faults, fault_items, fault_list_item, fault_some_item}
use Rattle.hm_types_rules.proofs.ListForms.{list_first_sound, items_first_sound}
use Rattle.hm_types_table.specs.Tables.{Nodes}
use Rattle.hm_types_views.specs.Lists.{IsListOf, IsNoList}
use Rattle.hm_types_terms.specs.declared.course.Course.{Course}
use Rattle.hm_types_terms.specs.declared.memo.Memo.{Memo}
use Rattle.hm_types_terms.specs.Numbers.{parts_of}
use Rattle.hm_types_terms.specs.Courses.{scope_of, lenses_in, IsView, IsReady, IsAt}
use Rattle.hm_types_terms.proofs.Standing.{stand_inside}

first_sound : (u x : Form) (b some : Bool) → IsListOf some u x b → IsSound u → IsSound x
first_sound u x b true s h = items_first_sound u x b s h
first_sound u x b false s h = list_first_sound u x b s h

items_fault : (types : Types) (l : Lens) (n : ℕ) (u x : Form) (b some : Bool) (a : At) → IsListOf some u x b → Faults types l (n + 1) x a
    → Faults types (items l) n u a
items_fault types l n u x b true a s f = fault_some_item s f
items_fault types l n u x b false a s f = fault_list_item s f

items_goes : (types : Types) (l : Lens) (u x y v : Form) (b some : Bool) → IsListOf some u x b → Goes types l x y
    → v ≡ cond some (items_form b y) (list_form b y) → Goes types (items l) u v
items_goes types l u x y v b true s g e = goes_items s g e
items_goes types l u x y v b false s g e = goes_list s g e

module _ (c : Course) (n : ℕ) (l : Lens) (old : Nodes) (known : Memo) (i : NodeId) (r : IsReady c old known (parts_of (items l)) n i) where
  pub items_refused : IsNoList (form old i) → IsAt (scope_of c) old (items l) n i (at n 9)
  items_refused f types t = fault_items f.list f.items

  module _ (first : NodeId) (b some : Bool) (s : IsListOf some (form old i) (form old first) b) where
    pub items_ready : first.place < length old → IsReady c old known (parts_of l) (n + 1) first
    items_ready lt = record {
      start = record {
        formed = r.start.formed;
        in_range = lt;
        sound = first_sound (form old i) (form old first) b some s r.start.sound;
        declared = r.start.declared;
      };
      memo = r.memo;
      stand = stand_inside (lenses_in c) n (items l) (parts_of l) r.stand;
      sized = r.sized;
      rows = r.rows;
    }

    pub items_at : (a : At) → IsAt (scope_of c) old l (n + 1) first a → IsAt (scope_of c) old (items l) n i a
    items_at a f types t = items_fault types l n (form old i) (form old first) b some a s (f types t)

    pub items_view : (mid new : Nodes) (y j : NodeId) → IsView (scope_of c) old mid l first y → j.place < length new
        → form new j ≡ cond some (items_form b (form mid y)) (list_form b (form mid y)) → IsView (scope_of c) old new (items l) i j
    items_view mid new y j v lt e = record {
      in_range = lt;
      goes = λ types t. items_goes types l (form old i) (form old first) (form mid y) (form new j) b some s (v.goes types t) e;
    }
