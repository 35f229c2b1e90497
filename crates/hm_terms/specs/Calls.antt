-- Which definitions a lens calls, where, and which calls could go on without end.
use Rattle.std.specs.Prelude.{◌≡◌, ◌⊎◌, Bool, true, false, ◌||◌, Some}
use Rattle.hm_tree.specs.Names.{Name}
use Rattle.hm_schema.specs.Values.{Names}
use Rattle.hm_terms.specs.Lenses.{Lens, Lenses, sequence, fork, each, among, items, on_concrete, on_view, call, lens_at, Definitions, body_of}

-- a lens calls a definition: whether the call stands inside a sequence, and whether it stands inside a lens on the children
-- of a tree or on the items of a list
pub data Calls : Lens → Bool → Bool → Name → Type 0 where
  calls_itself : {n : Name} → Calls (call n) false false n
  calls_first : {l k : Lens} {s c : Bool} {n : Name} → Calls l s c n → Calls (sequence l k) true c n
  calls_second : {l k : Lens} {s c : Bool} {n : Name} → Calls k s c n → Calls (sequence l k) true c n
  calls_inside : {P Q : Names} {l k : Lens} {s c : Bool} {n : Name} → Calls l s c n → Calls (fork P Q l k) s c n
  calls_outside : {P Q : Names} {l k : Lens} {s c : Bool} {n : Name} → Calls k s c n → Calls (fork P Q l k) s c n
  calls_each : {l : Lens} {s c : Bool} {n : Name} → Calls l s c n → Calls (each l) s true n
  calls_among : {ls : Lenses} (m : Name) {l : Lens} {s c : Bool} {n : Name} → lens_at m ls ≡ Some l → Calls l s c n
      → Calls (among ls) s true n
  calls_items : {l : Lens} {s c : Bool} {n : Name} → Calls l s c n → Calls (items l) s true n
  calls_where_it_has : {m : Name} {l k : Lens} {s c : Bool} {n : Name} → Calls l s c n → Calls (on_concrete m l k) s c n
  calls_where_it_lacks : {m : Name} {l k : Lens} {s c : Bool} {n : Name} → Calls k s c n → Calls (on_concrete m l k) s c n
  calls_where_it_showed : {m o : Name} {l k : Lens} {s c : Bool} {n : Name} → Calls l s c n → Calls (on_view m o l k) s c n
  calls_where_it_did_not : {m o : Name} {l k : Lens} {s c : Bool} {n : Name} → Calls k s c n → Calls (on_view m o l k) s c n

-- a way of calls from one definition to another, which may pass a definition more than once: whether some call on it stands
-- inside a sequence, and whether some call stands inside a lens on children or items
pub data Way (ds : Definitions) : Name → Name → Bool → Bool → Type 0 where
  one_call : {n m : Name} {l : Lens} {s c : Bool} → body_of ds n ≡ Some l → Calls l s c m → Way ds n m s c
  more_calls : {n m o : Name} {l : Lens} {s c t d : Bool} → body_of ds n ≡ Some l → Calls l s c m → Way ds m o t d
      → Way ds n o (s || t) (c || d)

-- a definition is in a bad cycle where it reaches itself with a call inside a sequence on the way, or with none inside a
-- lens on children or items: then it could go on without coming to a smaller tree
pub record IsInBadCycle (ds : Definitions) (n : Name) : Type 0 where
  pub sequence : Bool
  pub children : Bool
  pub way : Way ds n n sequence children
  pub bad : (sequence ≡ true) ⊎ (children ≡ false)
