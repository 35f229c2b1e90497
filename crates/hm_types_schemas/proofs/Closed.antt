-- What the forms that are visited lead to, tidied, is the same as visited forms.
use Rattle.std.proofs.Common.{◌≡◌, ◌⊎◌, zero, suc, List, [], ◌∷◌, ◌++◌, Some, All, Contains, inl, inr, refl, subst, arith}
use Rattle.std.proofs.lemmas.List.Elements.{All-nil, All-cons}
use Rattle.hm_graph.proofs.Pairs.{all_left, all_right}
use Rattle.hm_schema.specs.Values.{NodeOver}
use Rattle.hm_schema.specs.Tidied.{tidied}
use Rattle.hm_types_forms.specs.Forms.{Form, node_of}
use Rattle.hm_types_forms.specs.SameForms.{IsSame}
use Rattle.hm_types_rules.specs.Numbering.{Visits, done, again, first, forms_below}
use Rattle.hm_types_forms.proofs.SameForms.{same_itself}

-- a form is the same as one of some forms
pub record IsAmong (all : List Form) (u : Form) : Type 0 where
  pub visited : Form
  pub there : Contains all visited
  pub same : IsSame u visited

-- and so is all that it leads to, tidied
pub record LeadsAmong (all : List Form) (u : Form) : Type 0 where
  pub node : NodeOver Form
  pub is : node_of u ≡ Some node
  pub below : All (IsAmong all) (forms_below (tidied node))

in_front : {X : Type 0} (xs ys : List X) (x : X) → Contains xs x → Contains (xs ++ ys) x
in_front [] ys x (i, lt, e) = absurd (omega arith)
in_front (y ∷ xs) ys x (zero, lt, e) = (0, omega arith, e)
in_front (y ∷ xs) ys x (suc i, lt, e) = let h = in_front xs ys x (i, omega arith, e) in (suc h.0, (let lt = h.1 in omega arith), h.2)

in_last : {X : Type 0} (xs : List X) (x : X) → Contains (xs ++ x ∷ []) x
in_last [] x = (0, omega arith, refl)
in_last (y ∷ xs) x = let h = in_last xs x in (suc h.0, (let lt = h.1 in omega arith), h.2)

from_last : {X : Type 0} (xs : List X) (x y : X) → Contains (xs ++ x ∷ []) y → Contains xs y ⊎ (x ≡ y)
from_last [] x y (zero, lt, e) = inr e
from_last [] x y (suc i, lt, e) = absurd (omega arith)
from_last (z ∷ xs) x y (zero, lt, e) = inl (0, omega arith, e)
from_last (z ∷ xs) x y (suc i, lt, e) = elim (from_last xs x y (i, omega arith, e)) [
  | inl h ↦ inl (suc h.0, (let lt = h.1 in omega arith), h.2)
  | inr h ↦ inr h
]

-- what was visited stays visited
stays : {seen todo all : List Form} → Visits seen todo all → (v : Form) → Contains seen v → Contains all v
stays done v c = c
stays (again d s h) v c = stays h v c
stays (first {u = u} {seen = seen} none is h) v c = stays h v (in_front seen (u ∷ []) v c)

-- what is to be visited is the same as something visited in the end
pub waits : {seen todo all : List Form} → Visits seen todo all → All (IsAmong all) todo
waits {all = all} done = All-nil (IsAmong all)
waits {all = all} (again {u = u} {v = v} {todo = todo} c s h) =
    All-cons (IsAmong all) u todo (record { visited = v; there = stays h v c; same = s }) (waits h)
waits {all = all} (first {u = u} {n = n} {seen = seen} {todo = todo} none is h) =
    All-cons (IsAmong all) u todo (record { visited = u; there = stays h u (in_last seen u); same = same_itself u })
    (all_right (IsAmong all) (forms_below (tidied n)) todo (waits h))

leads : {seen todo all : List Form} → Visits seen todo all → (v : Form) → Contains all v → Contains seen v ⊎ LeadsAmong all v
leads done v c = inl c
leads (again d s h) v c = leads h v c
leads {all = all} (first {u = u} {n = n} {seen = seen} {todo = todo} none is h) v c = elim (leads h v c) [
  | inr l ↦ inr l
  | inl d ↦ elim (from_last seen u v d) [
    | inl e ↦ inl e
    | inr e ↦ inr (subst (LeadsAmong all) e (record { node = n; is = is; below = all_left (IsAmong all) (forms_below (tidied n)) todo (waits h) }))
  ]
]

pub closed : (u : Form) (all : List Form) → Visits [] (u ∷ []) all → (v : Form) → Contains all v → LeadsAmong all v
closed u all h v c = elim (leads h v c) [
  | inl d ↦ nowhere d
  | inr l ↦ l
]
  where
    nowhere : Contains [] v → LeadsAmong all v
    nowhere (i, lt, e) = absurd (omega arith)
