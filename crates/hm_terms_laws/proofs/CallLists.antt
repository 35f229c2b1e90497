-- The calls of a lens as a list: it has each of them, and nothing else.
use Rattle.std.proofs.Common.{◌≡◌, ◌⊎◌, ◌||◌, Bool, true, false, cond, List, [], ◌∷◌, ◌++◌, map, Some, refl, sym, ap, subst, ◌∙◌, inl, inr}
use mathlib.Core.Bool.{true≢false}
use Rattle.std.specs.List.{list_any}
use Rattle.std.specs.Ordering.{eq_by_cmp}
use Rattle.std.proofs.lemmas.Option.{same_Some, none-some}
use Rattle.std.proofs.lemmas.Cmp.{tied_itself}
use Rattle.hm_tree.specs.Names.{Name, name_cmp}
use Rattle.hm_tree.proofs.Sorted.{name_total}
use Rattle.hm_schema.proofs.NamesOf.{tie_one}
use Rattle.hm_terms.specs.Lenses.{Lens, Lenses, identity, sequence, constant, hoist, plunge, fork, each, among, items, copy, merge, on_concrete, on_view, text, call, none, also, lens_at}
use Rattle.hm_terms.specs.Calls.{Calls, calls_itself, calls_first, calls_second, calls_inside, calls_outside, calls_each, calls_among, calls_items, calls_where_it_has, calls_where_it_lacks, calls_where_it_showed, calls_where_it_did_not}

-- ---- an element of a list

pub data IsIn {X : Type 0} (x : X) : List X → Type 0 where
  at_head : {xs : List X} → IsIn x (x ∷ xs)
  in_rest : {y : X} {xs : List X} → IsIn x xs → IsIn x (y ∷ xs)

module _ {X : Type 0} where
  pub in_left : {x : X} {xs : List X} (ys : List X) → IsIn x xs → IsIn x (xs ++ ys)
  in_left ys at_head = at_head
  in_left ys (in_rest h) = in_rest (in_left ys h)

  pub in_right : {x : X} (xs : List X) {ys : List X} → IsIn x ys → IsIn x (xs ++ ys)
  in_right [] h = h
  in_right (y ∷ xs) h = in_rest (in_right xs h)

  pub in_either : {x : X} (xs : List X) {ys : List X} → IsIn x (xs ++ ys) → IsIn x xs ⊎ IsIn x ys
  in_either [] h = inr h
  in_either (y ∷ xs) at_head = inl at_head
  in_either (y ∷ xs) (in_rest h) = elim (in_either xs h) [ inl g ↦ inl (in_rest g) | inr g ↦ inr g ]

  pub in_map : {Y : Type 0} (f : X → Y) {x : X} {xs : List X} → IsIn x xs → IsIn (f x) (map f xs)
  in_map f at_head = at_head
  in_map f (in_rest h) = in_rest (in_map f h)

  pub head_or_rest : {x y : X} {xs : List X} → IsIn x (y ∷ xs) → (x ≡ y) ⊎ IsIn x xs
  head_or_rest at_head = inl refl
  head_or_rest (in_rest h) = inr h

module _ {X Y : Type 0} (f : X → Y) where
  pub from_map : {y : Y} (xs : List X) → IsIn y (map f xs) → (x : X) × (y ≡ f x) × IsIn x xs
  from_map [] h = elim h [ ]
  from_map (x ∷ xs) h = elim (head_or_rest h) [
    | inl e ↦ (x, e, at_head)
    | inr i ↦ let r = from_map xs i in (r.0, r.1, in_rest r.2)
  ]

-- ---- the calls of a lens

-- a call: whether it stands inside a sequence, whether inside a lens on children or items, and of what
pub record Call : Type 0 where
  pub sequence : Bool
  pub children : Bool
  pub name : Name

abbrev pub in_sequence : Call → Call
in_sequence c = record { sequence = true; children = c.children; name = c.name }

abbrev pub in_children : Call → Call
in_children c = record { sequence = c.sequence; children = true; name = c.name }

abbrev pub call_of : Name → Call
call_of n = record { sequence = false; children = false; name = n }

abbrev pub is_among : Name → List Name → Bool
is_among k seen = list_any (eq_by_cmp name_cmp k) seen

abbrev mutual
  pub calls_of : Lens → List Call
  calls_of identity = []
  calls_of (sequence l k) = map in_sequence (calls_of l ++ calls_of k)
  calls_of (constant t d) = []
  calls_of (hoist n) = []
  calls_of (plunge n) = []
  calls_of (fork P Q l k) = calls_of l ++ calls_of k
  calls_of (each l) = map in_children (calls_of l)
  calls_of (among ls) = map in_children (calls_of_all [] ls)
  calls_of (items l) = map in_children (calls_of l)
  calls_of (copy m n) = []
  calls_of (merge m n) = []
  calls_of (text x) = []
  calls_of (on_concrete m l k) = calls_of l ++ calls_of k
  calls_of (on_view m n l k) = calls_of l ++ calls_of k
  calls_of (call n) = call_of n ∷ []

  -- of named lenses, each name once
  pub calls_of_all : List Name → Lenses → List Call
  calls_of_all seen none = []
  calls_of_all seen (also k l rest) = cond (is_among k seen) [] (calls_of l) ++ calls_of_all (k ∷ seen) rest

abbrev IsCall : Lens → Call → Type 0
IsCall l c = Calls l c.sequence c.children c.name

pub tied : (k : Name) → eq_by_cmp name_cmp k k ≡ true
tied k = rw (tied_itself name_total k) refl

or_false : (a b : Bool) → (a || b) ≡ false → (a ≡ false) × (b ≡ false)
or_false true b e = absurd (true≢false e)
or_false false b e = (refl, e)

-- ---- the list has each call

module _ (c : Call) where
  all_listed : (ls : Lenses) (seen : List Name) (m : Name) (l : Lens) → lens_at m ls ≡ Some l → is_among m seen ≡ false
      → IsIn c (calls_of l) → IsIn c (calls_of_all seen ls)
  all_listed none seen m l e f h = absurd (none-some l e)
  all_listed (also k j rest) seen m l e f h = go (eq_by_cmp name_cmp m k) refl e (all_listed rest (k ∷ seen) m l)
    where
      go : (b : Bool) → eq_by_cmp name_cmp m k ≡ b → cond b (Some j) (lens_at m rest) ≡ Some l
          → (lens_at m rest ≡ Some l → is_among m (k ∷ seen) ≡ false → IsIn c (calls_of l) → IsIn c (calls_of_all (k ∷ seen) rest))
          → IsIn c (calls_of_all seen (also k j rest))
      go true t e later = in_left (calls_of_all (k ∷ seen) rest)
          (subst (λ b. IsIn c (cond b [] (calls_of j))) (sym f ∙ ap (λ n. is_among n seen) (tie_one m k t))
          (subst (λ l. IsIn c (calls_of l)) (sym (same_Some j l e)) h))
      go false t e later = in_right (cond (is_among k seen) [] (calls_of j)) (later e (ap (λ b. b || is_among m seen) t ∙ f) h)

pub listed : {l : Lens} {s c : Bool} {n : Name} → Calls l s c n → IsIn (record { sequence = s; children = c; name = n }) (calls_of l)
listed calls_itself = at_head
listed (calls_first {k = k} h) = in_map in_sequence (in_left (calls_of k) (listed h))
listed (calls_second {l = l} h) = in_map in_sequence (in_right (calls_of l) (listed h))
listed (calls_inside {k = k} h) = in_left (calls_of k) (listed h)
listed (calls_outside {l = l} h) = in_right (calls_of l) (listed h)
listed (calls_each h) = in_map in_children (listed h)
listed (calls_among {ls = ls} m {l = l} {s = s} {c = c} {n = n} at h) =
    in_map in_children (all_listed (record { sequence = s; children = c; name = n }) ls [] m l at refl (listed h))
listed (calls_items h) = in_map in_children (listed h)
listed (calls_where_it_has {k = k} h) = in_left (calls_of k) (listed h)
listed (calls_where_it_lacks {l = l} h) = in_right (calls_of l) (listed h)
listed (calls_where_it_showed {k = k} h) = in_left (calls_of k) (listed h)
listed (calls_where_it_did_not {l = l} h) = in_right (calls_of l) (listed h)

-- ---- and nothing else

-- a call that stands in one of some named lenses, which is the first of its name, and whose name isn't among some names
record IsCallAmong (seen : List Name) (ls : Lenses) (c : Call) : Type 0 where
  name : Name
  lens : Lens
  at : lens_at name ls ≡ Some lens
  unseen : is_among name seen ≡ false
  calls : IsCall lens c

module _ (c : Call) where
  at_first : (k : Name) (l : Lens) (rest : Lenses) (seen : List Name) → (IsIn c (calls_of l) → IsCall l c) → (b : Bool) → is_among k seen ≡ b
      → IsIn c (cond b [] (calls_of l)) → IsCallAmong seen (also k l rest) c
  at_first k l rest seen f true e h = elim h [ ]
  at_first k l rest seen f false e h =
      record { name = k; lens = l; at = ap (λ b. cond b (Some l) (lens_at k rest)) (tied k); unseen = e; calls = f h }

  at_rest : (k : Name) (l : Lens) (rest : Lenses) (seen : List Name) → IsCallAmong (k ∷ seen) rest c → IsCallAmong seen (also k l rest) c
  at_rest k l rest seen a =
      let e = or_false (eq_by_cmp name_cmp a.name k) (is_among a.name seen) a.unseen in
      record { name = a.name; lens = a.lens; at = ap (λ b. cond b (Some l) (lens_at a.name rest)) e.0 ∙ a.at; unseen = e.1; calls = a.calls }

-- a call that is changed by where its lens stands
moved : (l : Lens) (f : Call → Call) (c : Call) (xs : List Call) → IsIn c (map f xs) → ((x : Call) → IsIn x xs → IsCall l (f x)) → IsCall l c
moved l f c xs h g = let r = from_map f xs h in subst (λ c. IsCall l c) (sym r.1) (g r.0 r.2)

only : (n : Name) (c : Call) → IsIn c (call_of n ∷ []) → IsCall (call n) c
only n c h = elim (head_or_rest h) [ inl e ↦ subst (λ c. IsCall (call n) c) (sym e) calls_itself | inr i ↦ elim i [ ] ]

mutual
  pub is_call : (l : Lens) (c : Call) → IsIn c (calls_of l) → IsCall l c
  is_call identity c h = elim h [ ]
  is_call (sequence l k) c h = moved (sequence l k) in_sequence c (calls_of l ++ calls_of k) h (λ x i. elim (in_either (calls_of l) i) [
    | inl a ↦ calls_first (is_call l x a)
    | inr b ↦ calls_second (is_call k x b)
  ])
  is_call (constant t d) c h = elim h [ ]
  is_call (hoist n) c h = elim h [ ]
  is_call (plunge n) c h = elim h [ ]
  is_call (fork P Q l k) c h = elim (in_either (calls_of l) h) [ inl a ↦ calls_inside (is_call l c a) | inr b ↦ calls_outside (is_call k c b) ]
  is_call (each l) c h = moved (each l) in_children c (calls_of l) h (λ x i. calls_each (is_call l x i))
  is_call (among ls) c h = moved (among ls) in_children c (calls_of_all [] ls) h (λ x i.
      let a = all_calls ls [] x i in calls_among a.name a.at a.calls)
  is_call (items l) c h = moved (items l) in_children c (calls_of l) h (λ x i. calls_items (is_call l x i))
  is_call (copy m n) c h = elim h [ ]
  is_call (merge m n) c h = elim h [ ]
  is_call (text x) c h = elim h [ ]
  is_call (on_concrete m l k) c h =
      elim (in_either (calls_of l) h) [ inl a ↦ calls_where_it_has (is_call l c a) | inr b ↦ calls_where_it_lacks (is_call k c b) ]
  is_call (on_view m n l k) c h =
      elim (in_either (calls_of l) h) [ inl a ↦ calls_where_it_showed (is_call l c a) | inr b ↦ calls_where_it_did_not (is_call k c b) ]
  is_call (call n) c h = only n c h

  all_calls : (ls : Lenses) (seen : List Name) (c : Call) → IsIn c (calls_of_all seen ls) → IsCallAmong seen ls c
  all_calls none seen c h = elim h [ ]
  all_calls (also k l rest) seen c h = elim (in_either (cond (is_among k seen) [] (calls_of l)) h) [
    | inl a ↦ at_first c k l rest seen (is_call l c) (is_among k seen) refl a
    | inr b ↦ at_rest c k l rest seen (all_calls rest (k ∷ seen) c b)
  ]
