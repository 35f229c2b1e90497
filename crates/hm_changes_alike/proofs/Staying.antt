-- What a side shows below a path, and what comes and goes there, by what both of its views have at the path.
use Rattle.std.proofs.Common.{◌≡◌, ◌≢◌, ◌↔◌, true, T, is_some, [], ◌∷◌, ◌++◌, Option, Some, None, refl, sym, ap, ◌∙◌}
use Rattle.std.specs.FinMap.{find, is_sorted}
use Rattle.std.specs.FinMap.Entries.{is_some-find}
use Rattle.std.specs.List.{Contains}
use Rattle.std.proofs.lemmas.Bool.{true≢false}
use Rattle.std.proofs.lemmas.Cmp.{eq_by_cmp_equiv}
use Rattle.std.proofs.lemmas.Map.Views.{list_any-from_Contains}
use Rattle.hm_tree.specs.declared.archive.State.TheVariants.{Missing, Present}
use Rattle.hm_tree.specs.Names.{Name, name_cmp}
use Rattle.hm_tree.specs.Nodes.{Tree, edges, below}
use Rattle.hm_tree.specs.NodeLaws.{edges_sorted}
use Rattle.hm_tree.specs.States.{Path, state, at_path}
use Rattle.hm_tree.proofs.NameSets.{at_any}
use Rattle.hm_tree.proofs.Paths.{state_at, state_here}
use Rattle.hm_tree.proofs.Sorted.{name_total}
use Rattle.hm_tree.proofs.States.{state_root, state_down}
use Rattle.hm_changes.specs.declared.change.Turn.{Turn}
use Rattle.hm_changes.specs.declared.change.Turn.TheVariants.{Added, Deleted}
use Rattle.hm_changes.specs.Changes.{IsTurned}
use Rattle.hm_changes.specs.Taken.{Edges}
use Rattle.hm_changes.proofs.Lists.{contains_nothing}
use Rattle.hm_changes_alike.specs.declared.views.Views.{Views}
use Rattle.hm_changes_alike.specs.Alikes.{Shows, Turns}
use Rattle.hm_changes_alike.specs.Below.{renewal}
use Rattle.hm_changes_alike.specs.Shown.{names_of}
use Rattle.hm_changes_alike.specs.Staying.{Staying, both_at, edges_shown, is_turned, turns_at}
use Rattle.hm_changes_alike.proofs.Prefixes.{above_last}

-- ---- nothing, or a tree

missing_or_present : Missing ≡ Present → ⊥
missing_or_present e = cc

is_present : (t : Option Tree) → state t [] ≡ Present → is_some t ≡ true
is_present None h = absurd (missing_or_present h)
is_present (Some t) h = refl

present_is : (t : Option Tree) → is_some t ≡ true → state t [] ≡ Present
present_is None h = absurd (true≢false (sym h))
present_is (Some t) h = state_root t

-- above what is there something is there
root_too : (t : Option Tree) (r : Path) → state t r ≡ Present → state t [] ≡ Present
root_too None r h = absurd (missing_or_present h)
root_too (Some t) r h = state_root t

above_too : (t : Option Tree) (q r : Path) → state t (q ++ r) ≡ Present → state t q ≡ Present
above_too t q r h = state_here t q ∙ root_too (at_path t q) r (sym (state_at t q r) ∙ h)

-- ---- the names of edges

found : (k : Name) (es : Edges) → Contains (names_of es) k → is_some (find name_cmp k es) ≡ true
found k es c = is_some-find name_cmp k es ∙ list_any-from_Contains (eq_by_cmp_equiv name_total) k (names_of es) c

has_found : (k : Name) (es : Edges) → is_some (find name_cmp k es) ≡ true → Contains (names_of es) k
has_found k es h = at_any k (names_of es) (sym (is_some-find name_cmp k es) ∙ h)

-- ---- below a path, by what stands there in two trees

shown_there : (old new : Option Tree) (k : Name) → state old (k ∷ []) ≡ Present → state new [] ≡ Present → Contains (names_of (edges_shown (both_at old new))) k
shown_there None new k h g = absurd (missing_or_present h)
shown_there (Some t) None k h g = absurd (missing_or_present g)
shown_there (Some t) (Some u) k h g = has_found k (edges t) (is_present (below k t) (sym (state_down t k []) ∙ h))

there_shown : (old new : Option Tree) (k : Name) → Contains (names_of (edges_shown (both_at old new))) k → (state old (k ∷ []) ≡ Present) × (state new [] ≡ Present)
there_shown None new k c = absurd (contains_nothing k c)
there_shown (Some t) None k c = absurd (contains_nothing k c)
there_shown (Some t) (Some u) k c = (state_down t k [] ∙ present_is (below k t) (found k (edges t) c), state_root u)

comes : (old new : Option Tree) → state old [] ≡ Missing → state new [] ≡ Present → is_turned old new ≡ true
comes None None h g = absurd (missing_or_present g)
comes None (Some t) h g = refl
comes (Some t) new h g = absurd (missing_or_present (sym h ∙ state_root t))

goes : (old new : Option Tree) → state old [] ≡ Present → state new [] ≡ Missing → is_turned old new ≡ true
goes None new h g = absurd (missing_or_present h)
goes (Some t) None h g = refl
goes (Some t) (Some u) h g = absurd (missing_or_present (sym g ∙ state_root u))

turn_of : (old new : Option Tree) → is_turned old new ≡ true → (t : Turn) × IsTurned t (state old) (state new) []
turn_of None None h = absurd (true≢false (sym h))
turn_of None (Some t) h = (Added, (refl, state_root t))
turn_of (Some t) None h = (Deleted, (state_root t, refl))
turn_of (Some t) (Some u) h = absurd (true≢false (sym h))

turned_there : (old new : Option Tree) (k : Name) (t : Turn) → state old [] ≡ Present → state new [] ≡ Present → IsTurned t (state old) (state new) (k ∷ [])
    → turns_at (both_at old new) k ≡ true
turned_there None new k t h g turned = absurd (missing_or_present h)
turned_there (Some a) None k t h g turned = absurd (missing_or_present g)
turned_there (Some a) (Some b) k Added h g turned =
    comes (below k a) (below k b) (sym (state_down a k []) ∙ turned.0) (sym (state_down b k []) ∙ turned.1)
turned_there (Some a) (Some b) k Deleted h g turned =
    goes (below k a) (below k b) (sym (state_down a k []) ∙ turned.0) (sym (state_down b k []) ∙ turned.1)

turned_down : (a b : Tree) (k : Name) (t : Turn) → IsTurned t (state (below k a)) (state (below k b)) [] → IsTurned t (state (Some a)) (state (Some b)) (k ∷ [])
turned_down a b k Added h = (state_down a k [] ∙ h.0, state_down b k [] ∙ h.1)
turned_down a b k Deleted h = (state_down a k [] ∙ h.0, state_down b k [] ∙ h.1)

there_turned : (old new : Option Tree) (k : Name) → turns_at (both_at old new) k ≡ true
    → (state old [] ≡ Present) × (state new [] ≡ Present) × ((t : Turn) × IsTurned t (state old) (state new) (k ∷ []))
there_turned None new k h = absurd (true≢false (sym h))
there_turned (Some a) None k h = absurd (true≢false (sym h))
there_turned (Some a) (Some b) k h =
    let t = turn_of (below k a) (below k b) h in
    (state_root a, state_root b, (t.0, turned_down a b k t.0 t.1))

-- ---- the same from the root on

module _ (v : Views) (p : Path) where
  abbrev before : Option Tree
  before = at_path (Some v.old.now) p

  abbrev after : Option Tree
  after = at_path (Some v.new.now) p

  abbrev there : Staying
  there = both_at before after

  pub shows : (k : Name) → Shows (renewal v) p k ↔ Contains (names_of (edges_shown there)) k
  shows k = (
    (λ h. shown_there before after k (sym (state_at (Some v.old.now) p (k ∷ [])) ∙ h.0) (sym (state_here (Some v.new.now) p) ∙ h.1)),
    (λ c. let h = there_shown before after k c in (state_at (Some v.old.now) p (k ∷ []) ∙ h.0, state_here (Some v.new.now) p ∙ h.1)),
  )

  below_path : (k : Name) (t : Turn) → IsTurned t (state (Some v.old.now)) (state (Some v.new.now)) (p ++ k ∷ []) → IsTurned t (state before) (state after) (k ∷ [])
  below_path k Added h = (sym (state_at (Some v.old.now) p (k ∷ [])) ∙ h.0, sym (state_at (Some v.new.now) p (k ∷ [])) ∙ h.1)
  below_path k Deleted h = (sym (state_at (Some v.old.now) p (k ∷ [])) ∙ h.0, sym (state_at (Some v.new.now) p (k ∷ [])) ∙ h.1)

  from_path : (k : Name) (t : Turn) → IsTurned t (state before) (state after) (k ∷ []) → IsTurned t (state (Some v.old.now)) (state (Some v.new.now)) (p ++ k ∷ [])
  from_path k Added h = (state_at (Some v.old.now) p (k ∷ []) ∙ h.0, state_at (Some v.new.now) p (k ∷ []) ∙ h.1)
  from_path k Deleted h = (state_at (Some v.old.now) p (k ∷ []) ∙ h.0, state_at (Some v.new.now) p (k ∷ []) ∙ h.1)

  -- one of two views has what comes or goes, so it has the parent, and the other one too
  both_have : (k : Name) (t : Turn) → IsTurned t (state (Some v.old.now)) (state (Some v.new.now)) (p ++ k ∷ []) → state (Some v.new.now) p ≡ state (Some v.old.now) p
      → (state (Some v.old.now) p ≡ Present) × (state (Some v.new.now) p ≡ Present)
  both_have k Added h same = let new = above_too (Some v.new.now) p (k ∷ []) h.1 in (sym same ∙ new, new)
  both_have k Deleted h same = let old = above_too (Some v.old.now) p (k ∷ []) h.0 in (old, same ∙ old)

  turns_forth : (k : Name) → Turns (renewal v) p k → turns_at there k ≡ true
  turns_forth k turns =
      let turned = turns.1.turned in
      let have = both_have k turns.0 turned (turns.1.topmost p (k ∷ []) refl (λ e. let no : ⊥ = cc in no)) in
      turned_there before after k turns.0 (sym (state_here (Some v.old.now) p) ∙ have.0) (sym (state_here (Some v.new.now) p) ∙ have.1)
      (below_path k turns.0 turned)

  turns_back : (k : Name) → turns_at there k ≡ true → Turns (renewal v) p k
  turns_back k h =
      let t = there_turned before after k h in
      (t.2.0, record { turned = from_path k t.2.0 t.2.1; topmost = above t })
    where
      above : (state before [] ≡ Present) × (state after [] ≡ Present) × ((t : Turn) × IsTurned t (state before) (state after) (k ∷ []))
          → (q r : Path) → p ++ k ∷ [] ≡ q ++ r → r ≢ [] → state (Some v.new.now) q ≡ state (Some v.old.now) q
      above t q r e some =
          let front = above_last p q r k e some in
          let has_old : state (Some v.old.now) (q ++ front.0) ≡ Present = ap (state (Some v.old.now)) (sym front.1) ∙ state_here (Some v.old.now) p ∙ t.0 in
          let has_new : state (Some v.new.now) (q ++ front.0) ≡ Present = ap (state (Some v.new.now)) (sym front.1) ∙ state_here (Some v.new.now) p ∙ t.1 in
          above_too (Some v.new.now) q front.0 has_new ∙ sym (above_too (Some v.old.now) q front.0 has_old)

  pub turns : (k : Name) → Turns (renewal v) p k ↔ (turns_at there k ≡ true)
  turns k = (turns_forth k, turns_back k)

-- edges that are shown rise
pub shown_rise : (s : Staying) → T (is_sorted name_cmp (edges_shown s))
shown_rise None = tt
shown_rise (Some t) = edges_sorted t.0
