-- The sets below paths, one path after the other.
use Rattle.std.proofs.Common.{◌≡◌, ◌↔◌, ℕ, suc, ◌+◌, ◌<◌, List, [], ◌∷◌, ◌++◌, length, get_or, take, drop, Bor, sym, ap, subst, ◌∙◌, add-one, drop-cons, inl, inr}
use Rattle.std.specs.List.{Contains}
use Rattle.std.specs.List.Sorted.{IsStrictlySortedBy}
use Rattle.std.specs.Ordering.{ordering_then}
use Rattle.std.specs.declared.cmp.Ordering.{Ordering}
use Rattle.std.specs.declared.cmp.Ordering.TheVariants.{Less}
use Rattle.std.proofs.lemmas.List.{map-append, take-append-drop, take_more}
use Rattle.std.proofs.lemmas.List.Elements.{Contains-append_left, Contains-append_right, Contains-append_cases, Contains-push, Contains-push_cases}
use Rattle.hm_tree.specs.Names.{Name, name_cmp}
use Rattle.hm_tree.specs.PathOrder.{path_cmp}
use Rattle.hm_tree.specs.Sets.{ascending}
use Rattle.hm_tree.specs.States.{Path}
use Rattle.hm_alike.specs.Alike.{first_name}
use Rattle.hm_changes.specs.declared.change.Change.{Change}
use Rattle.hm_changes.specs.Changes.{AreChanges}
use Rattle.hm_changes.proofs.Lists.{contains_nothing, contains_map, ascending_append}
use Rattle.hm_changes_alike.specs.declared.alikes.AlikeNames.{AlikeNames}
use Rattle.hm_changes_alike.specs.Alikes.{Renewal, Turns, AreAlike, AreAlikes, set_cmp}
use Rattle.hm_changes_alike.specs.Below.{AddsAlikes}
use Rattle.hm_changes_alike.specs.Parents.{parent, parents_in, lent_paths, AreOnceEach}
use Rattle.hm_changes_alike.proofs.Kept.{less_than_next}
use Rattle.hm_changes_alike.proofs.Prefixes.{parent-push}

-- all sets of alike names below some paths, in their order
pub record AreGathered (a b : Renewal) (paths : List Path) (sets : List AlikeNames) : Type 0 where
  pub rise : IsStrictlySortedBy set_cmp sets
  pub each : (s : AlikeNames) → Contains sets s ↔ (Contains paths s.parent × AreAlike a b s)

pub none_gathered : (a b : Renewal) (sets : List AlikeNames) → sets ≡ [] → AreGathered a b [] sets
unfolding IsStrictlySortedBy
none_gathered a b sets none = subst (AreGathered a b []) (sym none) (record {
  rise = tt;
  each = λ s. ((λ c. absurd (contains_nothing s c)), (λ h. absurd (contains_nothing s.parent h.0)));
})

-- ---- one path more

module _ (a b : Renewal) (paths : List Path) (p : Path) (before after : List AlikeNames) (so_far : AreGathered a b paths before)
    (earlier : (q : Path) → Contains paths q → path_cmp q p ≡ Less) (adds : AddsAlikes a b p before after) where
  less : (s t : AlikeNames) → Contains before s → Contains adds.sets t → set_cmp s t ≡ Less
  less s t c d =
      let at : t.parent ≡ p = ((adds.are.each t).0 d).0 in
      let path : path_cmp s.parent t.parent ≡ Less = ap (path_cmp s.parent) at ∙ earlier s.parent ((so_far.each s).0 c).0 in
      ap (λ (o : Ordering). ordering_then o (name_cmp (first_name (ascending s.names)) (first_name (ascending t.names)))) path

  forth : (s : AlikeNames) → Contains (before ++ adds.sets) s → Contains (paths ++ p ∷ []) s.parent × AreAlike a b s
  forth s c = elim (Contains-append_cases before adds.sets s c) [
    | inl c ↦ let h = (so_far.each s).0 c in (Contains-append_left paths (p ∷ []) s.parent h.0, h.1)
    | inr c ↦ let h = (adds.are.each s).0 c in (subst (Contains (paths ++ p ∷ [])) (sym h.0) (Contains-push paths p), h.1)
  ]

  back : (s : AlikeNames) → Contains (paths ++ p ∷ []) s.parent × AreAlike a b s → Contains (before ++ adds.sets) s
  back s h = elim (Contains-push_cases paths p s.parent h.0) [
    | inl c ↦ Contains-append_left before adds.sets s ((so_far.each s).1 (c, h.1))
    | inr e ↦ Contains-append_right before adds.sets s ((adds.are.each s).1 (sym e, h.1))
  ]

  gathered_one : AreGathered a b (paths ++ p ∷ []) after
  gathered_one = subst (AreGathered a b (paths ++ p ∷ [])) (sym adds.added) (record {
    rise = ascending_append set_cmp before adds.sets so_far.rise adds.are.rise less;
    each = λ s. (forth s, back s);
  })

-- ---- along a list of paths that are lent, of which i were passed

front_is : (paths : List (Bor Path)) (i : ℕ) (p : Bor Path) → i < length paths → p ≡ get_or paths i p → drop i paths ≡ p ∷ drop (i + 1) paths
front_is paths i p lt e = rw add-one (drop-cons paths i p lt ∙ (λ j. sym e j ∷ drop (suc i) paths))

parted : (paths : List (Bor Path)) (i : ℕ) (p : Bor Path) → i < length paths → p ≡ get_or paths i p
    → lent_paths paths ≡ lent_paths (take i paths) ++ p.now ∷ lent_paths (drop (i + 1) paths)
parted paths i p lt e =
    ap lent_paths (sym (take-append-drop i paths) ∙ ap (λ l. take i paths ++ l) (front_is paths i p lt e))
    ∙ map-append (λ (q : Bor Path). q.now) (take i paths) (p ∷ drop (i + 1) paths)

passed : (paths : List (Bor Path)) (i : ℕ) (p : Bor Path) → i < length paths → p ≡ get_or paths i p
    → lent_paths (take (i + 1) paths) ≡ lent_paths (take i paths) ++ p.now ∷ []
passed paths i p lt is =
    ap lent_paths (take_more paths i p lt ∙ ap (λ q. take i paths ++ q ∷ []) (sym is)) ∙ map-append (λ (q : Bor Path). q.now) (take i paths) (p ∷ [])

pub gathered_more : (a b : Renewal) (paths : List (Bor Path)) (i : ℕ) (p : Bor Path) (before after : List AlikeNames)
    → IsStrictlySortedBy path_cmp (lent_paths paths) → i < length paths → p ≡ get_or paths i p → AreGathered a b (lent_paths (take i paths)) before
    → AddsAlikes a b p.now before after → AreGathered a b (lent_paths (take (i + 1) paths)) after
gathered_more a b paths i p before after rise lt is so_far adds =
    subst (λ (l : List Path). AreGathered a b l after) (sym (passed paths i p lt is))
    (gathered_one a b (lent_paths (take i paths)) p.now before after so_far
    (λ q c. less_than_next path_cmp (lent_paths (take i paths)) p.now (lent_paths (drop (i + 1) paths)) q
    (subst (IsStrictlySortedBy path_cmp) (parted paths i p lt is) rise) c) adds)

-- ---- the parents of what comes and goes are all that is asked for

module _ (v : Renewal) (changes : List Change) (are : AreChanges v.old v.new changes) where
  among : (p : Path) (k : Name) → Turns v p k → Contains (parents_in changes) p
  among p k turns =
      let c : Change = record { turn = turns.0; path = p ++ k ∷ [] } in
      subst (Contains (parents_in changes)) (parent-push p k)
      (contains_map (λ (c : Change). parent c.path) changes c ((are.each c).1 turns.1))

pub all_gathered : (a b : Renewal) (lefts rights : List Change) (paths : List Path) (sets : List AlikeNames) → AreChanges a.old a.new lefts → AreChanges b.old b.new rights
    → AreOnceEach (parents_in lefts ++ parents_in rights) paths → AreGathered a b paths sets → AreAlikes a b sets
all_gathered a b lefts rights paths sets left right once all = record {
  rise = all.rise;
  each = λ s. ((λ c. ((all.each s).0 c).1), (λ are. (all.each s).1 ((once.each s.parent).1 (told s are), are)));
}
  where
    told : (s : AlikeNames) → AreAlike a b s → Contains (parents_in lefts ++ parents_in rights) s.parent
    told s are = elim are.told.2 [
      | inl turns ↦ Contains-append_left (parents_in lefts) (parents_in rights) s.parent (among a lefts left s.parent are.told.0 turns)
      | inr turns ↦ Contains-append_right (parents_in lefts) (parents_in rights) s.parent (among b rights right s.parent are.told.0 turns)
    ]
