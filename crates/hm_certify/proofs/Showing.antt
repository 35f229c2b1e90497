-- What conflicts show, by what stands at their paths.
use Rattle.std.proofs.Common.{◌≡◌, ◌⊎◌, ◌↔◌, ◌<◌, length, Bool, true, false, not, IsTrue, IsSome, is_some, Bor, MatchOption, option_copied, option_and_then, [], ◌∷◌, ◌++◌, Option, Some, None, refl, sym, ap, subst, ◌∙◌, inl, inr, arith}
use mathlib.Core.Bool.{false≢true}
use Rattle.std.proofs.lemmas.List.{append_cancel_left}
use Rattle.std.proofs.lemmas.Option.{none-some, same_Some, slice_get_cases}
use Rattle.hm_tree.specs.declared.archive.State.TheVariants.{Missing, Present, Marked}
use Rattle.hm_tree.specs.Names.{Name}
use Rattle.hm_tree.specs.Nodes.{Tree}
use Rattle.hm_tree.specs.Archives.{Archive}
use Rattle.hm_tree.specs.States.{Path, state, at_path, Has}
use Rattle.hm_tree.proofs.Paths.{state_here}
use Rattle.hm_tree.proofs.States.{state_root, state_unmarked}
use Rattle.hm_safety.specs.Views.{Views, Agree}
use Rattle.hm_schema.specs.declared.node.NodeId.{NodeId}
use Rattle.hm_schema.specs.Values.{Names, NodeValue, SchemaValue, node_at, node_of, reached}
use Rattle.hm_schema.specs.Permitted.{Permits, PermitsAt}
use Rattle.hm_schema.specs.Membership.{IsMember}
use Rattle.hm_outcome.specs.Trios.{Trio, views, given}
use Rattle.hm_outcome.specs.Carried.{IsCarried, AreCarried}
use Rattle.hm_outcome.specs.Contested.{AreRefused}
use Rattle.hm_outcome.proofs.Marks.{agree_of, has_and_lacks}
use Rattle.hm_outcome.proofs.Settled.{chained}
use Rattle.hm_outcome.proofs.Search.{same_or_differ}
use Rattle.hm_report.specs.Reasons.{LosesFirst, ShowsWhy, earlier, lost, refused}
use Rattle.hm_report.specs.declared.conflict.Why.{Why}
use Rattle.hm_report.specs.declared.conflict.Why.TheVariants as why
use Rattle.hm_certify.specs.Standing.{archive_or_none}
use Rattle.hm_certify.specs.Steps.{along}
use Rattle.hm_certify.specs.News.{LosesHere}
use Rattle.hm_certify.specs.Shown.{IsEarlierHere, LosesBehind, AreNotPermitted}
use Rattle.hm_certify.proofs.Verdicts.{is_so, is_not, as_well}
use Rattle.hm_certify.proofs.Along.{loses_along, name_carried, carried_along, differ_along}

-- what Archive::at found
pub at_found : (r : Option (Bor Archive)) (x : Archive) → MatchOption r (x ≡ None) (λ found. (found.now ≡ x) × IsTrue (is_some found.now))
    → archive_or_none (option_copied r) ≡ x
at_found None x e = sym e
at_found (Some c) x e = e.0

-- ---- an earlier mark

differs : (a b : Option Tree) → (a ≡ b) ⊎ ((p : Path) × ¬ (Agree (state a p) (state b p)))
differs None None = inl refl
differs None (Some b) = inr ([], λ agree. apart agree (state_root b))
  where
    apart : Agree Missing (state (Some b) []) → state (Some b) [] ≡ Present → ⊥
    apart agree e = elim (subst (Agree Missing) e agree) [ ]
differs (Some a) None = inr ([], λ agree. apart agree (state_root a))
  where
    apart : Agree (state (Some a) []) Missing → state (Some a) [] ≡ Present → ⊥
    apart agree e = elim (subst (λ s. Agree s Missing) e agree) [ ]
differs (Some a) (Some b) = elim (same_or_differ a b) [ inl e ↦ inl (ap Some e) | inr d ↦ inr d ]

pub still_differ : (t : Trio) (b : Bool) → state t.archive [] ≡ Marked → IsTrue b ↔ (t.left ≡ t.right) → IsTrue (not b) ↔ IsEarlierHere t
still_differ t true marked h = is_not (λ e. e.1.1 (agree_of (ap (λ (x : Option Tree). state x e.1.0) (h.0 refl)) (state_unmarked t.left e.1.0)))
still_differ t false marked h = is_so (marked, elim (differs t.left t.right) [ inl e ↦ absurd (false≢true (h.1 e)) | inr d ↦ d ])

-- ---- behind a path

pub loses_behind : (t : Trio) (p q rest : Path) (b : Bool) → q ≡ p ++ rest → IsTrue b ↔ LosesHere t rest → IsTrue b ↔ LosesBehind t p q
loses_behind t p q rest b is h =
    (λ true_is. (rest, is, h.0 true_is), λ l. h.1 (subst (LosesHere t) (append_cancel_left p l.0 rest (sym l.1 ∙ is)) l.2))

module _ (s : SchemaValue) (i : NodeId) (t : Trio) (p : Path) where
  abbrev v : Views
  v = views t

  earlier_shown : IsEarlierHere (along p t) ↔ ShowsWhy s i v p why.Earlier
  earlier_shown = (λ e. earlier (state_here t.archive p ∙ e.0) ((differ_along t p).1 e.1), from)
    where
      from : ShowsWhy s i v p why.Earlier → IsEarlierHere (along p t)
      from (earlier m d) = (sym (state_here t.archive p) ∙ m, (differ_along t p).0 d)

  -- ---- one side deleted it

  lost_shown : (q : Path) → LosesBehind (along p t) p q ↔ ShowsWhy s i v p (why.Lost q)
  lost_shown q = (to, from)
    where
      to : LosesBehind (along p t) p q → ShowsWhy s i v p (why.Lost q)
      to l = subst (λ (x : Path). ShowsWhy s i v p (why.Lost x)) (sym l.1) (lost (state_here t.archive p ∙ l.2.0) (elim l.2.1 [
        | inl f ↦ inl ((loses_along t.archive t.left t.right p l.0).1 f)
        | inr f ↦ inr ((loses_along t.archive t.right t.left p l.0).1 f)
      ]))

      from : ShowsWhy s i v p (why.Lost q) → LosesBehind (along p t) p q
      from (lost present (inl f)) = (
        f.first.below,
        f.first.is,
        (
          sym (state_here t.archive p) ∙ present,
          inl ((loses_along t.archive t.left t.right p f.first.below).0
              (subst (λ (x : Path). LosesFirst v.archive v.left v.right p x) f.first.is f)),
        ),
      )
      from (lost present (inr f)) = (
        f.first.below,
        f.first.is,
        (
          sym (state_here t.archive p) ∙ present,
          inr ((loses_along t.archive t.right t.left p f.first.below).0
              (subst (λ (x : Path). LosesFirst v.archive v.right v.left p x) f.first.is f)),
        ),
      )

  names_shown : (left right : Names) → AreRefused s i v p left right ↔ ShowsWhy s i v p (why.Names left right)
  names_shown left right = (λ r. refused r, from)
    where
      from : ShowsWhy s i v p (why.Names left right) → AreRefused s i v p left right
      from (refused r) = r

  -- what the test of each reason finds
  module _ (b : Bool) (y : Why) where
    pub shows_earlier : y ≡ why.Earlier → (x : Trio) → x ≡ along p t → IsTrue b ↔ IsEarlierHere x → IsTrue b ↔ ShowsWhy s i v p y
    shows_earlier e x is h = subst (λ (z : Why). IsTrue b ↔ ShowsWhy s i v p z) (sym e)
        (as_well (subst (λ (z : Trio). IsTrue b ↔ IsEarlierHere z) is h) earlier_shown)

    pub shows_lost : (q : Path) → y ≡ why.Lost q → (x : Trio) → x ≡ along p t → IsTrue b ↔ LosesBehind x p q → IsTrue b ↔ ShowsWhy s i v p y
    shows_lost q e x is h = subst (λ (z : Why). IsTrue b ↔ ShowsWhy s i v p z) (sym e)
        (as_well (subst (λ (z : Trio). IsTrue b ↔ LosesBehind z p q) is h) (lost_shown q))

    pub shows_names : (left right : Names) → y ≡ why.Names left right → IsTrue b ↔ AreRefused s i v p left right → IsTrue b ↔ ShowsWhy s i v p y
    shows_names left right e h = subst (λ (z : Why). IsTrue b ↔ ShowsWhy s i v p z) (sym e) (as_well h (names_shown left right))

-- ---- names that can't stand together

module _ (s : SchemaValue) (i : NodeId) (p : Path) where
  -- a path that a member has leads to a node
  pub leads_there : (a : Option Tree) → IsMember s i (state a) → Has (state a) p → IsSome (reached s i p)
  leads_there a member has = let at = member p has in go (reached s i p) at.node at.is
    where
      go : (r : Option NodeId) (node : NodeValue) → option_and_then (node_at s) r ≡ Some node → IsSome r
      go None node e = absurd (none-some node e)
      go (Some id) node e = refl

  module _ (id : NodeId) (leads : reached s i p ≡ Some id) (within : id.place < length s.nodes) where
    node_there : (n : NodeValue) × (node_at s id ≡ Some n)
    node_there = elim ((slice_get_cases s.nodes id.place).1) [ inl there ↦ (there.0, there.2) | inr past ↦ (let l = past.0 in absurd (omega arith)) ]

    node_is : node_of s i p ≡ node_at s id
    node_is = ap (option_and_then (node_at s)) leads

    permitted_at : (node : NodeValue) (names : Names) → node_of s i p ≡ Some node → PermitsAt s id names → Permits node names
    permitted_at node names is at = subst (λ n. Permits n names) (same_Some at.node node (sym at.is ∙ sym node_is ∙ is)) at.permitted

    module _ (left right : Names) (a : Bool) (left_permitted : IsTrue a ↔ PermitsAt s id left) where
      refuses : (names : Names) → (PermitsAt s id names → ⊥) → ¬ (Permits node_there.0 names)
      refuses names n permitted = n (record { node = node_there.0; is = node_there.1; permitted = permitted })

      pub left_not_permitted : a ≡ false → IsTrue true ↔ AreNotPermitted s i p left right
      left_not_permitted e = is_so
          (record { node = node_there.0; is = node_is ∙ node_there.1; refused = inl (refuses left (λ at. false≢true (sym e ∙ left_permitted.1 at))) })

      pub right_decides : (b : Bool) → a ≡ true → IsTrue b ↔ PermitsAt s id right → IsTrue (not b) ↔ AreNotPermitted s i p left right
      right_decides true e h = is_not (λ r. elim r.refused [
        | inl n ↦ n (permitted_at r.node left r.is (left_permitted.0 e))
        | inr n ↦ n (permitted_at r.node right r.is (h.0 refl))
      ])
      right_decides false e h =
          is_so (record { node = node_there.0; is = node_is ∙ node_there.1; refused = inr (refuses right (λ at. false≢true (h.1 at))) })

module _ (s : SchemaValue) (i : NodeId) (o : Archive) (left right : Tree) (p : Path) (on_left on_right : Names) where
  abbrev Refused : Type 0
  Refused = AreRefused s i (views (given o left right)) p on_left on_right

  -- the names that are carried at a path are those at the root of what stands there
  carried_there : (mine other : Option Tree) (names : Names) → AreCarried (state o) (state mine) (state other) p names
      ↔ AreCarried (state (at_path o p)) (state (at_path mine p)) (state (at_path other p)) [] names
  carried_there mine other names = (λ c k. chained (c k) (same k), λ c k. chained (c k) ((same k).1, (same k).0))
    where
      same : (k : Name) → IsCarried (state o) (state mine) (state other) (p ++ k ∷ [])
          ↔ IsCarried (state (at_path o p)) (state (at_path mine p)) (state (at_path other p)) (k ∷ [])
      same k =
          let below = carried_along (at_path o p) (at_path mine p) (at_path other p) (k ∷ []) in
          chained (name_carried o mine other p k) (below.1, below.0)

  module _ (known : Archive) (known_is : known ≡ at_path o p) where
    pub marked_there : state known [] ≡ Marked → IsTrue false ↔ Refused
    marked_there m = is_not (λ r. r.unmarked (state_here o p ∙ ap (λ (x : Archive). state x []) (sym known_is) ∙ m))

    pub left_missing : at_path (Some left) p ≡ None → IsTrue false ↔ Refused
    left_missing e = is_not (λ r. has_and_lacks r.has_left (state_here (Some left) p ∙ ap (λ (x : Option Tree). state x []) e))

    pub right_missing : at_path (Some right) p ≡ None → IsTrue false ↔ Refused
    right_missing e = is_not (λ r. has_and_lacks r.has_right (state_here (Some right) p ∙ ap (λ (x : Option Tree). state x []) e))

    module _ (mine other : Tree) (mine_is : at_path (Some left) p ≡ Some mine) (other_is : at_path (Some right) p ≡ Some other) where
      abbrev OnLeft : Type 0
      OnLeft = AreCarried (state known) (state (Some mine)) (state (Some other)) [] on_left

      abbrev OnRight : Type 0
      OnRight = AreCarried (state known) (state (Some other)) (state (Some mine)) [] on_right

      left_there : AreCarried (state o) (state (Some left)) (state (Some right)) p on_left ↔ OnLeft
      left_there = chained (carried_there (Some left) (Some right) on_left)
          (subst (λ (t : Trio). AreCarried (state t.archive) (state t.left) (state t.right) [] on_left ↔ OnLeft)
          (λ j. record { archive = known_is j; left = sym mine_is j; right = sym other_is j }) (λ x. x, λ x. x))

      right_there : AreCarried (state o) (state (Some right)) (state (Some left)) p on_right ↔ OnRight
      right_there = chained (carried_there (Some right) (Some left) on_right)
          (subst (λ (t : Trio). AreCarried (state t.archive) (state t.right) (state t.left) [] on_right ↔ OnRight)
          (λ j. record { archive = known_is j; left = sym mine_is j; right = sym other_is j }) (λ x. x, λ x. x))

      pub not_on_left : (OnLeft → ⊥) → IsTrue false ↔ Refused
      not_on_left n = is_not (λ r. n (left_there.0 r.are_left))

      pub not_on_right : (OnRight → ⊥) → IsTrue false ↔ Refused
      not_on_right n = is_not (λ r. n (right_there.0 r.are_right))

      pub has_left : Has (state (Some left)) p
      has_left = state_here (Some left) p ∙ ap (λ (x : Option Tree). state x []) mine_is ∙ state_root mine

      has_right : Has (state (Some right)) p
      has_right = state_here (Some right) p ∙ ap (λ (x : Option Tree). state x []) other_is ∙ state_root other

      pub names_decide : (b : Bool) → (state known [] ≡ Marked → ⊥) → OnLeft → OnRight → IsTrue b ↔ AreNotPermitted s i p on_left on_right
          → IsTrue b ↔ Refused
      names_decide b unmarked l r h = (
        λ true_is. (let n = h.0 true_is in record {
          has_left = has_left;
          has_right = has_right;
          unmarked = λ m. unmarked (ap (λ (x : Archive). state x []) known_is ∙ sym (state_here o p) ∙ m);
          are_left = left_there.1 l;
          are_right = right_there.1 r;
          node = n.node;
          is = n.is;
          refused = n.refused;
        }),
        λ r. h.1 (record { node = r.node; is = r.is; refused = r.refused }),
      )
