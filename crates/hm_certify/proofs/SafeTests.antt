-- What the tests of a safe result find.
use Rattle.std.proofs.Common.{◌≡◌, ◌⊎◌, ◌↔◌, ℕ, ◌≤◌, length, Bool, true, false, cond, not, IsTrue, [], ◌∷◌, Option, Some, None, refl, sym, ap, subst, ◌∙◌, inl, inr}
use mathlib.Core.Bool.{false≢true}
use Rattle.hm_tree.specs.declared.archive.State.TheVariants.{Missing, Present, Marked}
use Rattle.hm_tree.specs.Names.{Name}
use Rattle.hm_tree.specs.Nodes.{Tree, below, edges, is_marked}
use Rattle.hm_tree.specs.Archives.{Archive, under, edges_here}
use Rattle.hm_tree.specs.States.{state, at_path, IsWithin, Has, Lacks}
use Rattle.hm_tree.proofs.States.{state_root}
use Rattle.hm_safety.specs.Changes.{IsLost}
use Rattle.hm_safety.specs.Safety.{IsSafe}
use Rattle.hm_outcome.specs.Trios.{Trio, views}
use Rattle.hm_outcome.proofs.Marks.{has_and_lacks}
use Rattle.hm_outcome.proofs.Search.{within_or_news}
use Rattle.hm_certify.specs.Standing.{archive_or_none}
use Rattle.hm_certify.specs.Steps.{step}
use Rattle.hm_certify.specs.Safe.{IsGone, IsStop, MayStand, GoesUnder, EachGoes}
use Rattle.hm_certify.proofs.Verdicts.{is_so, is_not, as_well}
use Rattle.hm_certify.proofs.Steps.{tree_step}
use Rattle.hm_certify.proofs.SafeCases.{none_of, gone, stop, present_one}
use Rattle.hm_certify.proofs.EachEdge.{AllBefore, each_below, each_under}

-- ---- sides that are there or missing

pub has_some : {a : Option Tree} {t : Tree} → a ≡ Some t → Has (state a) []
has_some {t = t} e = ap (λ (x : Option Tree). state x []) e ∙ state_root t

pub lacks_none : {a : Option Tree} → a ≡ None → Lacks (state a) []
lacks_none e = ap (λ (x : Option Tree). state x []) e

none_within : (a : Option Tree) (o : Archive) → a ≡ None → IsWithin a o
none_within a o e p has = absurd (has_and_lacks has (ap (λ (x : Option Tree). state x p) e))

pub not_within : (t : Tree) (o : Option Archive) → o ≡ None → IsTrue false ↔ IsWithin (Some t) (archive_or_none o)
not_within t o e = is_not (λ all. has_and_lacks (all [] (state_root t)) (ap (λ (x : Option Archive). state (archive_or_none x) []) e))

-- ---- one side deleted it

pub lost_alone : (o : Archive) (keeper other : Option Tree) (t : Tree) (b : Bool) → keeper ≡ Some t → other ≡ None → ¬ (o ≡ None)
    → IsTrue b ↔ IsWithin (Some t) o → IsTrue (not b) ↔ IsLost (state o) (state keeper) (state other) []
lost_alone o keeper other t b there gone known within = go b within
  where
    go : (b : Bool) → IsTrue b ↔ IsWithin (Some t) o → IsTrue (not b) ↔ IsLost (state o) (state keeper) (state other) []
    go true within = is_not (λ l. l.news.2 (within.0 refl l.news.0 (sym (ap (λ (x : Option Tree). state x l.news.0) there) ∙ l.news.1)))
    go false within = is_so (elim (within_or_news t o) [
      | inl all ↦ absurd (false≢true (within.1 all))
      | inr news ↦ record {
        has = has_some there;
        lacks = lacks_none gone;
        known = λ e. known (none_of e);
        news = (news.0, ap (λ (x : Option Tree). state x news.0) there ∙ news.1, news.2);
      }
    ])

-- ---- a mark

module _ (t : Trio) (left right : Option Tree) (left_stays : left ≡ t.left) (right_stays : right ≡ t.right) where
  pub both_stop : (a b : Tree) → t.left ≡ Some a → t.right ≡ Some b → IsTrue true ↔ IsStop t left right
  both_stop a b e f = is_so (record { left_stays = left_stays; right_stays = right_stays; stops = inl (has_some e, has_some f) })

-- ---- both sides may come to be there

pub both_stand : (t : Trio) (a b : Tree) → t.left ≡ Some a → t.right ≡ Some b → IsTrue true ↔ MayStand t
both_stand t a b e f = is_so (inl (has_some e, has_some f))

pub alone_stands : (t : Trio) (b : Bool) → IsTrue b ↔ (t.archive ≡ None) → (t.left ≡ None) ⊎ (t.right ≡ None)
    → Has (state t.left) [] ⊎ Has (state t.right) [] → IsTrue b ↔ MayStand t
alone_stands t b missing gone there = (λ true_is. inr (missing.0 true_is, there), from gone)
  where
    from : (t.left ≡ None) ⊎ (t.right ≡ None) → MayStand t → IsTrue b
    from (inl e) (inl both) = absurd (has_and_lacks both.0 (lacks_none e))
    from (inr e) (inl both) = absurd (has_and_lacks both.1 (lacks_none e))
    from _ (inr alone) = missing.1 alone.0

-- ---- by what the new archive has at the root

module _ (t : Trio) (archive : Archive) (left right : Option Tree) (b : Bool) where
  pub missing_root : state archive [] ≡ Missing → IsTrue b ↔ IsGone t left right
      → IsTrue b ↔ IsSafe (views t) (views (record { archive = archive; left = left; right = right }))
  missing_root e h = subst (λ (o : Archive). IsTrue b ↔ IsSafe (views t) (views (record { archive = o; left = left; right = right })))
      (sym (none_of e)) (as_well h (gone t left right))

  pub marked_root : state archive [] ≡ Marked → IsTrue b ↔ IsStop t left right
      → IsTrue b ↔ IsSafe (views t) (views (record { archive = archive; left = left; right = right }))
  marked_root e h = as_well h (stop t (record { archive = archive; left = left; right = right }) e)

-- ---- the names that the new archive lacks

module _ (before : Trio) (archive : Archive) (left right : Tree) where
  abbrev Goes : Name → Type 0
  Goes k = GoesUnder before archive left right k

  pub all_go : (side : Option Tree) (t : Tree) (n : ℕ) → side ≡ Some t → length (edges t) ≤ n → AllBefore (λ k c. Goes k) (edges t) n
      → EachGoes before archive left right side
  all_go side t n e end all k c at = each_below (λ k c. Goes k) t n end all k c
      (sym (ap (λ (x : Option Tree). at_path x (k ∷ [])) e ∙ tree_step t k) ∙ at)

  pub one_stays : (side : Option Tree) (t : Tree) (k : Name) (c : Tree) → side ≡ Some t → below k t ≡ Some c → ¬ (Goes k)
      → EachGoes before archive left right side → ⊥
  one_stays side t k c e is stays all = stays (all k c (ap (λ (x : Option Tree). at_path x (k ∷ [])) e ∙ tree_step t k ∙ is))

  -- a name that none has goes
  pub all_four : EachGoes before archive left right (Some left) → EachGoes before archive left right (Some right)
      → EachGoes before archive left right before.left → EachGoes before archive left right before.right → (k : Name) → Goes k
  all_four new_left new_right old_left old_right k = go _ _ _ _ refl refl refl refl
    where
      go : (a b c d : Option Tree) → at_path (Some left) (k ∷ []) ≡ a → at_path (Some right) (k ∷ []) ≡ b → at_path before.left (k ∷ []) ≡ c
          → at_path before.right (k ∷ []) ≡ d → Goes k
      go (Some x) b c d e f g h = new_left k x e
      go None (Some x) c d e f g h = new_right k x f
      go None None (Some x) d e f g h = old_left k x g
      go None None None (Some x) e f g h = old_right k x h
      go None None None None e f g h = λ _. record {
        left_gone = sym (tree_step left k) ∙ e;
        right_gone = sym (tree_step right k) ∙ f;
        alone = inl g;
        within_left = none_within _ _ g;
        within_right = none_within _ _ h;
      }

  pub others : (b : Bool) → EachGoes before archive left right (Some left) × EachGoes before archive left right (Some right)
      → IsTrue b ↔ (EachGoes before archive left right before.left × EachGoes before archive left right before.right)
      → IsTrue b ↔ ((k : Name) → Goes k)
  others b new old = (
    λ true_is. all_four new.0 new.1 (old.0 true_is).0 (old.0 true_is).1,
    λ all. old.1 ((λ k c at. all k), (λ k c at. all k)),
  )

-- ---- a present root

archive_step : (o : Archive) (k : Name) → state o [] ≡ Present → at_path o (k ∷ []) ≡ under k o
archive_step None k e = refl
archive_step (Some t) k e = elim (is_marked t) as (λ b. cond b Marked Present ≡ Present → cond b (Some t) (below k t) ≡ below k t)
    [ true ↦ λ e. (let f : ⊥ = cc in absurd f) | false ↦ λ e. refl ] e

module _ (before : Trio) (archive : Archive) (left right : Tree) (present : state archive [] ≡ Present) where
  abbrev after : Trio
  after = record { archive = archive; left = Some left; right = Some right }

  -- what is seen below a name
  lower : (k : Name) → record { archive = under k archive; left = below k left; right = below k right } ≡ step k after
  lower k = λ i. record { archive = sym (archive_step archive k present) i; left = sym (tree_step left k) i; right = sym (tree_step right k) i }

  pub lower_safe : (k : Name) (c : Archive) (l r : Option Tree) → under k archive ≡ c → l ≡ at_path (Some left) (k ∷ [])
      → r ≡ at_path (Some right) (k ∷ []) → IsSafe (views (step k before)) (views (record { archive = c; left = l; right = r }))
      ↔ IsSafe (views (step k before)) (views (step k after))
  lower_safe k c l r e f g = (
    λ h. subst (λ (t : Trio). IsSafe (views (step k before)) (views t)) same h,
    λ h. subst (λ (t : Trio). IsSafe (views (step k before)) (views t)) (sym same) h,
  )
    where
      same : record { archive = c; left = l; right = r } ≡ step k after
      same = λ i. record { archive = (sym e ∙ sym (archive_step archive k present)) i; left = f i; right = g i }

  -- the names that the new archive lacks
  gone_safe : ((k : Name) → GoesUnder before archive left right k) → (k : Name) → under k archive ≡ None
      → IsSafe (views (step k before)) (views (step k after))
  gone_safe all k none = (lower_safe k None (below k left) (below k right) none (sym (tree_step left k)) (sym (tree_step right k))).0
      ((gone (step k before) (below k left) (below k right)).0 (all k none))

  safe_gone : IsSafe (views before) (views after) → (k : Name) → GoesUnder before archive left right k
  safe_gone h k none = (gone (step k before) (below k left) (below k right)).1
      ((lower_safe k None (below k left) (below k right) none (sym (tree_step left k)) (sym (tree_step right k))).1
      (((present_one before after present).1 h).below k))

  pub does_not_go : ¬ ((k : Name) → GoesUnder before archive left right k) → IsTrue false ↔ IsSafe (views before) (views after)
  does_not_go n = is_not (λ h. n (safe_gone h))

  pub unsafe_below : (k : Name) → ¬ (IsSafe (views (step k before)) (views (step k after))) → IsTrue false ↔ IsSafe (views before) (views after)
  unsafe_below k n = is_not (λ h. n (((present_one before after present).1 h).below k))

  pub all_safe : MayStand before → ((k : Name) → GoesUnder before archive left right k) → (n : ℕ) → length (edges_here archive) ≤ n
      → AllBefore (λ k c. IsSafe (views (step k before)) (views (step k after))) (edges_here archive) n
      → IsTrue true ↔ IsSafe (views before) (views after)
  all_safe stood go n end all =
      is_so ((present_one before after present).0
      (record { left = state_root left; right = state_root right; stood = stood; below = λ k. each k (under k archive) refl }))
    where
      each : (k : Name) (c : Archive) → under k archive ≡ c → IsSafe (views (step k before)) (views (step k after))
      each k None e = gone_safe go k e
      each k (Some c) e = each_under (λ k c. IsSafe (views (step k before)) (views (step k after))) archive n end all k c e

  -- what the test found below a name
  pub below_is : (k : Name) (t : Trio) (c : Archive) (l r : Option Tree) (b : Bool) → under k archive ≡ c → t ≡ step k before → l ≡ below k left
      → r ≡ below k right → IsTrue b ↔ IsSafe (views t) (views (record { archive = c; left = l; right = r }))
      → IsTrue b ↔ IsSafe (views (step k before)) (views (step k after))
  below_is k t c l r b e f g h safe =
      as_well (subst (λ (x : Trio). IsTrue b ↔ IsSafe (views x) (views (record { archive = c; left = l; right = r }))) f safe)
      (lower_safe k c l r e (g ∙ sym (tree_step left k)) (h ∙ sym (tree_step right k)))

-- both sides are there
pub given_sides : (t : Trio) (archive : Archive) (a b : Tree) (left right : Option Tree) (answer : Bool) → left ≡ Some a → right ≡ Some b
    → IsTrue answer ↔ IsSafe (views t) (views (record { archive = archive; left = Some a; right = Some b }))
    → IsTrue answer ↔ IsSafe (views t) (views (record { archive = archive; left = left; right = right }))
given_sides t archive a b left right answer e f h =
    subst (λ (x : Option Tree × Option Tree). IsTrue answer ↔ IsSafe (views t) (views (record { archive = archive; left = x.0; right = x.1 })))
    (λ i. (sym e i, sym f i)) h
