-- When a result is safe, by what the new archive has at the root.
use Rattle.std.proofs.Common.{◌≡◌, ◌≢◌, ◌⊎◌, ◌↔◌, Bool, [], ◌∷◌, Option, Some, None, refl, sym, ap, subst, ◌∙◌, inl, inr}
use Rattle.hm_tree.specs.declared.archive.State.{State}
use Rattle.hm_tree.specs.declared.archive.State.TheVariants.{Missing, Present, Marked}
use Rattle.hm_tree.specs.Names.{Name}
use Rattle.hm_tree.specs.Nodes.{Node, Tree}
use Rattle.hm_tree.specs.Archives.{Archive}
use Rattle.hm_tree.specs.States.{Path, state, IsWithin, Has, Lacks}
use Rattle.hm_tree.proofs.Paths.{state_at}
use Rattle.hm_tree.proofs.Extent.{same_option, stands}
use Rattle.hm_safety.specs.Views.{Views}
use Rattle.hm_safety.specs.Changes.{HasChanged, Clash}
use Rattle.hm_safety.specs.Safety.{IsTopmostMark, IsSafe}
use Rattle.hm_outcome.specs.Trios.{Trio, views}
use Rattle.hm_outcome.proofs.Marks.{agree_same, agree_of, agrees, at_root, state_reaches, has_or_lacks, has_and_lacks}
use Rattle.hm_outcome.proofs.Downward.{views_below}
use Rattle.hm_certify.specs.Safe.{IsGone, IsStop, MayStand}
use Rattle.hm_certify.specs.Steps.{step}
use Rattle.hm_certify.proofs.SafeBelow.{IsSafeHere, safe_here, safe_below, safe_whole}

-- ---- one step down

pub views_step : (k : Name) (t : Trio) → views (step k t) ≡ views_below k (views t)
views_step k t = λ i. record {
  archive = λ p. sym (state_at t.archive (k ∷ []) p) i;
  left = λ p. sym (state_at t.left (k ∷ []) p) i;
  right = λ p. sym (state_at t.right (k ∷ []) p) i;
}

-- ---- the new archive is missing: nothing is left, and what one side alone had is within the archive

pub none_of : {m : Bool} {a : Option (Node m)} → state a [] ≡ Missing → a ≡ None
none_of {a = None} e = refl
none_of {a = Some t} e = absurd (stands t e)

missing_only : {s : State} → s ≡ Missing → s ≢ Marked
missing_only e m = let f : Missing ≡ Marked = sym e ∙ m in cc

module _ (before : Trio) (left right : Option Tree) where
  abbrev after : Trio
  after = record { archive = None; left = left; right = right }

  gone_safe : IsGone before left right → IsSafe (views before) (views after)
  gone_safe g = record {
    keeps_left = λ p changed. kept before.left left g.left_gone g.within_left p changed;
    keeps_right = λ p changed. kept before.right right g.right_gone g.within_right p changed;
    left_from_right = λ p n. other before.left before.right left g.left_gone g.alone p n;
    right_from_left = λ p n. other before.right before.left right g.right_gone (elim g.alone [ inl e ↦ inr e | inr e ↦ inl e ]) p n;
    agrees_or_stops = λ p. inr (nowhere left g.left_gone p, nowhere right g.right_gone p);
    stop_leaves_left = λ p m. absurd (missing_only refl m);
    stop_leaves_right = λ p m. absurd (missing_only refl m);
    stops_at = λ p top. absurd (missing_only refl top.marked);
  }
    where
      nowhere : (c : Option Tree) → c ≡ None → (p : Path) → Missing ≡ state c p
      nowhere c none p = sym (ap (λ (x : Option Tree). state x p) none)

      kept : (a c : Option Tree) → c ≡ None → IsWithin a before.archive → (p : Path) → HasChanged (state before.archive) (state a) p
          → state c p ≡ state a p
      kept a c none within p changed = elim (has_or_lacks a p) [
        | inl has ↦ absurd (changed (agree_of (within p has ∙ sym has) (λ m. (let f : Present ≡ Marked = sym (within p has) ∙ m in cc))))
        | inr lacks ↦ sym (nowhere c none p) ∙ sym lacks
      ]

      other : (a b c : Option Tree) → c ≡ None → (a ≡ None) ⊎ (b ≡ None) → (p : Path) → state c p ≢ state a p → state c p ≡ state b p
      other a b c none (inl e) p n = absurd (n (ap (λ (x : Option Tree). state x p) (none ∙ sym e)))
      other a b c none (inr e) p n = ap (λ (x : Option Tree). state x p) (none ∙ sym e)

  safe_gone : IsSafe (views before) (views after) → IsGone before left right
  safe_gone h = record {
    left_gone = none_of (lacks_left []);
    right_gone = none_of (lacks_right []);
    alone = elim (has_or_lacks before.left []) [
      | inr lacks ↦ inl (none_of lacks)
      | inl has ↦ inr (none_of (sym (h.left_from_right [] (λ e. has_and_lacks has (sym e ∙ lacks_left []))) ∙ lacks_left []))
    ];
    within_left = λ p has. elim (agrees (state before.archive p) (state before.left p)) [
      | inl a ↦ agree_same a ∙ has
      | inr changed ↦ absurd (has_and_lacks has (sym (h.keeps_left p changed) ∙ lacks_left p))
    ];
    within_right = λ p has. elim (agrees (state before.archive p) (state before.right p)) [
      | inl a ↦ agree_same a ∙ has
      | inr changed ↦ absurd (has_and_lacks has (sym (h.keeps_right p changed) ∙ lacks_right p))
    ];
  }
    where
      agreed : (p : Path) → (Missing ≡ state left p) × (Missing ≡ state right p)
      agreed p = elim (h.agrees_or_stops p) [ inl m ↦ absurd (missing_only refl m) | inr e ↦ e ]

      lacks_left : (p : Path) → Lacks (state left) p
      lacks_left p = sym (agreed p).0

      lacks_right : (p : Path) → Lacks (state right) p
      lacks_right p = sym (agreed p).1

  pub gone : IsGone before left right ↔ IsSafe (views before) (views after)
  gone = (gone_safe, safe_gone)

-- ---- the new archive is marked: both sides stay, and both are there or clash

module _ (before after : Trio) (marked : state after.archive [] ≡ Marked) where
  reaches : (p : Path) → state after.archive p ≡ Marked
  reaches p = state_reaches after.archive [] p marked

  stop_safe : IsStop before after.left after.right → IsSafe (views before) (views after)
  stop_safe s = record {
    keeps_left = λ p _. here_left p;
    keeps_right = λ p _. here_right p;
    left_from_right = λ p n. absurd (n (here_left p));
    right_from_left = λ p n. absurd (n (here_right p));
    agrees_or_stops = λ p. inl (reaches p);
    stop_leaves_left = λ p _. here_left p;
    stop_leaves_right = λ p _. here_right p;
    stops_at = only_root;
  }
    where
      here_left : (p : Path) → state after.left p ≡ state before.left p
      here_left p = ap (λ (x : Option Tree). state x p) s.left_stays

      here_right : (p : Path) → state after.right p ≡ state before.right p
      here_right p = ap (λ (x : Option Tree). state x p) s.right_stays

      only_root : (p : Path) → IsTopmostMark (state after.archive) p
          → (Has (state before.left) p × Has (state before.right) p) ⊎ Clash (views before) p
      only_root [] top = s.stops
      only_root (k ∷ p) top = absurd (top.topmost [] (k ∷ p) refl (λ e. (let f : ⊥ = cc in f)) marked)

  safe_stop : IsSafe (views before) (views after) → IsStop before after.left after.right
  safe_stop h = record {
    left_stays = same_option after.left before.left (λ p. h.stop_leaves_left p (reaches p));
    right_stays = same_option after.right before.right (λ p. h.stop_leaves_right p (reaches p));
    stops = h.stops_at [] (at_root (state after.archive) marked);
  }

  pub stop : IsStop before after.left after.right ↔ IsSafe (views before) (views after)
  stop = (stop_safe, safe_stop)

-- ---- the new archive is present: both sides are there, and were there before, or one of them alone, unknown to the
-- archive; and the result is safe below each name

pub record IsPresent (before after : Trio) : Type 0 where
  pub left : Has (state after.left) []
  pub right : Has (state after.right) []
  pub stood : MayStand before
  pub below : (k : Name) → IsSafe (views (step k before)) (views (step k after))

module _ (before after : Trio) (present : state after.archive [] ≡ Present) where
  unmarked : state after.archive [] ≢ Marked
  unmarked m = let f : Present ≡ Marked = sym present ∙ m in cc

  lower : (k : Name) → IsSafe (views (step k before)) (views (step k after)) ↔ IsSafe (views_below k (views before)) (views_below k (views after))
  lower k = (
    λ h. subst (λ (v : Views). IsSafe v (views_below k (views after))) (views_step k before)
        (subst (λ (w : Views). IsSafe (views (step k before)) w) (views_step k after) h),
    λ h. subst (λ (v : Views). IsSafe v (views (step k after))) (sym (views_step k before))
        (subst (λ (w : Views). IsSafe (views_below k (views before)) w) (sym (views_step k after)) h),
  )

  may_stand : IsSafeHere (views before) (views after) → MayStand before
  may_stand h = elim (has_or_lacks before.left []) [
    | inl has ↦ elim (has_or_lacks before.right []) [
      | inl other ↦ inl (has, other)
      | inr lacks ↦ inr (unknown before.right after.right h.keeps_right lacks (sym h.agrees.1 ∙ present), inl has)
    ]
    | inr lacks ↦ inr (
      unknown before.left after.left h.keeps_left lacks (sym h.agrees.0 ∙ present),
      inr (sym (h.left_from_right (λ e. has_and_lacks (sym h.agrees.0 ∙ present) (e ∙ lacks))) ∙ sym h.agrees.0 ∙ present),
    )
  ]
    where
      unknown : (a c : Option Tree) → (HasChanged (state before.archive) (state a) [] → state c [] ≡ state a []) → Lacks (state a) []
          → Has (state c) [] → before.archive ≡ None
      unknown a c keeps lacks has = elim (agrees (state before.archive []) (state a [])) [
        | inl e ↦ none_of (agree_same e ∙ lacks)
        | inr changed ↦ absurd (has_and_lacks has (keeps changed ∙ lacks))
      ]

  present_here : IsPresent before after → IsSafeHere (views before) (views after)
  present_here s = record {
    keeps_left = λ changed. stays before.left after.left s.left changed (mine s.stood);
    keeps_right = λ changed. stays before.right after.right s.right changed (other s.stood);
    left_from_right = λ n. brought before.left before.right after.left s.left n s.stood;
    right_from_left = λ n. brought before.right before.left after.right s.right n (swapped s.stood);
    agrees = (present ∙ sym s.left, present ∙ sym s.right);
  }
    where
      mine : MayStand before → Has (state before.left) [] ⊎ before.archive ≡ None
      mine (inl both) = inl both.0
      mine (inr alone) = inr alone.0

      other : MayStand before → Has (state before.right) [] ⊎ before.archive ≡ None
      other (inl both) = inl both.1
      other (inr alone) = inr alone.0

      swapped : {A B C : Type 0} → (A × B) ⊎ (C × (A ⊎ B)) → (B × A) ⊎ (C × (B ⊎ A))
      swapped (inl both) = inl (both.1, both.0)
      swapped (inr (c, inl a)) = inr (c, inr a)
      swapped (inr (c, inr b)) = inr (c, inl b)

      stays : (a c : Option Tree) → Has (state c) [] → HasChanged (state before.archive) (state a) [] → Has (state a) [] ⊎ before.archive ≡ None
          → state c [] ≡ state a []
      stays a c has changed (inl there) = has ∙ sym there
      stays a c has changed (inr unknown) = elim (has_or_lacks a []) [
        | inl there ↦ has ∙ sym there
        | inr lacks ↦ (let missing : state before.archive [] ≡ Missing = ap (λ (x : Archive). state x []) unknown in
            absurd (changed (agree_of (missing ∙ sym lacks) (missing_only missing))))
      ]

      brought : (a b c : Option Tree) → Has (state c) [] → state c [] ≢ state a []
          → (Has (state a) [] × Has (state b) []) ⊎ (before.archive ≡ None × (Has (state a) [] ⊎ Has (state b) [])) → state c [] ≡ state b []
      brought a b c has n (inl both) = has ∙ sym both.1
      brought a b c has n (inr (_, inl there)) = absurd (n (has ∙ sym there))
      brought a b c has n (inr (_, inr there)) = has ∙ sym there

  pub present_one : IsPresent before after ↔ IsSafe (views before) (views after)
  present_one = (
    λ s. safe_whole (views before) (views after) unmarked (present_here s) (λ k. (lower k).0 (s.below k)),
    λ h. (let here = safe_here (views before) (views after) unmarked h in record {
      left = sym here.agrees.0 ∙ present;
      right = sym here.agrees.1 ∙ present;
      stood = may_stand here;
      below = λ k. (lower k).1 (safe_below (views before) (views after) unmarked h k);
    }),
  )
