-- A sequence is put stage by stage, from the last to the first.
use Rattle.std.proofs.Common.{◌≡◌, ℕ, zero, suc, ◌<◌, ◌≤◌, append_assoc, ◌+◌, List, [], ◌∷◌, ◌++◌, length, get_or, drop, add-one, Option, Some, None, sym, ap, subst, ◌∙◌, refl, arith}
use Rattle.std.specs.Borrow.{Bor}
use Rattle.std.proofs.Math.Seq.{drop-cons}
use Rattle.std.proofs.lemmas.List.{map-append, length-map, length-append}
use Rattle.std.proofs.lemmas.Option.{same_Some, none-some}
use Rattle.hm_tree.specs.Nodes.{Tree}
use Rattle.hm_terms.specs.declared.term.Term.{Term}
use Rattle.hm_terms.specs.Lenses.{Lens, sequence, Setting}
use Rattle.hm_terms.specs.Programs.{lens_of}
use Rattle.hm_terms.specs.Shown.{Shows, by_sequence}
use Rattle.hm_terms.specs.Put.{Puts, put_sequence, ShowsBefore, none_before, shown_before}
use Rattle.hm_terms.proofs.OnePut.{one_before, one_put}
use Rattle.hm_eval_terms.specs.Conditions.{IsPut, IsShown, IsShownBefore}
use Rattle.hm_eval_terms.specs.Stages.{lenses, AreStages, one_stage, both_stages, AddsStages, CanPut, PutsBack, put_by_none, put_by_more, PutThrough}

-- what stages show of a tree from before, one after the other
data ShowsAll (S : Setting) : List Lens → Option Tree → Option Tree → Type 0 where
  shows_none : {b : Option Tree} → ShowsAll S [] b b
  shows_more : {l : Lens} {ls : List Lens} {b n m : Option Tree} → ShowsBefore S l b n → ShowsAll S ls n m → ShowsAll S (l ∷ ls) b m

-- what stages put, of which there is one at least
pub data PutsThrough (S : Setting) : List Lens → Tree → Option Tree → Tree → Type 0 where
  by_last : {l : Lens} {a c : Tree} {b : Option Tree} → Puts S l a b c → PutsThrough S (l ∷ []) a b c
  by_more : {l : Lens} {ls : List Lens} {a m c : Tree} {b n : Option Tree} → ShowsBefore S l b n → PutsThrough S ls a n m → Puts S l m b c
      → PutsThrough S (l ∷ ls) a b c

-- the first stage, and those behind it
pub record IsCut (S : Setting) (l : Lens) (ls : List Lens) (a : Tree) (b : Option Tree) (c : Tree) : Type 0 where
  pub middle : Option Tree
  pub made : Tree
  pub shows : ShowsBefore S l b middle
  pub through : PutsThrough S ls a middle made
  pub puts : Puts S l made b c

-- how far a loop has come: the stages that are left put something of a view, and those that were passed put that
pub record ArePassed (S : Setting) (l : Lens) (b : Option Tree) (left : List Lens) (last : Lens) (here : Option Tree) (ps : List
    (Bor Term × Option Tree)) : Type 0 where
  pub all : (a c : Tree) → Puts S l a b c → (m : Tree) × (PutsThrough S (left ++ last ∷ []) a here m × PutsBack S ps m c)

some_stage : {l : Lens} {ls : List Lens} → AreStages l ls → 0 < length ls
some_stage one_stage = omega arith
some_stage (both_stages {ls = ls} {ks = ks} s t e) = omega (arith, some_stage s, ap length e, length-append ls ks)

pub no_stage : (l : Lens) (empty all : List (Bor Term)) → empty ≡ [] → AddsStages l empty all → length all ≡ 0 → ⊥
no_stage l empty all nil are none =
    omega (arith, some_stage are.stages, ap length (are.is ∙ ap (λ x. x ++ are.added) nil), length-map are.added (λ (t : Bor Term). lens_of t.now), none)

pub seq_added : (z l k p q : Lens) (old mid new : List (Bor Term)) → z ≡ sequence l k → p ≡ l → q ≡ k → AddsStages p old mid → AddsStages q mid new
    → AddsStages z old new
seq_added z l k p q old mid new e f g a b = record {
  added = a.added ++ b.added;
  is = b.is ∙ ap (λ x. x ++ b.added) a.is ∙ append_assoc old a.added b.added;
  stages = subst (λ z. AreStages z (lenses (a.added ++ b.added))) (sym e)
      (both_stages (subst (λ l. AreStages l (lenses a.added)) f a.stages) (subst (λ k. AreStages k (lenses b.added)) g b.stages)
      (map-append (λ (t : Bor Term). lens_of t.now) a.added b.added));
}

pub drop_none : (ts : List (Bor Term)) (i : ℕ) → length ts ≤ i → lenses (drop i ts) ≡ []
drop_none [] zero h = refl
drop_none [] (suc i) h = refl
drop_none (t ∷ ts) zero h = absurd (omega arith)
drop_none (t ∷ ts) (suc i) h = drop_none ts i (omega arith)

module _ (S : Setting) where
  pub before_shown : (l : Lens) (b : Option Tree) (x d : Tree) → b ≡ Some x → d ≡ x → IsShownBefore S l b → IsShown S l d
  before_shown l b x d e f h = go b e h.tree h.is
    where
      go : (b : Option Tree) → b ≡ Some x → (n : Option Tree) → ShowsBefore S l b n → IsShown S l d
      go None e n s = absurd (none-some x e)
      go (Some y) e n (shown_before {m = m} p) = record { tree = m; is = subst (λ c. Shows S l c m) (same_Some y x e ∙ sym f) p }

  pub before_shows : (l : Lens) (b : Option Tree) (x d v : Tree) → b ≡ Some x → d ≡ x → Shows S l d v → ShowsBefore S l b (Some v)
  before_shows l b x d v e f s = subst (λ b. ShowsBefore S l b (Some v)) (ap Some f ∙ sym e) (shown_before s)

  pub same_before : (l : Lens) (b o : Option Tree) → b ≡ o → IsShownBefore S l o → IsShownBefore S l b
  same_before l b o e h = subst (IsShownBefore S l) (sym e) h

  pub same_shows_before : (l : Lens) (b o n : Option Tree) → b ≡ o → ShowsBefore S l b n → ShowsBefore S l o n
  same_shows_before l b o n e s = subst (λ b. ShowsBefore S l b n) e s

  shows_append : {ls ks : List Lens} {b n m : Option Tree} → ShowsAll S ls b n → ShowsAll S ks n m → ShowsAll S (ls ++ ks) b m
  shows_append shows_none t = t
  shows_append (shows_more s r) t = shows_more s (shows_append r t)

  shows_stages : {l : Lens} {ls : List Lens} {b n : Option Tree} → AreStages l ls → ShowsBefore S l b n → ShowsAll S ls b n
  shows_stages one_stage h = shows_more h shows_none
  shows_stages (both_stages s t e) none_before =
      subst (λ ms. ShowsAll S ms None None) (sym e) (shows_append (shows_stages s none_before) (shows_stages t none_before))
  shows_stages (both_stages s t e) (shown_before {b = b} {m = v} (by_sequence p q)) =
      subst (λ ms. ShowsAll S ms (Some b) (Some v)) (sym e) (shows_append (shows_stages s (shown_before p)) (shows_stages t (shown_before q)))

  through_append : {ls ks : List Lens} {a m c : Tree} {b n : Option Tree} → ShowsAll S ls b n → PutsThrough S ks a n m → PutsThrough S ls m b c
      → PutsThrough S (ls ++ ks) a b c
  through_append shows_none q p = elim p [ ]
  through_append (shows_more s shows_none) q (by_last p) = by_more s q p
  through_append (shows_more {ls = ls} {m = n} s rest) q (by_more t r p) =
      by_more t (through_append (subst (λ x. ShowsAll S ls x n) (one_before S s t) rest) q r) p

  stages_put : {l : Lens} {ls : List Lens} {a c : Tree} {b : Option Tree} → AreStages l ls → Puts S l a b c → PutsThrough S ls a b c
  stages_put one_stage p = by_last p
  stages_put {a = a} {c = c} {b = b} (both_stages s t e) (put_sequence h p q) =
      subst (λ ms. PutsThrough S ms a b c) (sym e) (through_append (shows_stages s h) (stages_put t p) (stages_put s q))

  -- ---- the stages that were passed, the last one first
  back_last : {ps : List (Bor Term × Option Tree)} (t : Bor Term) {b : Option Tree} {a m c : Tree} → Puts S (lens_of t.now) a b m → PutsBack S ps m c
      → PutsBack S (ps ++ (t, b) ∷ []) a c
  back_last t p put_by_none = put_by_more put_by_none p
  back_last t p (put_by_more r q) = put_by_more (back_last t p r) q

  back_cut : (ps : List (Bor Term × Option Tree)) (t : Bor Term) (b : Option Tree) (a c : Tree) → PutsBack S (ps ++ (t, b) ∷ []) a c
      → (m : Tree) × (Puts S (lens_of t.now) a b m × PutsBack S ps m c)
  back_cut [] t b a c (put_by_more put_by_none p) = (c, (p, put_by_none))
  back_cut (p ∷ ps) t b a c (put_by_more r q) = let rest = back_cut ps t b a _ r in (rest.0, (rest.1.0, put_by_more rest.1.1 q))

  cut : (l : Lens) (ls : List Lens) (last : Lens) (a : Tree) (b : Option Tree) (c : Tree) → PutsThrough S (l ∷ (ls ++ last ∷ [])) a b c
      → IsCut S l (ls ++ last ∷ []) a b c
  cut l [] last a b c (by_more {m = m} {n = n} s t p) = record { middle = n; made = m; shows = s; through = t; puts = p }
  cut l (k ∷ ls) last a b c (by_more {m = m} {n = n} s t p) = record { middle = n; made = m; shows = s; through = t; puts = p }

  by_one : (l : Lens) (a : Tree) (b : Option Tree) (c : Tree) → PutsThrough S (l ∷ []) a b c → Puts S l a b c
  by_one l a b c (by_last p) = p
  by_one l a b c (by_more s t p) = elim t [ ]

  -- ---- the loop that passes the stages
  pub none_passed : (l : Lens) (b : Option Tree) (stages front empty : List (Bor Term)) (last : Bor Term) (ps : List (Bor Term × Option Tree)) → empty ≡ []
      → AddsStages l empty stages → stages ≡ front ++ last ∷ [] → ps ≡ [] → ArePassed S l b (lenses front) (lens_of last.now) b ps
  none_passed l b stages front empty last ps nil are is none = record {
    all = λ a c p. (
      c,
      (
        subst (λ ls. PutsThrough S ls a b c) (map-append (λ (t : Bor Term). lens_of t.now) front (last ∷ []))
            (subst (λ ts. PutsThrough S (lenses ts) a b c) (sym (are.is ∙ ap (λ l. l ++ are.added) nil) ∙ is) (stages_put are.stages p)),
        subst (λ ps. PutsBack S ps c c) (sym none) put_by_none,
      ),
    );
  }

  module _ (l : Lens) (b : Option Tree) (ts : List (Bor Term)) (i : ℕ) (t : Bor Term) (last : Lens) (here : Option Tree) (ps : List (Bor Term × Option Tree))
      (below : i < length ts) (is : t ≡ get_or ts i t) (so : ArePassed S l b (lenses (drop i ts)) last here ps) where
    here_cut : lenses (drop i ts) ≡ lens_of t.now ∷ lenses (drop (suc i) ts)
    here_cut = ap lenses (drop-cons ts i t below ∙ ap (λ x. x ∷ drop (suc i) ts) (sym is))

    at_stage : (a c : Tree) → Puts S l a b c → (m : Tree) × (IsCut S (lens_of t.now) (lenses (drop (suc i) ts) ++ last ∷ []) a here m × PutsBack S ps m c)
    at_stage a c p =
        let w = so.all a c p in
        (w.0, (cut _ _ _ _ _ _ (subst (λ ls. PutsThrough S (ls ++ last ∷ []) a here w.0) here_cut w.1.0), w.1.1))

    pub stage_shown : CanPut S l b → IsShownBefore S (lens_of t.now) here
    stage_shown can = let w = at_stage can.view can.tree can.is in record { tree = w.1.0.middle; is = w.1.0.shows }

    pub one_passed : (next : Option Tree) (qs : List (Bor Term × Option Tree)) → ShowsBefore S (lens_of t.now) here next → qs ≡ ps ++ (t, here) ∷ []
        → ArePassed S l b (lenses (drop (i + 1) ts)) last next qs
    one_passed next qs s more = record { all = go }
      where
        go : (a c : Tree) → Puts S l a b c → (m : Tree) × (PutsThrough S (lenses (drop (i + 1) ts) ++ last ∷ []) a next m × PutsBack S qs m c)
        go a c p =
            let w = at_stage a c p in (
              w.1.0.made,
              (
                subst (λ n. PutsThrough S (lenses (drop (i + 1) ts) ++ last ∷ []) a n w.1.0.made) (one_before S w.1.0.shows s)
                    (subst (λ j. PutsThrough S (lenses (drop j ts) ++ last ∷ []) a w.1.0.middle w.1.0.made) (sym (add-one i)) w.1.0.through),
                subst (λ qs. PutsBack S qs w.1.0.made c) (sym more) (back_last t w.1.0.puts w.1.1),
              ),
            )

  pub all_passed : (l : Lens) (b : Option Tree) (left : List Lens) (last : Bor Term) (here : Option Tree) (ps qs : List (Bor Term × Option Tree))
      → ArePassed S l b left (lens_of last.now) here ps → left ≡ [] → qs ≡ ps ++ (last, here) ∷ [] → PutThrough S l b qs
  all_passed l b left last here ps qs so none more a c p =
      let w = so.all a c p in
      subst (λ qs. PutsBack S qs a c) (sym more)
      (back_last last (by_one _ _ _ _ (subst (λ ls. PutsThrough S (ls ++ lens_of last.now ∷ []) a here w.0) none w.1.0)) w.1.1)

  -- ---- the loop that puts, where the tree that comes of it is known
  pub can_put : (l : Lens) (v : Tree) (b : Option Tree) → IsPut S l v b → CanPut S l b
  can_put l v b h = record { view = v; tree = h.tree; is = h.is }

  pub here_put : (c : Tree) (all ps : List (Bor Term × Option Tree)) (t : Bor Term) (b : Option Tree) (a : Tree) → PutsBack S all a c
      → all ≡ ps ++ (t, b) ∷ [] → IsPut S (lens_of t.now) a b
  here_put c all ps t b a back is = let w = back_cut ps t b a c (subst (λ l. PutsBack S l a c) is back) in record { tree = w.0; is = w.1.0 }

  pub one_back : (c : Tree) (all ps : List (Bor Term × Option Tree)) (t : Bor Term) (b : Option Tree) (a m : Tree) → PutsBack S all a c
      → all ≡ ps ++ (t, b) ∷ [] → Puts S (lens_of t.now) a b m → PutsBack S ps m c
  one_back c all ps t b a m back is p =
      let w = back_cut ps t b a c (subst (λ l. PutsBack S l a c) is back) in subst (λ m. PutsBack S ps m c) (one_put S w.1.0 p) w.1.1

  pub back_done : (c : Tree) (all : List (Bor Term × Option Tree)) (a : Tree) → PutsBack S all a c → length all ≡ 0 → c ≡ a
  back_done c [] a put_by_none e = refl
  back_done c (p ∷ ps) a back e = absurd (omega arith)

  pub seq_puts : (l : Lens) (v : Tree) (b : Option Tree) (c m : Tree) → Puts S l v b c → c ≡ m → Puts S l v b m
  seq_puts l v b c m p e = subst (Puts S l v b) e p
