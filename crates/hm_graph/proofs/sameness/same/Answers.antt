use Rattle.std.proofs.Common.{◌≡◌, ◌≢◌, ◌<◌, ◌+◌, ◌++◌, ◌∷◌, [], ℕ, length, get_or, set, refl, sym, ap, subst, ◌∙◌, arith, List, Some, length-append}
use mathlib.Core.Bool.{false≢true}
use Rattle.std.specs.List.{zip}
use Rattle.std.proofs.lemmas.Option.{same_Some}
use Rattle.hm_graph.specs.declared.sameness.Vertex.{Vertex}
use Rattle.hm_graph.specs.Same.{Graph, IsClosed, AreAlike, label_at, next_at}
use Rattle.hm_graph.proofs.Alike.{same_alike}
use Rattle.hm_graph.proofs.Search.{IsSearch, IsStep, search_begins, search_joined, search_fails, search_linked, label_read, next_read}
use Rattle.hm_graph.proofs.Ends.{search_ends}
use Rattle.hm_graph.proofs.Owed.{owed, owes_less, owed_shortened}
use Rattle.hm_graph.proofs.Shortened.{step_begins}
use Rattle.hm_graph.proofs.sameness.same.Goals as goal
use Rattle.hm_facts.proofs.Lists.{no_items}

pub loop-first-init : goal.loop-first-init
loop-first-init c =
    subst (IsSearch c.args.graph.now c.args.one c.args.two c.in_ok-parents.parents.items)
    (ap (λ l. l ++ (c.args.one, c.args.two) ∷ []) (sym c.new-todo.ensures.items) ∙ sym c.in_ok-push.ensures.items)
    (search_begins c.args.graph.now c.args.one c.args.two c.in_ok-parents.parents.items c.in_ok-parents.ensures.count
    c.in_ok-parents.ensures.itself c.requires.one c.requires.two)

pub loop-first-preserved-then-low-high : goal.loop-first-preserved-then-low-high
loop-first-preserved-then-low-high c =
    search_joined (step_begins c.loop-first.invariant c.in-Some.ensures.items c.roots-low.ensures.shortened c.roots-low.ensures.roots)
    c.if-low-high.true

pub loop-first-smaller-then-low-high : goal.loop-first-smaller-then-low-high
loop-first-smaller-then-low-high c =
    let same_owed = owed_shortened c.loop-first.parents.items c.roots-low.new.parents.items c.args.graph.now c.roots-low.ensures.shortened in
    let old = ap length c.in-Some.ensures.items in
    omega (arith, same_owed, old, length-append c.pop.new.self.items ((c.in-Some.first, c.in-Some.second) ∷ []))

-- a pair of roots that look different
differ : {g : Graph} {i j : ℕ} {parents : List ℕ} {todo : List (ℕ × ℕ)} {a b low high : ℕ} (v w : Vertex) → IsStep g i j parents todo a b low high
    → v ≡ get_or g low v → w ≡ get_or g high w → ¬ ((v.label ≡ w.label) × (length v.next.items ≡ length w.next.items)) → ¬ (AreAlike g i j)
differ {g} {low = low} {high = high} v w s is_low is_high off =
    let lt : low < length g = omega (arith, s.order, s.in_range) in
    search_fails s (λ e. off (
      same_Some _ _ (sym (label_read g low v lt is_low) ∙ e.0 ∙ label_read g high w s.in_range is_high),
      sym (ap length (next_read g low v lt is_low)) ∙ e.1 ∙ ap length (next_read g high w s.in_range is_high),
    ))

pub returns-then-not-alike-clause-alike : goal.returns-then-not-alike-clause-alike
returns-then-not-alike-clause-alike c = (
  λ f. absurd (false≢true f),
  λ h. absurd (differ c.index-graph-low.result c.index-graph-high.result
      (step_begins c.loop-first.invariant c.in-Some.ensures.items c.roots-low.ensures.shortened c.roots-low.ensures.roots)
      c.index-graph-low.is c.index-graph-high.is (λ e. false≢true (c.if-not-alike.ensures.1 e)) h),
)

pub returns-then-not-alike-clause-same : goal.returns-then-not-alike-clause-same
returns-then-not-alike-clause-same c = (
  λ f. absurd (false≢true f),
  λ s. (returns-then-not-alike-clause-alike c).1 (same_alike _ _ _ s),
)

-- two roots are joined, where what the code reads of them, v and w, is alike, and the pairs of p and q are pushed
module _ {g : Graph} {i j : ℕ} {parents : List ℕ} {todo : List (ℕ × ℕ)} {a b low high : ℕ} (v w : Vertex) (s : IsStep g i j parents todo a b low high)
    (closed : IsClosed g) (is_low : v ≡ get_or g low v) (is_high : w ≡ get_or g high w)
    (like : (v.label ≡ w.label) × (length v.next.items ≡ length w.next.items))
    (p q : List ℕ) (is_p : p ≡ next_at g low) (is_q : q ≡ next_at g high) (new : List (ℕ × ℕ)) (pushed : new ≡ todo ++ zip p q) where
  counts : length (next_at g low) ≡ length (next_at g high)
  counts = ap length (next_read g low v (omega (arith, s.order, s.in_range)) is_low) ∙ like.1 ∙ sym (ap length (next_read g high w s.in_range is_high))

  pairs : todo ++ zip (next_at g low) (next_at g high) ≡ new
  pairs =
      let e : zip p q ≡ zip (next_at g low) (next_at g high) = λ t. zip (is_p t) (is_q t) in
      sym (pushed ∙ ap (λ l. todo ++ l) e)

  linked : IsSearch g i j (set parents high low) new
  linked =
      let label : label_at g low ≡ label_at g high =
      label_read g low v (omega (arith, s.order, s.in_range)) is_low ∙ ap Some like.0 ∙ sym (label_read g high w s.in_range is_high) in
      subst (IsSearch g i j (set parents high low)) pairs (search_linked s closed label counts)

  less : low ≢ high → length new + owed 0 (set parents high low) g < length (todo ++ (a, b) ∷ []) + owed 0 parents g
  less ne =
      subst (λ l. length l + owed 0 (set parents high low) g < length (todo ++ (a, b) ∷ []) + owed 0 parents g) pairs
      (owes_less g parents todo (a, b) low high (omega (arith, s.in_range, s.search.forest.size)) s.root ne counts)

-- what is lent of a vertex is where its edges lead
lent : (g : Graph) (i : ℕ) (v : Vertex) (p : List ℕ) → i < length g → v ≡ get_or g i v → p ≡ (get_or g i v).next.items
    → p ≡ next_at g i
lent g i v p lt is e = e ∙ sym (ap (λ (v : Vertex). v.next.items) is) ∙ sym (next_read g i v lt is)

pub loop-first-preserved : goal.loop-first-preserved
loop-first-preserved c =
    let s = step_begins c.loop-first.invariant c.in-Some.ensures.items c.roots-low.ensures.shortened c.roots-low.ensures.roots in
    linked c.index-graph-low.result c.index-graph-high.result s c.requires.closed c.index-graph-low.is c.index-graph-high.is
    (c.if-not-alike.ensures.0 refl) c.deref.result.now c.deref-in-Some.result.now
    (lent c.args.graph.now c.roots-low.result.0 c.index-graph-low-in-Some.result c.deref.result.now (omega (arith, s.order, s.in_range))
    c.index-graph-low-in-Some.is c.deref.ensures.value)
    (lent c.args.graph.now c.roots-low.result.1 c.index-graph-high-in-Some.result c.deref-in-Some.result.now s.in_range
    c.index-graph-high-in-Some.is c.deref-in-Some.ensures.value)
    c.push_pairs.new.todo.items c.in_ok-push_pairs.ensures

pub loop-first-smaller : goal.loop-first-smaller
loop-first-smaller c =
    let s = step_begins c.loop-first.invariant c.in-Some.ensures.items c.roots-low.ensures.shortened c.roots-low.ensures.roots in
    let fewer = less c.index-graph-low.result c.index-graph-high.result s c.requires.closed c.index-graph-low.is c.index-graph-high.is
    (c.if-not-alike.ensures.0 refl) c.deref.result.now c.deref-in-Some.result.now
    (lent c.args.graph.now c.roots-low.result.0 c.index-graph-low-in-Some.result c.deref.result.now (omega (arith, s.order, s.in_range))
    c.index-graph-low-in-Some.is c.deref.ensures.value)
    (lent c.args.graph.now c.roots-low.result.1 c.index-graph-high-in-Some.result c.deref-in-Some.result.now s.in_range
    c.index-graph-high-in-Some.is c.deref-in-Some.ensures.value)
    c.push_pairs.new.todo.items c.in_ok-push_pairs.ensures c.if-low-high.false in
    let same_owed = owed_shortened c.loop-first.parents.items c.roots-low.new.parents.items c.args.graph.now c.roots-low.ensures.shortened in
    let old = ap length c.in-Some.ensures.items in
    omega (arith, fewer, same_owed, old)

pub returns-clause-same : goal.returns-clause-same
returns-clause-same c =
    let none = c.in_default.ensures.cases.0 in
    let empty : c.loop-first.todo.items ≡ [] = no_items c.loop-first.todo.items (omega arith) in (
      λ _. search_ends c.args.graph.now c.args.one c.args.two c.loop-first.parents.items c.requires.closed c.requires.one c.requires.two
          (subst (IsSearch c.args.graph.now c.args.one c.args.two c.loop-first.parents.items) empty c.loop-first.invariant),
      λ _. refl,
    )

pub returns-clause-alike : goal.returns-clause-alike
returns-clause-alike c = (λ t. same_alike _ _ _ ((returns-clause-same c).0 t), λ _. refl)
