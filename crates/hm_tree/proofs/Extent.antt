-- Two trees, archives or missing sides with the same states are equal.
use Rattle.std.proofs.Common.{◌≡◌, ◌≢◌, ℕ, zero, suc, ◌<◌, Bool, true, false, cond, [], ◌∷◌, Option, Some, None, refl, sym, ap, ◌∙◌, arith}
use mathlib.Core.Bool.{true≢false}
use Rattle.std.specs.FinMap.Entries.{same_entries}
use Rattle.hm_tree.specs.declared.archive.State.TheVariants.{Missing, Present, Marked}
use Rattle.hm_tree.specs.Names.{Name, name_cmp}
use Rattle.hm_tree.specs.Nodes.{Shape, bare, mark, edge, Node, Tree, is_mark, is_marked, below, edges, depth}
use Rattle.hm_tree.specs.NodeLaws.{same_node, edges_sorted, same_edges}
use Rattle.hm_tree.specs.States.{state, Path}
use Rattle.hm_tree.proofs.Sorted.{name_total, name_one}
use Rattle.hm_tree.proofs.Depths.{depth_below}

is_the_mark : (s : Shape) → is_mark s ≡ true → s ≡ mark
is_the_mark bare e = absurd (true≢false (sym e))
is_the_mark mark e = refl
is_the_mark (edge n c r) e = absurd (true≢false (sym e))

module _ {m : Bool} where
  marks_same : (t u : Node m) → is_marked t ≡ true → is_marked u ≡ true → t ≡ u
  unfolding is_marked
  marks_same t u a b = same_node t u (is_the_mark t.shape a ∙ sym (is_the_mark u.shape b))

  -- what stands at the root isn't missing
  pub stands : (t : Node m) → state (Some t) [] ≢ Missing
  stands t e = go (is_marked t) e
    where
      go : (b : Bool) → cond b Marked Present ≡ Missing → ⊥
      go true e = cc
      go false e = cc

  options : (x y : Option (Node m)) → ((c d : Node m) → x ≡ Some c → ((p : Path) → state (Some c) p ≡ state (Some d) p) → c ≡ d)
      → ((p : Path) → state x p ≡ state y p) → x ≡ y
  options None None nodes same = refl
  options (Some c) None nodes same = absurd (stands c (same []))
  options None (Some d) nodes same = absurd (stands d (sym (same [])))
  options (Some c) (Some d) nodes same = ap Some (nodes c d refl same)

  -- by the depth of the first
  same_upto : (n : ℕ) (t u : Node m) → depth t < n → ((p : Path) → state (Some t) p ≡ state (Some u) p) → t ≡ u
  same_upto zero t u h same = absurd (omega arith)
  same_upto (suc n) t u h same = go (λ c d l s. same_upto n c d l s) (is_marked t) (is_marked u) refl refl
    where
      unlike : (b w : Bool) → is_marked t ≡ b → is_marked u ≡ w → cond b Marked Present ≡ cond w Marked Present
      unlike b w a e = sym (ap (λ x. cond x Marked Present) a) ∙ same [] ∙ ap (λ x. cond x Marked Present) e

      next : (t : Node m) (k : Name) (p : Path) → is_marked t ≡ false → state (Some t) (k ∷ p) ≡ state (below k t) p
      next t k p e = ap (λ x. cond x Marked (state (below k t) p)) e

      go : ((c d : Node m) → depth c < n → ((p : Path) → state (Some c) p ≡ state (Some d) p) → c ≡ d) → (b w : Bool) → is_marked t ≡ b
          → is_marked u ≡ w → t ≡ u
      go nodes true true a e = marks_same t u a e
      go nodes true false a e = let no : Marked ≡ Present = unlike true false a e in let f : ⊥ = cc in absurd f
      go nodes false true a e = let no : Present ≡ Marked = unlike false true a e in let f : ⊥ = cc in absurd f
      go nodes false false a e =
          same_edges t u a e
          (same_entries name_cmp name_total name_one (edges t) (edges u) (edges_sorted t) (edges_sorted u)
          (λ k. options (below k t) (below k u) (λ c d is s. nodes c d (let l = depth_below k t c is in omega arith) s)
          (λ p. sym (next t k p a) ∙ same (k ∷ p) ∙ next u k p e)))

  same_nodes : (t u : Node m) → ((p : Path) → state (Some t) p ≡ state (Some u) p) → t ≡ u
  same_nodes t u same = same_upto (suc (depth t)) t u (omega arith) same

  pub same_option : (x y : Option (Node m)) → ((p : Path) → state x p ≡ state y p) → x ≡ y
  same_option x y same = options x y (λ c d is s. same_nodes c d s) same

pub same_tree : (t u : Tree) → ((p : Path) → state (Some t) p ≡ state (Some u) p) → t ≡ u
same_tree t u same = same_nodes t u same
