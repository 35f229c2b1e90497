-- A copied edge: the law of copy.
use Rattle.std.proofs.Common.{◌≡◌, Bool, true, false, cond, not, Option, Some, None, IfSome, refl, sym, ap, subst, ◌∙◌}
use Rattle.std.specs.Ordering.{eq_by_cmp}
use Rattle.std.proofs.lemmas.Option.{same_Some, none-some}
use Rattle.hm_tree.specs.Names.{Name, name_cmp}
use Rattle.hm_tree.specs.Nodes.{Tree, below, with_edge, without_edge}
use Rattle.std.specs.Str.{IsUtf8}
use Rattle.hm_terms.specs.Lenses.{copy, Setting}
use Rattle.hm_terms.specs.Shown.{Shows, by_copy}
use Rattle.hm_terms.specs.Put.{Puts, put_copy}
use Rattle.hm_terms.specs.Kept.{keeps_copy}
use Rattle.hm_terms.specs.Fitting.{Fits}
use Rattle.hm_tree_parts.proofs.Maps.{below-without, with_without, without_with}
use Rattle.hm_terms.proofs.Laws.{shown_one, put_one}

-- below the two names of a view the same stands, and a tree of the source is a view without the second one
module _ (S : Setting) (m n : Name) (text : IsUtf8 n) (C A : Tree → Type 0)
    (down : (c : Tree) → C c → (x : Tree) × (below m c ≡ Some x) × (below n c ≡ None)) (up : (c x : Tree) → C c → below m c ≡ Some x
    → A (with_edge n x c)) (back : (v : Tree) → A v → C (without_edge n v)) (twin : (v : Tree) → A v
    → (x : Tree) × (below m v ≡ Some x) × (below n v ≡ Some x)) where
  pub fits_copy : Fits S (copy m n) C A
  fits_copy = record {
    shows = λ c h. let x = down c h in shown_one S (copy m n) c (with_edge n x.0 c) (up c x.0 h x.1) (by_copy x.1 x.2 refl);
    puts = λ v b h g. put_one S (copy m n) v b (without_edge n v) (back v h) (put_copy refl);
    get_put = get_put;
    put_get = put_get;
    keeps = λ v b c h g p. keeps_copy;
  }
    where
      get_put : (c v : Tree) → C c → Shows S (copy m n) c v → Puts S (copy m n) v (Some c) c
      get_put c v h (by_copy {x = x} at none e) = put_copy (sym (ap (without_edge n) e ∙ without_with n x c text none))

      put_get : (v : Tree) (b : Option Tree) (c : Tree) → A v → IfSome b C → Puts S (copy m n) v b c → Shows S (copy m n) c v
      put_get v b c h g (put_copy e) =
          let t = twin v h in
          let d = down (without_edge n v) (back v h) in
          let same : d.0 ≡ t.0 = same_Some d.0 t.0 (sym d.1 ∙ kept d.0 d.1 (eq_by_cmp name_cmp n m) refl ∙ t.1) in
          subst (λ c. Shows S (copy m n) c v) (sym e) (by_copy (d.1 ∙ ap Some same) d.2 (with_without n t.0 v t.2))
        where
          kept : (x : Tree) → below m (without_edge n v) ≡ Some x → (q : Bool) → eq_by_cmp name_cmp n m ≡ q → below m (without_edge n v) ≡ below m v
          kept x at true f = absurd (none-some x (sym (below-without n v m ∙ ap (λ b. cond (not b) (below m v) None) f) ∙ at))
          kept x at false f = below-without n v m ∙ ap (λ b. cond (not b) (below m v) None) f
