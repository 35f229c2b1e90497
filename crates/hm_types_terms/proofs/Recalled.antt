-- Views that are remembered.
use Rattle.std.proofs.Common.{◌≡◌, ◌<◌, ℕ, length, slice_get, Some, inl, inr, sym, ap, subst, ◌∙◌}
use Rattle.hm_schema.specs.declared.node.NodeId.{NodeId}
use Rattle.hm_terms.specs.Lenses.{Lens}
use Rattle.hm_types_table.specs.Tables.{Nodes}
use Rattle.hm_types_terms.specs.declared.course.Course.{Course}
use Rattle.hm_types_terms.specs.declared.memo.Memo.{Memo}
use Rattle.hm_types_terms.specs.Numbers.{parts_of}
use Rattle.hm_types_terms.specs.Memos.{Knows, Remembers}
use Rattle.std.proofs.lemmas.Option.{same_Some}
use Rattle.hm_types_terms.specs.Courses.{scope_of, lenses_in, IsView, IsReady, IsGrown}
use Rattle.hm_types_terms.proofs.Growing.{inside, view_after}

-- the lens with a number is remembered under a place, at which an equal one stands
module _ (c : Course) (old : Nodes) (known : Memo) (l : Lens) (n p : ℕ) (i : NodeId) (like : slice_get (lenses_in c) p ≡ Some l) where
  pub recalled : (j : NodeId) → IsReady c old known (parts_of l) n i → Knows known p i j → IsView (scope_of c) old old l i j
  recalled j r e = r.memo.each p i j e l like

  module _ (r : IsReady c old known (parts_of l) n i) (new : Nodes) (some more : Memo) (j : NodeId) (g : IsGrown c old new some)
      (v : IsView (scope_of c) old new l i j) (put : Remembers some more p i j) where
    pub remembered : IsGrown c old new more
    remembered = record {
      formed = g.formed;
      extends = g.extends;
      memo = record {
        in_range = λ m a b e. elim (put.each m a b e) [
          | inl f ↦ g.memo.in_range m a b f
          | inr f ↦ subst (λ (a : NodeId). a.place < length new) (sym f.1) (inside old new r.start.formed g.extends i r.start.in_range)
        ];
        each = λ m a b e k s. elim (put.each m a b e) [
          | inl f ↦ g.memo.each m a b f k s
          | inr f ↦
              let same : k ≡ l = same_Some k l (sym s ∙ ap (slice_get (lenses_in c)) f.0 ∙ like) in
              subst (λ k. IsView (scope_of c) new new k a b) (sym same)
              (subst (λ (a : NodeId). IsView (scope_of c) new new l a b) (sym f.1)
              (subst (λ (b : NodeId). IsView (scope_of c) new new l i b) (sym f.2)
              (view_after old new r.start.formed g.extends (scope_of c) r.start.declared new l i j r.start.in_range v)))
        ];
      };
    }
