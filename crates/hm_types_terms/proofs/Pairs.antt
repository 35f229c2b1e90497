-- Two lenses inside one.
use Rattle.std.proofs.Common.{◌≡◌, ◌+◌, ℕ, ◌++◌, ◌≤◌, length, inl, inr, sym, subst, arith}
use Rattle.hm_schema.specs.declared.node.NodeId.{NodeId}
use Rattle.hm_terms.specs.Lenses.{Lens, sequence}
use Rattle.hm_types_forms.specs.Forms.{form}
use Rattle.hm_types_forms.specs.Sound.{IsSound}
use Rattle.hm_types_rules.specs.Typing.{goes_sequence}
use Rattle.hm_types_rules.specs.Faults.{At, Faults, size_of, fault_first, fault_second}
use Rattle.hm_types_table.specs.Tables.{Nodes}
use Rattle.hm_types_terms.specs.declared.course.Course.{Course}
use Rattle.hm_types_terms.specs.declared.memo.Memo.{Memo}
use Rattle.hm_types_terms.specs.Numbers.{StandFrom, parts_of}
use Rattle.hm_types_terms.specs.Courses.{scope_of, Scope, lenses_in, IsView, IsReady, IsNumbered, IsGrown, IsAt}
use Rattle.hm_types_terms.specs.Pairs.{ArePairReady, ArePairViews, IsPairAt}
use Rattle.hm_types_terms.proofs.Standing.{count, stand_inside, stand_first, stand_second}
use Rattle.hm_types_table.proofs.Grown.{extends_length}
use Rattle.hm_types_terms.proofs.Growing.{types_grown, same_form, view_before, view_later, view_sound, fault_before, ready_at}

module _ (c : Course) (n : ℕ) (l k : Lens) where
  abbrev pub scope : Scope
  scope = (scope_of c)

  -- the second lens stands behind the first one and all in it
  behind_first : StandFrom (lenses_in c) (n + 1) (parts_of l ++ parts_of k) → StandFrom (lenses_in c) (n + 1 + size_of l) (parts_of k)
  behind_first s = subst (λ m. StandFrom (lenses_in c) (n + 1 + m) (parts_of k)) (count l) (stand_second (lenses_in c) (n + 1) (parts_of l) (parts_of k) s)

  -- ---- each at a node of its own

  module _ (old : Nodes) (known : Memo) (p q : NodeId) (r : ArePairReady c old known l k n p q) where
    pub first_numbered : IsNumbered c (n + 1)
    first_numbered = record { lens = l; stand = r.first.stand; sized = r.first.sized }

    pub second_ready : (mid : Nodes) (more : Memo) (m : ℕ) → IsGrown c old mid more → m ≡ n + 1 + size_of l → IsReady c mid more (parts_of k) m q
    second_ready mid more m g e =
        ready_at c old known (parts_of l) (n + 1) p r.first mid more (parts_of k) m q g (omega (arith, r.in_range, grows))
        (subst IsSound (sym (same_form old mid r.first.start.formed g.extends q r.in_range)) r.sound)
        (subst (λ m. StandFrom (lenses_in c) m (parts_of k)) (sym e) (behind_first r.stand))
      where
        grows : length old ≤ length mid
        grows = extends_length old mid g.extends

    pub pair_views : (mid new : Nodes) (some more : Memo) (x y : NodeId) → IsGrown c old mid some → IsGrown c mid new more → IsView scope old mid l p x
        → IsView scope mid new k q y → ArePairViews scope old new l k p q x y
    pair_views mid new some more x y g h v w = record {
      first = view_later mid new g.formed h.extends scope old l p x v;
      second = view_before old mid r.first.start.formed g.extends scope r.first.start.declared new k q y r.in_range w;
    }

    pub first_at : (a : At) → IsAt scope old l (n + 1) p a → IsPairAt scope old l k n p q a
    first_at a f types t = inl (f types t)

    pub second_at : (mid : Nodes) (some : Memo) (x : NodeId) (m : ℕ) → IsGrown c old mid some → IsView scope old mid l p x → m ≡ n + 1 + size_of l
        → (a : At) → IsAt scope mid k m q a → IsPairAt scope old l k n p q a
    second_at mid some x m g v e a f types t =
        inr (
          form mid x,
          (
            v.goes types t,
            subst (λ m. Faults types k m (form old q) a) e
                (fault_before old mid r.first.start.formed g.extends scope r.first.start.declared k m q a r.in_range f types t),
          ),
        )

  -- ---- one after the other

  module _ (old : Nodes) (known : Memo) (i : NodeId) (r : IsReady c old known (parts_of (sequence l k)) n i) where
    inside_stand : StandFrom (lenses_in c) (n + 1) (parts_of l ++ parts_of k)
    inside_stand = stand_inside (lenses_in c) n (sequence l k) (parts_of l ++ parts_of k) r.stand

    pub sequence_ready : IsReady c old known (parts_of l) (n + 1) i
    sequence_ready = record {
      start = r.start;
      memo = r.memo;
      stand = stand_first (lenses_in c) (n + 1) (parts_of l) (parts_of k) inside_stand;
      sized = r.sized;
      rows = r.rows;
    }

    pub sequence_numbered : IsNumbered c (n + 1)
    sequence_numbered = record { lens = l; stand = sequence_ready.stand; sized = r.sized }

    module _ (mid : Nodes) (some : Memo) (m : NodeId) (g : IsGrown c old mid some) (v : IsView scope old mid l i m) (number : ℕ) (e : number ≡ n + 1 + size_of l) where
      pub then_ready : IsReady c mid some (parts_of k) number m
      then_ready = ready_at c old known (parts_of (sequence l k)) n i r mid some (parts_of k) number m g v.in_range
          (view_sound old scope r.start.declared mid l i m r.start.sound v)
          (subst (λ m. StandFrom (lenses_in c) m (parts_of k)) (sym e) (behind_first inside_stand))

      pub sequence_view : (new : Nodes) (j : NodeId) → IsView scope mid new k m j → IsView scope old new (sequence l k) i j
      sequence_view new j w = record {
        in_range = w.in_range;
        goes = λ types t. goes_sequence (v.goes types t) (w.goes types (types_grown old mid r.start.formed g.extends scope r.start.declared types t));
      }

      pub sequence_second_at : (a : At) → IsAt scope mid k number m a → IsAt scope old (sequence l k) n i a
      sequence_second_at a f types t = fault_second (v.goes types t)
          (subst (λ m'. Faults types k m' (form mid m) a) e (f types (types_grown old mid r.start.formed g.extends scope r.start.declared types t)))

    pub sequence_first_at : (a : At) → IsAt scope old l (n + 1) i a → IsAt scope old (sequence l k) n i a
    sequence_first_at a f types t = fault_first (f types t)
