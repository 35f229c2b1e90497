-- What is read of a node, edge by edge.
use Rattle.std.proofs.Common.{◌≡◌, ℕ, ◌+◌, ◌<◌, ◌≤◌, Bool, true, false, T, List, [], ◌∷◌, ◌++◌, length, take, drop, Some, refl, sym, ap, subst, ◌∙◌, arith, inl, inr, length-append}
use Rattle.std.proofs.lemmas.List.{take_all, drop_all, take-append-le, drop-append-le}
use Rattle.std.specs.List.{AllByRecursion}
use Rattle.hm_tree.specs.Names.{Name}
use Rattle.hm_tree.specs.Nodes.{Node, node, are_edges, depth, deepest}
use Rattle.hm_tree.specs.NodeLaws.{edges-node, depth-node}
use Rattle.hm_tree.specs.Archives.{Archive}
use Rattle.hm_tree_text.specs.declared.fault.TextFault.{TextFault}
use Rattle.hm_tree_text.specs.declared.fault.TextFault.TheVariants.{BadTree, TooDeep, Memory}
use Rattle.hm_tree_text.specs.Text.{edge_text, separator, inside, commas}
use Rattle.hm_tree_text.specs.Reading.{StandsAt, IsEdge, IsInside, BeginsWith, IsEdgeRead, IsInsideRead}
use Rattle.hm_tree_text.specs.Failing.{Fails, OpensInside, OpensEdge}
use Rattle.hm_tree_text.specs.Pending.{valued_edges, MakeNode}
use Rattle.hm_tree_text.proofs.Parts.{fault_behind}
use Rattle.hm_tree_text.proofs.Behind.{edges_behind}
use Rattle.hm_tree_text.proofs.Listed.{Edges, commas_last, inside_last, IsAllowedEdge, all_last}
use Rattle.hm_tree_text.proofs.Forms.{edge_inside, inside_edge, listed_marks}
use Rattle.hm_tree_text.proofs.Deep.{deep_edge, edge_deep}
use Rattle.hm_tree_text.proofs.Making.{valued-last, make_last}

-- ---- the edges of a node: what was read of it since its brace, with a comma behind each

pub record Gathered (m : Bool) (room : ℕ) (bytes : List ℕ) (start : ℕ) (es : Edges) (end : ℕ) : Type 0 where
  pub edges : T (are_edges es)
  pub marks : AllByRecursion (IsAllowedEdge m) es
  pub shallow : deepest es ≤ room + 1
  pub stands : StandsAt bytes start (commas es) end

module _ (m : Bool) (room : ℕ) (bytes : List ℕ) (start : ℕ) where
  gathered_nothing : start ≤ length bytes → Gathered m room bytes start [] start
  gathered_nothing le = record { edges = tt; marks = tt; shallow = omega arith; stands = record { spelled = refl; within = le } }

  module _ (es : Edges) (end : ℕ) (g : Gathered m room bytes start es end) where
    module _ (name : Name) (added : Archive) (more : Bool) (next : ℕ) (e : IsEdgeRead m room es bytes end name added more next) where
      abbrev with_last : Edges
      with_last = es ++ (name, e.child) ∷ []

      edges_last : T (are_edges with_last)
      edges_last = edges_behind name e.child es g.edges e.is_text e.after

      marks_last : AllByRecursion (IsAllowedEdge m) with_last
      marks_last = all_last m es (name, e.child) g.marks e.read.marks

      deepest_last : (es : Edges) (c : Node true) (n : ℕ) → deepest es ≤ n → depth c + 1 ≤ n → deepest (es ++ (name, c) ∷ []) ≤ n
      deepest_last [] c n h d = omega arith
      deepest_last (f ∷ es) c n h d = let l = deepest_last es c n (omega arith) d in omega arith

      shallow_last : deepest with_last ≤ room + 1
      shallow_last = deepest_last es e.child (room + 1) g.shallow (let s = e.read.shallow in omega arith)

      gathered_last : more ≡ true → Gathered m room bytes start with_last next
      gathered_last comma = record {
        edges = edges_last;
        marks = marks_last;
        shallow = shallow_last;
        stands = record {
          spelled = g.stands.spelled ∙ ap (λ l. commas es ++ l)
              (e.stands.spelled ∙ ap (λ b. (edge_text name e.child.shape ++ separator b ∷ []) ++ drop next bytes) comma)
              ∙ sym (commas_last es (name, e.child) (drop next bytes));
          within = e.stands.within;
        };
      }

      gathered_whole : more ≡ false → (value : Archive) → value ≡ Some (node with_last) → IsInsideRead m (room + 1) bytes start value next
      gathered_whole brace value is = record {
        node = node with_last;
        read = record {
          is = is;
          marks = listed_marks m with_last edges_last marks_last;
          shallow = let d = depth-node with_last edges_last in
              let s = shallow_last in omega arith;
        };
        some = subst (λ (es : Edges). 0 < length es) (sym (edges-node with_last edges_last))
            (let l = length-append es ((name, e.child) ∷ []) in omega arith);
        stands = record {
          spelled = g.stands.spelled ∙ ap (λ l. commas es ++ l)
              (e.stands.spelled ∙ ap (λ b. (edge_text name e.child.shape ++ separator b ∷ []) ++ drop next bytes) brace)
              ∙ inside_last es (name, e.child) (drop next bytes) ∙ ap (λ (es : Edges). inside es ++ drop next bytes)
              (sym (edges-node with_last edges_last));
          within = e.stands.within;
        };
      }

    -- where no edge follows, the node doesn't go on
    pub edge_fails : start ≤ length bytes → (fault : TextFault) → Fails (IsEdge m es) (OpensEdge m room es) bytes end fault
        → Fails (IsInside m) (OpensInside m room) bytes start fault
    edge_fails le (BadTree at) f = (
      fault_behind (IsEdge m es) (IsInside m) (λ _. Unit {0}) (commas es) (edge_inside m es g.edges g.marks) (λ y _. inside_edge m es y) bytes
          start end at le g.stands tt (λ _ _ _ _ _. tt) f.0,
      λ d. elim (deep_edge m room es (drop end bytes) g.shallow (subst (BeginsWith (OpensInside m room)) g.stands.spelled d))
          [ inl o ↦ f.1 o | inr e ↦ f.0.longest.none e ],
    )
    edge_fails le TooDeep f =
        let same = edges-node es g.edges in
        subst (BeginsWith (OpensInside m room)) (sym g.stands.spelled)
        (subst (λ (l : Edges). BeginsWith (OpensInside m room) (commas l ++ drop end bytes)) same
        (edge_deep m room (node es) (listed_marks m es g.edges g.marks) (drop end bytes)
        (subst (λ (l : Edges). BeginsWith (OpensEdge m room l) (drop end bytes)) (sym same) f)))
    edge_fails le Memory f = tt

-- ---- the same of pending edges, behind those of the nodes around

pub record Stacked {X : Type 0} (value : X → Archive) (m : Bool) (room : ℕ) (bytes : List ℕ) (at : ℕ) (around now : List (Name × X))
    (start end : ℕ) : Type 0 where
  pub from : start ≤ length now
  pub around_kept : take start now ≡ around
  pub make : MakeNode value (drop start now)
  pub gathered : Gathered m room bytes at (valued_edges value (drop start now)) end

module _ {X : Type 0} (value : X → Archive) (m : Bool) (room : ℕ) (bytes : List ℕ) (at : ℕ) (around : List (Name × X)) (start : ℕ) where
  pub gathered_none : start ≡ length around → at ≤ length bytes → Stacked value m room bytes at around around start at
  gathered_none is le = record {
    from = omega arith;
    around_kept = take_all start around (omega arith);
    make = subst (MakeNode value) (sym none) (record { all_there = tt; edges = tt });
    gathered = subst (λ (es : List (Name × X)). Gathered m room bytes at (valued_edges value es) at) (sym none) (gathered_nothing m room bytes at le);
  }
    where
      none : drop start around ≡ []
      none = drop_all start around (omega arith)

module _ {X : Type 0} (value : X → Archive) (m : Bool) (room : ℕ) (bytes : List ℕ) (at : ℕ) (around now : List (Name × X)) (start : ℕ) where
  module _ (end : ℕ) (s : Stacked value m room bytes at around now start end) (name : Name) (child : X) (more : Bool) (next : ℕ)
      (e : IsEdgeRead m room (valued_edges value (drop start now)) bytes end name (value child) more next) (held new : List (Name × X))
      (same : held ≡ now) (pushed : new ≡ held ++ (name, child) ∷ []) where
    new_is : new ≡ now ++ (name, child) ∷ []
    new_is = pushed ∙ ap (λ l. l ++ (name, child) ∷ []) same

    new_from : start ≤ length new
    new_from = let l = ap length new_is in let k = length-append now ((name, child) ∷ []) in let f = s.from in omega arith

    new_around : take start new ≡ around
    new_around = ap (take start) new_is ∙ take-append-le start now ((name, child) ∷ []) s.from ∙ s.around_kept

    new_own : drop start new ≡ drop start now ++ (name, child) ∷ []
    new_own = ap (drop start) new_is ∙ drop-append-le start now ((name, child) ∷ []) s.from

    new_edges : valued_edges value (drop start new) ≡ valued_edges value (drop start now) ++ (name, e.child) ∷ []
    new_edges = ap (valued_edges value) new_own ∙ valued-last value (drop start now) name child e.child e.read.is

    new_make : MakeNode value (drop start new)
    new_make = subst (MakeNode value) (sym new_own) (make_last value (drop start now) name child e.child e.read.is s.make e.is_text e.after)

    pub taken_make : (taken : List (Name × X)) → taken ≡ drop start new → MakeNode value taken
    taken_make taken whole = subst (MakeNode value) (sym whole) new_make

    pub gathered_more : more ≡ true → Stacked value m room bytes at around new start next
    gathered_more comma = record {
      from = new_from;
      around_kept = new_around;
      make = new_make;
      gathered = subst (λ (l : Edges). Gathered m room bytes at l next) (sym new_edges)
          (gathered_last m room bytes at _ end s.gathered name (value child) more next e comma);
    }

    pub gathered_all : more ≡ false → (built : Archive) (taken : List (Name × X)) → taken ≡ drop start new
        → built ≡ Some (node (valued_edges value taken)) → IsInsideRead m (room + 1) bytes at built next
    gathered_all brace built taken whole is =
        gathered_whole m room bytes at _ end s.gathered name (value child) more next e brace built
        (is ∙ ap (λ (l : List (Name × X)). Some (node (valued_edges value l))) whole ∙ ap (λ (l : Edges). Some (node l)) new_edges)
