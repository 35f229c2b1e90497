-- Each form of the grammar behind a part of another: what one goes on with, the other goes on with.
use Rattle.std.proofs.Common.{◌≡◌, ℕ, zero, suc, ◌<◌, ◌⊎◌, inl, inr, Bool, true, false, T, List, [], ◌∷◌, ◌++◌, ◌&&◌, length, get_or, Option, refl, sym, ap, subst, ◌∙◌, append_assoc, arith, length-append}
use Rattle.std.proofs.lemmas.List.{append-nil}
use Rattle.std.specs.List.{AllByRecursion}
use Rattle.std.specs.Str.{IsUtf8}
use Rattle.std.proofs.lemmas.Str.{IsUtf8-from_ascii}
use Rattle.hm_tree.specs.Names.{Name}
use Rattle.std.specs.Ordering.{is_lt}
use Rattle.hm_tree.specs.Nodes.{Shape, bare, mark, edge, Node, edges, node, empty, both, first, second, are_edges, edges_rise, edges_cons}
use Rattle.hm_tree.specs.NodeLaws.{edges-node, edges_are, is_marked-node}
use Rattle.hm_tree_spelling.specs.Spelling.{spelled}
use Rattle.hm_tree.proofs.Texts.{text_test}
use Rattle.hm_tree_spelling.specs.SpellingLaws.{spelled_one}
use Rattle.hm_tree_text.specs.Text.{whole, below, text, HasAllowedMarks, edge_text, separator, is_more, inside, commas}
use Rattle.hm_tree_text.specs.Begun.{IsBegun}
use Rattle.hm_tree_text.specs.Reading.{is_behind, IsAfter, IsName, IsSeparator, IsEdge, IsBelow, IsFull, IsInside, IsWhole, BeginsWith, IsLongestPart}
use Rattle.hm_tree_text.proofs.Spelling.{tails, apart, IsOver, over_separator, no_colon}
use Rattle.hm_tree_text.proofs.Parts.{nothing_here, IsNot}
use Rattle.hm_tree_text.proofs.Behind.{behind_sorted, edges_behind, text_among, behind_more, longer, longer_greater, longer_text}
use Rattle.hm_tree_text.proofs.Listed.{Edges, shape_empty, none_shape, whole_some, below_full, has_edges, commas_last, inside_last, remaining, IsAllowedEdge, marks_from_edges, edges_from_marks, all_last, all_among}

pub empty_marks : (m : Bool) → HasAllowedMarks m (empty {m = true}).shape
empty_marks m = subst (HasAllowedMarks m) (sym shape_empty) tt

below_empty : text below (empty {m = true}).shape ≡ []
below_empty = ap (text below) shape_empty

bare_text : (n : Name) → edge_text n (empty {m = true}).shape ≡ spelled n
bare_text n = ap (λ l. spelled n ++ l) below_empty ∙ append-nil (spelled n)

-- ---- a name begins an edge

module _ (m : Bool) (es : Edges) (last : Option Name) where
  pub name_edge : ((n : Name) → IsAfter last n → T (is_behind n es)) → (y : List ℕ) → IsName last y → IsBegun (IsEdge m es) ([] ++ y)
  name_edge same y h = (
    125 ∷ [],
    record {
      name = h.name;
      child = empty;
      more = false;
      is_text = h.is_text;
      after = same h.name h.after;
      marks = empty_marks m;
      is = ap (λ l. l ++ 125 ∷ []) (h.is ∙ sym (bare_text h.name));
    },
  )

  pub edge_name : ((n : Name) → T (is_behind n es) → IsAfter last n) → (y : List ℕ) → BeginsWith (IsEdge m es) ([] ++ y) → BeginsWith (IsName last) y
  edge_name same y h =
      let e = h.is_form in
      record {
        part = spelled e.name;
        rest = text below e.child.shape ++ (separator e.more ∷ h.rest);
        is_form = record { name = e.name; is_text = e.is_text; after = same e.name e.after; is = refl };
        is = h.is ∙ ap (λ l. l ++ h.rest) e.is ∙ append_assoc (edge_text e.name e.child.shape) (separator e.more ∷ []) h.rest
            ∙ append_assoc (spelled e.name) (text below e.child.shape) (separator e.more ∷ h.rest);
      }

-- ---- what stands behind the name of an edge

module _ (m : Bool) (es : Edges) (n : Name) where
  pub below_edge : IsUtf8 n → T (is_behind n es) → (y : List ℕ) → IsBelow m y → IsBegun (IsEdge m es) (spelled n ++ y)
  below_edge u b y h = (
    [],
    record {
      name = n;
      child = h.child;
      more = h.more;
      is_text = u;
      after = b;
      marks = h.marks;
      is = append-nil (spelled n ++ y) ∙ ap (λ l. spelled n ++ l) h.is
          ∙ sym (append_assoc (spelled n) (text below h.child.shape) (separator h.more ∷ []));
    },
  )

  -- an edge that stands there has this name
  pub edge_split : (y : List ℕ) (h : BeginsWith (IsEdge m es) (spelled n ++ y))
      → (n ≡ h.is_form.name) × (y ≡ text below h.is_form.child.shape ++ separator h.is_form.more ∷ h.rest)
  edge_split y h =
      let e = h.is_form in
      spelled_one n e.name y (text below e.child.shape ++ separator e.more ∷ h.rest)
      (h.is ∙ ap (λ l. l ++ h.rest) e.is ∙ append_assoc (edge_text e.name e.child.shape) (separator e.more ∷ []) h.rest
      ∙ append_assoc (spelled e.name) (text below e.child.shape) (separator e.more ∷ h.rest))

  pub edge_below : (y : List ℕ) → BeginsWith (IsEdge m es) (spelled n ++ y) → BeginsWith (IsBelow m) y
  edge_below y h =
      let e = h.is_form in
      record {
        part = text below e.child.shape ++ separator e.more ∷ [];
        rest = h.rest;
        is_form = record { child = e.child; more = e.more; marks = e.marks; is = refl };
        is = (edge_split y h).1 ∙ sym (append_assoc (text below e.child.shape) (separator e.more ∷ []) h.rest);
      }

  module _ (c : Node true) where
    pub separator_edge : IsUtf8 n → T (is_behind n es) → HasAllowedMarks m c.shape → (y : List ℕ) → IsSeparator y
        → IsBegun (IsEdge m es) (edge_text n c.shape ++ y)
    separator_edge u b t y h = (
      [],
      record {
        name = n;
        child = c;
        more = h.more;
        is_text = u;
        after = b;
        marks = t;
        is = append-nil (edge_text n c.shape ++ y) ∙ ap (λ l. edge_text n c.shape ++ l) h.is;
      },
    )

    over_unless : (x : List ℕ) → IsNot 58 x → IsOver below x
    over_unless [] h = tt
    over_unless (b ∷ x) h = λ e. h x (ap (λ c. c ∷ x) e)

    pub edge_separator : (y : List ℕ) → (c.shape ≡ bare → IsNot 58 y) → BeginsWith (IsEdge m es) (edge_text n c.shape ++ y) → BeginsWith IsSeparator y
    edge_separator y ok h =
        let g : BeginsWith (IsEdge m es) (spelled n ++ (text below c.shape ++ y)) =
        subst (BeginsWith (IsEdge m es)) (append_assoc (spelled n) (text below c.shape) y) h in
        let e = g.is_form in
        let s = edge_split (text below c.shape ++ y) g in
        let t = apart below c.shape e.child.shape y (separator e.more ∷ g.rest) (λ none. over_unless y (ok none))
        (λ _. over_separator e.more g.rest) s.1 in
        record { part = separator e.more ∷ []; rest = g.rest; is_form = record { more = e.more; is = refl }; is = t.1 }

-- ---- neither a comma nor a brace

abbrev pub IsSeparating : ℕ → Type 0
IsSeparating b = (b ≡ 44) ⊎ (b ≡ 125)

separator_first : (more : Bool) → IsSeparating (separator more)
separator_first true = inl refl
separator_first false = inr refl

pub no_separator : (x : List ℕ) → IsNot 44 x → IsNot 125 x → IsLongestPart IsSeparator x 0
no_separator x comma brace = nothing_here IsSeparator IsSeparating (44 ∷ []) (record { more = true; is = refl })
    (λ y h. (separator h.is_form.more, h.rest, separator_first h.is_form.more, h.is ∙ ap (λ l. l ++ h.rest) h.is_form.is))
    x (λ b r e good. elim good [ inl c ↦ comma r (e ∙ ap (λ b. b ∷ r) c) | inr d ↦ brace r (e ∙ ap (λ b. b ∷ r) d) ])

-- ---- an edge among those of a node

-- the node that has these edges
module _ (m : Bool) (es : Edges) (are : T (are_edges es)) (marks : AllByRecursion (IsAllowedEdge m) es) where
  pub listed_marks : HasAllowedMarks m (node es).shape
  listed_marks = marks_from_edges m (node es) (is_marked-node es) (subst (AllByRecursion (IsAllowedEdge m)) (sym (edges-node es are)) marks)

  pub listed_inside : 0 < length es → IsInside m (inside es)
  listed_inside some = record {
    node = node es;
    marks = listed_marks;
    some = let l = ap length (edges-node es are) in omega arith;
    is = ap inside (sym (edges-node es are));
  }

module _ (m : Bool) (es : Edges) (are : T (are_edges es)) (marks : AllByRecursion (IsAllowedEdge m) es) where
  some_more : (es : Edges) (e : Name × Node true) → 0 < length (es ++ e ∷ [])
  some_more es e = let l = length-append es (e ∷ []) in omega arith

  pub edge_inside : (y : List ℕ) → IsEdge m es y → IsBegun (IsInside m) (commas es ++ y)
  edge_inside y h = by h.more h.is
    where
      n : Name
      n = h.name

      c : Node true
      c = h.child

      e : Name × Node true
      e = (n, c)

      here : IsAllowedEdge m e
      here = h.marks

      edges_here : T (are_edges (es ++ e ∷ []))
      edges_here = edges_behind n c es are h.is_text h.after

      marks_here : AllByRecursion (IsAllowedEdge m) (es ++ e ∷ [])
      marks_here = all_last m es e marks here

      f : Name × Node true
      f = (longer n, empty)

      behind_here : T (is_behind (longer n) (es ++ e ∷ []))
      behind_here = after es h.after
        where
          after : (es : Edges) → T (is_behind n es) → T (is_behind (longer n) (es ++ e ∷ []))
          after [] b = is_behind_one
            where
              is_behind_one : T (is_behind (longer n) (e ∷ []))
              is_behind_one = subst (λ o. T (is_lt o && true)) (sym (longer_greater n)) tt
          after (d ∷ es) b = both _ _ (first _ _ (behind_more n (longer n) (d ∷ es) b (longer_greater n))) (after es (second _ _ b))

      by : (more : Bool) → y ≡ edge_text n c.shape ++ separator more ∷ [] → IsBegun (IsInside m) (commas es ++ y)
      by false is = (
        [],
        subst (IsInside m) (sym (append-nil (inside (es ++ e ∷ []))) ∙ sym (inside_last es e [])
            ∙ ap (λ l. commas es ++ l) (append-nil _ ∙ sym is) ∙ sym (append-nil (commas es ++ y)))
            (listed_inside m (es ++ e ∷ []) edges_here marks_here (some_more es e)),
      )
      by true is =
          let rest : List ℕ = edge_text f.0 f.1.shape ++ 125 ∷ [] in (
            rest,
            subst (IsInside m)
                (sym (append-nil (inside ((es ++ e ∷ []) ++ f ∷ []))) ∙ sym (inside_last (es ++ e ∷ []) f [])
                ∙ ap (λ l. commas (es ++ e ∷ []) ++ l) (append-nil rest) ∙ commas_last es e rest
                ∙ ap (λ l. commas es ++ (l ++ rest)) (sym is) ∙ sym (append_assoc (commas es) y rest))
                (listed_inside m ((es ++ e ∷ []) ++ f ∷ []) (edges_behind (longer n) empty (es ++ e ∷ []) edges_here (longer_text n h.is_text)
                behind_here) (all_last m (es ++ e ∷ []) f marks_here (empty_marks m)) (some_more (es ++ e ∷ []) f)),
          )

-- an edge comes behind those that were read
pub inside_edge : (m : Bool) (es : Edges) (y : List ℕ) → BeginsWith (IsInside m) (commas es ++ y) → BeginsWith (IsEdge m es) y
inside_edge m es y h = by (edges h.is_form.node) refl h.is_form.some (h.is ∙ ap (λ l. l ++ h.rest) h.is_form.is)
  where
    by : (fs : Edges) → edges h.is_form.node ≡ fs → 0 < length (edges h.is_form.node) → commas es ++ y ≡ inside (edges h.is_form.node) ++ h.rest
        → BeginsWith (IsEdge m es) y
    by [] same some is = let l = ap length same in absurd (omega arith)
    by (f ∷ fs) same some is =
        let next = remaining y h.rest es f fs (is ∙ ap (λ l. inside l ++ h.rest) same) in
        let are : T (are_edges (es ++ next.next ∷ next.more)) =
        subst (λ (l : Edges). T (are_edges l)) (same ∙ next.among) (edges_are h.is_form.node) in
        let allowed = all_among m es next.next next.more
        (subst (AllByRecursion (IsAllowedEdge m)) (same ∙ next.among) (edges_from_marks m h.is_form.node h.is_form.marks)) in
        record {
          part = edge_text next.next.0 next.next.1.shape ++ separator (is_more next.more) ∷ [];
          rest = inside next.more ++ h.rest;
          is_form = record {
            name = next.next.0;
            child = next.next.1;
            more = is_more next.more;
            is_text = text_among next.next es next.more are;
            after = behind_sorted next.next.0 next.next.1 es next.more (edges_rise _ are);
            marks = allowed;
            is = refl;
          };
          is = next.spelled ∙ sym (append_assoc (edge_text next.next.0 next.next.1.shape) (separator (is_more next.more) ∷ [])
              (inside next.more ++ h.rest));
        }

-- ---- a node with edges, or a mark

abbrev pub IsOpening : Bool → ℕ → Type 0
IsOpening m b = (b ≡ 123) ⊎ ((b ≡ 33) × (m ≡ true))

allowed : (m : Bool) → T m → m ≡ true
allowed true h = refl
allowed false h = absurd h

whole_first : (m : Bool) (s : Shape) → HasAllowedMarks m s → (x : List ℕ) → (b : ℕ) × (r : List ℕ) × IsOpening m b × (text whole s ++ x ≡ b ∷ r)
whole_first m bare h x = (123, _, inl refl, refl)
whole_first m mark h x = (33, _, inr (refl, allowed m h), refl)
whole_first m (edge n c r) h x = (123, _, inl refl, refl)

bare_whole : (m : Bool) → IsWhole m (123 ∷ 125 ∷ [])
bare_whole m = record { node = empty; marks = empty_marks m; is = sym (ap (text whole) shape_empty) }

abbrev pub NoOpening : Bool → List ℕ → Type 0
NoOpening m x = (b : ℕ) (r : List ℕ) → x ≡ b ∷ r → IsOpening m b → ⊥

pub no_opening : (m : Bool) (x : List ℕ) → IsNot 123 x → (m ≡ true → IsNot 33 x) → NoOpening m x
no_opening m x brace point b r e good = elim good [ inl c ↦ brace r (e ∙ ap (λ b. b ∷ r) c) | inr d ↦ point d.1 r (e ∙ ap (λ b. b ∷ r) d.0) ]

pub no_whole : (m : Bool) (x : List ℕ) → NoOpening m x → IsLongestPart (IsWhole m) x 0
no_whole m x none = nothing_here (IsWhole m) (IsOpening m) (123 ∷ 125 ∷ []) (bare_whole m)
    (λ y h. let f = whole_first m h.is_form.node.shape h.is_form.marks h.rest in (f.0, f.1, f.2, h.is ∙ ap (λ l. l ++ h.rest) h.is_form.is ∙ f.3))
    x none

-- a node of one edge without a name
abbrev single : Edges
single = ([], empty) ∷ []

no_bytes : IsUtf8 []
no_bytes = IsUtf8-from_ascii [] ascii
  where
    ascii : (i : ℕ) → get_or [] i 0 < 128
    ascii zero = omega arith
    ascii (suc i) = omega arith

positive : (n : ℕ) → (n ≡ 0 → ⊥) → 0 < n
positive zero h = absurd (h refl)
positive (suc n) h = omega arith

module _ (m : Bool) where
  pub inside_full : (y : List ℕ) → IsInside m y → IsBegun (IsFull m) ((123 ∷ []) ++ y)
  inside_full y h = (
    [],
    record {
      node = h.node;
      marks = h.marks;
      some = λ e. let n = none_shape h.node e in let s = h.some in omega arith;
      is = append-nil _ ∙ ap (λ l. 123 ∷ l) h.is ∙ sym (whole_some h.node (λ e. let s = h.some in omega arith));
    },
  )

  pub full_inside : (y : List ℕ) → BeginsWith (IsFull m) ((123 ∷ []) ++ y) → BeginsWith (IsInside m) y
  full_inside y h =
      let f = h.is_form in
      let is : text whole f.node.shape ++ h.rest ≡ 123 ∷ y = ap (λ l. l ++ h.rest) (sym f.is) ∙ sym h.is in
      let some = has_edges f.node y h.rest f.some is in
      record {
        part = inside (edges f.node);
        rest = h.rest;
        is_form = record { node = f.node; marks = f.marks; some = positive (length (edges f.node)) some; is = refl };
        is = tails 123 123 _ _ (sym is ∙ ap (λ l. l ++ h.rest) (whole_some f.node some));
      }

  pub inside_whole : (y : List ℕ) → IsInside m y → IsBegun (IsWhole m) ((123 ∷ []) ++ y)
  inside_whole y h = (
    [],
    record {
      node = h.node;
      marks = h.marks;
      is = append-nil _ ∙ ap (λ l. 123 ∷ l) h.is ∙ sym (whole_some h.node (λ e. let s = h.some in omega arith));
    },
  )

  pub whole_inside : (y : List ℕ) → IsNot 125 y → BeginsWith (IsWhole m) ((123 ∷ []) ++ y) → BeginsWith (IsInside m) y
  whole_inside y not h =
      full_inside y (record {
        part = h.part;
        rest = h.rest;
        is_form = record {
          node = h.is_form.node;
          marks = h.is_form.marks;
          some = λ e. not h.rest (tails 123 123 _ _ (h.is ∙ ap (λ l. l ++ h.rest) (h.is_form.is ∙ ap (text whole) e)));
          is = h.is_form.is;
        };
        is = h.is;
      })

  pub full_below : (y : List ℕ) → IsFull m y → IsBegun (IsBelow m) ((58 ∷ []) ++ y)
  full_below y h = (
    125 ∷ [],
    record {
      child = h.node;
      more = false;
      marks = h.marks;
      is = ap (λ l. (58 ∷ l) ++ 125 ∷ []) h.is ∙ ap (λ l. l ++ 125 ∷ []) (sym (below_full h.node.shape h.some));
    },
  )

  pub below_full_back : (y : List ℕ) → BeginsWith (IsBelow m) ((58 ∷ []) ++ y) → BeginsWith (IsFull m) y
  below_full_back y h =
      let f = h.is_form in
      let is : text below f.child.shape ++ separator f.more ∷ h.rest ≡ 58 ∷ y =
      sym (append_assoc (text below f.child.shape) (separator f.more ∷ []) h.rest) ∙ ap (λ l. l ++ h.rest) (sym f.is) ∙ sym h.is in
      let some : f.child.shape ≡ bare → ⊥ = λ e. no_colon (separator f.more ∷ h.rest) y (over_separator f.more h.rest)
      (ap (λ s. text below s ++ separator f.more ∷ h.rest) (sym e) ∙ is) in
      record {
        part = text whole f.child.shape;
        rest = separator f.more ∷ h.rest;
        is_form = record { node = f.child; marks = f.marks; some = some; is = refl };
        is = tails 58 58 _ _ (sym is ∙ ap (λ l. l ++ separator f.more ∷ h.rest) (below_full f.child.shape some));
      }

  single_inside : IsInside m (inside single)
  single_inside = listed_inside m single (edges_cons ([], empty {m = true}) [] (text_test [] no_bytes) tt tt) (empty_marks m, tt) (omega arith)

  pub no_full : (x : List ℕ) → NoOpening m x → IsLongestPart (IsFull m) x 0
  no_full x none =
      let one = inside_full (inside single) single_inside in
      nothing_here (IsFull m) (IsOpening m) _ one.1
      (λ y h. let f = whole_first m h.is_form.node.shape h.is_form.marks h.rest in (f.0, f.1, f.2, h.is ∙ ap (λ l. l ++ h.rest) h.is_form.is ∙ f.3))
      x none
