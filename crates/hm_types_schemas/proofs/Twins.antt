-- The schema that a form is written as has no twins exactly where the form has none.
use Rattle.std.proofs.Common.{◌≡◌, ◌↔◌, zero, suc, Bool, true, false, cond, is_some, List, [], ◌∷◌, ◌++◌, map, Option, Some, None, All, Contains, refl, sym, ap, subst, ◌∙◌, arith}
use mathlib.Core.Bool.{true≢false}
use Rattle.std.specs.Option.{option_map}
use Rattle.std.specs.List.{AllZip}
use Rattle.std.specs.Ordering.{eq_by_cmp, is_eq}
use Rattle.std.specs.FinMap.{find}
use Rattle.std.proofs.lemmas.Cmp.{tied_itself}
use Rattle.std.proofs.lemmas.Option.{same_Some, none-some}
use Rattle.std.proofs.lemmas.List.Elements.{All-nil, All-cons, All-head, All-tail, All-append, All-contains}
use Rattle.hm_tree.specs.declared.class.Class.{Class}
use Rattle.hm_tree.specs.Names.{Name, name_cmp}
use Rattle.hm_tree.specs.NameLaws.{name_total}
use Rattle.hm_schema.specs.Values.{NodeOver, NodeValue, SchemaValue}
use Rattle.hm_schema.specs.Tidied.{tidied}
use Rattle.hm_schema.specs.Sameness.{HaveEqual}
use Rattle.hm_schema.proofs.NamesOf.{tie_one}
use Rattle.hm_types_forms.specs.Forms.{Form, Label, Step, Way, named, over, next_of, under, node_of}
use Rattle.hm_types_forms.specs.SameForms.{IsSame, HasNoTwins, MatchThere, nothing, labels, tidy, has_step}
use Rattle.hm_types_rules.specs.Numbering.{Visits, done, again, first, forms_below, other_forms, StandsFor, IsNumbered}
use Rattle.hm_types_forms.proofs.SameMembers.{tidied_over}
use Rattle.hm_types_schemas.proofs.Closed.{IsAmong, waits, closed}

no_elements : {X : Type 0} (xs ys : List X) → HaveEqual xs ys → ys ≡ [] → xs ≡ []
no_elements [] ys h e = refl
no_elements (x ∷ xs) ys h e = absurd (nowhere (subst (λ l. Contains l x) e ((h x).0 (0, omega arith, refl))))
  where
    nowhere : {X : Type 0} {x : X} → Contains [] x → ⊥
    nowhere (i, lt, e) = omega arith

-- ---- the label that a form begins with

-- the node of a form is its label over what is under each step
record IsLabelled (v : Form) (n : NodeOver Form) : Type 0 where
  label : Label
  at : v [] ≡ Some label
  is : over (λ s i. under s v) label ≡ n

labelled : (v : Form) (n : NodeOver Form) → node_of v ≡ Some n → IsLabelled v n
labelled v n e = go (v []) refl e
  where
    go : (x : Option Label) → v [] ≡ x → option_map (over (λ s i. under s v)) x ≡ Some n → IsLabelled v n
    go None at f = absurd (none-some n f)
    go (Some l) at f = record { label = l; at = at; is = same_Some (over (λ s i. under s v) l) n f }

module _ (v : Form) (l : Label) where
  -- what is found under a step of the label is below the node
  abbrev below : Label → List Form
  below t = forms_below (over (λ s i. under s v) t)

  named_below : (k : Name) (cs : List (Name × Unit {0})) (i : Unit {0}) → find name_cmp k cs ≡ Some i
      → Contains (map (λ (c : Name × Form). c.1) (map {B = Name × Form} (λ c. (c.0, under (named c.0) v)) cs)) (under (named k) v)
  named_below k [] i e = absurd (none-some i e)
  named_below k (c ∷ cs) i e = go (eq_by_cmp name_cmp k c.0) refl e (λ f. named_below k cs i f)
    where
      go : (b : Bool) → eq_by_cmp name_cmp k c.0 ≡ b → cond b (Some c.1) (find name_cmp k cs) ≡ Some i
          → (find name_cmp k cs ≡ Some i
          → Contains (map (λ (c : Name × Form). c.1) (map {B = Name × Form} (λ c. (c.0, under (named c.0) v)) cs)) (under (named k) v))
          → Contains (map (λ (c : Name × Form). c.1) (map {B = Name × Form} (λ c. (c.0, under (named c.0) v)) (c ∷ cs))) (under (named k) v)
      go true t f rest = (0, omega arith, ap (λ k. under (named k) v) (sym (tie_one k c.0 t)))
      go false t f rest = let w = rest f in (suc w.0, (let lt = w.1 in omega arith), w.2)

  other_below : (o : Option (Class × Unit {0})) (i : Unit {0}) → option_map (λ (o : Class × Unit {0}). o.1) o ≡ Some i
      → Contains (other_forms (option_map {U = Class × Form} (λ o. (o.0, under Step.others v)) o)) (under Step.others v)
  other_below None i e = absurd (none-some i e)
  other_below (Some o) i e = (0, omega arith, refl)

  in_front : (xs ys : List Form) (x : Form) → Contains xs x → Contains (xs ++ ys) x
  in_front [] ys x (i, lt, e) = absurd (omega arith)
  in_front (y ∷ xs) ys x (zero, lt, e) = (0, omega arith, e)
  in_front (y ∷ xs) ys x (suc i, lt, e) = let h = in_front xs ys x (i, omega arith, e) in (suc h.0, (let lt = h.1 in omega arith), h.2)

  in_back : (xs ys : List Form) (x : Form) → Contains ys x → Contains (xs ++ ys) x
  in_back [] ys x c = c
  in_back (y ∷ xs) ys x c = let h = in_back xs ys x c in (suc h.0, (let lt = h.1 in omega arith), h.2)

  step_below : (t : Label) (s : Step) → is_some (next_of t s) ≡ true → Contains (below t) (under s v)
  step_below t (named k) e = go (find name_cmp k t.children) refl e
    where
      go : (x : Option (Unit {0})) → find name_cmp k t.children ≡ x → is_some x ≡ true → Contains (below t) (under (named k) v)
      go None f g = absurd (true≢false (sym g))
      go (Some i) f g = in_front (map (λ (c : Name × Form). c.1) (over (λ s i. under s v) t).children) (other_forms (over (λ s i. under s v) t).other)
          (under (named k) v) (named_below k t.children i f)
  step_below t Step.others e = go (option_map (λ (o : Class × Unit {0}). o.1) t.other) refl e
    where
      go : (x : Option (Unit {0})) → option_map (λ (o : Class × Unit {0}). o.1) t.other ≡ x → is_some x ≡ true → Contains (below t) (under Step.others v)
      go None f g = absurd (true≢false (sym g))
      go (Some i) f g = in_back (map (λ (c : Name × Form). c.1) (over (λ s i. under s v) t).children) (other_forms (over (λ s i. under s v) t).other)
          (under Step.others v) (other_below t.other i f)

-- ---- from the schema to the form

module _ (order : List Form) where
  -- the nodes of visited forms have no twins
  abbrev AreBare : Type 0
  AreBare = (v : Form) (l : Label) → Contains order v → v [] ≡ Some l → l.twins ≡ []

  -- what they lead to is visited
  abbrev AreClosed : Type 0
  AreClosed = (v : Form) (l : Label) (s : Step) → Contains order v → v [] ≡ Some l → is_some (next_of (tidied l) s) ≡ true → IsAmong order (under s v)

  -- what is found on a way from what is the same as a visited form is like what is found from that
  same_plain : (w : Way) (x v : Form) (l : Label) → IsSame x v → ((m : Label) → tidy v w ≡ Some m → m.twins ≡ []) → tidy x w ≡ Some l → l.twins ≡ []
  same_plain w x v l s f e = go (tidy x w) (tidy v w) (s.on_each w) e f
    where
      go : (a b : Option Label) → MatchThere a b → a ≡ Some l → ((m : Label) → b ≡ Some m → m.twins ≡ []) → l.twins ≡ []
      go a b nothing e f = absurd (none-some l e)
      go a b (labels {l = l1} {m = m1} h) e f =
          let one : l1 ≡ l = same_Some l1 l e in
          ap (λ (l : Label). l.twins) (sym one) ∙ no_elements l1.twins m1.twins h.twins (f m1 refl)

  plain_ways : AreBare → AreClosed → (w : Way) (v : Form) (m : Label) → Contains order v → tidy v w ≡ Some m → m.twins ≡ []
  plain_ways bare shut [] v m c e = go (v []) refl e
    where
      go : (x : Option Label) → v [] ≡ x → option_map tidied x ≡ Some m → m.twins ≡ []
      go None f g = absurd (none-some m g)
      go (Some l) f g = ap (λ (l : Label). l.twins) (sym (same_Some (tidied l) m g)) ∙ bare v l c f
  plain_ways bare shut (s ∷ w) v m c e = go (v []) refl e (λ v m c e. plain_ways bare shut w v m c e)
    where
      step : (l : Label) → v [] ≡ Some l → (b : Bool) → is_some (next_of (tidied l) s) ≡ b → cond b (tidy (under s v) w) None ≡ Some m
          → ((v : Form) (m : Label) → Contains order v → tidy v w ≡ Some m → m.twins ≡ []) → m.twins ≡ []
      step l f false h g rest = absurd (none-some m g)
      step l f true h g rest =
          let a = shut v l s c f h in
          same_plain w (under s v) a.visited m a.same (λ m e. rest a.visited m a.there e) g

      go : (x : Option Label) → v [] ≡ x → cond (has_step (option_map tidied x) s) (tidy (under s v) w) None ≡ Some m
          → ((v : Form) (m : Label) → Contains order v → tidy v w ≡ Some m → m.twins ≡ []) → m.twins ≡ []
      go None f g rest = absurd (none-some m g)
      go (Some l) f g rest = step l f (is_some (next_of (tidied l) s)) refl g rest

-- ---- from the form to the schema

found_some : {X : Type 0} (cs : List (Name × X)) (c : Name × X) → Contains cs c → is_some (find name_cmp c.0 cs) ≡ true
found_some [] c (i, lt, e) = absurd (omega arith)
found_some (d ∷ cs) c (zero, lt, e) =
    let name : c.0 ≡ d.0 = ap (λ (c : Name × _). c.0) (sym e) in
    let tie : eq_by_cmp name_cmp c.0 d.0 ≡ true = ap (λ k. eq_by_cmp name_cmp k d.0) name ∙ ap is_eq (tied_itself name_total d.0) in
    ap (λ b. is_some (cond b (Some d.1) (find name_cmp c.0 cs))) tie
found_some (d ∷ cs) c (suc i, lt, e) = go (eq_by_cmp name_cmp c.0 d.0) (found_some cs c (i, omega arith, e))
  where
    go : (b : Bool) → is_some (find name_cmp c.0 cs) ≡ true → is_some (cond b (Some d.1) (find name_cmp c.0 cs)) ≡ true
    go true f = refl
    go false f = f

module _ (u : Form) (h : HasNoTwins u) (l : Label) (at : u [] ≡ Some l) where
  under_plain : (s : Step) → is_some (next_of (tidied l) s) ≡ true → HasNoTwins (under s u)
  under_plain s e = record {
    on_each = λ w m f. h.on_each (s ∷ w) m
        (ap (λ x. cond (has_step (option_map tidied x) s) (tidy (under s u) w) None) at ∙ ap (λ b. cond b (tidy (under s u) w) None) e ∙ f);
  }

  children_plain : (cs : List (Name × Unit {0})) → ((c : Name × Unit {0}) → Contains cs c → Contains (tidied l).children c)
      → All HasNoTwins (map (λ (c : Name × Form). c.1) (map {B = Name × Form} (λ c. (c.0, under (named c.0) u)) cs))
  children_plain [] f = All-nil HasNoTwins
  children_plain (c ∷ cs) f =
      All-cons HasNoTwins (under (named c.0) u) (map (λ (c : Name × Form). c.1) (map {B = Name × Form} (λ c. (c.0, under (named c.0) u)) cs))
      (under_plain (named c.0) (found_some (tidied l).children c (f c (0, omega arith, refl))))
      (children_plain cs (λ d e. f d (suc e.0, (let lt = e.1 in omega arith), e.2)))

  other_plain : (o : Option (Class × Unit {0})) → (tidied l).other ≡ o → All HasNoTwins (other_forms (option_map {U = Class × Form} (λ o. (o.0, under Step.others u)) o))
  other_plain None e = All-nil HasNoTwins
  other_plain (Some o) e = All-cons HasNoTwins (under Step.others u) [] (under_plain Step.others (ap (λ o. is_some (option_map (λ (o : Class × Unit {0}). o.1) o)) e))
      (All-nil HasNoTwins)

  all_plain_below : All HasNoTwins (forms_below (over (λ s i. under s u) (tidied l)))
  all_plain_below = All-append HasNoTwins (map (λ (c : Name × Form). c.1) (over (λ s i. under s u) (tidied l)).children)
      (other_forms (over (λ s i. under s u) (tidied l)).other) (children_plain (tidied l).children (λ c f. f)) (other_plain (tidied l).other refl)

  bare_here : l.twins ≡ []
  bare_here = h.on_each [] (tidied l) (ap (option_map tidied) at)

visits_plain : {seen todo all : List Form} → Visits seen todo all → All HasNoTwins seen → All HasNoTwins todo → All HasNoTwins all
visits_plain done h g = h
visits_plain (again {u = u} {todo = todo} c s v) h g = visits_plain v h (All-tail HasNoTwins u todo g)
visits_plain (first {u = u} {n = n} {seen = seen} {todo = todo} none is v) h g =
    let here = All-head HasNoTwins u todo g in
    let w = labelled u n is in
    let below : All HasNoTwins (forms_below (tidied n)) =
    subst (λ n. All HasNoTwins (forms_below (tidied n))) w.is
    (subst (λ n. All HasNoTwins (forms_below n)) (sym (tidied_over (λ s i. under s u) w.label)) (all_plain_below u here w.label w.at)) in
    visits_plain v (All-append HasNoTwins seen (u ∷ []) h (All-cons HasNoTwins u [] here (All-nil HasNoTwins)))
    (All-append HasNoTwins (forms_below (tidied n)) todo below (All-tail HasNoTwins u todo g))

-- ---- both ways

module _ (u : Form) (s : SchemaValue) (h : IsNumbered u s) where
  abbrev IsBare : NodeValue → Type 0
  IsBare n = n.twins ≡ []

  -- the twins of a node of the schema are those of the form that it stands for
  twins_are : (n : NodeValue) (v : Form) (l : Label) → StandsFor h.order n v → v [] ≡ Some l → n.twins ≡ l.twins
  twins_are n v l st at =
      let w = labelled v st.node st.is in
      st.twins ∙ ap (λ (n : NodeOver Form). n.twins) (sym w.is) ∙ ap (λ (l : Label). l.twins) (same_Some w.label l (sym w.at ∙ at))

  bare_forms : All IsBare s.nodes → AreBare h.order
  bare_forms all v l c at = go s.nodes h.order h.nodes all v l c at
    where
      go : (ns : List NodeValue) (us : List Form) → AllZip (StandsFor h.order) ns us → All IsBare ns → (v : Form) (l : Label) → Contains us v → v [] ≡ Some l
          → l.twins ≡ []
      go ns [] z all v l (i, lt, e) at = absurd (omega arith)
      go [] (x ∷ us) z all v l c at = absurd z
      go (n ∷ ns) (x ∷ us) z all v l (zero, lt, e) at =
          sym (twins_are n v l (subst (StandsFor h.order n) e z.0) at) ∙ All-head IsBare n ns all
      go (n ∷ ns) (x ∷ us) z all v l (suc i, lt, e) at = go ns us z.1 (All-tail IsBare n ns all) v l (i, omega arith, e) at

  closed_forms : AreClosed h.order
  closed_forms v l st c at e =
      let k = closed u h.order h.visits v c in
      let w = labelled v k.node k.is in
      let same : w.label ≡ l = same_Some w.label l (sym w.at ∙ at) in
      let node : k.node ≡ over (λ s i. under s v) l = sym w.is ∙ ap (over (λ s i. under s v)) same in
      let there = step_below v l (tidied l) st e in
      All-contains (IsAmong h.order) (forms_below (tidied k.node)) (under st v) k.below
      (subst (λ n. Contains (forms_below (tidied n)) (under st v)) (sym node)
      (subst (λ n. Contains (forms_below n) (under st v)) (sym (tidied_over (λ s i. under s v) l)) there))

  form_plain : All IsBare s.nodes → HasNoTwins u
  form_plain all =
      let a = All-head (IsAmong h.order) u [] (waits h.visits) in
      record {
        on_each = λ w l e. same_plain h.order w u a.visited l a.same
            (λ m f. plain_ways h.order (bare_forms all) closed_forms w a.visited m a.there f) e;
      }

  schema_plain : HasNoTwins u → All IsBare s.nodes
  schema_plain p = go s.nodes h.order h.nodes (visits_plain h.visits (All-nil HasNoTwins) (All-cons HasNoTwins u [] p (All-nil HasNoTwins)))
    where
      go : (ns : List NodeValue) (us : List Form) → AllZip (StandsFor h.order) ns us → All HasNoTwins us → All IsBare ns
      go [] us z all = All-nil IsBare
      go (n ∷ ns) [] z all = absurd z
      go (n ∷ ns) (v ∷ us) z all =
          let w = labelled v z.0.node z.0.is in
          All-cons IsBare n ns (twins_are n v w.label z.0 w.at ∙ bare_here v (All-head HasNoTwins v us all) w.label w.at)
          (go ns us z.1 (All-tail HasNoTwins v us all))

  pub numbered_plain : All (λ n. n.twins ≡ []) s.nodes ↔ HasNoTwins u
  numbered_plain = (form_plain, schema_plain)
