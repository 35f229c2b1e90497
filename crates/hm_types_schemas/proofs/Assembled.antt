-- What is written for a visit is the schema that a form is written as.
use Rattle.std.proofs.Common.{◌≡◌, ℕ, suc, ◌<◌, List, [], ◌∷◌, length, map, get_or, slice_get, Option, Some, None, All, Contains, refl, sym, ap, subst, ◌∙◌, arith}
use Rattle.std.specs.Option.{option_map, unwrap_or}
use Rattle.std.specs.List.{AllZip}
use Rattle.std.proofs.lemmas.Option.{same_Some, none-some, slice_get-map, slice_get_within}
use Rattle.std.proofs.lemmas.List.{length-map}
use Rattle.std.proofs.lemmas.List.Elements.{All-nil, All-cons, All-head, All-tail, All-contains}
use Rattle.hm_graph.proofs.Pairs.{all_left, all_right}
use Rattle.hm_tree.specs.declared.class.Class.{Class}
use Rattle.hm_tree.specs.Names.{Name}
use Rattle.hm_schema.specs.declared.node.NodeId.{NodeId}
use Rattle.hm_schema.specs.Values.{NodeOver, NodeValue}
use Rattle.hm_schema.specs.WellFormed.{IsWellFormedNode, IsWellFormed}
use Rattle.hm_schema.specs.Tidied.{tidied}
use Rattle.hm_schema.specs.Sameness.{AreOthers, no_others, others}
use Rattle.hm_types_forms.specs.Forms.{Form, form, over, node_of}
use Rattle.hm_types_forms.specs.Sound.{IsSound}
use Rattle.hm_types_forms.specs.SameForms.{IsSame}
use Rattle.hm_types_rules.specs.Numbering.{Visits, done, forms_below, IsNumberOf, StandsFor, IsNumbered}
use Rattle.hm_types_forms.proofs.SameMembers.{tidied_over}
use Rattle.hm_types_forms.proofs.SoundForms.{node_sound}
use Rattle.hm_types_rules.proofs.SoundVisits.{visits_sound}
use Rattle.hm_types_table.specs.Tables.{Nodes, AreFormed, opened}
use Rattle.hm_types_table.specs.Classes.{HaveClasses}
use Rattle.hm_types_table.proofs.Forms.{node_is}
use Rattle.hm_types_table.proofs.Grown.{formed_at}
use Rattle.hm_types_schemas.specs.Ends.{other_ends, ends}
use Rattle.hm_types_schemas.specs.Marks.{Marks, mark_at, class_of, number_of}
use Rattle.hm_types_schemas.specs.Visiting.{IsVisit}
use Rattle.hm_types_schemas.specs.Writing.{IsWritten}
use Rattle.hm_types_schemas.proofs.Places.{there, all_read, contains_at, place_of}
use Rattle.hm_types_schemas.proofs.Closed.{IsAmong, waits, closed}
use Rattle.hm_types_schemas.proofs.Steps.{forms_are, ends_inside, class_same}
use Rattle.hm_types_schemas.proofs.Formed.{all_unmapped, written_well}

-- ---- two lists place by place

module _ {A B C : Type 0} where
  zip_mapped : (R : A → B → Type 0) (S : A → C → Type 0) (f : B → C) (xs : List A) (ys : List B) → ((x : A) (y : B) → Contains ys y → R x y → S x (f y))
      → AllZip R xs ys → AllZip S xs (map f ys)
  zip_mapped R S f [] [] g h = tt
  zip_mapped R S f [] (y ∷ ys) g h = absurd h
  zip_mapped R S f (x ∷ xs) [] g h = absurd h
  zip_mapped R S f (x ∷ xs) (y ∷ ys) g h =
      (g x y (0, omega arith, refl) h.0, zip_mapped R S f xs ys (λ x z c. g x z (suc c.0, (let lt = c.1 in omega arith), c.2)) h.1)

  pub zip_values : (R : B → C → Type 0) (f : A → B) (xs : List A) (ys : List C) → AllZip (λ x y. R (f x) y) xs ys → AllZip R (map f xs) ys
  zip_values R f [] [] h = tt
  zip_values R f [] (y ∷ ys) h = absurd h
  zip_values R f (x ∷ xs) [] h = absurd h
  zip_values R f (x ∷ xs) (y ∷ ys) h = (h.0, zip_values R f xs ys h.1)

zip_all : {A B : Type 0} (R : A → B → Type 0) (P : A → Type 0) (xs : List A) (ys : List B) → ((x : A) (y : B) → Contains ys y → R x y → P x)
    → AllZip R xs ys → All P xs
zip_all R P [] ys g h = All-nil P
zip_all R P (x ∷ xs) [] g h = absurd h
zip_all R P (x ∷ xs) (y ∷ ys) g h =
    All-cons P x xs (g x y (0, omega arith, refl) h.0) (zip_all R P xs ys (λ x z c. g x z (suc c.0, (let lt = c.1 in omega arith), c.2)) h.1)

zip_count : {A B : Type 0} (R : A → B → Type 0) (xs : List A) (ys : List B) → AllZip R xs ys → length xs ≡ length ys
zip_count R [] [] h = refl
zip_count R [] (y ∷ ys) h = absurd h
zip_count R (x ∷ xs) [] h = absurd h
zip_count R (x ∷ xs) (y ∷ ys) h = ap suc (zip_count R xs ys h.1)

module _ (nodes : Nodes) (formed : AreFormed nodes) (classes : List ℕ) (has : HaveClasses nodes classes) (root : NodeId) (sound : IsSound (form nodes root))
    (inside : root.place < length nodes) (order : List NodeId) (marks : Marks) (h : IsVisit nodes classes root order marks []) where
  abbrev forms : List Form
  forms = map (form nodes) order

  abbrev number : NodeId → NodeId
  number = number_of classes marks

  visits : Visits [] (form nodes root ∷ []) forms
  visits = h.visits forms done

  all_sound : All IsSound forms
  all_sound = visits_sound visits (All-nil IsSound) (All-cons IsSound (form nodes root) [] sound (All-nil IsSound))

  -- the node of a visited form
  record IsVisited (v : Form) : Type 0 where
    place : ℕ
    node : NodeId
    at : slice_get order place ≡ Some node
    is : form nodes node ≡ v
    there : slice_get forms place ≡ Some v

  visited_at : (v : Form) → Contains forms v → IsVisited v
  visited_at v c =
      let w = place_of forms v c in
      go w.0 w.1 (slice_get order w.0) refl
    where
      go : (k : ℕ) → slice_get forms k ≡ Some v → (x : Option NodeId) → slice_get order k ≡ x → IsVisited v
      go k e None f = absurd (none-some v (sym (slice_get-map (form nodes) order k ∙ ap (option_map (form nodes)) f) ∙ e))
      go k e (Some j) f = record {
        place = k;
        node = j;
        at = f;
        is = same_Some (form nodes j) v (sym (slice_get-map (form nodes) order k ∙ ap (option_map (form nodes)) f) ∙ e);
        there = e;
      }

  -- what is the same as a visited form has its number
  number_is : (j : NodeId) → j.place < length nodes → IsAmong forms (form nodes j) → IsNumberOf forms (form nodes j) (number j)
  number_is j lt a =
      let w = visited_at a.visited a.there in
      let within = all_read (λ (j : NodeId). j.place < length nodes) order w.place w.node w.at h.inside in
      let same : IsSame (form nodes j) (form nodes w.node) = subst (IsSame (form nodes j)) (sym w.is) a.same in
      let class = class_same nodes formed classes has root j w.node lt within same in
      let mark : mark_at marks (class_of classes j) ≡ Some w.place = ap (mark_at marks) class ∙ h.marked w.place w.node w.at in
      let place : (number j).place ≡ w.place = ap (λ m. unwrap_or m 0) mark in
      record { visited = a.visited; is = ap (slice_get forms) place ∙ w.there; same = a.same }

  module _ (j : NodeId) (c : Contains order j) where
    j_inside : j.place < length nodes
    j_inside = All-contains (λ (j : NodeId). j.place < length nodes) order j h.inside c

    form_there : Contains forms (form nodes j)
    form_there = let w = place_of order j c in
        contains_at forms w.0 (form nodes j) (slice_get-map (form nodes) order w.0 ∙ ap (option_map (form nodes)) w.1)

    module _ (n : NodeValue) (at : slice_get nodes j.place ≡ Some n) where
      opens : node_of (form nodes j) ≡ Some (opened nodes n)
      opens = node_is nodes j n at formed

      below : All (λ i. IsAmong forms (form nodes i)) (ends (tidied n))
      below =
          let l = closed (form nodes root) forms visits (form nodes j) form_there in
          let same : l.node ≡ opened nodes n = same_Some l.node (opened nodes n) (sym l.is ∙ opens) in
          all_unmapped (IsAmong forms) (form nodes) (ends (tidied n))
          (subst (All (IsAmong forms)) (ap (λ m. forms_below (tidied m)) same ∙ forms_are nodes n) l.below)

      numbers : All (λ i. IsNumberOf forms (form nodes i) (number i)) (ends (tidied n))
      numbers k d lt = number_is (get_or (ends (tidied n)) k d) (ends_inside (length nodes) n (formed_at nodes j n formed at) k d lt) (below k d lt)

      module _ (v : NodeValue) (w : IsWritten number n v) where
        abbrev Numbered : NodeId → Type 0
        Numbered i = IsNumberOf forms (form nodes i) (number i)

        children_stand : (cs : List (Name × NodeId)) → All Numbered (map (λ (c : Name × NodeId). c.1) cs)
            → AllZip (λ (c : Name × Form) (d : Name × NodeId). (c.0 ≡ d.0) × IsNumberOf forms c.1 d.1)
            (map {B = Name × Form} (λ c. (c.0, form nodes c.1)) cs) (map {B = Name × NodeId} (λ c. (c.0, number c.1)) cs)
        children_stand [] all = tt
        children_stand (c ∷ cs) all = (
          (refl, All-head Numbered c.1 (map (λ (c : Name × NodeId). c.1) cs) all),
          children_stand cs (All-tail Numbered c.1 (map (λ (c : Name × NodeId). c.1) cs) all),
        )

        other_stands : (o : Option (Class × NodeId)) → All Numbered (other_ends o)
            → AreOthers (IsNumberOf forms) (option_map {U = Class × Form} (λ o. (o.0, form nodes o.1)) o) (option_map {U = Class × NodeId} (λ o. (o.0, number o.1)) o)
        other_stands None all = no_others
        other_stands (Some o) all = others (All-head Numbered o.1 [] all)

        abbrev Beside : List (Name × Form) → List (Name × NodeId) → Type 0
        Beside cs ds = AllZip (λ (c : Name × Form) (d : Name × NodeId). (c.0 ≡ d.0) × IsNumberOf forms c.1 d.1) cs ds

        tidy_is : tidied (opened nodes n) ≡ over (λ s i. form nodes i) (tidied n)
        tidy_is = tidied_over (λ s i. form nodes i) n

        stands : StandsFor forms v (form nodes j)
        stands = record {
          node = opened nodes n;
          is = opens;
          shapes = w.shapes;
          children = subst (λ (m : NodeOver Form). Beside m.children v.children) (sym tidy_is)
              (subst (λ (ds : List (Name × NodeId)). Beside (over (λ s i. form nodes i) (tidied n)).children ds) (sym w.children)
              (children_stand (tidied n).children
              (all_left Numbered (map (λ (c : Name × NodeId). c.1) (tidied n).children) (other_ends (tidied n).other) numbers)));
          other = subst (λ (m : NodeOver Form). AreOthers (IsNumberOf forms) m.other v.other) (sym tidy_is)
              (subst (λ (o : Option (Class × NodeId)). AreOthers (IsNumberOf forms) (over (λ s i. form nodes i) (tidied n)).other o) (sym w.other)
              (other_stands (tidied n).other
              (all_right Numbered (map (λ (c : Name × NodeId). c.1) (tidied n).children) (other_ends (tidied n).other) numbers)));
          twins = w.twins;
        }

        in_range : All (λ i. (number i).place < length order) (ends (tidied n))
        in_range k d lt =
            let num = numbers k d lt in
            let within = slice_get_within forms (number (get_or (ends (tidied n)) k d)).place num.visited num.is in
            omega (arith, within, length-map order (form nodes))

        well : IsWellFormedNode (length order) v
        well = written_well (length nodes) n (formed_at nodes j n formed at)
            (node_sound (form nodes j) (opened nodes n) opens (All-contains IsSound forms (form nodes j) all_sound form_there)).own
            number v w (length order) in_range

  -- ---- the schema

  module _ (vs : List NodeValue)
      (z : AllZip (λ v j. (n : NodeValue) → slice_get nodes j.place ≡ Some n → IsWritten (number_of classes marks) n v) vs order) where
    abbrev Writes : NodeValue → NodeId → Type 0
    Writes v j = (n : NodeValue) → slice_get nodes j.place ≡ Some n → IsWritten number n v

    count : length vs ≡ length order
    count = zip_count Writes vs order z

    pub visit_numbered : (s : NodeId) → s.place ≡ 0 → IsNumbered (form nodes root) (record { nodes = vs; root = s })
    visit_numbered s e = record {
      order = forms;
      visits = visits;
      nodes = zip_mapped Writes (StandsFor forms) (form nodes) vs order (λ v j c w.
          let n = there nodes j.place (j_inside j c) in stands j c n.0 n.1 v (w n.0 n.1)) z;
      root = e;
    }

    pub visit_well : (s : NodeId) → s.place ≡ 0 → IsWellFormed (record { nodes = vs; root = s })
    visit_well s e = record {
      nodes = subst (λ k. All (IsWellFormedNode k) vs) (sym count)
          (zip_all Writes (IsWellFormedNode (length order)) vs order (λ v j c w.
          let n = there nodes j.place (j_inside j c) in well j c n.0 n.1 v (w n.0 n.1)) z);
      root =
          let first = number_is root inside (All-head (IsAmong forms) (form nodes root) [] (waits visits)) in
          let within = slice_get_within forms (number root).place first.visited first.is in
          omega (arith, within, length-map order (form nodes), count, e);
    }
