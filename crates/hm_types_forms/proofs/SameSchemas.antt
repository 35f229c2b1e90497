-- Two schemas are the same exactly where the forms of their roots are.
use Rattle.std.proofs.Common.{◌≡◌, ◌↔◌, ℕ, ◌<◌, Bool, IsTrue, is_some, List, [], ◌∷◌, length, slice_get, Option, Some, None, refl, sym, ap, subst, ◌∙◌, arith, inl, inr}
use mathlib.Core.Bool.{false≢true}
use Rattle.std.specs.Option.{option_map}
use Rattle.std.proofs.lemmas.Bool.{cases_Bool}
use Rattle.std.proofs.lemmas.Option.{slice_get_cases}
use Rattle.hm_schema.specs.declared.node.NodeId.{NodeId}
use Rattle.hm_schema.specs.Values.{NodeValue, SchemaValue, node_at}
use Rattle.hm_schema.specs.Tidied.{tidied}
use Rattle.hm_schema.specs.WellFormed.{IsWellFormed, IsWellFormedNode}
use Rattle.hm_schema.specs.Labels.{HaveOneLabel}
use Rattle.hm_schema.specs.Sameness.{Match, MatchAt, IsPairing, AreSame}
use Rattle.hm_schema.proofs.References.{well_formed_at}
use Rattle.hm_types_forms.specs.Forms.{Step, Way, label_of, next_of, under, form}
use Rattle.hm_types_forms.specs.SameForms.{IsSame, MatchThere, nothing, labels, tidy}
use Rattle.hm_types_forms.proofs.Decided.{Decided, decided, decided_not, none_missing}
use Rattle.hm_types_forms.proofs.Matching.{Both, neither, both, label_from_bare, bare_from_label, match_label, match_one, match_step, match_found}
use Rattle.hm_types_forms.proofs.MemberNodes.{all_found}
use Rattle.hm_types_forms.proofs.SameMembers.{here_match, step_same}
use Rattle.hm_types_forms.proofs.TidiedSteps.{next_in_range, tidied_next, tidied_sorted, label_tidied, label_step, form_under, tidy_here, tidy_gone, tidy_taken}

-- ---- nodes of two lists

module _ (ones twos : List NodeValue) where
  -- two nodes that stand for the same
  pub record ArePaired (i j : NodeId) : Type 0 where
    pub first : i.place < length ones
    pub second : j.place < length twos
    pub same : IsSame (form ones i) (form twos j)

  module _ (i j : NodeId) (n m : NodeValue) (at : slice_get ones i.place ≡ Some n) (to : slice_get twos j.place ≡ Some m) where
    -- nodes of one label match there
    pub label_there : HaveOneLabel (tidied (label_of n)) (tidied (label_of m)) → MatchThere (tidy (form ones i) []) (tidy (form twos j) [])
    label_there label =
        let match = match_one (tidied (label_of n)) (tidied (label_of m)) label in
        subst (λ x. MatchThere x (tidy (form twos j) [])) (sym (tidy_here ones i n at))
        (subst (MatchThere (Some (tidied (label_of n)))) (sym (tidy_here twos j m to)) (labels match))

    -- nodes that stand for the same have one label, and lead to such nodes
    module _ (same : IsSame (form ones i) (form twos j)) where
      pub same_labels : HaveOneLabel (tidied (label_of n)) (tidied (label_of m))
      same_labels = match_label (λ i j. Unit {0}) (tidied (label_of n)) (tidied (label_of m))
          (here_match (form ones i) (form twos j) (label_of n) (label_of m) (ap (option_map label_of) at) (ap (option_map label_of) to) same)

      module _ (well : IsWellFormedNode (length ones) n) (well_too : IsWellFormedNode (length twos) m) where
        same_under : (st : Step) (a b : NodeId) → next_of (tidied n) st ≡ Some a → next_of (tidied m) st ≡ Some b → ArePaired a b
        same_under st a b e f = record {
          first = next_in_range (length ones) n st a well (tidied_next n st a e);
          second = next_in_range (length twos) m st b well_too (tidied_next m st b f);
          same = subst (λ u. IsSame u (form twos b)) (form_under ones i n at st a (tidied_next n st a e))
              (subst (IsSame (under st (form ones i))) (form_under twos j m to st b (tidied_next m st b f))
              (step_same (form ones i) (form twos j) (label_of n) (label_of m) (ap (option_map label_of) at) (ap (option_map label_of) to) same st
              (label_step n st ∙ ap is_some e) (label_step m st ∙ ap is_some f)));
        }

        pub same_match : (R : NodeId → NodeId → Type 0) → ((a b : NodeId) → ArePaired a b → R a b) → Match R (tidied n) (tidied m)
        same_match R related = match_found R (tidied n) (tidied m)
            (label_from_bare (tidied n) (tidied m) (subst (λ l. HaveOneLabel l (label_of (tidied m))) (label_tidied n)
            (subst (HaveOneLabel (tidied (label_of n))) (label_tidied m) same_labels)))
            (all_found (tidied n).children (tidied_sorted n well.ascending)) (all_found (tidied m).children (tidied_sorted m well_too.ascending))
            (λ st a b e f. related a b (same_under st a b e f))

module _ (one two : SchemaValue) (well_one : IsWellFormed one) (well_two : IsWellFormed two) where
  -- ---- from a pairing

  module _ (paired : NodeId → NodeId → Bool) (pairing : IsPairing one two paired) where
    abbrev Paired : NodeId → NodeId → Type 0
    Paired i j = IsTrue (paired i j)

    -- paired nodes match on each way down
    on_way : (w : Way) (i j : NodeId) → Paired i j → MatchThere (tidy (form one.nodes i) w) (tidy (form two.nodes j) w)
    on_way [] i j r =
        let m = pairing.matches i j r in
        let label = bare_from_label (tidied m.first) (tidied m.second) (match_label Paired (tidied m.first) (tidied m.second) m.match) in
        label_there one.nodes two.nodes i j m.first m.second m.is_first m.is_second
        (subst (λ l. HaveOneLabel l (tidied (label_of m.second))) (sym (label_tidied m.first))
        (subst (HaveOneLabel (label_of (tidied m.first))) (sym (label_tidied m.second)) label))
    on_way (st ∷ w) i j r =
        let m = pairing.matches i j r in
        go m.first m.second m.is_first m.is_second (λ a b. on_way w a b) refl refl (match_step Paired (tidied m.first) (tidied m.second) m.match st)
      where
        go : (n m : NodeValue) → node_at one i ≡ Some n → node_at two j ≡ Some m
            → ((a b : NodeId) → Paired a b → MatchThere (tidy (form one.nodes a) w) (tidy (form two.nodes b) w))
            → {x y : Option NodeId} → next_of (tidied n) st ≡ x → next_of (tidied m) st ≡ y → Both Paired x y
            → MatchThere (tidy (form one.nodes i) (st ∷ w)) (tidy (form two.nodes j) (st ∷ w))
        go n m at to rest e f neither =
            subst (λ x. MatchThere x (tidy (form two.nodes j) (st ∷ w))) (sym (tidy_gone one.nodes i n at st w e))
            (subst (MatchThere None) (sym (tidy_gone two.nodes j m to st w f)) nothing)
        go n m at to rest e f (both {a} {b} r) =
            subst (λ x. MatchThere x (tidy (form two.nodes j) (st ∷ w))) (sym (tidy_taken one.nodes i n at st w a e))
            (subst (MatchThere (tidy (form one.nodes a) w)) (sym (tidy_taken two.nodes j m to st w b f)) (rest a b r))

  same_roots : AreSame one two → IsSame (form one.nodes one.root) (form two.nodes two.root)
  same_roots s = record { on_each = λ w. on_way s.paired s.pairing w one.root two.root s.roots }

  -- ---- to a pairing. Nodes are finitely many, so that it can't be wrong that it is decided which stand for the same

  abbrev AreAt : ℕ → ℕ → Type 0
  AreAt a b = ArePaired one.nodes two.nodes (record { place = a }) (record { place = b })

  all_decided : ¬ (¬ ((a b : ℕ) → Decided (AreAt a b)))
  all_decided = none_missing (length one.nodes) (λ a. (b : ℕ) → Decided (AreAt a b)) (λ a le b. decided_not (AreAt a b) (λ p. omega (arith, p.first, le)))
      (λ a. none_missing (length two.nodes) (λ b. Decided (AreAt a b)) (λ b le. decided_not (AreAt a b) (λ p. omega (arith, p.second, le)))
      (λ b. decided (AreAt a b)))

  node_there : (s : SchemaValue) (i : NodeId) → i.place < length s.nodes → (n : NodeValue) × (node_at s i ≡ Some n)
  node_there s i lt = elim (slice_get_cases s.nodes i.place).1 [
    | inl is ↦ (is.0, is.2)
    | inr none ↦ absurd (omega (arith, lt, none.0))
  ]

  module _ (d : (a b : ℕ) → Decided (AreAt a b)) where
    abbrev told : NodeId → NodeId → Bool
    told i j = (d i.place j.place).0

    match_at : (i j : NodeId) → ArePaired one.nodes two.nodes i j → MatchAt one two (λ a b. IsTrue (told a b)) i j
    match_at i j p =
        let n = node_there one i p.first in
        let m = node_there two j p.second in
        record {
          first = n.0;
          second = m.0;
          is_first = n.1;
          is_second = m.1;
          match = same_match one.nodes two.nodes i j n.0 m.0 n.1 m.1 p.same (well_formed_at one i n.0 well_one n.1) (well_formed_at two j m.0 well_two m.1)
              (λ a b. IsTrue (told a b)) (λ a b q. (d a.place b.place).1.1 q);
        }

    paired_roots : IsSame (form one.nodes one.root) (form two.nodes two.root) → AreSame one two
    paired_roots same = record {
      paired = told;
      pairing = record { matches = λ i j t. match_at i j ((d i.place j.place).1.0 t) };
      roots = (d one.root.place two.root.place).1.1 (record { first = well_one.root; second = well_two.root; same = same });
    }

  -- so where it is told whether schemas are the same, they are where the forms of their roots are
  pub same_forms : (b : Bool) → IsTrue b ↔ AreSame one two → AreSame one two ↔ IsSame (form one.nodes one.root) (form two.nodes two.root)
  same_forms b is = (
    same_roots,
    λ same. elim (cases_Bool b) [
      | inl t ↦ is.0 t
      | inr f ↦ absurd (all_decided (λ d. false≢true (sym f ∙ is.1 (paired_roots d same))))
    ],
  )
