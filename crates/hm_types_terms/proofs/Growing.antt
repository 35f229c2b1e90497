-- What is known of nodes stays true as nodes are added.
use Rattle.std.proofs.Common.{◌≡◌, ◌<◌, ℕ, List, length, Option, Some, None, refl, sym, ap, subst, ◌∙◌, arith}
use Rattle.std.specs.Option.{option_map}
use Rattle.std.specs.FinMap.{find}
use Rattle.std.proofs.lemmas.Option.{same_Some, none-some}
use Rattle.hm_tree.specs.Names.{Name, name_cmp}
use Rattle.hm_schema.specs.declared.node.NodeId.{NodeId}
use Rattle.hm_schema.proofs.NamesOf.{found_value}
use Rattle.hm_terms.specs.Lenses.{Lens}
use Rattle.hm_types_forms.specs.Forms.{Form, form}
use Rattle.hm_types_forms.specs.Sound.{IsSound}
use Rattle.hm_types_rules.specs.Typing.{Types, Goes}
use Rattle.hm_types_rules.specs.Faults.{At, Faults}
use Rattle.hm_types_rules.proofs.SoundGoes.{AreSoundTypes, goes_sound}
use Rattle.hm_types_table.specs.Tables.{Nodes, AreFormed, Extends}
use Rattle.hm_types_table.proofs.Grown.{extends_length, extends_then, form_extends}
use Rattle.hm_types_terms.specs.declared.course.Course.{Course}
use Rattle.hm_types_terms.specs.declared.memo.Memo.{Memo}
use Rattle.hm_types_terms.specs.Numbers.{StandFrom}
use Rattle.hm_types_terms.specs.Courses.{scope_of, Scope, AreTypes, AreDeclared, lenses_in, IsView, IsMemo, IsStart, IsReady, IsGrown, IsAt}

-- the types that definitions are declared with
abbrev pub types_at : Nodes → Scope → Types
types_at nodes scope = record {
  texts = scope.texts;
  declared = λ n. option_map (λ (d : NodeId × NodeId). (form nodes d.0, form nodes d.1)) (find name_cmp n scope.declared);
}

pub are_types : (nodes : Nodes) (scope : Scope) → AreTypes nodes scope (types_at nodes scope)
are_types nodes scope = record { texts = λ x. refl; is = λ n. refl }

module _ (nodes : Nodes) (scope : Scope) (d : AreDeclared nodes scope) where
  pub types_sound : AreSoundTypes (types_at nodes scope)
  types_sound n x v e = go (find name_cmp n scope.declared) refl e
    where
      go : (o : Option (NodeId × NodeId)) → find name_cmp n scope.declared ≡ o
          → option_map {U = Form × Form} (λ (d : NodeId × NodeId). (form nodes d.0, form nodes d.1)) o ≡ Some (x, v) → IsSound x × IsSound v
      go None f e = absurd (none-some (x, v) e)
      go (Some c) f e =
          let same = same_Some (form nodes c.0, form nodes c.1) (x, v) e in (
            subst IsSound (ap (λ (p : Form × Form). p.0) same)
                (found_value (λ (k : Name) (d : NodeId × NodeId). IsSound (form nodes d.0)) scope.declared d.sound_sources n c f),
            subst IsSound (ap (λ (p : Form × Form). p.1) same)
                (found_value (λ (k : Name) (d : NodeId × NodeId). IsSound (form nodes d.1)) scope.declared d.sound_views n c f),
          )

  pub view_sound : (new : Nodes) (l : Lens) (i j : NodeId) → IsSound (form nodes i) → IsView scope nodes new l i j → IsSound (form new j)
  view_sound new l i j h v = goes_sound (types_at nodes scope) types_sound (v.goes (types_at nodes scope) (are_types nodes scope)) h

module _ (old new : Nodes) (h : AreFormed old) (e : Extends old new) where
  pub inside : (i : NodeId) → i.place < length old → i.place < length new
  inside i lt = omega (arith, lt, extends_length old new e)

  pub same_form : (i : NodeId) → i.place < length old → form new i ≡ form old i
  same_form i lt = form_extends old new h e i lt

  module _ (scope : Scope) (d : AreDeclared old scope) where
    pub declared_grown : AreDeclared new scope
    declared_grown = record {
      sorted = d.sorted;
      sources = λ i x lt. inside _ (d.sources i x lt);
      views = λ i x lt. inside _ (d.views i x lt);
      sound_sources = λ i x lt. subst IsSound (sym (same_form _ (d.sources i x lt))) (d.sound_sources i x lt);
      sound_views = λ i x lt. subst IsSound (sym (same_form _ (d.views i x lt))) (d.sound_views i x lt);
    }

    same_types : (n : Name) → (types_at new scope).declared n ≡ (types_at old scope).declared n
    same_types n = go (find name_cmp n scope.declared) refl
      where
        go : (o : Option (NodeId × NodeId)) → find name_cmp n scope.declared ≡ o
            → option_map {U = Form × Form} (λ (d : NodeId × NodeId). (form new d.0, form new d.1)) o
            ≡ option_map {U = Form × Form} (λ (d : NodeId × NodeId). (form old d.0, form old d.1)) o
        go None f = refl
        go (Some c) f =
            let one = same_form c.0 (found_value (λ (k : Name) (d : NodeId × NodeId). d.0.place < length old) scope.declared d.sources n c f) in
            let two = same_form c.1 (found_value (λ (k : Name) (d : NodeId × NodeId). d.1.place < length old) scope.declared d.views n c f) in
            λ t. let p : Form × Form = (one t, two t) in Some p

    pub types_grown : (types : Types) → AreTypes old scope types → AreTypes new scope types
    types_grown types t = record { texts = t.texts; is = λ n. t.is n ∙ sym (same_types n) }

    pub types_before : (types : Types) → AreTypes new scope types → AreTypes old scope types
    types_before types t = record { texts = t.texts; is = λ n. t.is n ∙ same_types n }

    -- what starts from a node of the old ones
    pub view_before : (end : Nodes) (l : Lens) (i j : NodeId) → i.place < length old → IsView scope new end l i j → IsView scope old end l i j
    view_before end l i j lt v = record {
      in_range = v.in_range;
      goes = λ types t. subst (λ u. Goes types l u (form end j)) (same_form i lt) (v.goes types (types_grown types t));
    }

    pub view_after : (end : Nodes) (l : Lens) (i j : NodeId) → i.place < length old → IsView scope old end l i j → IsView scope new end l i j
    view_after end l i j lt v = record {
      in_range = v.in_range;
      goes = λ types t. subst (λ u. Goes types l u (form end j)) (sym (same_form i lt)) (v.goes types (types_before types t));
    }

    pub fault_before : (l : Lens) (n : ℕ) (i : NodeId) (a : At) → i.place < length old → IsAt scope new l n i a → IsAt scope old l n i a
    fault_before l n i a lt f = λ types t. subst (λ u. Faults types l n u a) (same_form i lt) (f types (types_grown types t))

  -- what ends at a node of the old ones
  pub view_later : (scope : Scope) (base : Nodes) (l : Lens) (i j : NodeId) → IsView scope base old l i j → IsView scope base new l i j
  view_later scope base l i j v = record {
    in_range = inside j v.in_range;
    goes = λ types t. subst (Goes types l (form base i)) (sym (same_form j v.in_range)) (v.goes types t);
  }

  pub memo_grown : (c : Course) (known : Memo) → AreDeclared old (scope_of c) → IsMemo c old known → IsMemo c new known
  memo_grown c known d m = record {
    in_range = λ n i j at. inside i (m.in_range n i j at);
    each = λ n i j at l s.
        view_later (scope_of c) new l i j (view_after (scope_of c) d old l i j (m.in_range n i j at) (m.each n i j at l s));
  }

  pub start_grown : (scope : Scope) (i j : NodeId) → IsStart old scope i → AreFormed new → j.place < length new → IsSound (form new j) → IsStart new scope j
  start_grown scope i j s formed lt sound = record { formed = formed; in_range = lt; sound = sound; declared = declared_grown scope s.declared }

-- ---- all that lenses are checked with

module _ (c : Course) (old : Nodes) (known : Memo) (xs : List Lens) (n : ℕ) (i : NodeId) (r : IsReady c old known xs n i) where
  -- nodes were added, and nothing else
  pub grown_by : (new : Nodes) → AreFormed new → Extends old new → IsGrown c old new known
  grown_by new formed e = record { formed = formed; extends = e; memo = memo_grown old new r.start.formed e c known r.start.declared r.memo }

  -- other lenses, at another node, later
  pub ready_at : (new : Nodes) (more : Memo) (ys : List Lens) (m : ℕ) (j : NodeId) → IsGrown c old new more → j.place < length new → IsSound (form new j)
      → StandFrom (lenses_in c) m ys → IsReady c new more ys m j
  ready_at new more ys m j g lt sound stand = record {
    start = start_grown old new r.start.formed g.extends (scope_of c) i j r.start g.formed lt sound;
    memo = g.memo;
    stand = stand;
    sized = r.sized;
    rows = r.rows;
  }

  -- the same node, later
  pub ready_later : (new : Nodes) (more : Memo) (ys : List Lens) (m : ℕ) → IsGrown c old new more → StandFrom (lenses_in c) m ys
      → IsReady c new more ys m i
  ready_later new more ys m g stand = ready_at new more ys m i g (inside old new r.start.formed g.extends i r.start.in_range)
      (subst IsSound (sym (same_form old new r.start.formed g.extends i r.start.in_range)) r.start.sound) stand

pub grown_then : (c : Course) (one two three : Nodes) (known more : Memo) → IsGrown c one two known → IsGrown c two three more → IsGrown c one three more
grown_then c one two three known more g h = record { formed = h.formed; extends = extends_then one two three g.extends h.extends; memo = h.memo }

-- the last nodes that are added
pub grown_last : (c : Course) (mid new : Nodes) (known : Memo) → AreDeclared mid (scope_of c) → (old : Nodes) → IsGrown c old mid known → AreFormed new → Extends mid new
    → IsGrown c old new known
grown_last c mid new known d old g formed e =
    record { formed = formed; extends = extends_then old mid new g.extends e; memo = memo_grown mid new g.formed e c known d g.memo }
