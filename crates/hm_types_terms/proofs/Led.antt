-- A view of the kind of its source, whose edges were led on by lenses: what stands on each step.
use Rattle.std.proofs.Common.{◌≡◌, ◌<◌, ℕ, Bool, true, false, T, List, [], ◌∷◌, ◌++◌, length, map, slice_get, slice_set, is_some, Option, Some, None, option_and_then, All, inl, inr, refl, sym, ap, subst, ◌∙◌, arith}
use mathlib.Core.Bool.{true≢false}
use Rattle.std.specs.List.{zip, list_any}
use Rattle.std.specs.Ordering.{eq_by_cmp}
use Rattle.std.specs.Option.{option_map}
use Rattle.std.specs.FinMap.{find, is_sorted}
use Rattle.std.proofs.lemmas.Option.{same_Some, none-some, slice_get_within, slice_get-map}
use Rattle.std.proofs.lemmas.Slice.Zip.{firsts-zip}
use Rattle.std.specs.FinMap.Entries.{is_some-find}
use Rattle.hm_tree.specs.declared.class.Class.{Class}
use Rattle.hm_tree.specs.Names.{Name, name_cmp}
use Rattle.hm_schema.specs.declared.node.NodeId.{NodeId}
use Rattle.hm_schema.specs.Values.{NodeValue}
use Rattle.hm_schema.specs.WellFormed.{IsWellFormedNode}
use Rattle.hm_schema.proofs.NamesOf.{tie_one}
use Rattle.hm_schema.proofs.Lists.{all_read}
use Rattle.hm_terms.specs.Lenses.{Lens}
use Rattle.hm_types_forms.specs.Forms.{Step, named, others, label_of, next_of, under, form}
use Rattle.hm_types_rules.specs.Typing.{Types, Goes}
use Rattle.hm_types_table.specs.Tables.{Nodes, AreFormed, Extends, keys, replaced}
use Rattle.hm_types_table.proofs.Grown.{extends_length, formed_at}
use Rattle.hm_types_forms.proofs.TidiedSteps.{next_in_range}
use Rattle.hm_types_table.proofs.Keys.{keys_size, zip_sorted, rising}
use Rattle.hm_types_terms.specs.Courses.{Scope, AreTypes}
use Rattle.hm_types_terms.specs.Below.{IsLed, AreLed, AreOthersLed}
use Rattle.hm_types_terms.proofs.Entries.{found_at, at_found, once_at, beside_at, there, pushed_at, set_at}
use Rattle.hm_types_terms.proofs.Growing.{inside, same_form, view_later}

none_found : {X Y : Type 0} (k : Name) (ds : List (Name × X)) (es : List (Name × Y)) → is_some (find name_cmp k ds) ≡ is_some (find name_cmp k es)
    → find name_cmp k es ≡ None → find name_cmp k ds ≡ None
none_found k ds es same e = go (find name_cmp k ds) (same ∙ ap is_some e)
  where
    go : {X : Type 0} (x : Option X) → is_some x ≡ false → x ≡ None
    go None h = refl
    go (Some x) h = absurd (true≢false h)

-- ---- one edge more

module _ (scope : Scope) (old : Nodes) where
  led_later : (mid new : Nodes) (h : AreFormed mid) (e : Extends mid new) (o : Option Lens) (i j : NodeId) → IsLed scope old mid o i j → IsLed scope old new o i j
  led_later mid new h e o i j l = record {
    in_range = inside mid new h e j l.in_range;
    view = λ lens is. view_later mid new h e scope old lens i j (l.view lens is);
    stays = l.stays;
  }

  pub others_later : (mid new : Nodes) (h : AreFormed mid) (e : Extends mid new) (l : Option Lens) (x y : Option (Class × NodeId))
      → AreOthersLed scope old mid l x y → AreOthersLed scope old new l x y
  others_later mid new h e l None None r = tt
  others_later mid new h e l None (Some p) r = absurd r
  others_later mid new h e l (Some o) None r = absurd r
  others_later mid new h e l (Some o) (Some p) r = (r.0, led_later mid new h e l o.1 p.1 r.1)

  module _ (on : Name → Option Lens) (cs : List (Name × NodeId)) (js : List NodeId) where
    pub led_grown : (mid new : Nodes) → AreFormed mid → Extends mid new → AreLed scope old mid on cs js → AreLed scope old new on cs js
    led_grown mid new h e l = record { each = λ p k i j at to. led_later mid new h e (on k) i j (l.each p k i j at to) }

    pub led_pushed : (new : Nodes) (p : ℕ) (k : Name) (i j : NodeId) → length js ≡ p → slice_get cs p ≡ Some (k, i) → AreLed scope old new on cs js
        → IsLed scope old new (on k) i j → AreLed scope old new on cs (js ++ j ∷ [])
    led_pushed new p k i j count at l one = record {
      each = λ q m a b from to. elim (pushed_at js j b q to) [
        | inl f ↦ l.each q m a b from f
        | inr f ↦
            let same : q ≡ p = f.0 ∙ count in
            let edge : (m, a) ≡ (k, i) = same_Some (m, a) (k, i) (sym from ∙ ap (slice_get cs) same ∙ at) in
            subst (λ (b : NodeId). IsLed scope old new (on m) a b) f.1
            (subst (λ (z : Name × NodeId). IsLed scope old new (on z.0) z.1 j) (sym edge) one)
      ];
    }

  -- no edge has a lens
  pub led_none : (on : Name → Option Lens) (cs : List (Name × NodeId)) → ((k : Name) → on k ≡ None) → All (λ c. c.1.place < length old) cs
      → AreLed scope old old on cs (map (λ c. c.1) cs)
  led_none on cs none all = record {
    each = λ p k i j at to.
        let same : i ≡ j = same_Some i j (sym (slice_get-map (λ (c : Name × NodeId). c.1) cs p ∙ ap (option_map (λ (c : Name × NodeId). c.1)) at) ∙ to) in
        record {
          in_range = subst (λ (j : NodeId). j.place < length old) same (all_read (λ (c : Name × NodeId). c.1.place < length old) cs p (k, i) at all);
          view = λ l is. absurd (none-some l (sym (none k) ∙ is));
          stays = λ e. sym same;
        };
  }

  -- the edge of a name gets a lens
  pub led_set : (on next : Name → Option Lens) (cs : List (Name × NodeId)) (js : List NodeId) (new : Nodes) (p : ℕ) (k : Name) (i j : NodeId)
      → T (is_sorted name_cmp cs) → slice_get cs p ≡ Some (k, i) → AreLed scope old new on cs js
      → ((m : Name) → eq_by_cmp name_cmp m k ≡ false → next m ≡ on m) → IsLed scope old new (next k) i j → AreLed scope old new next cs (slice_set js p j)
  led_set on next cs js new p k i j sorted at l other one = record {
    each = λ q m a b from to. elim (set_at js j b p q to) [
      | inl f ↦ go q m a b from f.0 f.1 (eq_by_cmp name_cmp m k) refl
      | inr f ↦
          let edge : (m, a) ≡ (k, i) = same_Some (m, a) (k, i) (sym from ∙ ap (slice_get cs) f.0 ∙ at) in
          subst (λ (b : NodeId). IsLed scope old new (next m) a b) f.1
          (subst (λ (z : Name × NodeId). IsLed scope old new (next z.0) z.1 j) (sym edge) one)
    ];
  }
    where
      go : (q : ℕ) (m : Name) (a b : NodeId) → slice_get cs q ≡ Some (m, a) → slice_get js q ≡ Some b → (q ≡ p → ⊥) → (t : Bool) → eq_by_cmp name_cmp m k ≡ t
          → IsLed scope old new (next m) a b
      go q m a b from to apart false t = subst (λ o. IsLed scope old new o a b) (sym (other m t)) (l.each q m a b from to)
      go q m a b from to apart true t =
          absurd (apart (once_at cs sorted q p m a i from (at ∙ ap (λ (m : Name). let z : Name × NodeId = (m, i) in Some z) (sym (tie_one m k t)))))

-- ---- what is found on a step from a node

module _ (nodes : Nodes) (i : NodeId) (n : NodeValue) (e : slice_get nodes i.place ≡ Some n) (s : Step) where
  pub under_at : (j : NodeId) → next_of n s ≡ Some j → under s (form nodes i) ≡ form nodes j
  under_at j f = λ p w. (ap (option_and_then (λ n. option_and_then (λ j. form nodes j w) (next_of n s))) e ∙ ap (option_and_then (λ j. form nodes j w)) f) p

  pub under_none : next_of n s ≡ None → under s (form nodes i) ≡ (λ w. None)
  under_none f = λ p w. (ap (option_and_then (λ n. option_and_then (λ j. form nodes j w) (next_of n s))) e ∙ ap (option_and_then (λ j. form nodes j w)) f) p

-- ---- the view

-- a step from the view, beside that from the source
record IsStep (scope : Scope) (old end : Nodes) (o : Option Lens) (x y : Option NodeId) : Type 0 where
  both : (i : NodeId) → x ≡ Some i → (j : NodeId) × ((y ≡ Some j) × IsLed scope old end o i j)
  neither : x ≡ None → y ≡ None

module _ (scope : Scope) (old end new : Nodes) (on : Step → Option Lens) (i j : NodeId) (n : NodeValue) (js : List NodeId) (o : Option (Class × NodeId))
    (start : AreFormed old) (more : Extends old end) (formed : AreFormed end) (at : slice_get old i.place ≡ Some n)
    (led : AreLed scope old end (λ k. on (named k)) n.children js) (count : length js ≡ length n.children) (other : AreOthersLed scope old end (on others) n.other o)
    (grows : Extends end new) (here : slice_get new j.place ≡ Some (replaced n js o)) where
  well : IsWellFormedNode (length old) n
  well = formed_at old i n start at

  pub view_label : form new j [] ≡ Some (label_of n)
  view_label = ap (option_map label_of) here ∙ ap Some (λ t. record { shapes = n.shapes; children = names n.children js count t; other = class n.other o other t; twins = n.twins })
    where
      names : (cs : List (Name × NodeId)) (js : List NodeId) → length js ≡ length cs
          → map {B = Name × Unit {0}} (λ c. (c.0, tt)) (zip (keys cs) js) ≡ map {B = Name × Unit {0}} (λ c. (c.0, tt)) cs
      names [] [] e = refl
      names [] (j ∷ js) e = absurd (omega (arith, e))
      names (c ∷ cs) [] e = absurd (omega (arith, e))
      names (c ∷ cs) (j ∷ js) e = ap (λ l. (c.0, tt) ∷ l) (names cs js (omega (arith, e)))

      class : (x y : Option (Class × NodeId)) → AreOthersLed scope old end (on others) x y
          → option_map {U = Class × Unit {0}} (λ o. (o.0, tt)) y ≡ option_map {U = Class × Unit {0}} (λ o. (o.0, tt)) x
      class None None r = refl
      class None (Some q) r = absurd r
      class (Some p) None r = absurd r
      class (Some p) (Some q) r = ap (λ (c : Class). let z : Class × Unit {0} = (c, tt) in Some z) r.0

  step : (s : Step) → IsStep scope old end (on s) (next_of n s) (next_of (replaced n js o) s)
  step (named k) = record { both = both; neither = neither }
    where
      both : (a : NodeId) → find name_cmp k n.children ≡ Some a → (b : NodeId) × ((find name_cmp k (zip (keys n.children) js) ≡ Some b) × IsLed scope old end (on (named k)) a b)
      both a f =
          let s = found_at k a n.children f in
          let b = there js s.place (omega (arith, count, slice_get_within n.children s.place (k, a) s.is)) in
          let sorted = zip_sorted (keys n.children) js (rising n.children well.ascending) (count ∙ sym (keys_size n.children)) in
          (b.0, (at_found (zip (keys n.children) js) sorted s.place k b.0 (beside_at n.children js s.place k a b.0 s.is b.1), led.each s.place k a b.0 s.is b.1))

      neither : find name_cmp k n.children ≡ None → find name_cmp k (zip (keys n.children) js) ≡ None
      neither f = none_found k (zip (keys n.children) js) n.children
          (is_some-find name_cmp k (zip (keys n.children) js)
          ∙ ap (list_any (eq_by_cmp name_cmp k)) (firsts-zip (keys n.children) js (count ∙ sym (keys_size n.children))) ∙ sym (is_some-find name_cmp k n.children)) f
  step others = go n.other o other
    where
      go : (x y : Option (Class × NodeId)) → AreOthersLed scope old end (on others) x y
          → IsStep scope old end (on others) (option_map (λ (o : Class × NodeId). o.1) x) (option_map (λ (o : Class × NodeId). o.1) y)
      go None None r = record { both = λ a f. absurd (none-some a f); neither = λ f. refl }
      go None (Some q) r = absurd r
      go (Some p) None r = absurd r
      go (Some p) (Some q) r = record {
        both = λ a f. (q.1, (refl, subst (λ (a : NodeId). IsLed scope old end (on others) a q.1) (same_Some p.1 a f) r.1));
        neither = λ f. absurd (none-some p.1 (sym f));
      }

  -- where there is a lens, it goes
  pub step_goes : (s : Step) (l : Lens) → on s ≡ Some l → (a : NodeId) → next_of n s ≡ Some a → (types : Types) → AreTypes old scope types
      → Goes types l (under s (form old i)) (under s (form new j))
  step_goes s l e a f types t =
      let b = (step s).both a f in
      let v = b.1.1.view l e in
      subst (λ u. Goes types l u (under s (form new j))) (sym (under_at old i n at s a f))
      (subst (Goes types l (form old a)) (sym (under_at new j (replaced n js o) here s b.0 b.1.0 ∙ same_form end new formed grows b.0 v.in_range)) (v.goes types t))

  -- where there is none, all is as it was
  pub step_stays : (s : Step) → on s ≡ None → under s (form new j) ≡ under s (form old i)
  step_stays s e = go (next_of n s) refl
    where
      go : (x : Option NodeId) → next_of n s ≡ x → under s (form new j) ≡ under s (form old i)
      go None f = under_none new j (replaced n js o) here s ((step s).neither f) ∙ sym (under_none old i n at s f)
      go (Some a) f =
          let b = (step s).both a f in
          let lt = next_in_range (length old) n s a well f in
          under_at new j (replaced n js o) here s b.0 b.1.0
          ∙ ap (form new) (b.1.1.stays e)
          ∙ same_form end new formed grows a (omega (arith, lt, extends_length old end more))
          ∙ same_form old end start more a lt
          ∙ sym (under_at old i n at s a f)
