-- One lens on each child.
use Rattle.std.proofs.Common.{◌≡◌, ◌<◌, ◌+◌, ℕ, Bool, true, false, List, [], ◌∷◌, ◌++◌, length, slice_get, Option, Some, None, IfSome, refl, sym, ap, subst, ◌∙◌, arith}
use Rattle.std.specs.Option.{option_map}
use Rattle.std.proofs.lemmas.Option.{same_Some, none-some, slice_get_within, get_or_from_slice_get}
use Rattle.hm_tree.specs.declared.class.Class.{Class}
use Rattle.hm_tree.specs.Names.{Name}
use Rattle.hm_schema.specs.declared.node.NodeId.{NodeId}
use Rattle.hm_schema.specs.Values.{NodeValue}
use Rattle.hm_schema.specs.WellFormed.{IsWellFormedNode}
use Rattle.hm_schema.proofs.Lists.{all_read}
use Rattle.hm_terms.specs.Lenses.{Lens, each}
use Rattle.hm_types_forms.specs.Forms.{Label, Step, named, others, label_of, next_of, under, form, can_be}
use Rattle.hm_types_forms.specs.Sound.{IsSound}
use Rattle.hm_types_rules.specs.Typing.{Goes, goes_each}
use Rattle.hm_types_rules.specs.Faults.{At, at, Faults, Before, GoesOn, fault_each, fault_child}
use Rattle.hm_types_forms.proofs.SoundForms.{under_sound}
use Rattle.hm_types_table.specs.Tables.{Nodes, AreFormed, Extends, replaced, Replaces, CanReplace}
use Rattle.hm_types_table.proofs.Grown.{extends_self, formed_at}
use Rattle.hm_types_forms.proofs.TidiedSteps.{next_in_range}
use Rattle.hm_types_terms.specs.declared.course.Course.{Course}
use Rattle.hm_types_terms.specs.declared.memo.Memo.{Memo}
use Rattle.hm_types_terms.specs.Numbers.{parts_of}
use Rattle.hm_types_terms.specs.Courses.{scope_of, Scope, AreDeclared, lenses_in, IsView, IsReady, IsAt}
use Rattle.hm_types_terms.specs.Below.{IsLed, AreLed, AreOthersLed, where_it_can, IsListedBelow, IsOtherBelow, IsListedAt, IsOtherAt}
use Rattle.hm_types_terms.proofs.Standing.{stand_inside}
use Rattle.hm_types_terms.proofs.Growing.{same_form, view_before, types_grown, ready_at, grown_by}
use Rattle.hm_types_terms.proofs.Entries.{found_at, at_found, before_at, there}
use Rattle.hm_types_terms.proofs.Led.{under_at, led_pushed, led_grown, view_label, step_goes, step_stays}
use Rattle.hm_types_terms.proofs.Possible.{can_next}

-- ---- lenses where something can be

module _ (scope : Scope) (old new : Nodes) (l : Lens) (i : NodeId) where
  pub led_yes : (can : Bool) (j : NodeId) → can ≡ true → IsView scope old new l i j → IsLed scope old new (where_it_can can l) i j
  led_yes can j e v = record {
    in_range = v.in_range;
    view = λ k is. subst (λ k. IsView scope old new k i j) (same_Some l k (sym (ap (λ b. where_it_can b l) e) ∙ is)) v;
    stays = λ is. absurd (none-some l (sym is ∙ ap (λ b. where_it_can b l) e));
  }

  pub led_no : (can : Bool) → can ≡ false → i.place < length new → IsLed scope old new (where_it_can can l) i i
  led_no can e lt = record { in_range = lt; view = λ k is. absurd (none-some k (sym (ap (λ b. where_it_can b l) e) ∙ is)); stays = λ is. refl }

module _ (old mid : Nodes) (h : AreFormed old) (e : Extends old mid) (scope : Scope) (d : AreDeclared old scope) (new : Nodes) where
  pub led_before : (o : Option Lens) (i j : NodeId) → i.place < length old → IsLed scope mid new o i j → IsLed scope old new o i j
  led_before o i j lt l = record { in_range = l.in_range; view = λ k is. view_before old mid h e scope d new k i j lt (l.view k is); stays = l.stays }

  pub others_before : (l : Option Lens) (x y : Option (Class × NodeId)) → IfSome x (λ x. x.1.place < length old) → AreOthersLed scope mid new l x y
      → AreOthersLed scope old new l x y
  others_before l None None lt r = tt
  others_before l None (Some q) lt r = absurd r
  others_before l (Some p) None lt r = absurd r
  others_before l (Some p) (Some q) lt r = (r.0, led_before l p.1 q.1 lt r.1)

-- ---- what a node of its kind may stand over

pub can_replace : (scope : Scope) (old end : Nodes) (on : Step → Option Lens) (i : NodeId) (n : NodeValue) (js : List NodeId) (o : Option (Class × NodeId))
    → slice_get end i.place ≡ Some n → AreLed scope old end (λ k. on (named k)) n.children js → length js ≡ length n.children
    → AreOthersLed scope old end (on others) n.other o → CanReplace end i js o
can_replace scope old end on i n js o at led count other = record {
  node = n;
  is = at;
  count = count;
  next = λ p d lt.
      let c = there n.children p (omega (arith, lt, count)) in
      let b = there js p lt in
      subst (λ (j : NodeId). j.place < length end) (sym (get_or_from_slice_get js p b.0 d b.1)) (led.each p c.0.0 c.0.1 b.0 c.1 b.1).in_range;
  other = go n.other o other;
}
  where
    go : (x y : Option (Class × NodeId)) → AreOthersLed scope old end (on others) x y → Replaces end x y
    go None None r = tt
    go None (Some q) r = absurd r
    go (Some p) None r = absurd r
    go (Some p) (Some q) r = (r.0, r.1.in_range)

-- ---- the lens

module _ (c : Course) (number : ℕ) (l : Lens) (old : Nodes) (known : Memo) (i : NodeId) (r : IsReady c old known (parts_of (each l)) number i)
    (n : NodeValue) (at_i : slice_get old i.place ≡ Some n) where
  abbrev pub on : Step → Option Lens
  on s = where_it_can (can_be n s) l

  pub node_well : IsWellFormedNode (length old) n
  node_well = formed_at old i n r.start.formed at_i

  label : form old i [] ≡ Some (label_of n)
  label = ap (option_map label_of) at_i

  pub each_refused : (n.twins ≡ [] → ⊥) → IsAt (scope_of c) old (each l) number i (at number 7)
  each_refused f types t = fault_each (λ a p. f (ap (λ (a : Label). a.twins) (same_Some (label_of n) a (sym label ∙ p.is)) ∙ p.plain))

  pub child_ready : (s : Step) (j : NodeId) → next_of n s ≡ Some j → IsReady c old known (parts_of l) (number + 1) j
  child_ready s j e = ready_at c old known (parts_of (each l)) number i r old known (parts_of l) (number + 1) j
      (grown_by c old known (parts_of (each l)) number i r old r.start.formed (extends_self old))
      (next_in_range (length old) n s j node_well e)
      (subst IsSound (under_at old i n at_i s j e) (under_sound s (form old i) r.start.sound))
      (stand_inside (lenses_in c) number (each l) (parts_of l) r.stand)

  -- the lens goes on all steps before one, and not on that
  module _ (mid : Nodes) (e : Extends old mid) (js : List NodeId) (led : AreLed (scope_of c) old mid (λ k. on (named k)) n.children js) (plain : n.twins ≡ []) where
    fault_on : (s : Step) (j : NodeId) (a : At) → next_of n s ≡ Some j → can_be n s ≡ true
        → ((m : Name) (q : ℕ) (x : NodeId) → slice_get n.children q ≡ Some (m, x) → Before (named m) s → q < length js) → Before others s ≡ ⊥
        → IsAt (scope_of c) mid l (number + 1) j a → IsAt (scope_of c) old (each l) number i a
    fault_on s j a next can before never f types t =
        let u : under s (form old i) ≡ form mid j = under_at old i n at_i s j next
        ∙ sym (same_form old mid r.start.formed e j (next_in_range (length old) n s j node_well next)) in
        fault_child s (record { is = label; plain = plain }) can first
        (subst (λ u. Faults types l (number + 1) u a) (sym u) (f types (types_grown old mid r.start.formed e (scope_of c) r.start.declared types t)))
      where
        first : (q : Step) → Before q s → can_be (label_of n) q ≡ true → GoesOn types l (under q (form old i))
        first others b can = absurd (subst (λ X. X) never b)
        first (named m) b can =
            let x = can_next (length old) n node_well (named m) can in
            let s = found_at m x.0 n.children x.1 in
            let y = there js s.place (before m s.place x.0 s.is b) in
            let v = (led.each s.place m x.0 y.0 s.is y.1).view l (ap (λ b. where_it_can b l) can) in
            record {
              view = form mid y.0;
              goes = subst (λ u. Goes types l u (form mid y.0)) (sym (under_at old i n at_i (named m) x.0 x.1)) (v.goes types t);
            }

    pub listed_at : (a : At) → IsListedAt (scope_of c) mid l (number + 1) n (length js) a → IsAt (scope_of c) old (each l) number i a
    listed_at a f = fault_on (named f.name) f.child a (at_found n.children node_well.ascending (length js) f.name f.child f.is) f.can
        (λ m q x at b. before_at n.children node_well.ascending (length js) q f.name m f.child x f.is at b) refl f.fault

    pub other_at : length js ≡ length n.children → (a : At) → IsOtherAt (scope_of c) mid l (number + 1) n a → IsAt (scope_of c) old (each l) number i a
    other_at count a f = fault_on others f.child a (ap (option_map (λ (o : Class × NodeId). o.1)) f.is) f.can
        (λ m q x at b. omega (arith, slice_get_within n.children q (m, x) at, count)) refl f.fault

    pub each_view : (new : Nodes) (j : NodeId) (o : Option (Class × NodeId)) → AreFormed mid → length js ≡ length n.children
        → AreOthersLed (scope_of c) old mid (on others) n.other o → Extends mid new → slice_get new j.place ≡ Some (replaced n js o)
        → IsView (scope_of c) old new (each l) i j
    each_view new j o formed count other grows here = record {
      in_range = slice_get_within new j.place (replaced n js o) here;
      goes = λ types t. goes_each (record { is = label; plain = plain })
          (view_label (scope_of c) old mid new on i j n js o r.start.formed e formed at_i led count other grows here)
          (λ s can. let x = can_next (length old) n node_well s can in
          step_goes (scope_of c) old mid new on i j n js o r.start.formed e formed at_i led count other grows here s l (ap (λ b. where_it_can b l) can) x.0 x.1 types t)
          (λ s can. step_stays (scope_of c) old mid new on i j n js o r.start.formed e formed at_i led count other grows here s (ap (λ b. where_it_can b l) can));
    }

    pub each_pushed : (new : Nodes) (h : Extends mid new) (j : NodeId) (p : ℕ) → length js ≡ p → AreFormed mid
        → IsListedBelow (scope_of c) mid new l n p j → AreLed (scope_of c) old new (λ k. on (named k)) n.children (js ++ j ∷ [])
    each_pushed new h j p count formed b =
        led_pushed (scope_of c) old (λ k. on (named k)) n.children js new p b.name b.child j count b.is
        (led_grown (scope_of c) old (λ k. on (named k)) n.children js mid new formed h led)
        (led_before old mid r.start.formed e (scope_of c) r.start.declared new (on (named b.name)) b.child j
        (all_read (λ (c : Name × NodeId). c.1.place < length old) n.children p (b.name, b.child) b.is node_well.children) b.led)

    pub each_others : (new : Nodes) (o : Option (Class × NodeId)) → IsOtherBelow (scope_of c) mid new l n o
        → AreOthersLed (scope_of c) old new (on others) n.other o
    each_others new o b = others_before old mid r.start.formed e (scope_of c) r.start.declared new (on others) n.other o node_well.other b
