-- Forms that are the same have the same members.
use Rattle.std.proofs.Common.{◌≡◌, ◌↔◌, ℕ, zero, suc, ◌+◌, ◌<◌, Bool, true, false, cond, IsTrue, is_some, List, [], ◌∷◌, map, filter, Option, Some, None, refl, sym, ap, subst, ◌∙◌, arith}
use Rattle.std.specs.Option.{option_map}
use Rattle.std.specs.Ordering.{eq_by_cmp}
use Rattle.std.specs.List.{AllZip}
use Rattle.std.specs.FinMap.{find}
use Rattle.std.proofs.lemmas.Option.{same_Some, none-some}
use Rattle.std.proofs.lemmas.Cmp.{tied_itself}
use Rattle.hm_tree.specs.declared.class.Class.{Class}
use Rattle.hm_tree.specs.Names.{Name, name_cmp}
use Rattle.hm_tree.specs.Nodes.{Tree, below, depth}
use Rattle.hm_tree.proofs.Sorted.{name_total}
use Rattle.hm_tree.proofs.Depths.{depth_below}
use Rattle.hm_schema.specs.Values.{NodeOver}
use Rattle.hm_schema.specs.Tidied.{tidied, stands, lets_some_in}
use Rattle.hm_schema.specs.Sameness.{AreOthers, Match, no_others, others}
use Rattle.hm_schema.specs.Standing.{Alike}
use Rattle.hm_schema.proofs.SameNodes.{same_stands}
use Rattle.hm_types_forms.specs.Forms.{Form, Label, Step, named, over, next_of, under}
use Rattle.hm_types_forms.specs.Members.{Member, member}
use Rattle.hm_types_forms.specs.SameForms.{IsSame, MatchThere, nothing, labels, tidy, has_step}
use Rattle.hm_types_forms.specs.Sound.{IsSound}
use Rattle.hm_types_forms.proofs.Nodes.{sound_over}
use Rattle.hm_types_forms.proofs.MemberNodes.{members_alike}
use Rattle.hm_types_forms.proofs.SoundForms.{under_sound}

-- ---- a tidied node over forms

module _ {I J : Type 0} (f : Step → I → J) (l : NodeOver I) where
  filtered_over : (cs : List (Name × I)) → filter (λ (c : Name × J). stands l c.0) (map (λ c. (c.0, f (named c.0) c.1)) cs)
      ≡ map (λ c. (c.0, f (named c.0) c.1)) (filter (λ (c : Name × I). stands l c.0) cs)
  filtered_over [] = refl
  filtered_over (c ∷ cs) = go (stands l c.0) (filtered_over cs)
    where
      led : Name × J
      led = (c.0, f (named c.0) c.1)

      go : (b : Bool) → filter (λ (c : Name × J). stands l c.0) (map (λ c. (c.0, f (named c.0) c.1)) cs)
          ≡ map (λ c. (c.0, f (named c.0) c.1)) (filter (λ (c : Name × I). stands l c.0) cs)
          → cond b ((c.0, f (named c.0) c.1) ∷ filter (λ (c : Name × J). stands l c.0) (map (λ c. (c.0, f (named c.0) c.1)) cs))
          (filter (λ (c : Name × J). stands l c.0) (map (λ c. (c.0, f (named c.0) c.1)) cs))
          ≡ map (λ c. (c.0, f (named c.0) c.1)) (cond b (c ∷ filter (λ (c : Name × I). stands l c.0) cs) (filter (λ (c : Name × I). stands l c.0) cs))
      go true rest = ap (λ cs. led ∷ cs) rest
      go false rest = rest

  pub tidied_over : tidied (over f l) ≡ over f (tidied l)
  tidied_over = λ i. record { shapes = l.shapes; children = children (lets_some_in l) i; other = other (lets_some_in l) i; twins = l.twins }
    where
      children : (b : Bool) → cond b (over f l).children (filter (λ (c : Name × J). stands l c.0) (over f l).children)
          ≡ map (λ c. (c.0, f (named c.0) c.1)) (cond b l.children (filter (λ (c : Name × I). stands l c.0) l.children))
      children true = refl
      children false = filtered_over l.children

      other : (b : Bool) → cond b (over f l).other None ≡ option_map (λ o. (o.0, f Step.others o.1)) (cond b l.other None)
      other true = refl
      other false = refl

-- ---- what is found under a step of forms that are the same

module _ (u v : Form) (l m : Label) (is : u [] ≡ Some l) (there : v [] ≡ Some m) (same : IsSame u v) where
  pub here_match : Match (λ i j. Unit {0}) (tidied l) (tidied m)
  here_match = go (same.on_each []) (ap (option_map tidied) is) (ap (option_map tidied) there)
    where
      go : {x y : Option Label} → MatchThere x y → x ≡ Some (tidied l) → y ≡ Some (tidied m) → Match (λ i j. Unit {0}) (tidied l) (tidied m)
      go nothing e f = absurd (none-some (tidied l) e)
      go (labels {l = a} {m = b} h) e f = subst (λ x. Match (λ i j. Unit {0}) x (tidied m)) (same_Some a (tidied l) e)
          (subst (λ y. Match (λ i j. Unit {0}) a y) (same_Some b (tidied m) f) h)

  has : (w : Form) (k : Label) (s : Step) → w [] ≡ Some k → is_some (next_of (tidied k) s) ≡ true → has_step (option_map tidied (w [])) s ≡ true
  has w k s e h = ap (λ x. has_step (option_map tidied x) s) e ∙ h

  pub step_same : (s : Step) → is_some (next_of (tidied l) s) ≡ true → is_some (next_of (tidied m) s) ≡ true → IsSame (under s u) (under s v)
  step_same s h g = record {
    on_each = λ w.
        subst (λ b. MatchThere (cond b (tidy (under s u) w) None) (tidy (under s v) w)) (has u l s is h)
        (subst (λ b. MatchThere (tidy u (s ∷ w)) (cond b (tidy (under s v) w) None)) (has v m s there g) (same.on_each (s ∷ w)));
  }

-- ---- the nodes match, over forms that are the same

-- each entry of the second list has its name in the first
abbrev AllThere : {X : Type 0} → List (Name × X) → List (Name × X) → Type 0
AllThere all [] = Unit {0}
AllThere all (c ∷ cs) = IsTrue (is_some (find name_cmp c.0 all)) × AllThere all cs

module _ {X : Type 0} where
  there_more : (c : Name × X) (all cs : List (Name × X)) → AllThere all cs → AllThere (c ∷ all) cs
  there_more c all [] h = tt
  there_more c all (d ∷ cs) h = (go (eq_by_cmp name_cmp d.0 c.0) h.0, there_more c all cs h.1)
    where
      go : (b : Bool) → IsTrue (is_some (find name_cmp d.0 all)) → IsTrue (is_some (cond b (Some c.1) (find name_cmp d.0 all)))
      go true e = refl
      go false e = e

  all_there : (cs : List (Name × X)) → AllThere cs cs
  all_there [] = tt
  all_there (c ∷ cs) = (rw (tied_itself name_total c.0) refl, there_more c cs cs (all_there cs))

module _ (u v : Form) (R : Form → Form → Type 0) where
  led_zip : (xs ys all_x all_y : List (Name × Unit {0})) → AllThere all_x xs → AllThere all_y ys
      → ((k : Name) → IsTrue (is_some (find name_cmp k all_x)) → IsTrue (is_some (find name_cmp k all_y)) → R (under (named k) u) (under (named k) v))
      → AllZip (λ c d. (c.0 ≡ d.0) × Unit {0}) xs ys
      → AllZip (λ (c : Name × Form) (d : Name × Form). (c.0 ≡ d.0) × R c.1 d.1) (map (λ c. (c.0, under (named c.0) u)) xs)
      (map (λ d. (d.0, under (named d.0) v)) ys)
  led_zip [] [] all_x all_y h g f z = tt
  led_zip [] (d ∷ ys) all_x all_y h g f z = absurd z
  led_zip (c ∷ xs) [] all_x all_y h g f z = absurd z
  led_zip (c ∷ xs) (d ∷ ys) all_x all_y h g f z = (
    (
      z.0.0,
      subst (λ k. R (under (named c.0) u) (under (named k) v)) z.0.0
          (f c.0 h.0 (subst (λ k. IsTrue (is_some (find name_cmp k all_y))) (sym z.0.0) g.0)),
    ),
    led_zip xs ys all_x all_y h.1 g.1 f z.1,
  )

  led_others : {x y : Option (Class × Unit {0})} → AreOthers (λ i j. Unit {0}) x y
      → (is_some x ≡ true → is_some y ≡ true → R (under Step.others u) (under Step.others v))
      → AreOthers R (option_map (λ o. (o.0, under Step.others u)) x) (option_map (λ o. (o.0, under Step.others v)) y)
  led_others no_others f = no_others
  led_others (others r) f = others (f refl refl)

-- what is the same and sound
pub record AreSoundSame (u v : Form) : Type 0 where
  pub same : IsSame u v
  pub first : IsSound u
  pub second : IsSound v

some_other : (o : Option (Class × Unit {0})) → is_some (option_map (λ (o : Class × Unit {0}). o.1) o) ≡ is_some o
some_other None = refl
some_other (Some o) = refl

module _ (u v : Form) (l m : Label) (is : u [] ≡ Some l) (there : v [] ≡ Some m) (same : AreSoundSame u v) where
  step : (s : Step) → is_some (next_of (tidied l) s) ≡ true → is_some (next_of (tidied m) s) ≡ true → AreSoundSame (under s u) (under s v)
  step s h g = record { same = step_same u v l m is there same.same s h g; first = under_sound s u same.first; second = under_sound s v same.second }

  led_match : Match AreSoundSame (tidied (over (λ s i. under s u) l)) (tidied (over (λ s i. under s v) m))
  led_match = subst (λ x. Match AreSoundSame x (tidied (over (λ s i. under s v) m))) (sym (tidied_over (λ s i. under s u) l))
      (subst (λ y. Match AreSoundSame (over (λ s i. under s u) (tidied l)) y) (sym (tidied_over (λ s i. under s v) m)) (record {
        shapes = h.shapes;
        children = led_zip u v AreSoundSame (tidied l).children (tidied m).children (tidied l).children (tidied m).children
            (all_there (tidied l).children) (all_there (tidied m).children) (λ k a b. step (named k) a b) h.children;
        other = led_others u v AreSoundSame h.other (λ a b. step Step.others (some_other (tidied l).other ∙ a) (some_other (tidied m).other ∙ b));
        twins = h.twins;
      }))
    where
      h : Match (λ i j. Unit {0}) (tidied l) (tidied m)
      h = here_match u v l m is there same.same

-- ---- the trees

alike_to : (d : ℕ) (u v : Form) → AreSoundSame u v → (t : Tree) → depth t < d → Member u t ↔ Member v t
alike_to zero u v s t lt = absurd (omega arith)
alike_to (suc d) u v s t lt = go (u []) refl (v []) refl (s.same.on_each [])
    (λ k x at i j r. alike_to d i j r x (let less = depth_below k t x at in omega arith))
  where
    no_member : (w : Form) → w [] ≡ None → Member w t → ⊥
    no_member w e (member {n = n} f p ws there children) = absurd (none-some n (sym (ap (option_map (over (λ s i. under s w))) e) ∙ f))

    go : (x : Option Label) → u [] ≡ x → (y : Option Label) → v [] ≡ y → MatchThere (option_map tidied (u [])) (option_map tidied (v []))
        → ((k : Name) (x : Tree) → below k t ≡ Some x → (i j : Form) → AreSoundSame i j → Member i x ↔ Member j x) → Member u t ↔ Member v t
    go None e None f h rest = (λ m. absurd (no_member u e m), λ m. absurd (no_member v f m))
    go None e (Some m) f h rest = absurd (one_sided h (ap (option_map tidied) e) (ap (option_map tidied) f))
      where
        one_sided : {x y : Option Label} → MatchThere x y → x ≡ None → y ≡ Some (tidied m) → ⊥
        one_sided nothing e f = none-some (tidied m) f
        one_sided (labels {l = a} g) e f = none-some a (sym e)
    go (Some l) e None f h rest = absurd (one_sided h (ap (option_map tidied) e) (ap (option_map tidied) f))
      where
        one_sided : {x y : Option Label} → MatchThere x y → x ≡ Some (tidied l) → y ≡ None → ⊥
        one_sided nothing e f = none-some (tidied l) e
        one_sided (labels {m = b} g) e f = none-some b (sym f)
    go (Some l) e (Some m) f h rest =
        let one = members_alike u (over (λ s i. under s u) l) (ap (option_map (over (λ s i. under s u))) e) in
        let two = members_alike v (over (λ s i. under s v) m) (ap (option_map (over (λ s i. under s v))) f) in
        let same = same_stands AreSoundSame Member Member (over (λ s i. under s u) l) (over (λ s i. under s v) m)
        (sound_over (λ s i. under s u) l (s.first.on_each [] l e)).well (sound_over (λ s i. under s v) m (s.second.on_each [] m f)).well
        (led_match u v l m e f s) t rest in
        (λ h. two.from t (same.0 (one.into t h)), λ h. one.from t (same.1 (two.into t h)))

pub sound_same : (u v : Form) → AreSoundSame u v → Alike (Member u) (Member v)
sound_same u v s = record {
  into = λ t h. (alike_to (depth t + 1) u v s t (omega arith)).0 h;
  from = λ t h. (alike_to (depth t + 1) u v s t (omega arith)).1 h;
}
