-- A text lens fits the values of the class that it reads and those of the class that it shows.
use Rattle.std.proofs.Common.{◌≡◌, ℕ, Bool, true, false, cond, List, [], ◌∷◌, Option, Some, None, All, refl, sym, ap, subst}
use Rattle.std.specs.Option.{option_map}
use Rattle.std.proofs.lemmas.Option.{same_Some, none-some}
use Rattle.std.proofs.lemmas.List.Elements.{All-head, All-tail}
use Rattle.hm_tree.specs.declared.class.Class.{Class}
use Rattle.hm_tree.specs.Classes.{IsInClass}
use Rattle.hm_tree.specs.Names.{Name}
use Rattle.hm_tree.specs.Nodes.{Tree, empty}
use Rattle.hm_schema.specs.declared.node.Shape.{Shape}
use Rattle.hm_schema.specs.Values.{NodeOver}
use Rattle.hm_text_lens.specs.Meanings.{TextMeaning, IsLawful}
use Rattle.hm_text_lens.specs.Naming.{is_named, first_named}
use Rattle.hm_terms.specs.Lenses.{text, Setting, Definitions}
use Rattle.hm_tree_parts.specs.Edges.{IsEdge, ValueIn}
use Rattle.hm_terms.proofs.Laws.{fits_text}
use Rattle.hm_terms_laws.specs.Bounded.{FitsTo}
use Rattle.hm_terms_laws.proofs.Bounded.{fits_to}
use Rattle.hm_schema.specs.Standing.{Stands, Alike}
use Rattle.hm_schema_lists.specs.Values.{with_class}
use Rattle.hm_schema_lists.proofs.Values.{unrequired_plain, empty_alike, value_stands, stands_value}
use Rattle.hm_types_forms.specs.Forms.{Form, others, formed}
use Rattle.hm_types_forms.specs.Members.{Member}
use Rattle.hm_types_forms.specs.Sound.{IsSoundNode, IsSound}
use Rattle.hm_types_rules.specs.Typing.{AreValues}
use Rattle.hm_types_rules.specs.Programs.{classes_in}
use Rattle.hm_types_sound.proofs.ForkFits.{fits_alike}
use Rattle.hm_types_forms.proofs.MemberNodes.{members_alike, node_formed}
use Rattle.hm_types_forms.proofs.SoundForms.{node_sound, leads_sound}
use Rattle.hm_types_rules.proofs.SoundViews.{classed_sound}

-- the text lens of a name is lawful where all are
pub found_lawful : (x : Name) (ms : List TextMeaning) (m : TextMeaning) → All IsLawful ms → first_named x ms ≡ Some m → IsLawful m
found_lawful x [] m all e = absurd (none-some m e)
found_lawful x (k ∷ ms) m all e = go (is_named x k) e (found_lawful x ms m (All-tail IsLawful k ms all))
  where
    go : (b : Bool) → cond b (Some k) (first_named x ms) ≡ Some m → (first_named x ms ≡ Some m → IsLawful m) → IsLawful m
    go true f rest = subst IsLawful (same_Some k m f) (All-head IsLawful k ms all)
    go false f rest = rest f

-- the members of a form of values
module _ (c : Class) (u : Form) (n : NodeOver Form) (a : AreValues c u n) (h : IsSound u) where
  s : IsSoundNode n
  s = node_sound u n a.node h

  below : Alike (Member a.value) (λ t. t ≡ empty)
  below =
      let value = leads_sound u n a.node h others a.value (ap (option_map (λ (o : Class × Form). o.1)) a.values.other) in
      let b = node_sound a.value a.below a.is_below value in
      let to = members_alike a.value a.below a.is_below in
      let one = empty_alike Member a.below a.empty b.some b.well b.own in
      record { into = λ t g. one.into t (to.into t g); from = λ t e. to.from t (one.from t e) }

  pub values_alike : Alike (Member u) (ValueIn (IsInClass c))
  values_alike = record { into = into; from = from }
    where
      to : Alike (Member u) (Stands Member n)
      to = members_alike u n a.node

      into : (t : Tree) → Member u t → ValueIn (IsInClass c) t
      into t g =
          let v = stands_value Member c a.value n a.values t (to.into t g) in
          record { text = v.name; is = subst (λ x. IsEdge v.name x t) (below.into v.tree v.inside) v.is; inside = v.in_class }

      from : (t : Tree) → ValueIn (IsInClass c) t → Member u t
      from t v =
          let plain = unrequired_plain n (λ i d lt. ap (λ (a : Shape). a.required) (a.values.shapes i d lt)) s.some s.own in
          to.from t (value_stands Member c a.value n a.values s.some plain v.text empty t v.is v.inside (below.from empty refl))

  -- such values of another class
  pub other_values : (d : Class) → AreValues d (formed (with_class d n)) (with_class d n)
  other_values d = record {
    node = node_formed (with_class d n) s.ascending;
    value = a.value;
    values = record {
      shapes = a.values.shapes;
      unlisted = a.values.unlisted;
      other = ap (option_map classed) a.values.other;
    };
    below = a.below;
    is_below = a.is_below;
    empty = a.empty;
  }
    where
      classed : Class × Form → Class × Form
      classed o = (d, o.1)

-- the text lens of a name goes between two classes, and meets the laws
pub record IsTextBetween (S : Setting) (x : Name) (c d : Class) : Type 0 where
  pub meaning : TextMeaning
  pub is : first_named x S.texts ≡ Some meaning
  pub lawful : IsLawful meaning
  pub from : meaning.from_class ≡ c
  pub into : meaning.into_class ≡ d

pub text_between : (texts : List TextMeaning) → All IsLawful texts → {ds : Definitions} (x : Name) (c d : Class) → classes_in texts x ≡ Some (c, d)
    → IsTextBetween (record { texts = texts; definitions = ds }) x c d
text_between texts lawful {ds} x c d e = go (first_named x texts) refl e
  where
    go : (o : Option TextMeaning) → first_named x texts ≡ o → option_map {U = Class × Class} (λ (m : TextMeaning). (m.from_class, m.into_class)) o ≡ Some (c, d)
        → IsTextBetween (record { texts = texts; definitions = ds }) x c d
    go None f e = absurd (none-some (c, d) e)
    go (Some m) f e =
        let same : (m.from_class, m.into_class) ≡ (c, d) = same_Some (m.from_class, m.into_class) (c, d) e in
        record { meaning = m; is = f; lawful = found_lawful x texts m lawful f; from = ap (λ (p : Class × Class). p.0) same; into = ap (λ (p : Class × Class). p.1) same }

module _ (S : Setting) (d : ℕ) (x : Name) (c e : Class) (between : IsTextBetween S x c e) where
  pub text_fits : (u : Form) (n : NodeOver Form) → AreValues c u n → IsSound u → FitsTo d S (text x) (Member u) (Member (formed (with_class e n)))
  text_fits u n a h =
      let m = between.meaning in
      let v = formed (with_class e n) in
      fits_alike S d (text x) (ValueIn (IsInClass m.from_class)) (ValueIn (IsInClass m.into_class)) (Member u) (Member v)
      (subst (λ c. Alike (Member u) (ValueIn (IsInClass c))) (sym between.from) (values_alike c u n a h))
      (subst (λ e. Alike (Member v) (ValueIn (IsInClass e))) (sym between.into)
      (values_alike e v (with_class e n) (other_values c u n a h e) (classed_sound c e u n a h)))
      (fits_to S (text x) (ValueIn (IsInClass m.from_class)) (ValueIn (IsInClass m.into_class)) (fits_text S x m between.is between.lawful) d)
