-- What a text lens shows and puts of a value.
use Rattle.std.proofs.Common.{◌≡◌, List, [], ◌∷◌, map, length, Option, Some, None, IsSome, IfSome, is_some, sym, ap, subst, ◌∙◌}
use Rattle.std.proofs.lemmas.Option.{same_Some}
use Rattle.hm_tree.specs.Classes.{IsInClass}
use Rattle.hm_tree.specs.Names.{Name}
use Rattle.hm_tree.specs.Nodes.{Tree}
use Rattle.hm_text_lens.specs.Meanings.{TextMeaning, IsFrom, IsInto, IsBefore}
use Rattle.hm_text_lens.specs.Naming.{first_named}
use Rattle.hm_terms.specs.Lenses.{text, Setting}
use Rattle.hm_tree_parts.specs.Edges.{IsValue, names}
use Rattle.hm_terms.specs.Shown.{Shows, by_text}
use Rattle.hm_terms.specs.Put.{Puts, ValueBefore, no_value_before, value_before, put_text}
use Rattle.hm_tree_parts.specs.Edges.{HasOneEdge}
use Rattle.hm_terms.proofs.Laws.{value_text}
use Rattle.hm_eval_terms.specs.Conditions.{IsShown, IsPut}
use Rattle.hm_eval_terms.specs.Texts.{IsNameBefore, no_name, its_name}

value_one : (v : Name) (t : Tree) → IsValue v t → HasOneEdge t
value_one v t is = ap length is

value_name : (v w : Name) (t : Tree) → IsValue v t → names t ≡ w ∷ [] → v ≡ w
value_name v w t is named =
    let both : v ∷ [] ≡ w ∷ [] = sym (ap (map (λ (e : Name × Tree). e.0)) is) ∙ named in
    let same : v ≡ w = cc in
    same

-- ---- what the lens reads of a value

record Reads (texts : List TextMeaning) (x : Name) (c t : Tree) : Type 0 where
  name : Name
  meaning : TextMeaning
  at : first_named x texts ≡ Some meaning
  inside : IsInClass meaning.from_class name
  is : IsValue name c
  made : IsValue (meaning.get_of name) t

module _ (S : Setting) (x : Name) (c : Tree) (h : IsShown S (text x) c) where
  reads : Reads S.texts x c h.tree
  reads = go h.is
    where
      go : Shows S (text x) c h.tree → Reads S.texts x c h.tree
      go (by_text {v = v} {m = m} at inside is made) = record { name = v; meaning = m; at = at; inside = inside; is = is; made = made }

  pub text_found : IsSome (first_named x S.texts)
  text_found = ap is_some reads.at

  pub shown_one : HasOneEdge c
  shown_one = value_one reads.name c reads.is

  module _ (m : TextMeaning) (v : Name) (at : first_named x S.texts ≡ Some m) (named : names c ≡ v ∷ []) where
    same_text : reads.name ≡ v
    same_text = value_name reads.name v c reads.is named

    value_read : IsValue v c
    value_read = subst (λ v. IsValue v c) same_text reads.is

    class_read : IsInClass m.from_class v
    class_read = subst (λ m. IsInClass m.from_class v) (same_Some reads.meaning m (sym reads.at ∙ at)) (subst (IsInClass reads.meaning.from_class) same_text reads.inside)

    pub readable : IsFrom m v
    readable = value_text m.from_class v c value_read class_read

    pub text_shows : (w : Name) (t : Tree) → w ≡ m.get_of v → IsValue w t → Shows S (text x) c t
    text_shows w t made is = by_text at class_read value_read (subst (λ w. IsValue w t) made is)

-- ---- and what it puts

record Writes (texts : List TextMeaning) (x : Name) (a : Tree) (b : Option Tree) : Type 0 where
  name : Name
  old : Option Name
  meaning : TextMeaning
  at : first_named x texts ≡ Some meaning
  inside : IsInClass meaning.into_class name
  is : IsValue name a
  before : ValueBefore meaning b old

module _ (S : Setting) (x : Name) (a : Tree) (b : Option Tree) (h : IsPut S (text x) a b) where
  writes : Writes S.texts x a b
  writes = go h.is
    where
      go : Puts S (text x) a b h.tree → Writes S.texts x a b
      go (put_text {w = w} {m = m} {u = u} at inside is before made) =
          record { name = w; old = u; meaning = m; at = at; inside = inside; is = is; before = before }

  pub put_found : IsSome (first_named x S.texts)
  put_found = ap is_some writes.at

  pub put_one : HasOneEdge a
  put_one = value_one writes.name a writes.is

  pub old_one : IfSome b HasOneEdge
  old_one = go b writes.old writes.before
    where
      go : (b : Option Tree) (u : Option Name) → ValueBefore writes.meaning b u → IfSome b HasOneEdge
      go None None no_value_before = tt
      go (Some t) (Some u) (value_before is inside) = value_one u t is
      go None (Some u) p = elim p [ ]
      go (Some t) None p = elim p [ ]

  module _ (m : TextMeaning) (w : Name) (u : Option Name) (at : first_named x S.texts ≡ Some m) (named : names a ≡ w ∷ []) (old : IsNameBefore b u) where
    same : writes.meaning ≡ m
    same = same_Some writes.meaning m (sym writes.at ∙ at)

    same_name : writes.name ≡ w
    same_name = value_name writes.name w a writes.is named

    value_shown : IsValue w a
    value_shown = subst (λ w. IsValue w a) same_name writes.is

    class_shown : IsInClass m.into_class w
    class_shown = subst (λ m. IsInClass m.into_class w) same (subst (IsInClass writes.meaning.into_class) same_name writes.inside)

    pub writable : IsInto m w
    writable = value_text m.into_class w a value_shown class_shown

    before : ValueBefore m b u
    before = subst (λ m. ValueBefore m b u) same (go b writes.old u writes.before old)
      where
        go : (b : Option Tree) (o u : Option Name) → ValueBefore writes.meaning b o → IsNameBefore b u → ValueBefore writes.meaning b u
        go None None None no_value_before no_name = no_value_before
        go (Some t) (Some o) (Some v) (value_before is inside) (its_name called) =
            let one : o ≡ v = value_name o v t is called in
            value_before (subst (λ o. IsValue o t) one is) (subst (IsInClass writes.meaning.from_class) one inside)
        go None None (Some v) p q = elim q [ ]
        go None (Some o) u p q = elim p [ ]
        go (Some t) None u p q = elim p [ ]
        go (Some t) (Some o) None p q = elim q [ ]

    pub old_readable : IsBefore m u
    old_readable = go b u before
      where
        go : (b : Option Tree) (u : Option Name) → ValueBefore m b u → IsBefore m u
        go None None no_value_before = tt
        go (Some t) (Some v) (value_before is inside) = value_text m.from_class v t is inside
        go None (Some v) p = elim p [ ]
        go (Some t) None p = elim p [ ]

    pub text_puts : (v : Name) (t : Tree) → v ≡ m.put_of w u → IsValue v t → Puts S (text x) a b t
    text_puts v t made is = put_text at class_shown value_shown before (subst (λ v. IsValue v t) made is)
