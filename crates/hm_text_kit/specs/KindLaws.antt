-- When the two ways of going between texts meet the laws of text lenses.
use Rattle.std.proofs.Common.{◌≡◌, cond, Option, Some, None, refl, sym, ap, ◌∙◌}
use Rattle.std.specs.Str.{bytes_eq}
use Rattle.std.proofs.lemmas.Bool.{cond_both}
use Rattle.std.proofs.lemmas.Slice.Eq.{bytes_eq-Decides}
use Rattle.hm_tree.specs.declared.class.Class.{Class}
use Rattle.hm_tree.specs.Names.{Name}
use Rattle.hm_tree.specs.Classes.{IsInClass}
use Rattle.hm_text_lens.specs.Meanings.{IsTextIn, IsLawful, IsBefore}
use Rattle.hm_text_kit.specs.Kinds.{kept_or, normal_form, exchange}

-- a normal form is its own normal form, and of the class of the texts that have one
module _ (name : Name) (from into : Class) (get : Name → Name)
    (gets : (v : Name) → IsTextIn from v → IsTextIn into (get v))
    (within : (w : Name) → IsInClass into w → IsInClass from w)
    (same : (w : Name) → IsTextIn into w → get w ≡ w) where
  text_within : (w : Name) → IsTextIn into w → IsTextIn from w
  text_within w h = record { text = h.text; in_class = within w h.in_class }

  puts : (w : Name) (b : Option Name) → IsTextIn into w → IsBefore (normal_form name from into get) b → IsTextIn from (kept_or get w b)
  puts w None hw hb = text_within w hw
  puts w (Some v) hw hb = cond_both (bytes_eq (get v) w) v w (IsTextIn from) (λ _. hb) (λ _. text_within w hw)

  put_get : (w : Name) (b : Option Name) → IsTextIn into w → IsBefore (normal_form name from into get) b → get (kept_or get w b) ≡ w
  put_get w None hw hb = same w hw
  put_get w (Some v) hw hb = cond_both (bytes_eq (get v) w) v w (λ t. get t ≡ w) (bytes_eq-Decides (get v) w).0 (λ _. same w hw)

  pub normal_form_lawful : IsLawful (normal_form name from into get)
  normal_form_lawful = record {
    gets = gets;
    puts = puts;
    get_put = λ v h. ap (λ b. cond b v (get v)) ((bytes_eq-Decides (get v) (get v)).1 refl);
    put_get = put_get;
    hides = λ u v hu hv same_shown same_hidden. same_hidden;
  }

-- an exchange stays within the texts of its class, and done twice it changes none
module _ (name : Name) (class : Class) (other : Name → Name)
    (stays : (v : Name) → IsTextIn class v → IsTextIn class (other v))
    (twice : (v : Name) → IsTextIn class v → other (other v) ≡ v) where
  pub exchange_lawful : IsLawful (exchange name class other)
  exchange_lawful = record {
    gets = stays;
    puts = λ w b hw hb. stays w hw;
    get_put = twice;
    put_get = λ w b hw hb. twice w hw;
    hides = λ u v hu hv same_shown same_hidden. sym (twice u hu) ∙ ap other same_shown ∙ twice v hv;
  }
