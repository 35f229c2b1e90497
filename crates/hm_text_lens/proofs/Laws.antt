-- What follows from the laws of a text lens.
use Rattle.std.proofs.Common.{◌≡◌, Option, Some, sym, ap, ◌∙◌}
use Rattle.hm_tree.specs.Names.{Name}
use Rattle.hm_text_lens.specs.Meanings.{TextMeaning, IsLawful, IsFrom, IsInto, IsBefore}

module _ (m : TextMeaning) (law : IsLawful m) where
  -- two shown texts that are put as one are one: no change is lost
  put_apart : (w v : Name) (b c : Option Name) → IsInto m w → IsInto m v → IsBefore m b → IsBefore m c → m.put_of w b ≡ m.put_of v c → w ≡ v
  put_apart w v b c hw hv hb hc e = sym (law.put_get w b hw hb) ∙ ap m.get_of e ∙ law.put_get v c hv hc

  -- what was put and isn't changed stays
  put_stays : (w : Name) (b : Option Name) → IsInto m w → IsBefore m b → m.put_of (m.get_of (m.put_of w b)) (Some (m.put_of w b)) ≡ m.put_of w b
  put_stays w b hw hb = law.get_put (m.put_of w b) (law.puts w b hw hb)

  -- each text that may be shown is what some text shows
  all_shown : (w : Name) (b : Option Name) → IsInto m w → IsBefore m b → (v : Name) × IsFrom m v × (m.get_of v ≡ w)
  all_shown w b hw hb = (m.put_of w b, law.puts w b hw hb, law.put_get w b hw hb)
