-- A chain meets the laws where its two parts do, and the texts that the first shows are those that the second reads.
use Rattle.std.proofs.Common.{◌≡◌, ℕ, List, ◌∷◌, ◌++◌, length, take, drop, Option, Some, None, sym, ap, ◌∙◌, subst}
use Rattle.std.specs.Option.{option_map}
use Rattle.std.proofs.Math.Seq.{take-append_seam, drop-append_seam}
use Rattle.hm_tree.specs.declared.class.Class.{Class}
use Rattle.hm_tree.specs.Names.{Name}
use Rattle.hm_text_lens.specs.Meanings.{TextMeaning, IsTextIn, IsLawful, IsFrom, IsInto, IsBefore}
use Rattle.hm_text_lens.specs.Chains.{chain_of}

-- two lists behind the length of the first are told apart
parts_of : (a b c d : List ℕ) → length a ∷ (a ++ b) ≡ length c ∷ (c ++ d) → (a ≡ c) × (b ≡ d)
parts_of a b c d e =
    let long : length a ≡ length c = cc in
    let both : a ++ b ≡ c ++ d = cc in (
      sym (take-append_seam a b) ∙ (λ i. take (long i) (both i)) ∙ take-append_seam c d,
      sym (drop-append_seam a b) ∙ (λ i. drop (long i) (both i)) ∙ drop-append_seam c d,
    )

module _ (name : Name) (first second : TextMeaning) (one : IsLawful first) (two : IsLawful second) (classes : first.into_class ≡ second.from_class) where
  to_second : (v : Name) → IsInto first v → IsFrom second v
  to_second v h = subst (λ (c : Class). IsTextIn c v) classes h

  to_first : (v : Name) → IsFrom second v → IsInto first v
  to_first v h = subst (λ (c : Class). IsTextIn c v) (sym classes) h

  shown : (v : Name) → IsFrom first v → IsFrom second (first.get_of v)
  shown v h = to_second (first.get_of v) (one.gets v h)

  shown_before : (b : Option Name) → IsBefore first b → IsBefore second (option_map first.get_of b)
  shown_before None h = tt
  shown_before (Some v) h = shown v h

  pub chain_lawful : IsLawful (chain_of name first second)
  chain_lawful = record {
    gets = λ v h. two.gets (first.get_of v) (shown v h);
    puts = λ w b hw hb. one.puts _ b (to_first _ (two.puts w (option_map first.get_of b) hw (shown_before b hb))) hb;
    get_put = λ v h. ap (λ t. first.put_of t (Some v)) (two.get_put (first.get_of v) (shown v h)) ∙ one.get_put v h;
    put_get = λ w b hw hb.
        ap second.get_of (one.put_get _ b (to_first _ (two.puts w (option_map first.get_of b) hw (shown_before b hb))) hb)
        ∙ two.put_get w (option_map first.get_of b) hw (shown_before b hb);
    hides = λ u v hu hv same_shown same_hidden.
        let parts = parts_of (first.hidden_of u) (second.hidden_of (first.get_of u)) (first.hidden_of v) (second.hidden_of (first.get_of v)) same_hidden in
        one.hides u v hu hv (two.hides (first.get_of u) (first.get_of v) (shown u hu) (shown v hv) same_shown parts.1) parts.0;
  }
