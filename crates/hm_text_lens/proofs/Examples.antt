-- The laws, tried on small meanings: three that meet them and three that don't; a chain, and a list of text lenses.
use Rattle.std.proofs.Common.{◌≡◌, Bool, true, false, T, List, ℕ, zero, suc, [], ◌∷◌, Option, Some, None, refl, sym, ap, ◌∙◌, subst}
use Rattle.std.specs.Prelude.{codes}
use Rattle.std.specs.Char.{encode_utf8}
use Rattle.std.specs.Str.{is_utf8, chars}
use Rattle.std.proofs.lemmas.Str.{IsUtf8-append, IsUtf8-past_char}
use Rattle.hm_tree.specs.declared.class.Class.{Class}
use Rattle.hm_tree.specs.declared.class.Class.TheVariants.{Any, Clean}
use Rattle.hm_tree.specs.Names.{Name, name_cmp}
use Rattle.hm_tree.specs.Classes.{IsClean}
use Rattle.hm_tree.proofs.Texts.{ascii_test, text_test, text_tested}
use Rattle.hm_text_lens.specs.Chains.{chain_of}
use Rattle.hm_text_lens.specs.ChainLaws.{chain_lawful}
use Rattle.hm_text_lens.specs.Meanings.{TextMeaning, IsTextIn, IsFrom, IsInto, IsLawful}
use Rattle.hm_text_lens.specs.Naming.{first_named}

of_any : (v : Name) → T (is_utf8 v) → IsTextIn Any v
of_any v text = record { text = text; in_class = tt }

-- ---- a lens that shows a text as it is

same : Class → Class → TextMeaning
same one two = record {
  name = codes "same";
  from_class = one;
  into_class = two;
  get_of = λ v. v;
  put_of = λ w b. w;
  hidden_of = λ v. [];
}

same_lawful : IsLawful (same Clean Clean)
unfolding same
same_lawful = record {
  gets = λ v h. h;
  puts = λ w b h g. h;
  get_put = λ v h. refl;
  put_get = λ w b h g. refl;
  hides = λ u v h g e f. e;
}

-- it doesn't meet the laws where it shows more texts than it may read
same_wider : (w : Name) → T (is_utf8 w) → ¬ (IsClean w) → ¬ (IsLawful (same Clean Any))
unfolding same
same_wider w text not_clean law = not_clean (law.puts w None (of_any w text) tt).in_class

-- ---- a lens that hides a zero at the front of a text, and keeps it

rest : Name → Name
rest [] = []
rest (zero ∷ xs) = xs
rest (suc x ∷ xs) = suc x ∷ xs

-- where nothing was hidden, a zero goes before a text that has one at its front, so that this one is shown
behind_none : Name → Name
behind_none [] = []
behind_none (zero ∷ w) = 0 ∷ 0 ∷ w
behind_none (suc y ∷ w) = suc y ∷ w

behind_first : Name → Option Name → Name
behind_first w None = behind_none w
behind_first w (Some []) = behind_none w
behind_first w (Some (zero ∷ xs)) = 0 ∷ w
behind_first w (Some (suc x ∷ xs)) = behind_none w

first_zero : Name → List ℕ
first_zero [] = []
first_zero (zero ∷ xs) = 0 ∷ []
first_zero (suc x ∷ xs) = []

hiding : TextMeaning
hiding = record {
  name = codes "hiding";
  from_class = Any;
  into_class = Any;
  get_of = rest;
  put_of = behind_first;
  hidden_of = first_zero;
}

hiding_lawful : IsLawful hiding
unfolding hiding rest behind_none behind_first first_zero encode_utf8
hiding_lawful = record {
  gets = λ v h. of_any (rest v) (shown_text v h.text);
  puts = λ w b h g. of_any (behind_first w b) (put_text w b h.text);
  get_put = λ v h. back v;
  put_get = λ w b h g. forth w b;
  hides = λ u v h g e f. told u v e f;
}
  where
    -- a zero is a character of its own
    shown_text : (v : Name) → T (is_utf8 v) → T (is_utf8 (rest v))
    shown_text [] text = text
    shown_text (zero ∷ xs) text = text_test xs (IsUtf8-past_char (0 ∷ xs) xs 0 (text_tested (0 ∷ xs) text) refl)
    shown_text (suc x ∷ xs) text = text

    with_zero : (w : Name) → T (is_utf8 w) → T (is_utf8 (0 ∷ w))
    with_zero w text = text_test (0 ∷ w) (IsUtf8-append (0 ∷ []) w (text_tested (0 ∷ []) (ascii_test (0 ∷ []) refl)) (text_tested w text))

    none_text : (w : Name) → T (is_utf8 w) → T (is_utf8 (behind_none w))
    none_text [] text = text
    none_text (zero ∷ w) text = with_zero (0 ∷ w) text
    none_text (suc y ∷ w) text = text

    put_text : (w : Name) (b : Option Name) → T (is_utf8 w) → T (is_utf8 (behind_first w b))
    put_text w None text = none_text w text
    put_text w (Some []) text = none_text w text
    put_text w (Some (zero ∷ xs)) text = with_zero w text
    put_text w (Some (suc x ∷ xs)) text = none_text w text

    none_forth : (w : Name) → rest (behind_none w) ≡ w
    none_forth [] = refl
    none_forth (zero ∷ w) = refl
    none_forth (suc y ∷ w) = refl

    back : (v : Name) → behind_first (rest v) (Some v) ≡ v
    back [] = refl
    back (zero ∷ xs) = refl
    back (suc x ∷ xs) = refl

    forth : (w : Name) (b : Option Name) → rest (behind_first w b) ≡ w
    forth w None = none_forth w
    forth w (Some []) = none_forth w
    forth w (Some (zero ∷ xs)) = refl
    forth w (Some (suc x ∷ xs)) = none_forth w

    told : (u v : Name) → rest u ≡ rest v → first_zero u ≡ first_zero v → u ≡ v
    told [] [] e f = refl
    told [] (zero ∷ ys) e f = let none : ⊥ = cc in absurd none
    told [] (suc y ∷ ys) e f = e
    told (zero ∷ xs) [] e f = let none : ⊥ = cc in absurd none
    told (zero ∷ xs) (zero ∷ ys) e f = ap (λ l. 0 ∷ l) e
    told (zero ∷ xs) (suc y ∷ ys) e f = let none : ⊥ = cc in absurd none
    told (suc x ∷ xs) [] e f = e
    told (suc x ∷ xs) (zero ∷ ys) e f = let none : ⊥ = cc in absurd none
    told (suc x ∷ xs) (suc y ∷ ys) e f = e

-- ---- a lens that hides the first byte of a text: this may cut a character

after_byte : Name → Name
after_byte [] = []
after_byte (x ∷ xs) = xs

cutting : TextMeaning
cutting = record {
  name = codes "cutting";
  from_class = Any;
  into_class = Any;
  get_of = after_byte;
  put_of = λ w b. 195 ∷ w;
  hidden_of = λ v. v;
}

-- it shows the second byte of a character alone
cutting_lawless : ¬ (IsLawful cutting)
unfolding cutting after_byte is_utf8 chars encode_utf8
cutting_lawless law = (law.gets (195 ∷ 169 ∷ []) (of_any (195 ∷ 169 ∷ []) tt)).text

-- and puts the first byte of one before other characters
cutting_puts_part : ((w : Name) → IsInto cutting w → IsFrom cutting (cutting.put_of w None)) → ⊥
unfolding cutting is_utf8 chars encode_utf8
cutting_puts_part holds = (holds (97 ∷ []) (of_any (97 ∷ []) tt)).text

-- ---- a lens that shows nothing of bytes that are no text: nobody asks it of them

text_or_none : Bool → Name → Name
text_or_none true v = v
text_or_none false v = []

careless : TextMeaning
careless = record {
  name = codes "careless";
  from_class = Any;
  into_class = Any;
  get_of = λ v. text_or_none (is_utf8 v) v;
  put_of = λ w b. text_or_none (is_utf8 w) w;
  hidden_of = λ v. [];
}

careless_lawful : IsLawful careless
unfolding careless text_or_none
careless_lawful = record {
  gets = λ v h. subst (IsTextIn Any) (sym (kept v h.text)) h;
  puts = λ w b h g. subst (IsTextIn Any) (sym (kept w h.text)) h;
  get_put = λ v h. twice v h.text;
  put_get = λ w b h g. twice w h.text;
  hides = λ u v h g e f. sym (kept u h.text) ∙ e ∙ kept v g.text;
}
  where
    as_it_is : (b : Bool) (v : Name) → T b → text_or_none b v ≡ v
    as_it_is true v is = refl
    as_it_is false v is = absurd is

    kept : (v : Name) → T (is_utf8 v) → text_or_none (is_utf8 v) v ≡ v
    kept v text = as_it_is (is_utf8 v) v text

    twice : (v : Name) → T (is_utf8 v) → text_or_none (is_utf8 (text_or_none (is_utf8 v) v)) (text_or_none (is_utf8 v) v) ≡ v
    twice v text = ap (λ w. text_or_none (is_utf8 w) w) (kept v text) ∙ kept v text

-- ---- a lens that shows one text of all, and so loses what is put

forgetful : TextMeaning
forgetful = record {
  name = codes "forgetful";
  from_class = Any;
  into_class = Any;
  get_of = λ v. [];
  put_of = λ w b. w;
  hidden_of = λ v. v;
}

forgetful_lawless : ¬ (IsLawful forgetful)
unfolding forgetful is_utf8 chars encode_utf8
forgetful_lawless law =
    let none : List ℕ = [] in
    let lost : none ≡ 97 ∷ [] = law.get_put (97 ∷ []) (of_any (97 ∷ []) tt) in
    let f : ⊥ = cc in f

-- ---- a chain of two lenses that each hide a zero at the front hides two

twice : TextMeaning
twice = chain_of (codes "twice") hiding hiding

twice_lawful : IsLawful twice
unfolding twice hiding
twice_lawful = chain_lawful (codes "twice") hiding hiding hiding_lawful hiding_lawful refl

twice_shows : twice.get_of (0 ∷ 0 ∷ 3 ∷ []) ≡ 3 ∷ []
unfolding twice hiding rest
twice_shows = refl

-- each of them keeps its own zero
twice_puts : twice.put_of (4 ∷ []) (Some (0 ∷ 0 ∷ 3 ∷ [])) ≡ 0 ∷ 0 ∷ 4 ∷ []
unfolding twice hiding rest behind_first
twice_puts = refl

-- ---- of two text lenses of one name the first counts

first_counts : first_named (codes "same") (hiding ∷ same Clean Clean ∷ same Any Any ∷ []) ≡ Some (same Clean Clean)
unfolding same hiding name_cmp
first_counts = refl

none_found : first_named (codes "trim") (hiding ∷ same Clean Clean ∷ []) ≡ None
unfolding same hiding name_cmp
none_found = refl
