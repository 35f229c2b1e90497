-- Words that a table of pairs exchanges.
use Rattle.std.specs.Prelude.{◌≡◌, ◌≢◌, Bool, cond, IsTrue, List, [], ◌∷◌, Option, Some, None, IfSome, unwrap_or, All, AllPairs}
use Rattle.std.specs.BTreeMap.{BTreeMap, get}
use Rattle.std.specs.Ordering.{eq_by_cmp}
use Rattle.hm_tree.specs.declared.class.Class.TheVariants.{Filled}
use Rattle.hm_tree.specs.Names.{Name, name_cmp}
use Rattle.hm_tree.specs.Classes.{IsFilled}
use Rattle.hm_text_lens.specs.Meanings.{TextMeaning}
use Rattle.hm_text_kit.specs.Kinds.{exchange}
use Rattle.hm_text_kit.specs.Tests.{is_filled}
use Rattle.hm_text_kit.specs.TextLaws.{IsText}

abbrev pub words_of : List (Name × Name) → List Name
words_of [] = []
words_of (p ∷ ps) = p.0 ∷ p.1 ∷ words_of ps

-- no word of a table stands in it twice, and each is of the class Filled
pub record IsTable (ps : List (Name × Name)) : Type 0 where
  pub distinct : AllPairs (λ a b. a ≢ b) (words_of ps)
  pub filled : All IsFilled (words_of ps)

abbrev pub is_word : Name → Name → Bool
is_word a w = eq_by_cmp name_cmp a w

-- the other word of the pair in which a word stands
abbrev pub partner : List (Name × Name) → Name → Option Name
partner [] w = None
partner (p ∷ ps) w = cond (is_word p.0 w) (Some p.1) (cond (is_word p.1 w) (Some p.0) (partner ps w))

-- a word becomes its partner, and another text stays
abbrev pub swapped : List (Name × Name) → Name → Name
swapped ps w = unwrap_or (partner ps w) w

-- what `SwapWords` means
abbrev pub swapping_words : Name → List (Name × Name) → TextMeaning
swapping_words name ps = exchange name Filled (swapped ps)

-- a map has the partner of each word, and nothing else
abbrev pub HasPartners : List (Name × Name) → BTreeMap Name Name → Type 0
HasPartners ps m = (q : Name) → get name_cmp m q ≡ partner ps q

-- each word of a map is UTF-8
abbrev pub HasTexts : BTreeMap Name Name → Type 0
HasTexts m = (q : Name) → IfSome (get name_cmp m q) IsText

-- a map gets the partner of one word
abbrev pub PutsPartner : BTreeMap Name Name → BTreeMap Name Name → Name → Name → Type 0
PutsPartner old new word other = (q : Name) → get name_cmp new q ≡ cond (is_word word q) (Some other) (get name_cmp old q)

-- the same as `swapped`, by such a map
abbrev pub swapped_in : BTreeMap Name Name → Name → Name
swapped_in m w = unwrap_or (get name_cmp m w) w

-- what every exchange of texts of the class Filled does
pub record IsSwap (other : Name → Name) : Type 0 where
  pub stays : (w : Name) → IsTrue (is_filled w) → IsTrue (is_filled (other w))
  pub texts : (w : Name) → IsText w → IsText (other w)
  pub twice : (w : Name) → other (other w) ≡ w
