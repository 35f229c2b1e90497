-- One component that is to show a card.
use Rattle.std.proofs.Common.{◌≡◌, ◌≢◌, ℕ, [], ◌∷◌, ◌++◌, slice_get, Option, Some, None, sym, ap, ◌∙◌, subst}
use Rattle.std.specs.Prelude.{All, IfSome, IsUtf8}
use Rattle.std.specs.List.{cons_option}
use Rattle.std.proofs.lemmas.Option.{slice_get_within, get_or_from_slice_get}
use Rattle.std.proofs.lemmas.List.Elements.{filter_map-append, All-append, All-cons}
use Rattle.hm_tree.specs.Names.{Name, name_cmp}
use Rattle.hm_tree.specs.Classes.{IsFilled}
use Rattle.hm_tree.specs.Nodes.{Tree}
use Rattle.hm_book_items.specs.Items.{IsWriting}
use Rattle.hm_lines.specs.Content.{IsWord}
use Rattle.hm_lines.specs.Folding.{IsPlain}
use Rattle.hm_book_cards.specs.Cards.{Shown, IsCard}
use Rattle.hm_lines_cards.specs.Lines.{Line, IsCapital, AreProperties, IsLine, AreFew, text_shown, texts_of, card_of}
use Rattle.hm_lines_cards.specs.Rewriting.{Property, new_line}
use Rattle.hm_lines_cards.proofs.Laws.{rewritten_shows, rewritten_stays, rewritten_utf8, key_stays}
use Rattle.hm_lines_files.specs.Components.{Component, key_of, first_name, HasKey}
use Rattle.hm_lines_files.specs.Rewriting.{Template, blank, base, showing, component_for}
use Rattle.hm_lines_files.proofs.KeyLines.{key_shown, key_utf8}

abbrev pub IsText : Line → Type 0
IsText l = IsUtf8 l.0

-- a line with its parts that can be folded and read
abbrev pub IsSound : Line → Type 0
IsSound l = IsLine l × (IsPlain l.0 × IsUtf8 l.0)

-- what a template of components has to be, so that what is written fits
pub record IsKind (template : Template) (shown : Shown) (Fits : Component → Type 0) : Type 0 where
  pub properties : AreProperties shown
  -- the key is the text of a further property, which alone shows it in a new component
  pub word : IsWord template.key
  pub capitals : All IsCapital template.key
  pub apart : All (λ p. p.0 ≢ template.key) shown
  pub front : texts_of template.key template.front ≡ []
  pub more : texts_of template.key template.more ≡ []
  pub end : IsPlain template.end × IsUtf8 template.end
  pub front_lines : All IsSound template.front
  pub more_lines : All IsSound template.more
  -- a new component fits, one that fits has the parts that it says and shows no more texts than it may, and it fits still where
  -- it's to show another card
  pub new : (k : Name) → IsFilled k → Fits (blank template k)
  pub lines : (c : Component) → Fits c → All IsLine c.lines
  pub few : (c : Component) → Fits c → AreFew shown c.lines
  pub showing : (c : Component) (card : Tree) → Fits c → IsCard shown card → Fits (showing shown card c)

module _ (template : Template) (shown : Shown) (Fits : Component → Type 0) (is : IsKind template shown Fits) where
  -- a new component shows its key
  pub blank_texts : (k : Name) → IsFilled k → texts_of template.key (blank template k).lines ≡ k ∷ []
  blank_texts k filled =
      filter_map-append (text_shown template.key) template.front (new_line template.key k ∷ template.more)
      ∙ (λ i. is.front i ++ cons_option (key_shown template.key is.word k filled i) (is.more i))

  apart_at : (i : ℕ) (p : Property) → slice_get shown i ≡ Some p → p.0 ≡ template.key → ⊥
  apart_at i p at = subst (λ (q : Property). q.0 ≢ template.key) (get_or_from_slice_get shown i p p at) (is.apart i p (slice_get_within shown i p at))

  -- and the key stays where another card is shown
  pub showing_texts : (card : Tree) (c : Component) → Fits c → texts_of template.key (showing shown card c).lines ≡ texts_of template.key c.lines
  showing_texts card c fits = key_stays shown is.properties template.key is.capitals apart_at card c.lines (is.lines c fits)

  -- what stands in a tree below a key, and what stands in a file under one
  pub record FitsTree (k : Name) (card : Tree) : Type 0 where
    pub text : IsUtf8 k
    pub filled : IsFilled k
    pub card_is : IsCard shown card

  pub record FitsFile (k : Name) (c : Component) : Type 0 where
    pub fits : Fits c
    pub has : HasKey template.key c
    pub key_is : key_of template.key c ≡ k
    pub text : All IsText c.lines

  abbrev pub show : Component → Tree
  show c = card_of shown c.lines

  abbrev pub write : Name → Option Component → Tree → Component
  write k o card = component_for template shown (k, o, card)

  base_fits : (k : Name) (o : Option Component) → IsFilled k → IfSome o (FitsFile k) → Fits (base template k o)
  base_fits k None filled q = is.new k filled
  base_fits k (Some c) filled q = q.fits

  base_has : (k : Name) (o : Option Component) → IsFilled k → IfSome o (FitsFile k) → HasKey template.key (base template k o)
  base_has k None filled q = λ none. let bad : k ∷ [] ≡ [] = sym (blank_texts k filled) ∙ none in let no : ⊥ = cc in no
  base_has k (Some c) filled q = q.has

  base_key : (k : Name) (o : Option Component) → IsFilled k → IfSome o (FitsFile k) → key_of template.key (base template k o) ≡ k
  base_key k None filled q = ap first_name (blank_texts k filled)
  base_key k (Some c) filled q = q.key_is

  base_text : (k : Name) (o : Option Component) → IsUtf8 k → IfSome o (FitsFile k) → All IsText (base template k o).lines
  base_text k None text q =
      All-append IsText template.front (new_line template.key k ∷ template.more) (λ i d lt. (is.front_lines i d lt).1.1)
      (All-cons IsText (new_line template.key k) template.more (key_utf8 template.key is.word k text) (λ i d lt. (is.more_lines i d lt).1.1))
  base_text k (Some c) text q = q.text

  pub writing : IsWriting name_cmp FitsTree FitsFile show write
  writing = record {
    shows = λ k o card p q. let fits = base_fits k o p.filled q in rewritten_shows shown is.properties card p.card_is (base template k o).lines (is.lines _ fits) (is.few _ fits);
    stays = λ k c q i. record { lines = rewritten_stays c.lines (is.lines c q.fits) q.text shown is.properties (is.few c q.fits) i; end = c.end };
    sound = λ k o card p q.
        let fits = base_fits k o p.filled q in
        let same = showing_texts card (base template k o) fits in
        record {
          fits = is.showing (base template k o) card fits p.card_is;
          has = λ none. base_has k o p.filled q (sym same ∙ none);
          key_is = ap first_name same ∙ base_key k o p.filled q;
          text = rewritten_utf8 shown is.properties card p.card_is (base template k o).lines (is.lines _ fits) (base_text k o p.text q);
        };
  }
