-- A line of the file's own that was written is read as what it says.
use Rattle.std.proofs.Common.{◌≡◌, ◌≢◌, ℕ, ◌-◌, false, List, [], ◌∷◌, ◌++◌, length, slice_get, Some, refl, sym, ap, ◌∙◌, subst, arith, append_assoc}
use Rattle.std.specs.Prelude.{codes, flat_map, IsUtf8}
use Rattle.std.proofs.lemmas.List.{length_push}
use Rattle.hm_tree.specs.Names.{Name}
use Rattle.hm_tree_spelling.specs.Spelling.{spelled}
use Rattle.hm_terms.specs.Lenses.{Lens, DefinitionValue, identity, sequence, constant, hoist, plunge, fork, each, among, items, copy, merge, on_concrete, on_view, text as text_lens, call}
use Rattle.hm_focal_terms.specs.TermText.{IsTermText}
use Rattle.hm_focal_terms.specs.Limits.{IsOversized}
use Rattle.hm_focal_terms.specs.Written.{set_text, spelled_tree, is_sequence, opening, closing, term_text, pairs_text}
use Rattle.hm_schema_lines.specs.declared.token.Token.{Token}
use Rattle.hm_schema_lines.specs.declared.token.Token.TheVariants.{Word, Quoted, Question, Plus}
use Rattle.hm_schema_lines.specs.Tokens.{is_word, begins_word, IsToken, one, alone, before}
use Rattle.hm_schema_lines.specs.NodeLines.{edge_name}
use Rattle.hm_schema_writer.specs.WrittenNodes.{name_at}
use Rattle.hm_schema_lines.proofs.Laws.{not_word, word_utf8}
use Rattle.hm_focal.specs.Front.{IsFrontEdge, IsGap, IsWordBefore}
use Rattle.hm_focal.specs.OwnLines.{term, AreEdges, last, more, AreOptions, no_option, an_option, IsFormat, IsHeader, IsHeaded, equals, word, IsTrimmed, IsLensLine, IsMainLine}
use Rattle.hm_focal_writer.specs.Writing.{header_text, edges_text, option_text, format_text, definition_text, main_text}
use Rattle.hm_facts.proofs.Booleans.{is_true}

pub header_reads : IsHeader header_text
header_reads = before (omega arith, tt) one (before (omega arith, tt) one (alone (omega arith, tt)))

-- ---- a word and what follows

abbrev NoSpace : List ℕ → Type 0
NoSpace bytes = (r : List ℕ) → bytes ≢ 32 ∷ r

word_no_space : (w rest : List ℕ) → IsToken (Word w) → NoSpace (w ++ rest)
word_no_space w rest h r e = not_word w rest 32 r h refl e

one_gap : (rest : List ℕ) → NoSpace rest → IsGap (32 ∷ rest) rest
one_gap rest none = record { gap = 32 ∷ []; spaces = one; is = refl; stops = none }

word_then : (w rest : List ℕ) → IsToken (Word w) → NoSpace rest → IsWordBefore (w ++ (32 ∷ rest)) w rest
word_then w rest h none = (32 ∷ rest, record { sound = h; is = refl; stops = refl }, one_gap rest none)

-- ---- the format line

-- a name of an edge is a text
abbrev AreTexts : List Name → Type 0
AreTexts [] = Unit {0}
AreTexts (k ∷ ks) = IsUtf8 k × AreTexts ks

abbrev IsWritablePair : Name × List Name → Type 0
IsWritablePair p = IsToken (Word p.0) × (p.1 ≢ []) × AreTexts p.1

abbrev ArePairs : List (Name × List Name) → Type 0
ArePairs [] = Unit {0}
ArePairs (p ∷ ps) = IsWritablePair p × ArePairs ps

front_text : (bytes rest : List ℕ) (k : Name) → IsFrontEdge bytes k rest → IsUtf8 k
front_text bytes rest k f = go f.0 f.1 f.2.sound
  where
    go : (t : Token) → edge_name t ≡ Some k → IsToken t → IsUtf8 k
    go (Word w) e h = let same : w ≡ k = cc in subst IsUtf8 same (word_utf8 w (is_true (is_word w) h.1))
    go (Quoted n) e h = let same : n ≡ k = cc in subst IsUtf8 same h
    go Question e h = let f : ⊥ = cc in absurd f
    go Plus e h = let f : ⊥ = cc in absurd f

edges_texts : (bytes : List ℕ) (ks : List Name) (rest : List ℕ) → AreEdges bytes ks rest → (ks ≢ []) × AreTexts ks
edges_texts bytes _ rest (last {k} f stop) = ((λ e. let no : ⊥ = cc in no), (front_text bytes rest k f, tt))
edges_texts bytes _ rest (more {k} {next} {ks} f h) =
    ((λ e. let no : ⊥ = cc in no), (front_text bytes (44 ∷ next) k f, (edges_texts next ks rest h).1))

options_writable : (bytes : List ℕ) (ps : List (Name × List Name)) → AreOptions bytes ps → ArePairs ps
options_writable _ _ no_option = tt
options_writable _ _ (an_option {p} {rest} {ps} o h) =
    let values = edges_texts o.2.edges p.1 rest o.2.values in
    ((o.2.key.sound, values.0, values.1), options_writable rest ps h)

edges_read : (k : Name) (ks : List Name) (rest : List ℕ) → AreTexts (k ∷ ks) → ((r : List ℕ) → rest ≢ 44 ∷ r)
    → AreEdges (edges_text (k ∷ ks) ++ rest) (k ∷ ks) rest
edges_read k [] rest h stop =
    last (Quoted k, refl, record { sound = h.0; is = append_assoc (spelled k) [] rest; stops = tt }) stop
edges_read k (j ∷ js) rest h stop =
    more {next = edges_text (j ∷ js) ++ rest} (
      Quoted k,
      refl,
      record { sound = h.0; is = append_assoc (spelled k) (44 ∷ edges_text (j ∷ js)) rest; stops = tt },
    ) (edges_read j js rest h.1 stop)

values_read : (ks : List Name) (rest : List ℕ) → ks ≢ [] → AreTexts ks → ((r : List ℕ) → rest ≢ 44 ∷ r) → AreEdges (edges_text ks ++ rest) ks rest
values_read [] rest some h stop = absurd (some refl)
values_read (k ∷ ks) rest some h stop = edges_read k ks rest h stop

options_text : List (Name × List Name) → List ℕ
options_text ps = flat_map option_text ps

-- behind a value of an option stands nothing, or a space
options_stop : (ps : List (Name × List Name)) → (begins_word (flat_map option_text ps) ≡ false) × ((r : List ℕ) → flat_map option_text ps ≢ 44 ∷ r)
options_stop [] = (refl, λ r e. let no : ⊥ = cc in no)
options_stop (p ∷ ps) = (refl, λ r e. comma (p.0 ++ (61 ∷ edges_text p.1)) (flat_map option_text ps) r e)
  where
    comma : (xs ys r : List ℕ) → (32 ∷ xs) ++ ys ≢ 44 ∷ r
    comma xs ys r e = let both : ◌≡◌ {A = ℕ} 32 44 = cc in omega (arith, both)

options_read : (ps : List (Name × List Name)) → ArePairs ps → AreOptions (flat_map option_text ps) ps
options_read [] h = no_option
options_read (p ∷ ps) h =
    let rest : List ℕ = flat_map option_text ps in
    let edges : List ℕ = edges_text p.1 in
    let text : List ℕ = (p.0 ++ (61 ∷ edges)) ++ rest in
    let cut : text ≡ p.0 ++ (61 ∷ (edges ++ rest)) = append_assoc p.0 (61 ∷ edges) rest in
    an_option (
      text,
      one_gap text (λ r e. word_no_space p.0 (61 ∷ (edges ++ rest)) h.0.0 r (sym cut ∙ e)),
      record {
        edges = edges ++ rest;
        key = record { sound = h.0.0; is = cut; stops = refl };
        values = values_read p.1 rest h.0.1 h.0.2 (options_stop ps).1;
      },
    ) (options_read ps h.1)

pub format_reads : (line : List ℕ) (w : Name) (ps : List (Name × List Name)) → IsFormat line w ps → IsFormat (format_text w ps) w ps
format_reads line w ps h = record {
  text = w ++ flat_map option_text ps;
  rest = flat_map option_text ps;
  front = word_then (codes "format") (w ++ flat_map option_text ps) (omega arith, tt) (word_no_space w (flat_map option_text ps) h.name.sound);
  name = record { sound = h.name.sound; is = refl; stops = (options_stop ps).0 };
  options = options_read ps (options_writable h.rest ps h.options);
}

-- ---- lens lines and the main line

-- the last byte is no space
record Ends (text : List ℕ) : Type 0 where
  front : List ℕ
  byte : ℕ
  is : text ≡ front ++ byte ∷ []
  other : byte ≢ 32

closed : (xs : List ℕ) → Ends (xs ++ 41 ∷ [])
closed xs = record { front = xs; byte = 41; is = refl; other = λ e. omega (arith, e) }

behind : (xs ys : List ℕ) → Ends ys → Ends (xs ++ ys)
behind xs ys h = record {
  front = xs ++ h.front;
  byte = h.byte;
  is = ap (λ z. xs ++ z) h.is ∙ sym (append_assoc xs h.front (h.byte ∷ []));
  other = h.other;
}

term_ends : (l : Lens) → Ends (term_text l)
term_ends identity = record { front = codes "i"; byte = 100; is = refl; other = λ e. omega (arith, e) }
term_ends (sequence l k) = behind (opening (is_sequence l) ++ term_text l ++ closing (is_sequence l) ++ codes ";") (term_text k) (term_ends k)
term_ends (constant t d) = closed (codes "const(" ++ spelled_tree t ++ codes "," ++ spelled_tree d)
term_ends (hoist n) = closed (codes "hoist(" ++ spelled n)
term_ends (plunge n) = closed (codes "plunge(" ++ spelled n)
term_ends (fork P Q l k) = closed (codes "xfork(" ++ set_text P ++ codes "," ++ set_text Q ++ codes "," ++ term_text l ++ codes "," ++ term_text k)
term_ends (each l) = closed (codes "map(" ++ term_text l)
term_ends (among ls) = closed (codes "wmap(" ++ pairs_text ls)
term_ends (items l) = closed (codes "list(" ++ term_text l)
term_ends (copy m n) = closed (codes "copy(" ++ spelled m ++ codes "," ++ spelled n)
term_ends (merge m n) = closed (codes "merge(" ++ spelled m ++ codes "," ++ spelled n)
term_ends (on_concrete n l k) = closed (codes "ccond(" ++ spelled n ++ codes "," ++ term_text l ++ codes "," ++ term_text k)
term_ends (on_view n m l k) = closed (codes "acond(" ++ spelled n ++ codes "," ++ spelled m ++ codes "," ++ term_text l ++ codes "," ++ term_text k)
term_ends (text_lens n) = closed (codes "text(" ++ n)
term_ends (call n) = closed (codes "call(" ++ n)

last_at : (xs : List ℕ) (b : ℕ) → slice_get (xs ++ b ∷ []) (length xs) ≡ Some b
last_at [] b = refl
last_at (x ∷ xs) b = last_at xs b

trimmed : (l : Lens) → IsTrimmed (term_text l)
trimmed l e =
    let h = term_ends l in
    let place : length (term_text l) - 1 ≡ length h.front = let m = length_push h.front h.byte in let n = ap length h.is in omega (arith, m, n) in
    let both : Some h.byte ≡ Some 32 =
    sym (ap (slice_get (term_text l)) place ∙ ap (λ z. slice_get z (length h.front)) h.is ∙ last_at h.front h.byte) ∙ e in
    let same : h.byte ≡ 32 = cc in
    h.other same

module _ (l : Lens) (h : IsTermText (term_text l) l) (small : ¬ (IsOversized (term_text l))) where
  body_head : IsHeaded (61 ∷ 32 ∷ term_text l) [] (term_text l)
  body_head = equals refl (one_gap (term_text l) h.flush)

  no_equals : (rest : List ℕ) → NoSpace (61 ∷ rest)
  no_equals rest r e = let both : ◌≡◌ {A = ℕ} 61 32 = cc in omega (arith, both)

  pub main_reads : IsMainLine (main_text l) (term l)
  main_reads = (
    term_text l,
    word (word_then (codes "main") (61 ∷ 32 ∷ term_text l) (omega arith, tt) (no_equals _)) body_head,
    (trimmed l, small, h),
  )

  pub lens_reads : (names : List Name) (v : Name × DefinitionValue) → v.1.body ≡ l → IsToken (Word v.0)
      → IsToken (Word (name_at names v.1.source)) → IsToken (Word (name_at names v.1.view))
      → IsLensLine (definition_text names v)
      (record { name = v.0; source = name_at names v.1.source; view = name_at names v.1.view; body = term v.1.body })
  lens_reads names v is n s w = subst
      (λ (z : Lens). IsLensLine (codes "lens " ++ (v.0 ++ (32 ∷ (source ++ (32 ∷ (view ++ (codes " = " ++ term_text z)))))))
      (record { name = v.0; source = source; view = view; body = term z })) (sym is) here
    where
      source : Name
      source = name_at names v.1.source

      view : Name
      view = name_at names v.1.view

      here : IsLensLine (codes "lens " ++ (v.0 ++ (32 ∷ (source ++ (32 ∷ (view ++ (codes " = " ++ term_text l)))))))
          (record { name = v.0; source = source; view = view; body = term l })
      here = (
        term_text l,
        word (word_then (codes "lens") (v.0 ++ (32 ∷ (source ++ (32 ∷ (view ++ (codes " = " ++ term_text l)))))) (omega arith, tt) (word_no_space v.0 _ n))
            (word (word_then v.0 (source ++ (32 ∷ (view ++ (codes " = " ++ term_text l)))) n (word_no_space source _ s))
            (word (word_then source (view ++ (codes " = " ++ term_text l)) s (word_no_space view _ w))
            (word (word_then view (61 ∷ 32 ∷ term_text l) w (no_equals _)) body_head))),
        (trimmed l, small, h),
      )
