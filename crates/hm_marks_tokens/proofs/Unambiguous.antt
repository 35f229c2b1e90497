-- Symbols are those of one folder at the most.
use Rattle.std.proofs.Common.{◌≡◌, ℕ, List, [], ◌∷◌, ◌++◌, Option, Some, None, refl, sym, ap, ◌∙◌, subst}
use Rattle.std.proofs.lemmas.List.{append_assoc}
use Rattle.hm_marks.specs.Contents.{nothing, link, folder, separator}
use Rattle.hm_marks_tokens.specs.Grammar.{Entry, Contents, note_symbols, contents_symbols, folder_symbols}
use Rattle.hm_marks_tokens.specs.Symbols as symbols
use Rattle.hm_marks_tokens.specs.Symbols.{Symbol, words_of}
use Rattle.hm_marks_tokens.proofs.Accepting.{Clear, clear_symbols}

pub record AreOne {X : Type 0} (x y : X) (a b : List Symbol) : Type 0 where
  pub same : x ≡ y
  pub rest : a ≡ b

words_once : (m : Symbol) → ((b : List ℕ) → m ≡ symbols.words b → ⊥) → (s t : List ℕ) (a b : List Symbol) → words_of s ++ m ∷ a ≡ words_of t ++ m ∷ b → AreOne s t a b
words_once m other [] [] a b e = record { same = refl; rest = cc }
words_once m other [] (y ∷ t) a b e = let no : m ≡ symbols.words (y ∷ t) = cc in absurd (other (y ∷ t) no)
words_once m other (x ∷ s) [] a b e = let no : m ≡ symbols.words (x ∷ s) = cc in absurd (other (x ∷ s) no)
words_once m other (x ∷ s) (y ∷ t) a b e = record { same = cc; rest = cc }

not_words : (b : List ℕ) (ms a : List Symbol) → Clear ms → ms ≡ symbols.words b ∷ a → ⊥
unfolding Clear
not_words b ms a clear e = subst Clear e clear

not_note : (ms a : List Symbol) → Clear ms → ms ≡ symbols.note ∷ a → ⊥
unfolding Clear
not_note ms a clear e = subst Clear e clear

note_once : (m n : Option (List ℕ)) (a b : List Symbol) → Clear a → Clear b → note_symbols m ++ a ≡ note_symbols n ++ b → AreOne m n a b
note_once None None a b ca cb e = record { same = refl; rest = e }
note_once None (Some y) a b ca cb e = absurd (not_note a (words_of y ++ b) ca e)
note_once (Some x) None a b ca cb e = absurd (not_note b (words_of x ++ a) cb (sym e))
note_once (Some []) (Some []) a b ca cb e = record { same = refl; rest = cc }
note_once (Some []) (Some (y ∷ t)) a b ca cb e = let no : a ≡ symbols.words (y ∷ t) ∷ b = cc in absurd (not_words (y ∷ t) a b ca no)
note_once (Some (x ∷ s)) (Some []) a b ca cb e = let no : b ≡ symbols.words (x ∷ s) ∷ a = cc in absurd (not_words (x ∷ s) b a cb no)
note_once (Some (x ∷ s)) (Some (y ∷ t)) a b ca cb e = let one : x ∷ s ≡ y ∷ t = cc in record { same = ap Some one; rest = cc }

one_whole : (r q : Entry) → r.attributes ≡ q.attributes → r.title ≡ q.title → r.note ≡ q.note → r ≡ q
one_whole r q a t n = λ i. record { attributes = a i; title = t i; note = n i }

-- what stands behind the attributes of an entry, and behind all of it
one_entry : (m : Symbol) → ((b : List ℕ) → m ≡ symbols.words b → ⊥) → (r q : Entry) (a b : List Symbol) → r.attributes ≡ q.attributes → Clear a → Clear b
    → words_of r.title ++ m ∷ (note_symbols r.note ++ a) ≡ words_of q.title ++ m ∷ (note_symbols q.note ++ b) → AreOne r q a b
one_entry m other r q a b same ca cb e =
    let w = words_once m other r.title q.title (note_symbols r.note ++ a) (note_symbols q.note ++ b) e in
    let n = note_once r.note q.note a b ca cb w.rest in
    record { same = one_whole r q same w.same n.same; rest = n.rest }

pub regroup : (t : List ℕ) (m : Symbol) (n : Option (List ℕ)) (a b : List Symbol)
    → (words_of t ++ m ∷ (note_symbols n ++ a)) ++ b ≡ words_of t ++ m ∷ (note_symbols n ++ (a ++ b))
regroup t m n a b = append_assoc (words_of t) (m ∷ (note_symbols n ++ a)) b ∙ ap (λ l. words_of t ++ m ∷ l) (append_assoc (note_symbols n) a b)

-- the last symbols of a list's entries
abbrev pub ended : Contents → List Symbol → List Symbol
ended c x = contents_symbols c ++ symbols.list_end ∷ x

pub link_parts : (r : Entry) (s : Contents) (x : List Symbol)
    → ended (link r s) x ≡ symbols.entry ∷ symbols.link r.attributes ∷ (words_of r.title ++ symbols.link_end ∷ (note_symbols r.note ++ ended s x))
link_parts r s x = ap (λ l. symbols.entry ∷ symbols.link r.attributes ∷ l) (regroup r.title symbols.link_end r.note (contents_symbols s) (symbols.list_end ∷ x))

pub folder_parts : (r : Entry) (c s : Contents) (x : List Symbol)
    → ended (folder r c s) x ≡ symbols.entry ∷ symbols.heading r.attributes ∷ (words_of r.title ++ symbols.heading_end ∷ (note_symbols r.note ++ symbols.list ∷ ended c (ended s x)))
folder_parts r c s x =
    ap (λ l. symbols.entry ∷ symbols.heading r.attributes ∷ l)
    (regroup r.title symbols.heading_end r.note (symbols.list ∷ (contents_symbols c ++ symbols.list_end ∷ contents_symbols s)) (symbols.list_end ∷ x)
    ∙ ap (λ l. words_of r.title ++ symbols.heading_end ∷ (note_symbols r.note ++ symbols.list ∷ l)) (append_assoc (contents_symbols c) (symbols.list_end ∷ contents_symbols s) (symbols.list_end ∷ x)))

clear_ended : (c : Contents) (x : List Symbol) → Clear (ended c x)
unfolding Clear
clear_ended c x = clear_symbols c (symbols.list_end ∷ x) tt

clear_list : (a : List Symbol) → Clear (symbols.list ∷ a)
unfolding Clear
clear_list a = tt

pub entries_once : (c d : Contents) (x y : List Symbol) → ended c x ≡ ended d y → AreOne c d x y
entries_once nothing nothing x y e = record { same = refl; rest = cc }
entries_once nothing (separator v r) x y e = let bad : ⊥ = cc in absurd bad
entries_once nothing (link q r) x y e = let bad : ⊥ = cc in absurd bad
entries_once nothing (folder q d r) x y e = let bad : ⊥ = cc in absurd bad
entries_once (separator u s) nothing x y e = let bad : ⊥ = cc in absurd bad
entries_once (separator u s) (separator v r) x y e =
    let here : u ≡ v = cc in
    let more : ended s x ≡ ended r y = cc in
    let rest = entries_once s r x y more in
    record { same = λ i. separator (here i) (rest.same i); rest = rest.rest }
entries_once (separator u s) (link q r) x y e = let bad : ⊥ = cc in absurd bad
entries_once (separator u s) (folder q d r) x y e = let bad : ⊥ = cc in absurd bad
entries_once (link p s) nothing x y e = let bad : ⊥ = cc in absurd bad
entries_once (link p s) (separator v r) x y e = let bad : ⊥ = cc in absurd bad
entries_once (link p s) (link q r) x y e =
    let whole = sym (link_parts p s x) ∙ e ∙ link_parts q r y in
    let a : p.attributes ≡ q.attributes = cc in
    let tails : words_of p.title ++ symbols.link_end ∷ (note_symbols p.note ++ ended s x) ≡ words_of q.title ++ symbols.link_end ∷ (note_symbols q.note ++ ended r y) = cc in
    let one = one_entry symbols.link_end (λ b is. let bad : ⊥ = cc in bad) p q (ended s x) (ended r y) a (clear_ended s x) (clear_ended r y) tails in
    let rest = entries_once s r x y one.rest in
    record { same = λ i. link (one.same i) (rest.same i); rest = rest.rest }
entries_once (link p s) (folder q d r) x y e =
    let whole = sym (link_parts p s x) ∙ e ∙ folder_parts q d r y in
    let bad : ⊥ = cc in absurd bad
entries_once (folder p c s) nothing x y e = let bad : ⊥ = cc in absurd bad
entries_once (folder p c s) (separator v r) x y e = let bad : ⊥ = cc in absurd bad
entries_once (folder p c s) (link q r) x y e =
    let whole = sym (folder_parts p c s x) ∙ e ∙ link_parts q r y in
    let bad : ⊥ = cc in absurd bad
entries_once (folder p c s) (folder q d r) x y e =
    let whole = sym (folder_parts p c s x) ∙ e ∙ folder_parts q d r y in
    let a : p.attributes ≡ q.attributes = cc in
    let tails : words_of p.title ++ symbols.heading_end ∷ (note_symbols p.note ++ symbols.list ∷ ended c (ended s x))
    ≡ words_of q.title ++ symbols.heading_end ∷ (note_symbols q.note ++ symbols.list ∷ ended d (ended r y)) = cc in
    let one = one_entry symbols.heading_end (λ b is. let bad : ⊥ = cc in bad) p q (symbols.list ∷ ended c (ended s x)) (symbols.list ∷ ended d (ended r y)) a
    (clear_list (ended c (ended s x))) (clear_list (ended d (ended r y))) tails in
    let lists : ended c (ended s x) ≡ ended d (ended r y) = let l = one.rest in cc in
    let inner = entries_once c d (ended s x) (ended r y) lists in
    let rest = entries_once s r x y inner.rest in
    record { same = λ i. folder (one.same i) (inner.same i) (rest.same i); rest = rest.rest }

-- a folder is known from its symbols
pub folder_once : (c d : Contents) → folder_symbols c ≡ folder_symbols d → c ≡ d
folder_once c d e = let tails : ended c [] ≡ ended d [] = cc in (entries_once c d [] [] tails).same
