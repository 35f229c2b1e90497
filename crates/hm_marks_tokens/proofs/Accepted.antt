-- What a reader accepts, symbol by symbol, is a folder of the grammar.
use Rattle.std.proofs.Common.{◌≡◌, ℕ, zero, suc, Bool, true, false, cond, List, [], ◌∷◌, ◌++◌, Some, None, refl, sym, ap, ◌∙◌, subst}
use Rattle.std.proofs.lemmas.List.{append_assoc}
use Rattle.hm_marks.specs.Contents.{nothing, link, folder, separator}
use Rattle.hm_marks_tokens.specs.Grammar.{Entry, Contents, note_symbols, contents_symbols, folder_symbols, HaveTags}
use Rattle.hm_marks_tokens.specs.Symbols as symbols
use Rattle.hm_marks_tokens.specs.Symbols.{Symbol, words_of}
use Rattle.hm_marks_tokens.specs.Reading as reading
use Rattle.hm_marks_tokens.specs.Reading.{Place, State, Runs, step, in_list, at_start, closed, start}
use Rattle.hm_marks_tokens.specs.Attributes.{are_attributes, are_of_link}
use Rattle.hm_marks_tokens.proofs.Accepting.{state}

-- what may stand behind the beginnings of so many lists: the rest of what each holds, and its end
abbrev Ends : ℕ → List Symbol → Type 0
Ends zero ms = ms ≡ []
Ends (suc n) ms = (c : Contents) × (more : List Symbol) × ((ms ≡ contents_symbols c ++ symbols.list_end ∷ more) × HaveTags c × Ends n more)

-- these symbols are those of a folder
pub record IsOfGrammar (ms : List Symbol) : Type 0 where
  pub contents : Contents
  pub are : ms ≡ folder_symbols contents
  pub sound : HaveTags contents

-- what was read of the entry that the reader is in, in front of what is left
front : Place → List Symbol → List Symbol
front reading.before ms = ms
front reading.inside ms = ms
front reading.begun ms = symbols.entry ∷ ms
front (reading.linking a t) ms = symbols.entry ∷ symbols.link a ∷ (words_of t ++ ms)
front (reading.linked a t) ms = symbols.entry ∷ symbols.link a ∷ (words_of t ++ symbols.link_end ∷ ms)
front (reading.noting a t) ms = symbols.entry ∷ symbols.link a ∷ (words_of t ++ symbols.link_end ∷ symbols.note ∷ ms)
front (reading.titling a t) ms = symbols.entry ∷ symbols.heading a ∷ (words_of t ++ ms)
front (reading.titled a t) ms = symbols.entry ∷ symbols.heading a ∷ (words_of t ++ symbols.heading_end ∷ ms)
front (reading.telling a t) ms = symbols.entry ∷ symbols.heading a ∷ (words_of t ++ symbols.heading_end ∷ symbols.note ∷ ms)
front (reading.told a t b) ms = symbols.entry ∷ symbols.heading a ∷ (words_of t ++ symbols.heading_end ∷ symbols.note ∷ (words_of b ++ ms))
front reading.over ms = ms

-- what is known where a reader stands in a list
Known : Place → Type 0
Known reading.before = ⊥
Known reading.inside = Unit {0}
Known reading.begun = Unit {0}
Known (reading.linking a t) = are_of_link a ≡ true
Known (reading.linked a t) = are_of_link a ≡ true
Known (reading.noting a t) = are_of_link a ≡ true
Known (reading.titling a t) = are_attributes a ≡ true
Known (reading.titled a t) = are_attributes a ≡ true
Known (reading.telling a t) = are_attributes a ≡ true
Known (reading.told a t b) = are_attributes a ≡ true
Known reading.over = ⊥

-- ---- an entry in front

with_separator : (n : ℕ) (a : List ℕ) (ms : List Symbol) → are_attributes a ≡ true → Ends (suc n) ms → Ends (suc n) (symbols.rule a ∷ ms)
with_separator n a ms ok e = (separator a e.0, e.1, (ap (λ l. symbols.rule a ∷ l) e.2.0, (ok, e.2.1), e.2.2))

with_link : (n : ℕ) (r : Entry) (ms : List Symbol) → are_of_link r.attributes ≡ true → Ends (suc n) ms
    → Ends (suc n) (symbols.entry ∷ symbols.link r.attributes ∷ (words_of r.title ++ symbols.link_end ∷ (note_symbols r.note ++ ms)))
with_link n r ms ok e = (
  link r e.0,
  e.1,
  (
    ap (λ l. symbols.entry ∷ symbols.link r.attributes ∷ (words_of r.title ++ symbols.link_end ∷ (note_symbols r.note ++ l))) e.2.0
        ∙ ap (λ l. symbols.entry ∷ symbols.link r.attributes ∷ l)
        (ap (λ l. words_of r.title ++ symbols.link_end ∷ l) (sym (append_assoc (note_symbols r.note) (contents_symbols e.0) (symbols.list_end ∷ e.1)))
        ∙ sym (append_assoc (words_of r.title) (symbols.link_end ∷ (note_symbols r.note ++ contents_symbols e.0)) (symbols.list_end ∷ e.1))),
    (ok, e.2.1),
    e.2.2,
  ),
)

with_folder : (n : ℕ) (r : Entry) (ms : List Symbol) → are_attributes r.attributes ≡ true → Ends (suc (suc n)) ms
    → Ends (suc n) (symbols.entry ∷ symbols.heading r.attributes ∷ (words_of r.title ++ symbols.heading_end ∷ (note_symbols r.note ++ symbols.list ∷ ms)))
with_folder n r ms ok e =
    let c = e.0 in
    let f = e.2.2 in
    let d = f.0 in
    let last = symbols.list_end ∷ f.1 in
    let inner : ms ≡ (contents_symbols c ++ symbols.list_end ∷ contents_symbols d) ++ last =
    e.2.0 ∙ ap (λ l. contents_symbols c ++ symbols.list_end ∷ l) f.2.0
    ∙ sym (append_assoc (contents_symbols c) (symbols.list_end ∷ contents_symbols d) last) in (
      folder r c d,
      f.1,
      (
        ap (λ l. symbols.entry ∷ symbols.heading r.attributes ∷ (words_of r.title ++ symbols.heading_end ∷ (note_symbols r.note ++ symbols.list ∷ l))) inner
            ∙ ap (λ l. symbols.entry ∷ symbols.heading r.attributes ∷ l)
            (ap (λ l. words_of r.title ++ symbols.heading_end ∷ l)
            (sym (append_assoc (note_symbols r.note) (symbols.list ∷ (contents_symbols c ++ symbols.list_end ∷ contents_symbols d)) last))
            ∙ sym (append_assoc (words_of r.title)
            (symbols.heading_end ∷ (note_symbols r.note ++ symbols.list ∷ (contents_symbols c ++ symbols.list_end ∷ contents_symbols d))) last)),
        (ok, e.2.1, f.2.1),
        f.2.2,
      ),
    )

-- ---- one symbol more

abbrev IH : List Symbol → Type 0
IH ms = (p : Place) (n : ℕ) (t : State) → Known p → Runs (state (suc n) p) ms t → t.place ≡ reading.over → Ends (suc n) (front p ms)

no_step : {A : Type 0} (u : State) → None ≡ Some u → A
no_step u e = let bad : ⊥ = cc in absurd bad

one_state : (s u : State) → Some s ≡ Some u → s ≡ u
one_state s u e = cc

moved : (s u t : State) (ms : List Symbol) → Some s ≡ Some u → Runs u ms t → Runs s ms t
moved s u t ms e runs = subst (λ (k : State). Runs k ms t) (sym (one_state s u e)) runs

over_done : (ms : List Symbol) (t : State) → Runs (state 0 reading.over) ms t → ms ≡ []
over_done [] t runs = refl
over_done (m ∷ ms) t runs = no_step runs.0 runs.1.0

chosen : (b : Bool) (s u : State) → cond b (Some s) None ≡ Some u → (b ≡ true) × (s ≡ u)
chosen true s u e = (refl, one_state s u e)
chosen false s u e = no_step u e

list_ends : (ms : List Symbol) (n : ℕ) (u t : State) → IH ms → closed (suc n) ≡ Some u → Runs u ms t → t.place ≡ reading.over
    → Ends (suc n) (symbols.list_end ∷ ms)
unfolding front Known
list_ends ms zero u t ih is runs ends = (nothing, ms, (refl, tt, over_done ms t (moved (state 0 reading.over) u t ms is runs)))
list_ends ms (suc n) u t ih is runs ends =
    (nothing, ms, (refl, tt, ih reading.inside n t tt (moved (state (suc n) reading.inside) u t ms is runs) ends))

in_list_ends : (m : Symbol) (ms : List Symbol) (n : ℕ) (u t : State) → IH ms → in_list (suc n) m ≡ Some u → Runs u ms t
    → t.place ≡ reading.over → Ends (suc n) (m ∷ ms)
unfolding front Known
in_list_ends symbols.entry ms n u t ih is runs ends = ih reading.begun n t tt (moved (state (suc n) reading.begun) u t ms is runs) ends
in_list_ends (symbols.rule a) ms n u t ih is runs ends =
    let c = chosen (are_attributes a) (state (suc n) reading.inside) u is in
    with_separator n a ms c.0 (ih reading.inside n t tt (subst (λ (k : State). Runs k ms t) (sym c.1) runs) ends)
in_list_ends symbols.list_end ms n u t ih is runs ends = list_ends ms n u t ih is runs ends
in_list_ends m ms n u t ih is runs ends = no_step u is

begun_ends : (m : Symbol) (ms : List Symbol) (n : ℕ) (u t : State) → IH ms → reading.behind_entry (suc n) m ≡ Some u
    → Runs u ms t → t.place ≡ reading.over → Ends (suc n) (symbols.entry ∷ m ∷ ms)
unfolding front Known
begun_ends (symbols.link a) ms n u t ih is runs ends =
    let c = chosen (are_of_link a) (state (suc n) (reading.linking a [])) u is in
    ih (reading.linking a []) n t c.0 (subst (λ (k : State). Runs k ms t) (sym c.1) runs) ends
begun_ends (symbols.heading a) ms n u t ih is runs ends =
    let c = chosen (are_attributes a) (state (suc n) (reading.titling a [])) u is in
    ih (reading.titling a []) n t c.0 (subst (λ (k : State). Runs k ms t) (sym c.1) runs) ends
begun_ends m ms n u t ih is runs ends = no_step u is

-- a list begins behind a heading
folder_ends : (m : Symbol) (ms : List Symbol) (n : ℕ) (r : Entry) (u t : State) → are_attributes r.attributes ≡ true → IH ms → at_start (suc n) m ≡ Some u
    → Runs u ms t → t.place ≡ reading.over
    → Ends (suc n) (symbols.entry ∷ symbols.heading r.attributes ∷ (words_of r.title ++ symbols.heading_end ∷ (note_symbols r.note ++ m ∷ ms)))
unfolding front Known
folder_ends symbols.list ms n r u t ok ih is runs ends =
    with_folder n r ms ok (ih reading.inside (suc n) t tt (moved (state (suc (suc n)) reading.inside) u t ms is runs) ends)
folder_ends m ms n r u t ok ih is runs ends = no_step u is

first_is : (title bytes : List ℕ) (s u : State) → reading.first_words title bytes (Some s) ≡ Some u → (title ≡ []) × (words_of bytes ≡ symbols.words bytes ∷ []) × (s ≡ u)
first_is [] [] s u e = no_step u e
first_is [] (b ∷ bytes) s u e = (refl, refl, one_state s u e)
first_is (c ∷ title) bytes s u e = no_step u e

linking_ends : (m : Symbol) (ms : List Symbol) (n : ℕ) (a title : List ℕ) (u t : State) → are_of_link a ≡ true → IH ms
    → reading.in_link (suc n) a title m ≡ Some u → Runs u ms t → t.place ≡ reading.over
    → Ends (suc n) (symbols.entry ∷ symbols.link a ∷ (words_of title ++ m ∷ ms))
unfolding front Known
linking_ends (symbols.words b) ms n a title u t ok ih is runs ends =
    let f = first_is title b (state (suc n) (reading.linking a b)) u is in
    subst (λ l. Ends (suc n) (symbols.entry ∷ symbols.link a ∷ l))
    (ap (λ l. l ++ ms) f.1 ∙ ap (λ l. words_of l ++ symbols.words b ∷ ms) (sym f.0))
    (ih (reading.linking a b) n t ok (subst (λ (k : State). Runs k ms t) (sym f.2) runs) ends)
linking_ends symbols.link_end ms n a title u t ok ih is runs ends =
    ih (reading.linked a title) n t ok (moved (state (suc n) (reading.linked a title)) u t ms is runs) ends
linking_ends m ms n a title u t ok ih is runs ends = no_step u is

linked_ends : (m : Symbol) (ms : List Symbol) (n : ℕ) (a title : List ℕ) (u t : State) → are_of_link a ≡ true → IH ms
    → reading.behind_link (suc n) a title m ≡ Some u → Runs u ms t → t.place ≡ reading.over
    → Ends (suc n) (symbols.entry ∷ symbols.link a ∷ (words_of title ++ symbols.link_end ∷ m ∷ ms))
unfolding front Known
linked_ends symbols.note ms n a title u t ok ih is runs ends =
    ih (reading.noting a title) n t ok (moved (state (suc n) (reading.noting a title)) u t ms is runs) ends
linked_ends m ms n a title u t ok ih is runs ends =
    with_link n (record { attributes = a; title = title; note = None }) (m ∷ ms) ok (in_list_ends m ms n u t ih is runs ends)

noting_ends : (m : Symbol) (ms : List Symbol) (n : ℕ) (a title : List ℕ) (u t : State) → are_of_link a ≡ true → IH ms
    → reading.in_link_note (suc n) m ≡ Some u → Runs u ms t → t.place ≡ reading.over
    → Ends (suc n) (symbols.entry ∷ symbols.link a ∷ (words_of title ++ symbols.link_end ∷ symbols.note ∷ m ∷ ms))
unfolding front Known
noting_ends (symbols.words b) ms n a title u t ok ih is runs ends =
    let f = first_is [] b (state (suc n) reading.inside) u is in
    subst (λ l. Ends (suc n) (symbols.entry ∷ symbols.link a ∷ (words_of title ++ symbols.link_end ∷ symbols.note ∷ (l ++ ms)))) f.1
    (with_link n (record { attributes = a; title = title; note = Some b }) ms ok
    (ih reading.inside n t tt (subst (λ (k : State). Runs k ms t) (sym f.2) runs) ends))
noting_ends m ms n a title u t ok ih is runs ends =
    with_link n (record { attributes = a; title = title; note = Some [] }) (m ∷ ms) ok (in_list_ends m ms n u t ih is runs ends)

titling_ends : (m : Symbol) (ms : List Symbol) (n : ℕ) (a title : List ℕ) (u t : State) → are_attributes a ≡ true → IH ms
    → reading.in_heading (suc n) a title m ≡ Some u → Runs u ms t → t.place ≡ reading.over
    → Ends (suc n) (symbols.entry ∷ symbols.heading a ∷ (words_of title ++ m ∷ ms))
unfolding front Known
titling_ends (symbols.words b) ms n a title u t ok ih is runs ends =
    let f = first_is title b (state (suc n) (reading.titling a b)) u is in
    subst (λ l. Ends (suc n) (symbols.entry ∷ symbols.heading a ∷ l))
    (ap (λ l. l ++ ms) f.1 ∙ ap (λ l. words_of l ++ symbols.words b ∷ ms) (sym f.0))
    (ih (reading.titling a b) n t ok (subst (λ (k : State). Runs k ms t) (sym f.2) runs) ends)
titling_ends symbols.heading_end ms n a title u t ok ih is runs ends =
    ih (reading.titled a title) n t ok (moved (state (suc n) (reading.titled a title)) u t ms is runs) ends
titling_ends m ms n a title u t ok ih is runs ends = no_step u is

titled_ends : (m : Symbol) (ms : List Symbol) (n : ℕ) (a title : List ℕ) (u t : State) → are_attributes a ≡ true → IH ms
    → reading.behind_heading (suc n) a title m ≡ Some u → Runs u ms t → t.place ≡ reading.over
    → Ends (suc n) (symbols.entry ∷ symbols.heading a ∷ (words_of title ++ symbols.heading_end ∷ m ∷ ms))
unfolding front Known
titled_ends symbols.note ms n a title u t ok ih is runs ends =
    ih (reading.telling a title) n t ok (moved (state (suc n) (reading.telling a title)) u t ms is runs) ends
titled_ends m ms n a title u t ok ih is runs ends =
    folder_ends m ms n (record { attributes = a; title = title; note = None }) u t ok ih is runs ends

telling_ends : (m : Symbol) (ms : List Symbol) (n : ℕ) (a title : List ℕ) (u t : State) → are_attributes a ≡ true → IH ms
    → reading.in_heading_note (suc n) a title m ≡ Some u → Runs u ms t → t.place ≡ reading.over
    → Ends (suc n) (symbols.entry ∷ symbols.heading a ∷ (words_of title ++ symbols.heading_end ∷ symbols.note ∷ m ∷ ms))
unfolding front Known
telling_ends (symbols.words b) ms n a title u t ok ih is runs ends =
    let f = first_is [] b (state (suc n) (reading.told a title b)) u is in
    subst (λ l. Ends (suc n) (symbols.entry ∷ symbols.heading a ∷ (words_of title ++ symbols.heading_end ∷ symbols.note ∷ (l ++ ms)))) f.1
    (ih (reading.told a title b) n t ok (subst (λ (k : State). Runs k ms t) (sym f.2) runs) ends)
telling_ends m ms n a title u t ok ih is runs ends =
    folder_ends m ms n (record { attributes = a; title = title; note = Some [] }) u t ok ih is runs ends

-- ---- all symbols

all_end : (ms : List Symbol) → IH ms
unfolding front Known
all_end [] p n t known runs ends = absurd (subst Known (ap (λ (s : State). s.place) runs ∙ ends) known)
all_end (m ∷ ms) reading.before n t known runs ends = absurd known
all_end (m ∷ ms) reading.inside n t known runs ends = in_list_ends m ms n runs.0 t (all_end ms) runs.1.0 runs.1.1 ends
all_end (m ∷ ms) reading.begun n t known runs ends = begun_ends m ms n runs.0 t (all_end ms) runs.1.0 runs.1.1 ends
all_end (m ∷ ms) (reading.linking a b) n t known runs ends = linking_ends m ms n a b runs.0 t known (all_end ms) runs.1.0 runs.1.1 ends
all_end (m ∷ ms) (reading.linked a b) n t known runs ends = linked_ends m ms n a b runs.0 t known (all_end ms) runs.1.0 runs.1.1 ends
all_end (m ∷ ms) (reading.noting a b) n t known runs ends = noting_ends m ms n a b runs.0 t known (all_end ms) runs.1.0 runs.1.1 ends
all_end (m ∷ ms) (reading.titling a b) n t known runs ends = titling_ends m ms n a b runs.0 t known (all_end ms) runs.1.0 runs.1.1 ends
all_end (m ∷ ms) (reading.titled a b) n t known runs ends = titled_ends m ms n a b runs.0 t known (all_end ms) runs.1.0 runs.1.1 ends
all_end (m ∷ ms) (reading.telling a b) n t known runs ends = telling_ends m ms n a b runs.0 t known (all_end ms) runs.1.0 runs.1.1 ends
all_end (m ∷ ms) (reading.told a b c) n t known runs ends =
    folder_ends m ms n (record { attributes = a; title = b; note = Some c }) runs.0 t known (all_end ms) runs.1.0 runs.1.1 ends
all_end (m ∷ ms) reading.over n t known runs ends = absurd known

pub accepted : (ms : List Symbol) (t : State) → Runs start ms t → t.place ≡ reading.over → IsOfGrammar ms
unfolding front Known
accepted [] t runs ends = let no : reading.before ≡ reading.over = ap (λ (s : State). s.place) runs ∙ ends in let bad : ⊥ = cc in absurd bad
accepted (symbols.list ∷ ms) t runs ends =
    let e = all_end ms reading.inside 0 t tt (moved (state 1 reading.inside) runs.0 t ms runs.1.0 runs.1.1) ends in
    record {
      contents = e.0;
      are = ap (λ l. symbols.list ∷ l) (e.2.0 ∙ ap (λ l. contents_symbols e.0 ++ symbols.list_end ∷ l) e.2.2);
      sound = e.2.1;
    }
accepted (m ∷ ms) t runs ends = no_step runs.0 runs.1.0
