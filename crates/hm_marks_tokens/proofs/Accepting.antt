-- Each folder of the grammar is accepted.
use Rattle.std.proofs.Common.{◌≡◌, ℕ, suc, cond, List, [], ◌∷◌, ◌++◌, Option, Some, None, refl, sym, ap, ◌∙◌, subst}
use Rattle.std.proofs.lemmas.List.{append_assoc}
use Rattle.hm_marks.specs.Contents.{nothing, link, folder, separator}
use Rattle.hm_marks_tokens.specs.Grammar.{Contents, note_symbols, contents_symbols, folder_symbols, HaveTags}
use Rattle.hm_marks_tokens.specs.Symbols as symbols
use Rattle.hm_marks_tokens.specs.Symbols.{Symbol, words_of}
use Rattle.hm_marks_tokens.specs.Reading as reading
use Rattle.hm_marks_tokens.specs.Reading.{Place, State, Runs, step, start}

-- a reader within so many lists, at a place
abbrev pub state : ℕ → Place → State
state n p = record { lists = n; place = p }

-- symbols of which the first is neither a `<DD>` nor a text
unfoldable pub Clear : List Symbol → Type 0
Clear [] = ⊥
Clear (symbols.note ∷ ms) = ⊥
Clear (symbols.words b ∷ ms) = ⊥
Clear (m ∷ ms) = Unit {0}

pub clear_symbols : (c : Contents) (ms : List Symbol) → Clear ms → Clear (contents_symbols c ++ ms)
unfolding Clear
clear_symbols nothing ms clear = clear
clear_symbols (separator u s) ms clear = tt
clear_symbols (link e s) ms clear = tt
clear_symbols (folder e c s) ms clear = tt

as_linked : (n : ℕ) (a title : List ℕ) (ms : List Symbol) (t : State) → Clear ms → Runs (state n reading.inside) ms t
    → Runs (state n (reading.linked a title)) ms t
unfolding Clear
as_linked n a title [] t clear runs = absurd clear
as_linked n a title (symbols.note ∷ ms) t clear runs = absurd clear
as_linked n a title (symbols.words b ∷ ms) t clear runs = absurd clear
as_linked n a title (m ∷ ms) t clear runs = runs

as_noting : (n : ℕ) (a title : List ℕ) (ms : List Symbol) (t : State) → Clear ms → Runs (state n reading.inside) ms t
    → Runs (state n (reading.noting a title)) ms t
unfolding Clear
as_noting n a title [] t clear runs = absurd clear
as_noting n a title (symbols.note ∷ ms) t clear runs = absurd clear
as_noting n a title (symbols.words b ∷ ms) t clear runs = absurd clear
as_noting n a title (m ∷ ms) t clear runs = runs

link_words : (n : ℕ) (a title : List ℕ) (ms : List Symbol) (t : State) → Runs (state n (reading.linked a title)) ms t
    → Runs (state n (reading.linking a [])) (words_of title ++ symbols.link_end ∷ ms) t
link_words n a [] ms t runs = (state n (reading.linked a []), (refl, runs))
link_words n a (b ∷ title) ms t runs =
    (state n (reading.linking a (b ∷ title)), (refl, (state n (reading.linked a (b ∷ title)), (refl, runs))))

heading_words : (n : ℕ) (a title : List ℕ) (ms : List Symbol) (t : State) → Runs (state n (reading.titled a title)) ms t
    → Runs (state n (reading.titling a [])) (words_of title ++ symbols.heading_end ∷ ms) t
heading_words n a [] ms t runs = (state n (reading.titled a []), (refl, runs))
heading_words n a (b ∷ title) ms t runs =
    (state n (reading.titling a (b ∷ title)), (refl, (state n (reading.titled a (b ∷ title)), (refl, runs))))

link_note : (note : Option (List ℕ)) (n : ℕ) (a title : List ℕ) (ms : List Symbol) (t : State) → Clear ms
    → Runs (state n reading.inside) ms t → Runs (state n (reading.linked a title)) (note_symbols note ++ ms) t
link_note None n a title ms t clear runs = as_linked n a title ms t clear runs
link_note (Some []) n a title ms t clear runs = (state n (reading.noting a title), (refl, as_noting n a title ms t clear runs))
link_note (Some (b ∷ bytes)) n a title ms t clear runs = (state n (reading.noting a title), (refl, (state n reading.inside, (refl, runs))))

heading_note : (note : Option (List ℕ)) (n : ℕ) (a title : List ℕ) (ms : List Symbol) (t : State)
    → Runs (state (suc n) reading.inside) ms t → Runs (state n (reading.titled a title)) (note_symbols note ++ symbols.list ∷ ms) t
heading_note None n a title ms t runs = (state (suc n) reading.inside, (refl, runs))
heading_note (Some []) n a title ms t runs = (state n (reading.telling a title), (refl, (state (suc n) reading.inside, (refl, runs))))
heading_note (Some (b ∷ bytes)) n a title ms t runs =
    (state n (reading.telling a title), (refl, (state n (reading.told a title (b ∷ bytes)), (refl, (state (suc n) reading.inside, (refl, runs))))))

entries_run : (c : Contents) (n : ℕ) (ms : List Symbol) (t : State) → HaveTags c → Clear ms
    → Runs (state (suc n) reading.inside) ms t → Runs (state (suc n) reading.inside) (contents_symbols c ++ ms) t
unfolding Clear
entries_run nothing n ms t sound clear runs = runs
entries_run (separator u s) n ms t sound clear runs =
    (state (suc n) reading.inside, (ap (λ b. cond b (Some (state (suc n) reading.inside)) None) sound.0, entries_run s n ms t sound.1 clear runs))
entries_run (link e s) n ms t sound clear runs =
    let more = entries_run s n ms t sound.1 clear runs in
    let assoc : (words_of e.title ++ symbols.link_end ∷ (note_symbols e.note ++ contents_symbols s)) ++ ms
    ≡ words_of e.title ++ symbols.link_end ∷ (note_symbols e.note ++ (contents_symbols s ++ ms)) =
    append_assoc (words_of e.title) (symbols.link_end ∷ (note_symbols e.note ++ contents_symbols s)) ms
    ∙ ap (λ l. words_of e.title ++ symbols.link_end ∷ l) (append_assoc (note_symbols e.note) (contents_symbols s) ms) in (
      state (suc n) reading.begun,
      (
        refl,
        (
          state (suc n) (reading.linking e.attributes []),
          (
            ap (λ b. cond b (Some (state (suc n) (reading.linking e.attributes []))) None) sound.0,
            subst (λ l. Runs (state (suc n) (reading.linking e.attributes [])) l t) (sym assoc)
                (link_words (suc n) e.attributes e.title (note_symbols e.note ++ (contents_symbols s ++ ms)) t
                (link_note e.note (suc n) e.attributes e.title (contents_symbols s ++ ms) t (clear_symbols s ms clear) more)),
          ),
        ),
      ),
    )
entries_run (folder e c s) n ms t sound clear runs =
    let more = entries_run s n ms t sound.2 clear runs in
    let inner = entries_run c (suc n) (symbols.list_end ∷ (contents_symbols s ++ ms)) t sound.1 tt (state (suc n) reading.inside, (refl, more)) in
    let last = contents_symbols c ++ symbols.list_end ∷ (contents_symbols s ++ ms) in
    let assoc : (words_of e.title ++ symbols.heading_end ∷ (note_symbols e.note ++ symbols.list ∷ (contents_symbols c ++ symbols.list_end ∷ contents_symbols s))) ++ ms
    ≡ words_of e.title ++ symbols.heading_end ∷ (note_symbols e.note ++ symbols.list ∷ last) =
    append_assoc (words_of e.title) (symbols.heading_end ∷ (note_symbols e.note ++ symbols.list ∷ (contents_symbols c ++ symbols.list_end ∷ contents_symbols s))) ms
    ∙ ap (λ l. words_of e.title ++ symbols.heading_end ∷ l)
    (append_assoc (note_symbols e.note) (symbols.list ∷ (contents_symbols c ++ symbols.list_end ∷ contents_symbols s)) ms
    ∙ ap (λ l. note_symbols e.note ++ symbols.list ∷ l) (append_assoc (contents_symbols c) (symbols.list_end ∷ contents_symbols s) ms)) in (
      state (suc n) reading.begun,
      (
        refl,
        (
          state (suc n) (reading.titling e.attributes []),
          (
            ap (λ b. cond b (Some (state (suc n) (reading.titling e.attributes []))) None) sound.0,
            subst (λ l. Runs (state (suc n) (reading.titling e.attributes [])) l t) (sym assoc)
                (heading_words (suc n) e.attributes e.title (note_symbols e.note ++ symbols.list ∷ last) t
                (heading_note e.note (suc n) e.attributes e.title last t inner)),
          ),
        ),
      ),
    )

-- a folder's symbols lead from the beginning to its end
pub folder_runs : (c : Contents) → HaveTags c → Runs start (folder_symbols c) (state 0 reading.over)
unfolding Clear
folder_runs c sound =
    (state 1 reading.inside, (refl, entries_run c 0 (symbols.list_end ∷ []) (state 0 reading.over) sound tt (state 0 reading.over, (refl, refl))))
