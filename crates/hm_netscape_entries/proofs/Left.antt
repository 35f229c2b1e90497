-- What is left of a folder, symbol by symbol.
use Rattle.std.proofs.Common.{ℕ, true, false, List, ◌∷◌, ◌++◌, subst}
use Rattle.hm_marks.specs.Contents.{link, folder}
use Rattle.hm_marks_tokens.specs.Symbols as symbols
use Rattle.hm_marks_tokens.specs.Symbols.{Symbol, words_of, IsNextSymbol, HasSymbols}
use Rattle.hm_marks_tokens.specs.Grammar.{Entry, Contents, note_symbols}
use Rattle.hm_marks_tokens.proofs.Unambiguous.{ended, link_parts, folder_parts}
use Rattle.hm_netscape_entries.specs.Next.{IsLeft}

-- an entry stands next, behind whose tag of a title these symbols follow
pub record IsBegun (bytes : List ℕ) (tag : Symbol) (ms : List Symbol) (rest : List ℕ) : Type 0 where
  pub behind_entry : List ℕ
  pub behind_tag : List ℕ
  pub entry : IsNextSymbol false bytes symbols.entry behind_entry
  pub tag_is : IsNextSymbol false behind_entry tag behind_tag
  pub has : HasSymbols true behind_tag ms rest

pub link_left : (bytes : List ℕ) (e : Entry) (c : Contents) (more : List Symbol) (rest : List ℕ) → IsLeft bytes (link e c) more rest
    → IsBegun bytes (symbols.link e.attributes) (words_of e.title ++ symbols.link_end ∷ (note_symbols e.note ++ ended c more)) rest
link_left bytes e c more rest left =
    let has = subst (λ ms. HasSymbols false bytes ms rest) (link_parts e c more) left in
    record { behind_entry = has.0; behind_tag = has.1.1.0; entry = has.1.0; tag_is = has.1.1.1.0; has = has.1.1.1.1 }

pub folder_left : (bytes : List ℕ) (e : Entry) (inside c : Contents) (more : List Symbol) (rest : List ℕ) → IsLeft bytes (folder e inside c) more rest
    → IsBegun bytes (symbols.heading e.attributes) (words_of e.title ++ symbols.heading_end ∷ (note_symbols e.note ++ symbols.list ∷ ended inside (ended c more))) rest
folder_left bytes e inside c more rest left =
    let has = subst (λ ms. HasSymbols false bytes ms rest) (folder_parts e inside c more) left in
    record { behind_entry = has.0; behind_tag = has.1.1.0; entry = has.1.0; tag_is = has.1.1.1.0; has = has.1.1.1.1 }
