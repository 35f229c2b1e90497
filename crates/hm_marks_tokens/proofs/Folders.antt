-- Bytes begin with a folder exactly where they begin with the list of one of the grammar, and it is one.
use Rattle.std.proofs.Common.{◌≡◌, List, ℕ, false, length, refl, ap, ◌∙◌, subst}
use Rattle.std.specs.Prelude.{◌↔◌}
use Rattle.hm_marks_tokens.specs.Symbols.{Symbol, HasSymbols}
use Rattle.hm_marks_tokens.specs.Reading.{over, IsFolder, HasFolder}
use Rattle.hm_marks_tokens.specs.Grammar.{Contents, folder_symbols, IsListOf}
use Rattle.hm_marks_tokens.proofs.Accepted.{accepted}
use Rattle.hm_marks_tokens.proofs.Accepting.{folder_runs}
use Rattle.hm_marks_tokens.proofs.Unambiguous.{folder_once}
use Rattle.hm_marks_tokens.proofs.Known.{one_folder}

of_grammar : (bytes rest : List ℕ) (is : IsFolder bytes rest) → (c : Contents) × (IsListOf bytes c rest × (is.symbols ≡ folder_symbols c))
of_grammar bytes rest is =
    let a = accepted is.symbols is.state is.runs is.ends in
    (a.contents, (record { sound = a.sound; has = subst (λ (ms : List Symbol). HasSymbols false bytes ms rest) a.are is.has }, a.are))

to_folder : (bytes rest : List ℕ) (c : Contents) → IsListOf bytes c rest → IsFolder bytes rest
to_folder bytes rest c is =
    record { symbols = folder_symbols c; state = record { lists = 0; place = over }; has = is.has; runs = folder_runs c is.sound; ends = refl }

pub by_contents : (bytes rest : List ℕ) → IsFolder bytes rest ↔ ((c : Contents) × IsListOf bytes c rest)
by_contents bytes rest = (λ is. let of = of_grammar bytes rest is in (of.0, of.1.0), λ is. to_folder bytes rest is.0 is.1)

pub counted : (bytes rest : List ℕ) (n : ℕ) → HasFolder bytes rest n → (c : Contents) × (IsListOf bytes c rest × (n ≡ length (folder_symbols c)))
counted bytes rest n is =
    let of = of_grammar bytes rest is.folder in (of.0, (of.1.0, is.count_is ∙ ap length of.1.1))

pub one_contents : (bytes : List ℕ) (c d : Contents) (r s : List ℕ) → IsListOf bytes c r → IsListOf bytes d s → c ≡ d
unfolding to_folder
one_contents bytes c d r s one other = folder_once c d (one_folder bytes r s (to_folder bytes r c one) (to_folder bytes s d other))
