-- The first letter of a line tells which kind it is of.
use Rattle.std.proofs.Common.{◌≡◌, ℕ, List, ◌∷◌, ◌++◌, slice_get, Some, sym, ap, ◌∙◌, arith}
use Rattle.std.specs.Prelude.{codes}
use Rattle.hm_tree.specs.Names.{Name}
use Rattle.hm_schema_lines.specs.declared.token.Token.TheVariants.{Word}
use Rattle.hm_schema_writer.proofs.Laws.{spaced_front}
use Rattle.hm_focal.specs.OwnLines.{BodyValue, LensValue, OwnValue, nothing, header, format, lens, main, IsHeader, IsFormat, IsHeaded, word, IsLensLine, IsMainLine, IsOwn}

abbrev pub letter : OwnValue → ℕ
letter nothing = 0
letter header = 104
letter (format w ps) = 102
letter (lens d) = 108
letter (main b) = 109

headed_front : (line : List ℕ) (w : Name) (ws : List Name) (text : List ℕ) → IsHeaded line (w ∷ ws) text → (rest : List ℕ) × (line ≡ w ++ rest)
headed_front line w ws text (word {next} f h) = (f.0, f.1.is)

pub letter_of : (line : List ℕ) (o : OwnValue) → IsOwn line o → slice_get line 0 ≡ Some (letter o)
letter_of line nothing h = absurd h
letter_of line header h = let f = spaced_front (Word (codes "harmony")) _ line h in ap (λ (z : List ℕ). slice_get z 0) f.1
letter_of line (format w ps) h = ap (λ (z : List ℕ). slice_get z 0) h.front.1.is
letter_of line (lens d) h = let f = headed_front line (codes "lens") _ h.0 h.1 in ap (λ (z : List ℕ). slice_get z 0) f.1
letter_of line (main b) h = let f = headed_front line (codes "main") _ h.0 h.1 in ap (λ (z : List ℕ). slice_get z 0) f.1

module _ (line : List ℕ) (b : ℕ) (at : slice_get line 0 ≡ Some b) where
  same_letter : (o : OwnValue) → IsOwn line o → letter o ≡ b
  same_letter o h = let both : Some (letter o) ≡ Some b = sym (letter_of line o h) ∙ at in cc

  pub no_header : b ≡ 104 → ¬ (IsHeader line) → (o : OwnValue) → ¬ (IsOwn line o)
  no_header e none nothing h = h
  no_header e none header h = none h
  no_header e none (format w ps) h = omega (arith, same_letter (format w ps) h)
  no_header e none (lens d) h = omega (arith, same_letter (lens d) h)
  no_header e none (main c) h = omega (arith, same_letter (main c) h)

  pub no_format : b ≡ 102 → ((w : Name) (ps : List (Name × List Name)) → ¬ (IsFormat line w ps)) → (o : OwnValue) → ¬ (IsOwn line o)
  no_format e none nothing h = h
  no_format e none header h = omega (arith, same_letter header h)
  no_format e none (format w ps) h = none w ps h
  no_format e none (lens d) h = omega (arith, same_letter (lens d) h)
  no_format e none (main c) h = omega (arith, same_letter (main c) h)

  pub no_lens : b ≡ 108 → ((d : LensValue) → ¬ (IsLensLine line d)) → (o : OwnValue) → ¬ (IsOwn line o)
  no_lens e none nothing h = h
  no_lens e none header h = omega (arith, same_letter header h)
  no_lens e none (format w ps) h = omega (arith, same_letter (format w ps) h)
  no_lens e none (lens d) h = none d h
  no_lens e none (main c) h = omega (arith, same_letter (main c) h)

  pub no_main : b ≡ 109 → ((c : BodyValue) → ¬ (IsMainLine line c)) → (o : OwnValue) → ¬ (IsOwn line o)
  no_main e none nothing h = h
  no_main e none header h = omega (arith, same_letter header h)
  no_main e none (format w ps) h = omega (arith, same_letter (format w ps) h)
  no_main e none (lens d) h = omega (arith, same_letter (lens d) h)
  no_main e none (main c) h = none c h

  -- another letter begins none
  pub no_own : (b ≡ 104 → ⊥) → (b ≡ 102 → ⊥) → (b ≡ 108 → ⊥) → (b ≡ 109 → ⊥) → (o : OwnValue) → ¬ (IsOwn line o)
  no_own h f l m nothing k = k
  no_own h f l m header k = h (sym (same_letter header k))
  no_own h f l m (format w ps) k = f (sym (same_letter (format w ps) k))
  no_own h f l m (lens d) k = l (sym (same_letter (lens d) k))
  no_own h f l m (main c) k = m (sym (same_letter (main c) k))

pub letter_once : (line : List ℕ) (o p : OwnValue) → IsOwn line o → IsOwn line p → letter o ≡ letter p
letter_once line o p h k = let both : Some (letter o) ≡ Some (letter p) = sym (letter_of line o h) ∙ letter_of line p k in cc
