-- The number of the line with which lines stop to be those of a file is that of the first one that doesn't fit.
use Rattle.std.proofs.Common.{◌≡◌, ℕ, ◌+◌, ◌<◌, inl, inr, cond, List, [], ◌∷◌, ◌++◌, length, take, sym, ap, ◌∙◌, subst, arith}
use Rattle.std.specs.Prelude.{All}
use Rattle.std.proofs.lemmas.List.{length-append, take_at, take_all}
use Rattle.std.proofs.lemmas.List.Elements.{filter-append}
use Rattle.std.proofs.Math.Seq.{take-append-add}
use Rattle.hm_schema.specs.Values.{OptionsValue}
use Rattle.hm_lines_files.specs.Components.{Bytes}
use Rattle.hm_lines_files.specs.Forms.{Form, is_full}
use Rattle.hm_lines_files.specs.Files.{full, MayBegin, IsMisfit, IsCutShort, IsBadLine}
use Rattle.hm_lines_files.specs.Stops.{StopsAtLine, IsNumberOf, IsNumbered, IsPast}
use Rattle.hm_lines_files.specs.FormLaws.{IsForm}
use Rattle.hm_lines_files.proofs.FullLines.{IsFull, full_all}
use Rattle.hm_facts.proofs.Lists.{behind}

module _ (f : Form) (law : IsForm f) (o : OptionsValue) (all : List Bytes) (place : ℕ) (stop : StopsAtLine f o (full all) place) where
  more_full : full stop.opens.more ≡ stop.opens.more
  more_full =
      full_all stop.opens.more
      (behind IsFull (take place (full all)) stop.opens.more (subst (All IsFull) (sym stop.opens.are) (law.full o stop.opens.layout stop.opens.has)))

  -- with the lines before the place a file may begin
  begins : (before : List Bytes) → full before ≡ take place (full all) → MayBegin f o before
  begins before same = record {
    more = stop.opens.more;
    layout = stop.opens.layout;
    are = record {
      has = stop.opens.has;
      are = filter-append is_full before stop.opens.more ∙ (λ i. same i ++ more_full i) ∙ stop.opens.are;
    };
  }

  module _ (number : ℕ) (is : IsNumbered all place number) where
    parts : full all ≡ full is.before ++ is.line ∷ full is.after
    parts =
        ap full is.stand ∙ filter-append is_full is.before (is.line ∷ is.after)
        ∙ ap (λ b. full is.before ++ cond b (is.line ∷ full is.after) (full is.after)) is.filled

    before_is : full is.before ≡ take place (full all)
    before_is = sym (ap (take place) parts ∙ take_at (full is.before) (is.line ∷ full is.after) place (sym is.counted))

    with_line : full (is.before ++ is.line ∷ []) ≡ take (place + 1) (full all)
    with_line =
        filter-append is_full is.before (is.line ∷ [])
        ∙ ap (λ b. full is.before ++ cond b (is.line ∷ []) []) is.filled
        ∙ sym (ap (λ n. take (n + 1) (full all)) is.counted ∙ ap (take (length (full is.before) + 1)) parts
        ∙ take-append-add (full is.before) (is.line ∷ full is.after) 1)

    within : place < length (full all)
    within =
        let long = ap length parts ∙ length-append (full is.before) (is.line ∷ full is.after) in
        let at = is.counted in
        omega (arith, long, at)

    misfit : IsMisfit f o all number
    misfit = record {
      before = is.before;
      line = is.line;
      after = is.after;
      stand = is.stand;
      fits = begins is.before before_is;
      misfits = λ may. stop.next within (record {
        more = full may.more;
        layout = may.layout;
        has = may.are.has;
        are = ap (λ (ls : List Bytes). ls ++ full may.more) (sym with_line)
            ∙ sym (filter-append is_full (is.before ++ is.line ∷ []) may.more) ∙ may.are.are;
      });
      place = is.number_is;
    }

  cut_short : (number : ℕ) → IsPast all place number → IsCutShort f o all number
  cut_short number is = record {
    fits = begins all (sym (take_all place (full all) is.few));
    short = λ l are. stop.none l are.has are.are;
    place = is.number_is;
  }

  pub bad_line : (number : ℕ) → IsNumberOf all place number → IsBadLine f o all number
  bad_line number (inl is) = inl (misfit number is)
  bad_line number (inr is) = inr (cut_short number is)
