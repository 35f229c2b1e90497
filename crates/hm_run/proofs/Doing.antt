-- What the files of a request come to, by the steps of its command.
use Rattle.std.proofs.Common.{◌≡◌, ◌∙◌, ◌++◌, ◌<◌, ℕ, zero, suc, Bool, List, [], ◌∷◌, length, get_or, map, Vec, Global, Result, Ok, Err, refl, sym, ap, subst, arith}
use Rattle.hm_tree.specs.Names.{Name}
use Rattle.hm_command_line.specs.declared.request.Command.{Command}
use Rattle.hm_run_files.specs.declared.slot.Slot.{Slot}
use Rattle.hm_run_files.specs.declared.stop.Refusal.{Refusal}
use Rattle.hm_run_files.specs.declared.stop.Stop.{Stop}
use Rattle.hm_run_files.specs.Steps.{Stopped, Computes, stops, goes_on}
use Rattle.hm_run_files.specs.Files.{New, bytes_of}
use Rattle.hm_run_files.proofs.Steps.{computes_stop}
use Rattle.hm_run_words.specs.Slots.{paired}
use Rattle.hm_run_effects.specs.declared.effect.Effect.{Effect as NewEffect}
use Rattle.hm_run_effects.specs.Effects.{Effect, effect_value}
use Rattle.hm_run_handed.specs.Handed.{Handed}
use Rattle.hm_run_sides.specs.Sides.{seen}
use Rattle.hm_run_sync.specs.declared.closing.Summary.{Summary}
use Rattle.hm_run_sync.specs.Verdict.{NewNames, PlansFrom, IsPlanned, conflicts_status, said, news_of}
use Rattle.hm_run_views.specs.Viewing.{ChecksLens, ViewsFile}
use Rattle.hm_run.specs.Commands.{Reconciles, finding_by, new_names, news_if}

abbrev Bytes : Type 0
Bytes = Vec ℕ Global

pub seen_stop : (finds : Result Effect Refusal → Type 0) (stop : Stop) (r : Result NewEffect Stop) → r ≡ Err stop → Computes finds (Err stop) → Computes finds (seen effect_value r)
seen_stop finds stop r is h =
    let e : ◌≡◌ {A = Result Effect Stop} (seen effect_value r) (Err stop) = ap (seen effect_value) is in
    subst (Computes finds) (sym e) h

-- ---- bytes by their places

pub first_of : (xs : List Bytes) (x : Bytes) → 0 < length xs → x ≡ get_or xs 0 x → get_or (map bytes_of xs) 0 [] ≡ x.items
first_of [] x some is = absurd (omega arith)
first_of (y ∷ ys) x some is = ap (λ (v : Bytes). v.items) (sym is)

one_more : (xs : List Bytes) (x y : Bytes) → length xs ≡ 1 → x ≡ get_or xs 0 x
    → (get_or (map bytes_of (xs ++ y ∷ [])) 0 [] ≡ x.items) × (get_or (map bytes_of (xs ++ y ∷ [])) 1 [] ≡ y.items)
one_more [] x y one is = absurd (omega arith)
one_more (z ∷ []) x y one is = (ap (λ (v : Bytes). v.items) (sym is), refl)
one_more (z ∷ w ∷ ws) x y one is = absurd (omega arith)

-- ---- commands that only read

pub check_so : (h : Handed) (bytes other : List ℕ) → bytes ≡ other → (r : Result Effect Stop) → Computes (ChecksLens h bytes) r → Computes (ChecksLens h other) r
check_so h bytes other same r k = subst (λ (z : List ℕ). Computes (ChecksLens h z) r) same k

pub view_so : (h : Handed) (loads few : List Bytes) (lens file : Bytes) (bytes : List ℕ) → loads ≡ few ++ file ∷ [] → length few ≡ 1 → lens ≡ get_or few 0 lens
    → bytes ≡ lens.items → (r : Result Effect Stop) → Computes (ViewsFile h bytes file.items) r
    → Computes (ViewsFile h (get_or (map bytes_of loads) 0 []) (get_or (map bytes_of loads) 1 [])) r
view_so h loads few lens file bytes last one is are r k =
    let both = one_more few lens file one is in
    let first : get_or (map bytes_of loads) 0 [] ≡ bytes = ap (λ (l : List Bytes). get_or (map bytes_of l) 0 []) last ∙ both.0 ∙ sym are in
    let second : get_or (map bytes_of loads) 1 [] ≡ file.items = ap (λ (l : List Bytes). get_or (map bytes_of l) 1 []) last ∙ both.1 in
    subst (λ (z : List ℕ). Computes (ViewsFile h z (get_or (map bytes_of loads) 1 [])) r) (sym first)
    (subst (λ (z : List ℕ). Computes (ViewsFile h bytes z) r) (sym second) k)

-- ---- commands that reconcile

named_at : (files : List Name) (i : ℕ) (x : Name) → i < length files → x ≡ get_or files i x → x ≡ get_or files i []
named_at [] i x lt is = absurd (omega arith)
named_at (f ∷ fs) zero x lt is = is
named_at (f ∷ fs) (suc i) x lt is = named_at fs i x (omega arith) is

pub names_so : (files read : List Name) (archive left right : Name) → read ≡ files → length files ≡ 6 → archive ≡ get_or read 3 archive → left ≡ get_or read 4 left
    → right ≡ get_or read 5 right → ◌≡◌ {A = NewNames} (record { archive = archive; left = left; right = right }) (new_names files)
names_so files read archive left right same six a l r =
    let sa : archive ≡ get_or files 3 archive = a ∙ ap (λ (fs : List Name). get_or fs 3 archive) same in
    let sl : left ≡ get_or files 4 left = l ∙ ap (λ (fs : List Name). get_or fs 4 left) same in
    let sr : right ≡ get_or files 5 right = r ∙ ap (λ (fs : List Name). get_or fs 5 right) same in
    let ea = named_at files 3 archive (omega arith) sa in
    let el = named_at files 4 left (omega arith) sl in
    let er = named_at files 5 right (omega arith) sr in
    λ i. record { archive = ea i; left = el i; right = er i }

module _ (h : Handed) (writes quiet : Bool) (files : List Name) (all : List (List ℕ)) (names : NewNames) (named : names ≡ new_names files) where
  pub plan_stopped : (stop : Stop) (r : Result NewEffect Stop) → r ≡ Err stop
      → Stopped (λ refusal. PlansFrom h names all (Err refusal)) (λ kind at. ⊥) [] [] stop → Computes (Reconciles h writes quiet files all) (seen effect_value r)
  unfolding Reconciles
  plan_stopped stop r is k =
      seen_stop (Reconciles h writes quiet files all) stop r is
      (computes_stop (Reconciles h writes quiet files all) (λ refusal. PlansFrom h names all (Err refusal)) stop (Err stop) refl k
      (λ refusal p. stops (subst (λ (n : NewNames). PlansFrom h n all (Err refusal)) named p)))

  pub planned_so : (news : List New) (summary : Summary) → IsPlanned h names all news summary → (effect : Effect) → effect.news ≡ news_if writes news
      → effect.status ≡ conflicts_status (length summary.conflicts.items) → effect.text ≡ said quiet summary.conflicts.items
      → Reconciles h writes quiet files all (Ok effect)
  unfolding Reconciles
  planned_so news summary p effect en es et =
      let are : news ≡ news_of p.plan.files p.plan.texts = p.are ∙ ap (λ (n : NewNames). news_of n p.plan.texts) (sym p.of) in
      let made : effect.news ≡ news_if writes (news_of p.plan.files p.plan.texts) = en ∙ ap (news_if writes) are in
      goes_on (subst (λ (n : NewNames). PlansFrom h n all (Ok p.plan)) named p.planned)
      (summary.conflicts.items, p.sums.remain, λ i. Ok (record { news = made i; status = es i; text = et i }))

-- ---- by the command

pub commanded : (h : Handed) (command given : Command) (quiet : Bool) (files names : List Name) (all : List (List ℕ)) (r : Result Effect Stop) → command ≡ given → names ≡ files
    → Computes (finding_by h given quiet names all) r → Computes (finding_by h command quiet files all) r
commanded h command given quiet files names all r is same k =
    subst (λ (c : Command). Computes (finding_by h c quiet files all) r) (sym is) (subst (λ (ns : List Name). Computes (finding_by h given quiet ns all) r) same k)

-- the same of an effect that is an output alone
pub commanded_only : (h : Handed) (command given : Command) (quiet : Bool) (files : List Name) (all : List (List ℕ)) (r output : Result Effect Stop) → command ≡ given
    → r ≡ output → Computes (finding_by h given quiet files all) output → Computes (finding_by h command quiet files all) r
commanded_only h command given quiet files all r output is same k =
    commanded h command given quiet files files all r is refl (subst (Computes (finding_by h given quiet files all)) (sym same) k)

-- as many files as slots
pub paired_length : (slots : List Slot) (names : List Name) → length names ≡ length slots → length (paired slots names) ≡ length slots
paired_length [] names e = refl
paired_length (s ∷ ss) [] e = absurd (omega arith)
paired_length (s ∷ ss) (n ∷ ns) e = ap suc (paired_length ss ns (omega arith))
