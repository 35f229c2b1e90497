-- A replica that is opened and closed, by the laws of its format and of its lens.
use Rattle.std.proofs.Common.{◌≡◌, ℕ, Bool, true, false, cond, List, Option, Some, None, Result, Ok, Err, refl, sym, ap, subst, ◌∙◌}
use Rattle.std.specs.Prelude.{Vec, IfSome, MatchOption}
use Rattle.std.specs.Option.{option_map}
use Rattle.std.proofs.lemmas.Option.{same_Some, none-some}
use Rattle.std.specs.declared.alloc.Global.{Global}
use Rattle.hm_tree.specs.Nodes.{Tree}
use Rattle.hm_text_lens.specs.Meanings.{TextMeaning}
use Rattle.hm_terms.specs.Lenses.{Lens}
use Rattle.hm_terms.specs.Shown.{Shows}
use Rattle.hm_terms.specs.Put.{Puts}
use Rattle.hm_eval_terms.specs.Conditions as may
use Rattle.hm_eval.specs.Oblivious.{oblivious}
use Rattle.hm_eval.proofs.WithoutBefore.{may_put_without, put_alike}
use Rattle.hm_schema.specs.Membership.{IsMemberTree}
use Rattle.hm_format.specs.declared.fault.FormatFault.{FormatFault}
use Rattle.hm_format.specs.declared.fault.FormatFault.TheVariants.{BadOption, NotUtf8, BadItem, NoKey, TooDeep, Outside, Memory}
use Rattle.hm_format.specs.Formats.{FormatMeaning, IsLawful, MayRead, MayWrite}
use Rattle.hm_format.specs.Answers.{Writes}
use Rattle.hm_replica.specs.Replicas.{ReplicaValue, TypedValue, options_in, main_in, setting_in, kept_by, IsFitting, IsReplica, IsPut, IsClosed, Closes}

-- what is kept of a tree
pub without_tree : (l : Lens) (tree : Tree) → oblivious l ≡ true → None ≡ kept_by l tree
without_tree l tree is = sym (ap (λ b. cond b None (Some tree)) is)

pub with_tree : (l : Lens) (tree : Tree) → oblivious l ≡ false → Some tree ≡ kept_by l tree
with_tree l tree is = sym (ap (λ b. cond b None (Some tree)) is)

module _ (m : FormatMeaning) (texts : List TextMeaning) (t : TypedValue) (laws : IsLawful m) (typed : IsFitting m texts t) where
  abbrev pub may_read : MayRead m (options_in t)
  may_read = record { sound = typed.sound; schema = t.source; has = typed.schema }

  -- what is read may be shown, and is shown as a member of the view
  pub member : (bytes : List ℕ) (c : Tree) → m.reads (options_in t) bytes (Ok c) → IsMemberTree t.source c
  member bytes c read = laws.members (options_in t) t.source bytes c typed.sound typed.schema read

  pub may_show : (bytes : List ℕ) (c : Tree) → m.reads (options_in t) bytes (Ok c) → may.IsShown (setting_in texts t) (main_in t) c
  may_show bytes c read = let one = typed.fits.shows c (member bytes c read) in record { tree = one.tree; is = one.is }

  pub shown_member : (bytes : List ℕ) (c v : Tree) → m.reads (options_in t) bytes (Ok c) → Shows (setting_in texts t) (main_in t) c v → IsMemberTree t.view v
  shown_member bytes c v read shown =
      let one = typed.fits.shows c (member bytes c read) in
      subst (IsMemberTree t.view) (sym (one.only v shown)) one.inside

  -- a replica that is opened
  pub opened : (bytes before : List ℕ) (c v : Tree) (kept : Option Tree) → before ≡ bytes → m.reads (options_in t) before (Ok c)
      → Shows (setting_in texts t) (main_in t) c v → kept ≡ kept_by (main_in t) c
      → (bytes ≡ bytes) × IsReplica m texts t (record { bytes = bytes; concrete = kept; view = v }) × IsMemberTree t.view v
  opened bytes before c v kept same read shown is = (
    refl,
    record { tree = c; read = subst (λ b. m.reads (options_in t) b (Ok c)) same read; shown = shown; kept = is },
    shown_member before c v read shown,
  )

  module _ (r : ReplicaValue) (replica : IsReplica m texts t r) (shown : Tree) (there : IsMemberTree t.view shown) where
    old : IsMemberTree t.source replica.tree
    old = member r.bytes replica.tree replica.read

    may_put : may.IsPut (setting_in texts t) (main_in t) shown (Some replica.tree)
    may_put = let one = typed.fits.puts shown (Some replica.tree) there old in record { tree = one.tree; is = one.is }

    -- the view is put back as the tree from before
    put_again : Puts (setting_in texts t) (main_in t) r.view (Some replica.tree) replica.tree
    put_again = typed.fits.get_put replica.tree r.view old replica.shown

    new : (tree : Tree) → Puts (setting_in texts t) (main_in t) shown (Some replica.tree) tree → IsMemberTree t.source tree
    new tree put =
        let one = typed.fits.puts shown (Some replica.tree) there old in
        subst (IsMemberTree t.source) (sym (one.only tree put)) one.inside

    pub may_write : (tree : Tree) (before : List ℕ) → before ≡ r.bytes → Puts (setting_in texts t) (main_in t) shown (Some replica.tree) tree
        → MayWrite m (options_in t) tree before
    may_write tree before is put = record {
      options = may_read;
      member = new tree put;
      old = replica.tree;
      read = subst (λ b. m.reads (options_in t) b (Ok replica.tree)) (sym is) replica.read;
    }

    -- an unchanged view is put back as the tree from before
    back : (tree : Tree) → Puts (setting_in texts t) (main_in t) shown (Some replica.tree) tree → shown ≡ r.view → tree ≡ replica.tree
    back tree put same =
        let one = typed.fits.puts shown (Some replica.tree) there old in
        let again : Puts (setting_in texts t) (main_in t) shown (Some replica.tree) replica.tree =
        subst (λ v. Puts (setting_in texts t) (main_in t) v (Some replica.tree) replica.tree) (sym same) put_again in
        one.only tree put ∙ sym (one.only replica.tree again)

    abbrev is_put : (tree : Tree) → Puts (setting_in texts t) (main_in t) shown (Some replica.tree) tree → IsPut m texts t r.bytes shown tree
    is_put tree put = record { before = replica.tree; read = replica.read; puts = put }

    reads_back : (tree : Tree) (bytes : List ℕ) → Puts (setting_in texts t) (main_in t) shown (Some replica.tree) tree → m.over tree ≡ None
        → m.writes (options_in t) tree r.bytes bytes → m.reads (options_in t) bytes (Ok tree)
    reads_back tree bytes put within made =
        laws.put_get (options_in t) t.source r.bytes bytes replica.tree tree typed.sound typed.schema replica.read (new tree put) within made

    closed : (tree : Tree) (bytes : List ℕ) → Puts (setting_in texts t) (main_in t) shown (Some replica.tree) tree → m.over tree ≡ None
        → m.writes (options_in t) tree r.bytes bytes → IsClosed m texts t r shown bytes
    closed tree bytes put within made = record {
      tree = tree;
      put = is_put tree put;
      within = within;
      written = made;
      reads = reads_back tree bytes put within made;
      replica = record {
        tree = tree;
        read = reads_back tree bytes put within made;
        shown = typed.fits.put_get shown (Some replica.tree) tree there old put;
        kept = refl;
      };
      lens_keeps = typed.fits.keeps shown replica.tree tree there old put;
      format_keeps = laws.kept (options_in t) t.source r.bytes bytes replica.tree tree typed.sound typed.schema replica.read (new tree put) within made;
      unchanged = λ same.
          laws.writes_once (options_in t) replica.tree r.bytes bytes r.bytes
          (subst (λ (tree : Tree). m.writes (options_in t) tree r.bytes bytes) (back tree put same) made)
          (laws.get_put (options_in t) r.bytes replica.tree typed.sound replica.read);
    }

    pub closes : (tree : Tree) (before : List ℕ) (result : Result (Vec ℕ Global) FormatFault) → before ≡ r.bytes
        → Puts (setting_in texts t) (main_in t) shown (Some replica.tree) tree
        → Writes (m.over tree) (m.writes (options_in t) tree before) result → Closes m texts t r shown result
    closes tree before (Ok bytes) is put h = closed tree bytes.items put h.0 (subst (λ b. m.writes (options_in t) tree b bytes.items) is h.1)
    closes tree before (Err (TooDeep depth)) is put h = record { tree = tree; put = is_put tree put; over = h }
    closes tree before (Err Memory) is put h = tt
    closes tree before (Err (BadOption key)) is put h = h
    closes tree before (Err (NotUtf8 at)) is put h = h
    closes tree before (Err (BadItem number)) is put h = h
    closes tree before (Err (NoKey number)) is put h = h
    closes tree before (Err (Outside path)) is put h = h

    -- where the view is that of the replica, its own bytes are those that are written
    pub stays : shown ≡ r.view → IsClosed m texts t r shown r.bytes
    stays same =
        closed replica.tree r.bytes (subst (λ v. Puts (setting_in texts t) (main_in t) v (Some replica.tree) replica.tree) (sym same) put_again)
        (laws.within (options_in t) t.source r.bytes replica.tree typed.schema replica.read)
        (laws.get_put (options_in t) r.bytes replica.tree typed.sound replica.read)

    pub stays_behind : (bytes : List ℕ) → bytes ≡ r.bytes → shown ≡ r.view → IsClosed m texts t r shown bytes
    stays_behind bytes is same = subst (λ b. IsClosed m texts t r shown b) (sym is) (stays same)

    -- ---- over a base

    abbrev pub IsKept : Option (Tree × Tree) → Type 0
    IsKept kept = MatchOption kept (r.concrete ≡ None) (λ k. (r.concrete ≡ Some k.0) × (k.1 ≡ r.view))

    -- a tree that is kept is that of the replica, and where none is, the lens is oblivious
    kept_tree : (tree : Tree) → r.concrete ≡ Some tree → tree ≡ replica.tree
    kept_tree tree is = go (oblivious (main_in t)) (sym is ∙ replica.kept)
      where
        go : (b : Bool) → Some tree ≡ cond b None (Some replica.tree) → tree ≡ replica.tree
        go true e = absurd (none-some tree (sym e))
        go false e = same_Some tree replica.tree e

    no_tree : r.concrete ≡ None → oblivious (main_in t) ≡ true
    no_tree is = go (oblivious (main_in t)) (sym is ∙ replica.kept)
      where
        go : (b : Bool) → None ≡ cond b None (Some replica.tree) → b ≡ true
        go true e = refl
        go false e = absurd (none-some replica.tree e)

    pub may_put_over : (kept : Option (Tree × Tree)) → IsKept kept → may.IsPut (setting_in texts t) (main_in t) shown (option_map (λ k. k.0) kept)
    may_put_over None base = may_put_without (setting_in texts t) (no_tree base) may_put
    may_put_over (Some k) base =
        subst (λ (c : Tree). may.IsPut (setting_in texts t) (main_in t) shown (Some c)) (sym (kept_tree k.0 base.0)) may_put

    pub put_again_over : (kept : Option (Tree × Tree)) → IsKept kept
        → IfSome kept (λ k. Puts (setting_in texts t) (main_in t) k.1 (Some k.0) k.0)
    put_again_over None base = tt
    put_again_over (Some k) base =
        subst (λ (c : Tree). Puts (setting_in texts t) (main_in t) k.1 (Some c) c) (sym (kept_tree k.0 base.0))
        (subst (λ (v : Tree). Puts (setting_in texts t) (main_in t) v (Some replica.tree) replica.tree) (sym base.1) put_again)

    pub put_over : (kept : Option (Tree × Tree)) (tree : Tree) → IsKept kept
        → Puts (setting_in texts t) (main_in t) shown (option_map (λ k. k.0) kept) tree
        → Puts (setting_in texts t) (main_in t) shown (Some replica.tree) tree
    put_over None tree base put = put_alike (setting_in texts t) (no_tree base) may_put put
    put_over (Some k) tree base put =
        subst (λ (c : Tree). Puts (setting_in texts t) (main_in t) shown (Some c) tree) (kept_tree k.0 base.0) put

    pub kept_alike : (kept : Option (Tree × Tree)) → IsKept kept → MatchOption kept ⊥ (λ k. shown ≡ k.1) → shown ≡ r.view
    kept_alike None base never = absurd never
    kept_alike (Some k) base same = same ∙ base.1
