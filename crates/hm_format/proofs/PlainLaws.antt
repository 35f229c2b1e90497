-- The format of texts of trees meets the laws.
use Rattle.std.proofs.Common.{◌≡◌, ◌≢◌, ℕ, List, [], length, Some, None, Result, Ok, Err, refl, sym, ap, subst, ◌∙◌}
use Rattle.std.specs.Prelude.{IsUtf8}
use Rattle.hm_tree.specs.Nodes.{Tree}
use Rattle.hm_tree.specs.States.{Path, state}
use Rattle.hm_tree.proofs.PathLaws.{first_once}
use Rattle.hm_tree_text.specs.Files.{IsTreeText}
use Rattle.hm_tree_text.specs.Text.{tree_text}
use Rattle.hm_tree_text.specs.Faults.{TreeFaults}
use Rattle.hm_tree_text.specs.declared.fault.TextFault.{TextFault}
use Rattle.hm_tree_text.specs.declared.fault.TextFault.TheVariants.{BadTree, TooDeep as DeepText, Memory as NoMemory}
use Rattle.hm_tree_text.proofs.Laws.{tree_once, tree_text_reads, tree_fault_once}
use Rattle.hm_tree_text.proofs.TextUtf8.{tree_text_utf8}
use Rattle.hm_schema.specs.Values.{SchemaValue, OptionsValue}
use Rattle.hm_schema.specs.WellFormed.{IsWellFormedNode}
use Rattle.hm_schema.proofs.Lists.{all_read}
use Rattle.hm_schema.specs.Membership.{IsOutside, IsFirstOutside, HasNoTwins}
use Rattle.hm_format.specs.declared.fault.FormatFault.{FormatFault}
use Rattle.hm_format.specs.declared.fault.FormatFault.TheVariants.{BadOption, NotUtf8, BadItem, NoKey, TooDeep, Outside, Memory}
use Rattle.hm_format.specs.Options.{AreSound, bad_key}
use Rattle.hm_format.specs.Formats.{IsLawful, IsReadFault, HasSchema}
use Rattle.hm_schema.specs.Membership.{IsMemberTree}
use Rattle.hm_format.proofs.Limits.{shallow, not_over}
use Rattle.hm_format.proofs.Accepted.{schema_given, no_bad_key}
use Rattle.hm_existence.proofs.Existence.{from_one}
use Rattle.hm_format.proofs.SomePlain.{some_read}
use Rattle.hm_format.specs.Plain.{IsOutsideText, PlainReads, plain, plain_rules, plain_schema}

-- a text is UTF-8
text_utf8 : (t : Tree) (bytes : List ℕ) → IsTreeText t bytes → IsUtf8 bytes
text_utf8 t bytes text = subst IsUtf8 (sym text.spelled) (tree_text_utf8 t)

-- a text has no fault
no_fault : (t : Tree) (bytes : List ℕ) (f : TextFault) → IsTreeText t bytes → TreeFaults bytes f → f ≢ NoMemory → ⊥
no_fault t bytes f text fault other = other (tree_text_reads t bytes text f fault)

-- a member has no path outside
no_outside : (s : SchemaValue) (t : Tree) (bytes : List ℕ) (p : Path) → IsTreeText t bytes → IsMemberTree s t → IsOutsideText s bytes p → ⊥
no_outside s t bytes p text member out =
    let same : t ≡ out.tree = tree_once t out.tree bytes text out.text in
    out.first.here.refused (subst (IsMemberTree s) same member p out.first.here.has)

one_outside : (s : SchemaValue) (bytes : List ℕ) (p q : Path) → IsOutsideText s bytes p → IsOutsideText s bytes q → p ≡ q
one_outside s bytes p q one other =
    let same : one.tree ≡ other.tree = tree_once one.tree other.tree bytes one.text other.text in
    first_once (IsOutside s s.root (state (Some other.tree))) p q
    (subst (λ (t : Tree). IsFirstOutside s s.root (state (Some t)) p) same one.first) other.first

read_once : (s : SchemaValue) (bytes : List ℕ) (r q : Result Tree FormatFault) → PlainReads s bytes r → PlainReads s bytes q → r ≡ q
read_once s bytes r (Err (BadOption key)) h k = absurd k
read_once s bytes r (Err (NoKey n)) h k = absurd k
read_once s bytes r (Err Memory) h k = absurd k
read_once s bytes (Err (BadOption key)) q h k = absurd h
read_once s bytes (Err (NoKey n)) q h k = absurd h
read_once s bytes (Err Memory) q h k = absurd h
read_once s bytes (Ok t) (Ok u) h k = ap Ok (tree_once t u bytes h.0 k.0)
read_once s bytes (Ok t) (Err (NotUtf8 at)) h k = absurd (k.0 (text_utf8 t bytes h.0))
read_once s bytes (Ok t) (Err (BadItem n)) h k = absurd (no_fault t bytes (BadTree n) h.0 k.1 (λ e. cc))
read_once s bytes (Ok t) (Err (TooDeep d)) h k = absurd (no_fault t bytes DeepText h.0 k.1 (λ e. cc))
read_once s bytes (Ok t) (Err (Outside p)) h k = absurd (no_outside s t bytes p h.0 h.1 k)
read_once s bytes (Err (NotUtf8 at)) (Ok u) h k = absurd (h.0 (text_utf8 u bytes k.0))
read_once s bytes (Err (NotUtf8 at)) (Err (NotUtf8 place)) h k = ap (λ n. Err (NotUtf8 n)) (h.1 ∙ sym k.1)
read_once s bytes (Err (NotUtf8 at)) (Err (BadItem n)) h k = absurd (h.0 k.0)
read_once s bytes (Err (NotUtf8 at)) (Err (TooDeep d)) h k = absurd (h.0 k.0)
read_once s bytes (Err (NotUtf8 at)) (Err (Outside p)) h k = absurd (h.0 (text_utf8 k.tree bytes k.text))
read_once s bytes (Err (BadItem n)) (Ok u) h k = absurd (no_fault u bytes (BadTree n) k.0 h.1 (λ e. cc))
read_once s bytes (Err (BadItem n)) (Err (NotUtf8 at)) h k = absurd (k.0 h.0)
read_once s bytes (Err (BadItem n)) (Err (BadItem m)) h k =
    let same : BadTree n ≡ BadTree m = tree_fault_once bytes (BadTree n) (BadTree m) h.1 k.1 (λ e. cc) (λ e. cc) in
    let number : n ≡ m = cc in
    ap (λ n. Err (BadItem n)) number
read_once s bytes (Err (BadItem n)) (Err (TooDeep d)) h k =
    let same : BadTree n ≡ DeepText = tree_fault_once bytes (BadTree n) DeepText h.1 k.1 (λ e. cc) (λ e. cc) in
    let no : ⊥ = cc in
    absurd no
read_once s bytes (Err (BadItem n)) (Err (Outside p)) h k = absurd (no_fault k.tree bytes (BadTree n) k.text h.1 (λ e. cc))
read_once s bytes (Err (TooDeep d)) (Ok u) h k = absurd (no_fault u bytes DeepText k.0 h.1 (λ e. cc))
read_once s bytes (Err (TooDeep d)) (Err (NotUtf8 at)) h k = absurd (k.0 h.0)
read_once s bytes (Err (TooDeep d)) (Err (BadItem n)) h k =
    let same : DeepText ≡ BadTree n = tree_fault_once bytes DeepText (BadTree n) h.1 k.1 (λ e. cc) (λ e. cc) in
    let no : ⊥ = cc in
    absurd no
read_once s bytes (Err (TooDeep d)) (Err (TooDeep e)) h k = ap (λ n. Err (TooDeep n)) (h.2 ∙ sym k.2)
read_once s bytes (Err (TooDeep d)) (Err (Outside p)) h k = absurd (no_fault k.tree bytes DeepText k.text h.1 (λ e. cc))
read_once s bytes (Err (Outside p)) (Ok u) h k = absurd (no_outside s u bytes p k.0 k.1 h)
read_once s bytes (Err (Outside p)) (Err (NotUtf8 at)) h k = absurd (k.0 (text_utf8 h.tree bytes h.text))
read_once s bytes (Err (Outside p)) (Err (BadItem n)) h k = absurd (no_fault h.tree bytes (BadTree n) h.text k.1 (λ e. cc))
read_once s bytes (Err (Outside p)) (Err (TooDeep d)) h k = absurd (no_fault h.tree bytes DeepText h.text k.1 (λ e. cc))
read_once s bytes (Err (Outside p)) (Err (Outside q)) h k = ap (λ p. Err (Outside p)) (one_outside s bytes p q h k)

read_faults : (s : SchemaValue) (bytes : List ℕ) (f : FormatFault) → PlainReads s bytes (Err f) → IsReadFault f
read_faults s bytes (BadOption key) h = absurd h
read_faults s bytes (NotUtf8 at) h = tt
read_faults s bytes (BadItem n) h = tt
read_faults s bytes (NoKey n) h = absurd h
read_faults s bytes (TooDeep d) h = tt
read_faults s bytes (Outside p) h = tt
read_faults s bytes Memory h = absurd h

-- the schema of options that are the format's
schema_is : (o : OptionsValue) (s : SchemaValue) → HasSchema plain o s → plain_schema o ≡ s
schema_is o s = schema_given (bad_key plain_rules o) (plain_schema o) s

pub none_bad : (o : OptionsValue) (s : SchemaValue) → HasSchema plain o s → bad_key plain_rules o ≡ None
none_bad o s = no_bad_key (bad_key plain_rules o) (plain_schema o) s

twinless : (o : OptionsValue) → AreSound o → HasNoTwins (plain_schema o)
twinless o sound i n at = (all_read (λ n. IsWellFormedNode (length o.types) n × (n.twins ≡ [])) o.types i.place n at sound.types).1

pub plain_lawful : IsLawful plain
plain_lawful = record {
  read_once = λ o. read_once (plain_schema o);
  read_faults = λ o. read_faults (plain_schema o);
  some_read = λ o s bytes sound has. some_read (plain_schema o) (twinless o sound) bytes;
  no_twins = λ o s sound has. subst HasNoTwins (schema_is o s has) (twinless o sound);
  members = λ o s bytes t sound has h. subst (λ s. IsMemberTree s t) (schema_is o s has) h.1;
  within = λ o s bytes t has h. not_over t h.0.shallow;
  writes_once = λ o t before one other h k. h ∙ sym k;
  some_written = λ o s before old t sound has read member over. from_one (λ after. after ≡ tree_text t) (tree_text t) refl;
  put_get = λ o s before after old t sound has read member over made.
      (record { spelled = made; shallow = shallow t over }, subst (λ s. IsMemberTree s t) (sym (schema_is o s has)) member);
  get_put = λ o before t sound h. h.0.spelled;
  kept = λ o s before after old t sound has read member over made. tt;
}
