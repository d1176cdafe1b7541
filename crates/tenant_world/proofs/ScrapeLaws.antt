-- The scrapes of one namespace's probes among all, and the target of a probe said directly.
use Rattle.std.proofs.Common.{◌≡◌, ℕ, ℤ, pos, ◌<◌, true, false, ◌&&◌, cond, List, [], ◌∷◌, ◌++◌, map, filter, length, codes, option_and_then, Option, None, Some, IfSome, nat_eq, refl, sym, ap, ◌∙◌, append-nil, append_assoc, arith}
use Rattle.std.specs.List.{AllByRecursion, flat_map, filter_map, cons_option, list_all}
use Rattle.std.specs.Cmp.Lexicographic.{pointwise, bytes_decides}
use Rattle.op_base.specs.declared.moment.Moment.{Moment}
use Rattle.op_base.specs.Labels.{Texts, labels_with}
use Rattle.op_base.specs.Matchers.{label_value}
use Rattle.op_base.specs.declared.label_names.TheConstants.{NAMESPACE_LABEL}
use Rattle.form_urlencoded.specs.Form.{append_pair, serialize_pair}
use Rattle.op_relabel.specs.declared.step.Step.{Step}
use Rattle.op_relabel.specs.Relabelled.{relabelled}
use Rattle.op_relabel.specs.Steps.{is_no_dollar, copy_step, put_step}
use Rattle.op_relabel.proofs.RelabelLemmas.{relabelled-put, relabelled-copy}
use Rattle.srv_store.specs.declared.entry.Entry.{Entry}
use Rattle.srv_store.specs.Stores.{owns, of_namespace}
use Rattle.srv_scrape.specs.declared.pages.Sample.{Sample}
use Rattle.srv_scrape.specs.declared.target.Target.{Target}
use Rattle.srv_scrape.specs.Joined.{joined}
use Rattle.srv_scrape.specs.Pages.{Pages, page_at}
use Rattle.srv_scrape.specs.Scraped.{Left, left_with, left_after, left_of, all_left, all_named, is_within, up_entry, failed_scrape, entry_of, entries_of, scraped}
use Rattle.srv_scrape.specs.Targets.{url_of, target_labels, query_of, parameters_of, as_labels, with_address, with_job, discovered, target_from, target_at}
use Rattle.srv_scrape.specs.Ticks.{manner_of, job_entries, scraped_entries}
use Rattle.op_thin.specs.declared.probe.ThinProbe.{ThinProbe}
use Rattle.op_thin.specs.Compiled.{job_of, probe_steps}
use Rattle.op_thin.specs.ThinProbes.{job_name}
use Rattle.tenant_world.specs.ProbeTargets.{probe_target, probe_url}
use Rattle.tenant_world.specs.Tenants.{direct_manner, probe_entries}
use Rattle.tenant_world.proofs.ObjectLaws.{is_at}
use Rattle.tenant_world.proofs.ResultLaws.{same_name, others_labels, owned}
use Rattle.tenant_world.proofs.StoreLaws.{of-append}

abbrev pub IsPlain : List ℕ → Type 0
IsPlain text = list_all is_no_dollar text ≡ true

-- the first pair of a form
first_pair : (name value : List ℕ) → append_pair [] name value ≡ serialize_pair (name, value)
first_pair name value = refl

path_seam : (rest : List ℕ) → codes "/probe" ++ (codes "?" ++ rest) ≡ codes "/probe?" ++ rest
path_seam rest = refl

-- the steps of a probe lead to its target, said directly
module _ (b c d : ℕ) (namespace name url target : List ℕ) (plain_namespace : IsPlain (b ∷ namespace)) (plain_url : IsPlain (c ∷ url)) where
  abbrev probe : ThinProbe
  probe = record { namespace = b ∷ namespace; name = name; url = c ∷ url; target = d ∷ target }

  -- the labels before the steps, and after each of them
  abbrev start : Texts
  start =
      (codes "__address__", d ∷ target) ∷ (codes "__metrics_path__", codes "/probe") ∷ (codes "__scheme__", codes "http") ∷ (codes "job", job_name probe) ∷ (NAMESPACE_LABEL.now, b ∷ namespace) ∷ []

  abbrev asked : Texts
  asked =
      (codes "__address__", d ∷ target) ∷ (codes "__metrics_path__", codes "/probe") ∷ (codes "__param_target", d ∷ target) ∷ (codes "__scheme__", codes "http") ∷ (codes "job", job_name probe)
      ∷ (NAMESPACE_LABEL.now, b ∷ namespace) ∷ []

  abbrev named : Texts
  named =
      (codes "__address__", d ∷ target) ∷ (codes "__metrics_path__", codes "/probe") ∷ (codes "__param_target", d ∷ target) ∷ (codes "__scheme__", codes "http") ∷ (codes "instance", d ∷ target)
      ∷ (codes "job", job_name probe) ∷ (NAMESPACE_LABEL.now, b ∷ namespace) ∷ []

  abbrev sent : Texts
  sent =
      (codes "__address__", c ∷ url) ∷ (codes "__metrics_path__", codes "/probe") ∷ (codes "__param_target", d ∷ target) ∷ (codes "__scheme__", codes "http") ∷ (codes "instance", d ∷ target)
      ∷ (codes "job", job_name probe) ∷ (NAMESPACE_LABEL.now, b ∷ namespace) ∷ []

  addressed : with_address (d ∷ target) (as_labels ((NAMESPACE_LABEL.now, b ∷ namespace) ∷ [])) ≡ (codes "__address__", d ∷ target) ∷ (NAMESPACE_LABEL.now, b ∷ namespace) ∷ []
  addressed = refl

  starts : discovered (job_of probe) (d ∷ target) ≡ start
  starts = ap (with_job (job_of probe)) addressed

  asks : labels_with start (codes "__param_target") (label_value start (codes "__address__")) ≡ asked
  asks = refl

  names : labels_with asked (codes "instance") (label_value asked (codes "__param_target")) ≡ named
  names = refl

  sends : labels_with named (codes "__address__") (c ∷ url) ≡ sent
  sends = refl

  homes : labels_with sent NAMESPACE_LABEL.now (b ∷ namespace) ≡ sent
  homes = refl

  abbrev pair : List ℕ
  pair = serialize_pair (codes "target", d ∷ target)

  asked_for : query_of (parameters_of sent) ≡ codes "?" ++ append_pair [] (codes "target") (d ∷ target)
  asked_for = refl

  url_is : url_of sent ≡ probe_url probe
  url_is =
      ap (λ x. codes "http" ++ codes "://" ++ (c ∷ url) ++ codes "/probe" ++ x) (asked_for ∙ ap (λ x. codes "?" ++ x) (first_pair (codes "target") (d ∷ target)))
      ∙ append_assoc (codes "http://" ++ (c ∷ url)) (codes "/probe") (codes "?" ++ pair)
      ∙ ap (λ x. (codes "http://" ++ (c ∷ url)) ++ x) (path_seam pair)
      ∙ sym (append_assoc (codes "http://" ++ (c ∷ url)) (codes "/probe?") pair)

  labels_are : target_labels sent ≡ (probe_target probe).labels
  labels_are = refl

  gives : target_from sent ≡ Some (probe_target probe)
  gives = λ i. Some (record { labels = labels_are i; url = url_is i })

  abbrev from_instance : List Step
  from_instance = copy_step (codes "__param_target") (codes "instance") ∷ put_step (codes "__address__") (c ∷ url) ∷ put_step NAMESPACE_LABEL.now (b ∷ namespace) ∷ []

  abbrev from_address : List Step
  from_address = put_step (codes "__address__") (c ∷ url) ∷ put_step NAMESPACE_LABEL.now (b ∷ namespace) ∷ []

  steps_lead : relabelled (probe_steps probe) start ≡ Some sent
  steps_lead =
      relabelled-copy (codes "__address__") (codes "__param_target") from_instance start ∙ ap (relabelled from_instance) asks
      ∙ relabelled-copy (codes "__param_target") (codes "instance") from_address asked ∙ ap (relabelled from_address) names
      ∙ relabelled-put (codes "__address__") (c ∷ url) (put_step NAMESPACE_LABEL.now (b ∷ namespace) ∷ []) named plain_url ∙ ap (relabelled (put_step NAMESPACE_LABEL.now (b ∷ namespace) ∷ [])) sends
      ∙ relabelled-put NAMESPACE_LABEL.now (b ∷ namespace) [] sent plain_namespace ∙ ap (λ l. Some l) homes

  target-direct : target_at (job_of probe) (d ∷ target) ≡ Some (probe_target probe)
  target-direct = ap (λ l. option_and_then target_from (relabelled (probe_steps probe) l)) starts ∙ ap (option_and_then target_from) steps_lead ∙ gives

-- a metric step puts the namespace, as the forced label does
left-of : (p : ThinProbe) (target : Target) (sample : Sample) → IsPlain p.namespace → left_of (manner_of (job_of p)) target sample ≡ left_of (direct_manner p.namespace) target sample
left-of p target sample plain = ap (left_after [] sample.value) (relabelled-put NAMESPACE_LABEL.now p.namespace [] (joined false target.labels sample.labels) plain)

filter_map-same : {A B : Type 0} (f g : A → Option B) → ((x : A) → f x ≡ g x) → (xs : List A) → filter_map f xs ≡ filter_map g xs
filter_map-same f g same [] = refl
filter_map-same f g same (x ∷ xs) = λ i. cons_option (same x i) (filter_map-same f g same xs i)

-- a scrape by the job is a scrape in the plain manner
scraped-of : (p : ThinProbe) (target : Target) (page : Option (List Sample)) (t : Moment) → IsPlain p.namespace
    → scraped (manner_of (job_of p)) target page t ≡ scraped (direct_manner p.namespace) target page t
scraped-of p target None t plain = refl
scraped-of p target (Some samples) t plain =
    ap (entries_of None target t)
    (filter_map-same (left_of (manner_of (job_of p)) target) (left_of (direct_manner p.namespace) target) (λ s. left-of p target s plain) samples)

-- the texts of a probe as they have to be
abbrev pub IsThin : ThinProbe → Type 0
IsThin p = (0 < length p.namespace) × IsPlain p.namespace × (0 < length p.url) × IsPlain p.url × (0 < length p.target)

-- the entries of a probe's job are those of its scrape, said directly
entries-direct : (namespace name url target : List ℕ) (pages : Pages) (t : Moment) → IsThin (record { namespace = namespace; name = name; url = url; target = target })
    → job_entries pages t (job_of (record { namespace = namespace; name = name; url = url; target = target }))
    ≡ probe_entries namespace pages t (record { namespace = namespace; name = name; url = url; target = target })
entries-direct [] name url target pages t thin = absurd (omega (arith, thin.0))
entries-direct (b ∷ namespace) name [] target pages t thin = absurd (omega (arith, thin.2))
entries-direct (b ∷ namespace) name (c ∷ url) [] pages t thin = absurd (omega (arith, thin.4))
entries-direct (b ∷ namespace) name (c ∷ url) (d ∷ target) pages t thin =
    let p : ThinProbe = record { namespace = b ∷ namespace; name = name; url = c ∷ url; target = d ∷ target } in
    ap (λ o. flat_map (λ (x : Target). scraped (manner_of (job_of p)) x (page_at pages x.url) t) (cons_option o []))
    (target-direct b c d namespace name url target thin.1 thin.3)
    ∙ append-nil (scraped (manner_of (job_of p)) (probe_target p) (page_at pages (probe_url p)) t)
    ∙ scraped-of p (probe_target p) (page_at pages (probe_url p)) t thin.1

pub entries-of : (p : ThinProbe) (pages : Pages) (t : Moment) → IsThin p → job_entries pages t (job_of p) ≡ probe_entries p.namespace pages t p
entries-of p pages t thin = entries-direct p.namespace p.name p.url p.target pages t thin

-- all entries of a probe are its namespace's
abbrev OwnEntries : List ℕ → List Entry → Type 0
OwnEntries n entries = AllByRecursion (λ (e : Entry). owns n e.labels ≡ true) entries

own-append : (n : List ℕ) (xs ys : List Entry) → OwnEntries n xs → OwnEntries n ys → OwnEntries n (xs ++ ys)
own-append n [] ys p q = q
own-append n (x ∷ xs) ys p q = (p.0, own-append n xs ys p.1 q)

own-up : (p : ThinProbe) (t : Moment) (value : ℤ) → OwnEntries p.namespace (up_entry (probe_target p) t value ∷ [])
own-up p t value = (same_name p.namespace, tt)

own-left : (n : List ℕ) (value : ℤ) (l : Texts) → owns n l ≡ true → IfSome (left_with value l) (λ x. owns n x.labels ≡ true)
own-left n value [] own = tt
own-left n value (e ∷ l) own = own

own-consed : (n : List ℕ) (t : Moment) (o : Option Left) (rest : List Left) → IfSome o (λ x. owns n x.labels ≡ true) → OwnEntries n (map (entry_of t) rest) → OwnEntries n (map (entry_of t) (cons_option o rest))
own-consed n t None rest h own = own
own-consed n t (Some x) rest h own = (h, own)

own-samples : (p : ThinProbe) (t : Moment) (samples : List Sample) → 0 < length p.namespace
    → OwnEntries p.namespace (map (entry_of t) (all_left (direct_manner p.namespace) (probe_target p) samples))
own-samples p t [] some = tt
own-samples p t (s ∷ samples) some =
    let l = joined false (probe_target p).labels s.labels in
    own-consed p.namespace t (left_with s.value (labels_with l NAMESPACE_LABEL.now p.namespace)) (all_left (direct_manner p.namespace) (probe_target p) samples)
    (own-left p.namespace s.value (labels_with l NAMESPACE_LABEL.now p.namespace) (owned p.namespace l some)) (own-samples p t samples some)

own-page : (p : ThinProbe) (t : Moment) (page : Option (List Sample)) → 0 < length p.namespace → OwnEntries p.namespace (scraped (direct_manner p.namespace) (probe_target p) page t)
own-page p t None some = own-up p t (pos 0)
own-page p t (Some samples) some =
    let left = all_left (direct_manner p.namespace) (probe_target p) samples in
    elim (all_named left && is_within None left) as (λ b. OwnEntries p.namespace (cond b (map (entry_of t) left ++ up_entry (probe_target p) t (pos 1) ∷ []) (failed_scrape (probe_target p) t))) [
      | true ↦ own-append p.namespace (map (entry_of t) left) (up_entry (probe_target p) t (pos 1) ∷ []) (own-samples p t samples some) (own-up p t (pos 1))
      | false ↦ own-up p t (pos 0)
    ]

all_seen : (n : List ℕ) (entries : List Entry) → OwnEntries n entries → of_namespace n entries ≡ entries
all_seen n [] h = refl
all_seen n (e ∷ es) h = ap (λ b. cond b (e ∷ of_namespace n es) (of_namespace n es)) h.0 ∙ ap (λ l. e ∷ l) (all_seen n es h.1)

none_seen : (n m : List ℕ) (entries : List Entry) → pointwise nat_eq n m ≡ false → OwnEntries m entries → of_namespace n entries ≡ []
none_seen n m [] other h = refl
none_seen n m (e ∷ es) other h = ap (λ b. cond b (e ∷ of_namespace n es) (of_namespace n es)) (others_labels n m e.labels other h.0) ∙ none_seen n m es other h.1

-- what all probes give is seen as what the namespace's own give
pub probes-of : (n : List ℕ) (probes : List ThinProbe) (pages : Pages) (t : Moment) → AllByRecursion IsThin probes
    → of_namespace n (scraped_entries pages t (map job_of probes)) ≡ flat_map (probe_entries n pages t) (filter (is_at (λ (p : ThinProbe). p.namespace) n) probes)
probes-of n [] pages t thin = refl
probes-of n (p ∷ probes) pages t thin =
    let rest = probes-of n probes pages t thin.1 in
    let own = probe_entries p.namespace pages t p in
    let owned = own-page p t (page_at pages (probe_url p)) thin.0.0 in
    of-append n (job_entries pages t (job_of p)) (scraped_entries pages t (map job_of probes))
    ∙ ap (λ l. of_namespace n l ++ of_namespace n (scraped_entries pages t (map job_of probes))) (entries-of p pages t thin.0)
    ∙ elim (pointwise nat_eq n p.namespace) as (λ b. pointwise nat_eq n p.namespace ≡ b → of_namespace n own ++ of_namespace n (scraped_entries pages t (map job_of probes))
    ≡ flat_map (probe_entries n pages t) (cond b (p ∷ filter (is_at (λ (q : ThinProbe). q.namespace) n) probes) (filter (is_at (λ (q : ThinProbe). q.namespace) n) probes))) [
      | true ↦ λ is. let same = (bytes_decides n p.namespace).0 is in
          ap (λ l. l ++ of_namespace n (scraped_entries pages t (map job_of probes)))
          (ap (λ m. of_namespace m own) same ∙ all_seen p.namespace own owned ∙ ap (λ m. probe_entries m pages t p) (sym same))
          ∙ ap (λ l. probe_entries n pages t p ++ l) rest
      | false ↦ λ other. ap (λ l. l ++ of_namespace n (scraped_entries pages t (map job_of probes))) (none_seen n p.namespace own other owned) ∙ rest
    ] refl
