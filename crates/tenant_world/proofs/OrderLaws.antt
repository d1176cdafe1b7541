-- Rule files in the order of their texts: those of one namespace among all.
use Rattle.std.proofs.Common.{◌≡◌, ℕ, Bool, true, false, cond, ◌==◌, T, List, [], ◌∷◌, ◌++◌, map, filter, fold, codes, nat_eq, refl, sym, ap, ◌∙◌}
use Rattle.std.specs.List.{AllByRecursion}
use Rattle.std.specs.declared.cmp.Ordering.{Ordering}
use Rattle.std.specs.declared.cmp.Ordering.TheVariants.{Less, Equal, Greater}
use Rattle.std.specs.Ordering.{nat_cmp}
use Rattle.std.specs.Cmp.Lexicographic.{pointwise, slice_cmp, nat_list_cmp_total}
use Rattle.std.specs.FinMap.Entries.{by_order, put, where_key, is_sorted, is_sorted-put}
use Rattle.op_base.specs.Maps.{Map, values_of, with_entry}
use Rattle.cfg_types.specs.declared.config.RuleFile.{RuleFile}
use Rattle.cfg_types.specs.Written.{file_text}
use Rattle.op_thin.specs.FileOrder.{files_by_text, in_order}
use Rattle.srv_store.proofs.OrderLemmas.{text_same}
use Rattle.tenant_world.proofs.KeyLemmas.{where_key-put_kept, where_key-put_dropped}
use Rattle.tenant_world.proofs.EnforcedFiles.{is_of}

abbrev by_bytes : List ℕ → List ℕ → Ordering
by_bytes = slice_cmp nat_cmp

abbrev placing : Map RuleFile → RuleFile → Map RuleFile
placing placed file = with_entry placed (file_text file) file

-- files that become others of the same text stay in their order
module _ (f : RuleFile → RuleFile) (texts : (file : RuleFile) → file_text (f file) ≡ file_text file) where
  abbrev filed : Map RuleFile → Map RuleFile
  filed placed = map (λ e. (e.0, f e.1)) placed

  put-filed : (key : List ℕ) (file : RuleFile) (m : Map RuleFile) → put by_bytes key (f file) (filed m) ≡ filed (put by_bytes key file m)
  put-filed key file [] = refl
  put-filed key file (e ∷ m) =
      elim (by_bytes key e.0) as (λ o. by_order o ((key, f file) ∷ filed (e ∷ m)) ((e.0, f file) ∷ filed m) ((e.0, f e.1) ∷ put by_bytes key (f file) (filed m))
      ≡ filed (by_order o ((key, file) ∷ e ∷ m) ((e.0, file) ∷ m) (e ∷ put by_bytes key file m))) [
        | Less ↦ refl
        | Equal ↦ refl
        | Greater ↦ ap (λ l. (e.0, f e.1) ∷ l) (put-filed key file m)
      ]

  fold-filed : (files : List RuleFile) (m : Map RuleFile) → fold placing (filed m) (map f files) ≡ filed (fold placing m files)
  fold-filed [] m = refl
  fold-filed (file ∷ files) m =
      ap (λ (x : Map RuleFile). fold placing x (map f files)) (ap (λ key. put by_bytes key (f file) (filed m)) (texts file) ∙ put-filed (file_text file) file m)
      ∙ fold-filed files (placing m file)

  values-filed : (m : Map RuleFile) → values_of (filed m) ≡ map f (values_of m)
  values-filed [] = refl
  values-filed (e ∷ m) = ap (λ l. f e.1 ∷ l) (values-filed m)

  pub in_order-map : (files : List RuleFile) → in_order (map f files) ≡ map f (in_order files)
  in_order-map files = ap values_of (fold-filed files []) ∙ values-filed (files_by_text files)

-- what stands before the first slash
abbrev before_slash : List ℕ → List ℕ
before_slash [] = []
before_slash (b ∷ bs) = cond (b == 47) [] (b ∷ before_slash bs)

abbrev pub HasNoSlash : List ℕ → Type 0
HasNoSlash name = AllByRecursion (λ b. (b == 47) ≡ false) name

name_before : (name rest : List ℕ) → HasNoSlash name → before_slash (name ++ codes "/" ++ rest) ≡ name
name_before [] rest h = refl
name_before (b ∷ name) rest h =
    ap (λ t. cond t [] (b ∷ before_slash (name ++ codes "/" ++ rest))) h.0 ∙ ap (λ l. b ∷ l) (name_before name rest h.1)

abbrev pub HaveNoSlash : List RuleFile → Type 0
HaveNoSlash files = AllByRecursion (λ (r : RuleFile). HasNoSlash r.namespace) files

-- each key tells its file's namespace
abbrev Tells : Map RuleFile → Type 0
Tells m = AllByRecursion (λ (e : List ℕ × RuleFile). before_slash e.0 ≡ e.1.namespace) m

tells-put : (m : Map RuleFile) (r : RuleFile) → HasNoSlash r.namespace → Tells m → Tells (placing m r)
tells-put [] r free h = (name_before r.namespace r.name free, tt)
tells-put (e ∷ m) r free h =
    elim (by_bytes (file_text r) e.0) as (λ o. by_bytes (file_text r) e.0 ≡ o → Tells (by_order o ((file_text r, r) ∷ e ∷ m) ((e.0, r) ∷ m) (e ∷ put by_bytes (file_text r) r m))) [
      | Less ↦ λ _. (name_before r.namespace r.name free, h)
      | Equal ↦ λ is. (ap before_slash (sym (text_same (file_text r) e.0 is)) ∙ name_before r.namespace r.name free, h.1)
      | Greater ↦ λ _. (h.0, tells-put m r free h.1)
    ] refl

module _ (n : List ℕ) where
  abbrev of_key : List ℕ → Bool
  of_key key = pointwise nat_eq n (before_slash key)

  values-where : (m : Map RuleFile) → Tells m → filter (is_of n) (values_of m) ≡ values_of (where_key by_bytes of_key m)
  values-where [] h = refl
  values-where (e ∷ m) h =
      let rest = values-where m h.1 in
      ap (λ name. cond (pointwise nat_eq n name) (e.1 ∷ filter (is_of n) (values_of m)) (filter (is_of n) (values_of m))) (sym h.0)
      ∙ elim (of_key e.0) as (λ b. cond b (e.1 ∷ filter (is_of n) (values_of m)) (filter (is_of n) (values_of m)) ≡ values_of (cond b (e ∷ where_key by_bytes of_key m) (where_key by_bytes of_key m))) [
        | true ↦ ap (λ l. e.1 ∷ l) rest
        | false ↦ rest
      ]

  fold-where : (files : List RuleFile) (m : Map RuleFile) → HaveNoSlash files → T (is_sorted by_bytes m)
      → where_key by_bytes of_key (fold placing m files) ≡ fold placing (where_key by_bytes of_key m) (filter (is_of n) files)
  fold-where [] m free h = refl
  fold-where (r ∷ files) m free h =
      let key = file_text r in
      let at_key : of_key (file_text r) ≡ is_of n r = ap (pointwise nat_eq n) (name_before r.namespace r.name free.0) in
      let rest = fold-where files (placing m r) free.1 (is_sorted-put by_bytes nat_list_cmp_total key r m h) in
      elim (is_of n r) as (λ b. is_of n r ≡ b → where_key by_bytes of_key (fold placing (placing m r) files)
      ≡ fold placing (where_key by_bytes of_key m) (cond b (r ∷ filter (is_of n) files) (filter (is_of n) files))) [
        | true ↦ λ own. rest ∙ ap (λ (x : Map RuleFile). fold placing x (filter (is_of n) files)) (where_key-put_kept by_bytes nat_list_cmp_total text_same of_key key r m (at_key ∙ own) h)
        | false ↦ λ other. rest ∙ ap (λ (x : Map RuleFile). fold placing x (filter (is_of n) files)) (where_key-put_dropped by_bytes nat_list_cmp_total text_same of_key key r m (at_key ∙ other) h)
      ] refl

  fold-tells : (files : List RuleFile) (m : Map RuleFile) → HaveNoSlash files → Tells m → Tells (fold placing m files)
  fold-tells [] m free h = h
  fold-tells (r ∷ files) m free h = fold-tells files (placing m r) free.1 (tells-put m r free.0 h)

  -- the namespace's files among all in order are its own in order
  pub ordered-of : (files : List RuleFile) → HaveNoSlash files → filter (is_of n) (in_order files) ≡ in_order (filter (is_of n) files)
  ordered-of files free = values-where (fold placing [] files) (fold-tells files [] free tt) ∙ ap values_of (fold-where files [] free tt)

-- what holds of each file holds of each in order
module _ (P : RuleFile → Type 0) where
  all-put : (key : List ℕ) (r : RuleFile) (m : Map RuleFile) → P r → AllByRecursion P (values_of m) → AllByRecursion P (values_of (put by_bytes key r m))
  all-put key r [] p h = (p, tt)
  all-put key r (e ∷ m) p h =
      elim (by_bytes key e.0) as (λ o. AllByRecursion P (values_of (by_order o ((key, r) ∷ e ∷ m) ((e.0, r) ∷ m) (e ∷ put by_bytes key r m)))) [
        | Less ↦ (p, h)
        | Equal ↦ (p, h.1)
        | Greater ↦ (h.0, all-put key r m p h.1)
      ]

  all-fold : (files : List RuleFile) (m : Map RuleFile) → AllByRecursion P files → AllByRecursion P (values_of m) → AllByRecursion P (values_of (fold placing m files))
  all-fold [] m p h = h
  all-fold (r ∷ files) m p h = all-fold files (placing m r) p.1 (all-put (file_text r) r m p.0 h)

  pub all-ordered : (files : List RuleFile) → AllByRecursion P files → AllByRecursion P (in_order files)
  all-ordered files p = all-fold files [] p tt
