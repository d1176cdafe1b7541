-- Rule files as they are written, and with the enforced label in each expression and over each rule's labels.
use Rattle.std.proofs.Common.{◌≡◌, ℕ, ◌+◌, ◌<◌, Bool, true, false, cond, List, [], ◌∷◌, ◌++◌, map, filter, length, nat_eq, refl, sym, ap, ◌∙◌}
use Rattle.std.proofs.lemmas.List.Elements.{filter-append}
use Rattle.std.specs.List.{AllByRecursion, flat_map}
use Rattle.std.specs.Cmp.Lexicographic.{pointwise}
use Rattle.op_base.specs.Maps.{with_entry}
use Rattle.op_base.specs.Labels.{Texts, labels_with, labels_with_all}
use Rattle.op_base.specs.declared.label_names.TheConstants.{NAMESPACE_LABEL}
use Rattle.cfg_types.specs.declared.config.RuleFile.{RuleFile}
use Rattle.cfg_types.specs.declared.config.Group.{Group}
use Rattle.cfg_types.specs.declared.config.Rule.{Rule}
use Rattle.ql_tree.specs.Enforced.{enforced}
use Rattle.srv_rule.specs.Rounds.{Placed, placed_at, placed_from, placed_in, placed_of}

-- each selector asks for the namespace, and the label stands among the rule's
abbrev pub enforced_rule : List ℕ → Rule → Rule
enforced_rule n rule = record {
  name = rule.name;
  expr = enforced NAMESPACE_LABEL.now n rule.expr;
  labels = with_entry rule.labels NAMESPACE_LABEL.now n;
}

abbrev pub enforced_group : List ℕ → Group → Group
enforced_group n group = record { name = group.name; rules = map (enforced_rule n) group.rules }

abbrev pub enforced_file : RuleFile → RuleFile
enforced_file file = record { namespace = file.namespace; name = file.name; groups = map (enforced_group file.namespace) file.groups }

abbrev pub enforced_placed : Placed → Placed
enforced_placed p = record {
  namespace = p.namespace;
  object = p.object;
  file = p.file;
  group = p.group;
  place = p.place;
  rule = enforced_rule p.namespace p.rule;
}

-- the label that was put among a rule's labels stands over the result as one that is put last
abbrev pub IsPutLast : List ℕ → Texts → Type 0
IsPutLast n labels = (x : Texts) → labels_with_all x (with_entry labels NAMESPACE_LABEL.now n) ≡ labels_with (labels_with_all x labels) NAMESPACE_LABEL.now n

-- the namespace has a name, and the labels of each rule take another over them
abbrev pub IsFineFile : RuleFile → Type 0
IsFineFile file = (0 < length file.namespace)
    × AllByRecursion (λ (group : Group). AllByRecursion (λ (rule : Rule). IsPutLast file.namespace rule.labels) group.rules) file.groups

abbrev pub IsFinePlaced : Placed → Type 0
IsFinePlaced p = (0 < length p.namespace) × IsPutLast p.namespace p.rule.labels

abbrev pub AreFine : List Placed → Type 0
AreFine rules = AllByRecursion IsFinePlaced rules

abbrev pub is_of : List ℕ → RuleFile → Bool
is_of n file = pointwise nat_eq n file.namespace

abbrev pub is_placed : List ℕ → Placed → Bool
is_placed n p = pointwise nat_eq n p.namespace

all-joined : {X : Type 0} (P : X → Type 0) (xs ys : List X) → AllByRecursion P xs → AllByRecursion P ys → AllByRecursion P (xs ++ ys)
all-joined P [] ys p q = q
all-joined P (x ∷ xs) ys p q = (p.0, all-joined P xs ys p.1 q)

map-joined : {A B : Type 0} (f : A → B) (xs ys : List A) → map f (xs ++ ys) ≡ map f xs ++ map f ys
map-joined f [] ys = refl
map-joined f (x ∷ xs) ys = ap (λ l. f x ∷ l) (map-joined f xs ys)

-- the rules of a file
module _ (file : RuleFile) where
  rules-enforced : (group : List ℕ) (place : ℕ) (rules : List Rule)
      → placed_from (enforced_file file) group place (map (enforced_rule file.namespace) rules) ≡ map enforced_placed (placed_from file group place rules)
  rules-enforced group place [] = refl
  rules-enforced group place (rule ∷ rules) =
      ap (λ l. enforced_placed (placed_at file group place rule) ∷ l) (rules-enforced group (place + 1) rules)

  abbrev placed_among : List Group → List Placed
  placed_among = flat_map (λ (group : Group). placed_from file group.name 0 group.rules)

  groups-enforced : (groups : List Group)
      → flat_map (λ (group : Group). placed_from (enforced_file file) group.name 0 group.rules) (map (enforced_group file.namespace) groups) ≡ map enforced_placed (placed_among groups)
  groups-enforced [] = refl
  groups-enforced (group ∷ groups) =
      (λ i. rules-enforced group.name 0 group.rules i ++ groups-enforced groups i)
      ∙ sym (map-joined enforced_placed (placed_from file group.name 0 group.rules) (placed_among groups))

  rules-fine : (group : List ℕ) (place : ℕ) (rules : List Rule) → 0 < length file.namespace → AllByRecursion (λ (rule : Rule). IsPutLast file.namespace rule.labels) rules
      → AreFine (placed_from file group place rules)
  rules-fine group place [] some h = tt
  rules-fine group place (rule ∷ rules) some h = ((some, h.0), rules-fine group (place + 1) rules some h.1)

  groups-fine : (groups : List Group) → 0 < length file.namespace
      → AllByRecursion (λ (group : Group). AllByRecursion (λ (rule : Rule). IsPutLast file.namespace rule.labels) group.rules) groups → AreFine (placed_among groups)
  groups-fine [] some h = tt
  groups-fine (group ∷ groups) some h =
      all-joined IsFinePlaced (placed_from file group.name 0 group.rules) (placed_among groups) (rules-fine group.name 0 group.rules some h.0) (groups-fine groups some h.1)

  -- a rule is of its file's namespace
  rules-of_home : (n group : List ℕ) (place : ℕ) (rules : List Rule)
      → filter (is_placed n) (placed_from file group place rules) ≡ cond (is_of n file) (placed_from file group place rules) []
  rules-of_home n group place [] = elim (is_of n file) as (λ b. ◌≡◌ {A = List Placed} [] (cond b [] [])) [
    | true ↦ refl
    | false ↦ refl
  ]
  rules-of_home n group place (rule ∷ rules) =
      ap (λ l. cond (is_of n file) (placed_at file group place rule ∷ l) l) (rules-of_home n group (place + 1) rules)
      ∙ elim (is_of n file) as (λ b. cond b (placed_at file group place rule ∷ cond b (placed_from file group (place + 1) rules) []) (cond b (placed_from file group (place + 1) rules) [])
      ≡ cond b (placed_at file group place rule ∷ placed_from file group (place + 1) rules) []) [
        | true ↦ refl
        | false ↦ refl
      ]

  groups-of_home : (n : List ℕ) (groups : List Group) → filter (is_placed n) (placed_among groups) ≡ cond (is_of n file) (placed_among groups) []
  groups-of_home n [] = elim (is_of n file) as (λ b. ◌≡◌ {A = List Placed} [] (cond b [] [])) [
    | true ↦ refl
    | false ↦ refl
  ]
  groups-of_home n (group ∷ groups) =
      filter-append (is_placed n) (placed_from file group.name 0 group.rules) (placed_among groups)
      ∙ (λ i. rules-of_home n group.name 0 group.rules i ++ groups-of_home n groups i)
      ∙ elim (is_of n file) as (λ b. cond b (placed_from file group.name 0 group.rules) [] ++ cond b (placed_among groups) [] ≡ cond b (placed_from file group.name 0 group.rules ++ placed_among groups) []) [
        | true ↦ refl
        | false ↦ refl
      ]

-- the rules of all files
pub placed-enforced : (files : List RuleFile) → placed_of (map enforced_file files) ≡ map enforced_placed (placed_of files)
placed-enforced [] = refl
placed-enforced (file ∷ files) =
    (λ i. groups-enforced file file.groups i ++ placed-enforced files i)
    ∙ sym (map-joined enforced_placed (placed_in file) (placed_of files))

pub placed-fine : (files : List RuleFile) → AllByRecursion IsFineFile files → AreFine (placed_of files)
placed-fine [] h = tt
placed-fine (file ∷ files) h =
    all-joined IsFinePlaced (placed_in file) (placed_of files) (groups-fine file file.groups h.0.0 h.0.1) (placed-fine files h.1)

-- those of a namespace's files
pub placed-of_home : (n : List ℕ) (files : List RuleFile) → filter (is_placed n) (placed_of files) ≡ placed_of (filter (is_of n) files)
placed-of_home n [] = refl
placed-of_home n (file ∷ files) =
    filter-append (is_placed n) (placed_in file) (placed_of files)
    ∙ (λ i. groups-of_home file n file.groups i ++ placed-of_home n files i)
    ∙ elim (is_of n file) as (λ b. cond b (placed_in file) [] ++ placed_of (filter (is_of n) files) ≡ placed_of (cond b (file ∷ filter (is_of n) files) (filter (is_of n) files))) [
      | true ↦ refl
      | false ↦ refl
    ]
