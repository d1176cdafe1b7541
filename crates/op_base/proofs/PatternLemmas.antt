-- What `regex` states of a text, and the steps over a literal pattern.
use Rattle.std.proofs.Common.{◌≡◌, ◌≢◌, ℕ, ◌<◌, ◌≤◌, Bool, true, false, List, [], ◌∷◌, ◌++◌, cond, ◌==◌, nat_le, chars, Option, Some, None, option_map, option_and_then, IsSomeAnd, IfSome, IfOk, Result, Ok, Err, refl, ap, sym, subst, ◌∙◌, inl, inr, append_assoc, arith}
use Rattle.std.proofs.lemmas.Bool.Decides.{nat_tests}
use Rattle.std.specs.Option.{option_map_or}
use Rattle.regex_syntax.specs.Grammar.{Names, read}
use Rattle.regex_syntax.specs.Brackets.{Nested}
use Rattle.regex_syntax.specs.Verdict.{Reads, Refuses}
use Rattle.regex_syntax.specs.declared.error.ErrorKind.{ErrorKind}
use Rattle.regex_syntax.specs.declared.error.ErrorKind.TheVariants.{OutOfMemory}
use Rattle.regex.specs.Patterns.{Re, default_config, SameCaptures}
use Rattle.regex.specs.Strings.{regex_pattern, regex_names, regex_source, regex_config, IsReadFromSource}
use Rattle.regex_syntax.specs.declared.error.Error as parser
use Rattle.regex.specs.Sources.{IsRefusal}
use Rattle.regex.specs.Failures.{IsRightKind}
use Rattle.regex.specs.declared.error.Error.{Error}
use Rattle.regex.specs.declared.error.Error.TheVariants.{Syntax}
use Rattle.regex.specs.declared.string.regex.Regex.{Regex}
use Rattle.op_base.specs.declared.pattern.Form.{Form}
use Rattle.op_base.specs.Patterns.{Meaning, meaning_of, meaning_matches, pattern_matches, IsFormOf, reading_of, IsCompiled, unescaped, literal_step, literal_part, is_literal_byte}

nest_within : (depth limit : ℕ) → depth ≤ limit → nat_le depth limit ≡ true
nest_within depth limit h = grind (arith, nat_tests, h)

nest_over : (depth limit : ℕ) → limit < depth → nat_le depth limit ≡ false
nest_over depth limit h = grind (arith, nat_tests, h)

-- a reading within the limit on nesting
abbrev within : Nested Re × Names → Option (Re × Names)
within x = cond (nat_le x.0.depth default_config.nest_limit) (Some (x.0.value, x.1)) None

-- what is read within the limit is read with what is known of it
kept : (o : Option (Nested Re × Names)) (Q : Nested Re × Names → Type 0) (P : Re × Names → Type 0)
    → ((x : Nested Re × Names) → Q x → (x.0.depth ≤ default_config.nest_limit) × P (x.0.value, x.1))
    → IsSomeAnd o Q
    → IsSomeAnd (option_and_then within o) P
kept None Q P f h = absurd h
kept (Some x) Q P f h =
    let holds = f x h in
    subst (λ b. IsSomeAnd (cond b (Some (x.0.value, x.1)) None) P) (sym (nest_within x.0.depth default_config.nest_limit holds.0)) holds.1

abbrev reading_if : Bool → Nested Re × Names → Option (Re × Names)
reading_if b x = cond b (Some (x.0.value, x.1)) None

-- what is nested too deep isn't
dropped : (o : Option (Nested Re × Names)) → IfSome o (λ x. default_config.nest_limit < x.0.depth)
    → option_and_then within o ≡ None
dropped None h = refl
dropped (Some x) h = ap (λ b. reading_if b x) (nest_over x.0.depth default_config.nest_limit h)

-- what `Regex::new` states of a text that it compiles
module _ (r : Regex) (source : List ℕ) (is_source : regex_source r ≡ source) (is_config : regex_config r ≡ default_config) (is_read : IsReadFromSource r) where
  pub compiled : IsCompiled source r
  unfolding Reads
  compiled =
      let reads = rw (is_source, is_config) at is_read in
      kept (read default_config (chars source)) _ (λ x. SameCaptures (regex_pattern r) x.0 × (regex_names r ≡ x.1)) (λ x h. (h.0, (h.1, h.2))) reads

-- and of one that it refuses for its syntax
refused-kind : (source : List ℕ) (kind : ErrorKind) → Refuses default_config source kind → kind ≢ OutOfMemory → reading_of source ≡ None
unfolding Refuses
refused-kind source kind refuses other = elim refuses [
  | inl memory ↦ absurd (other memory)
  | inr rest ↦ elim rest [
    | inl none ↦ ap (option_and_then within) none
    | inr deep ↦ dropped (read default_config (chars source)) deep.1
  ]
]

pub refused : (source : List ℕ) (error : Error) (e : parser.Error) → error ≡ Syntax e → IsRefusal default_config source error → IsRightKind default_config source error
    → reading_of source ≡ None
refused source error e is refusal kind = refused-kind source e.kind (refusal e is) (subst (IsRightKind default_config source) is kind)

-- a step over a literal pattern
steps : (escaped : Bool) (b : ℕ) (text : List ℕ) (begins : Bool) → literal_step escaped b ≡ Some begins
    → unescaped escaped (b ∷ text) ≡ option_map (λ rest. literal_part begins b ++ rest) (unescaped begins text)
steps true b text begins is =
    elim (b == 45) as (λ t. cond t (Some false) None ≡ Some begins
    → cond t (option_map (λ rest. b ∷ rest) (unescaped false text)) None ≡ option_map (λ rest. literal_part begins b ++ rest) (unescaped begins text)) [
      | true ↦ λ e. let same : false ≡ begins = cc in
          subst (λ x. option_map (λ rest. b ∷ rest) (unescaped false text) ≡ option_map (λ rest. literal_part x b ++ rest) (unescaped x text)) same refl
      | false ↦ λ e. absurd cc
    ] is
steps false b text begins is =
    elim (b == 92) as (λ t. cond t (Some true) (cond (is_literal_byte b) (Some false) None) ≡ Some begins
    → cond t (unescaped true text) (cond (is_literal_byte b) (option_map (λ rest. b ∷ rest) (unescaped false text)) None)
    ≡ option_map (λ rest. literal_part begins b ++ rest) (unescaped begins text)) [
      | true ↦ λ e. let same : true ≡ begins = cc in
          subst (λ x. unescaped true text ≡ option_map (λ rest. literal_part x b ++ rest) (unescaped x text)) same (as_it_is (unescaped true text))
      | false ↦ λ e. elim (is_literal_byte b) as (λ t. cond t (Some false) None ≡ Some begins
          → cond t (option_map (λ rest. b ∷ rest) (unescaped false text)) None ≡ option_map (λ rest. literal_part begins b ++ rest) (unescaped begins text)) [
            | true ↦ λ e. let same : false ≡ begins = cc in
                subst (λ x. option_map (λ rest. b ∷ rest) (unescaped false text) ≡ option_map (λ rest. literal_part x b ++ rest) (unescaped x text)) same refl
            | false ↦ λ e. absurd cc
          ] e
    ] is
  where
    as_it_is : (o : Option (List ℕ)) → o ≡ option_map (λ rest. [] ++ rest) o
    as_it_is None = refl
    as_it_is (Some rest) = refl

pub literal-more : (escaped : Bool) (b : ℕ) (text : List ℕ) (begins : Bool) (bytes new : List ℕ) → literal_step escaped b ≡ Some begins → new ≡ bytes ++ literal_part begins b
    → option_map (λ rest. new ++ rest) (unescaped begins text) ≡ option_map (λ rest. bytes ++ rest) (unescaped escaped (b ∷ text))
literal-more escaped b text begins bytes new is grown =
    ap (λ l. option_map (λ rest. l ++ rest) (unescaped begins text)) grown ∙ twice (unescaped begins text)
    ∙ ap (option_map (λ rest. bytes ++ rest)) (sym (steps escaped b text begins is))
  where
    twice : (o : Option (List ℕ)) → option_map (λ rest. (bytes ++ literal_part begins b) ++ rest) o ≡ option_map (λ rest. bytes ++ rest) (option_map (λ rest. literal_part begins b ++ rest) o)
    twice None = refl
    twice (Some rest) = ap (λ l. Some l) (append_assoc bytes (literal_part begins b) rest)

-- how a pattern is kept shows what it matches
pub matched : {E : Type 0} (r : Result Bool E) (text seen value : List ℕ) (form : Form)
    → IfOk r (λ found. (meaning : Option Meaning) → IsFormOf meaning form → found ≡ option_map_or (meaning_matches value) meaning false)
    → IsFormOf (meaning_of text) form → text ≡ seen → IfOk r (λ found. found ≡ pattern_matches seen value)
matched (Ok found) text seen value form h is same = h (meaning_of text) is ∙ ap (λ t. pattern_matches t value) same
matched (Err e) text seen value form h is same = tt
