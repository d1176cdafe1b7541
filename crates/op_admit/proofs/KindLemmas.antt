-- Where no kind is named, the head is wrong.
use Rattle.std.proofs.Common.{◌≡◌, ◌≢◌, ℕ, Bool, true, false, List, [], ◌∷◌, ◌++◌, Option, Some, None, cond, true≢false, refl, sym, subst, codes}
use Rattle.std.specs.Prelude.{option_and_then, unwrap_or, is_some}
use Rattle.std.specs.Option.{option_map_or}
use Rattle.serde_json.specs.Data.{Data}
use Rattle.serde_json.specs.Find.{as_str}
use Rattle.op_base.specs.declared.kind.Kind.{Kind}
use Rattle.op_base.specs.declared.kind.Kind.TheVariants.{ServiceMonitor}
use Rattle.op_json.specs.Reading.{is_text}
use Rattle.op_manifest.specs.declared.shape.Shape.{Shape}
use Rattle.op_manifest.specs.declared.shape.TheConstants.ShapeRule.{UNKNOWN_KIND, WRONG_TYPE}
use Rattle.op_manifest.specs.Checks.{field, known, required, worded}
use Rattle.op_manifest.specs.Heads.{head_wrongs, key_wrongs, kind_in, kind_named, kind_of, kind_wrongs, fields_of, metadata, named_kind, naming, object, tags_wrongs, version_of}
use Rattle.op_manifest.specs.Shapes.{first, unless, path_to}
use Rattle.op_manifest.specs.Values.{text_in}

-- where nothing is wrong with both, nothing is with either
left_right : (these those : List Shape) → first (these ++ those) ≡ None → first these ≡ None
unfolding first
left_right [] those none = refl
left_right (shape ∷ these) those none = none

right_right : (these those : List Shape) → first (these ++ those) ≡ None → first those ≡ None
unfolding first
right_right [] those none = none
right_right (shape ∷ these) those none = cc

-- a field by which the kind is known is a text that passes
passes : (test : List ℕ → Bool) (path text : List ℕ) → first (unless (test text) UNKNOWN_KIND path) ≡ None → test text ≡ true
unfolding first
passes test path text =
    elim (test text) as (λ b. first (unless b UNKNOWN_KIND path) ≡ None → b ≡ true) [
      | true ↦ λ none. refl
      | false ↦ λ none. cc
    ]

worded_passes : (test : List ℕ → Bool) (path : List ℕ) (d : Data) → first (worded UNKNOWN_KIND test path d) ≡ None
    → option_map_or test (as_str d) false ≡ true
unfolding first worded
worded_passes test path d =
    elim (as_str d) as (λ o. first (option_map_or (λ t. unless (test t) UNKNOWN_KIND path) o (unless false WRONG_TYPE path)) ≡ None → option_map_or test o false ≡ true) [
      | None ↦ λ none. cc
      | Some text ↦ passes test path text
    ]

named_passes : (test : List ℕ → Bool) (name path : List ℕ) (d : Data) → first (naming test name path d) ≡ None
    → option_map_or test (option_and_then as_str (field name d)) false ≡ true
unfolding first naming
named_passes test name path d =
    elim (field name d) as (λ o. first (option_map_or (worded UNKNOWN_KIND test (path_to path name)) o (unless false UNKNOWN_KIND (path_to path name))) ≡ None
    → option_map_or test (option_and_then as_str o) false ≡ true) [
      | None ↦ λ none. cc
      | Some value ↦ worded_passes test (path_to path name) value
    ]

-- the name is a kind's
kind_there : (o : Option (List ℕ)) → option_map_or (λ name. is_some (kind_named name)) o false ≡ true → is_some (option_and_then kind_named o) ≡ true
kind_there None is = is
kind_there (Some name) is = is

-- the kind is known by its name and its version
kind_known : (kind : Option Kind) (version : Option (List ℕ)) → is_some kind ≡ true
    → option_map_or (is_text (version_of (unwrap_or kind ServiceMonitor))) version false ≡ true
    → option_and_then (λ k. cond (option_map_or (is_text (version_of k)) version false) (Some k) None) kind ≢ None
kind_known None version there fits none = absurd (true≢false (sym there))
kind_known (Some kind) version there fits none =
    subst (λ b. cond b (Some kind) None ≢ None) (sym fits) (λ some. cc) none

breach : (d : Data) → kind_in d ≡ None → first (kind_wrongs [] d) ≢ None
unfolding kind_in named_kind text_in
breach d none nothing =
    kind_known (named_kind d) (text_in (codes "apiVersion") d)
    (kind_there (option_and_then as_str (field (codes "kind") d))
    (named_passes (λ name. is_some (kind_named name)) (codes "kind") [] d (left_right _ _ nothing)))
    (named_passes (is_text (version_of (kind_of d))) (codes "apiVersion") [] d (right_right _ _ nothing))
    none

pub no_kind_breach : (d : Data) → kind_in d ≡ None → first (head_wrongs [] d) ≢ None
no_kind_breach d none nothing =
    breach d none
    (right_right (object [] d) (kind_wrongs [] d)
    (left_right (object [] d ++ kind_wrongs [] d) (required (metadata (kind_of d)) (codes "metadata") [] d)
    (left_right (key_wrongs [] d) (tags_wrongs [] d)
    (left_right (key_wrongs [] d ++ tags_wrongs [] d) (known (fields_of (kind_of d)) [] d) nothing))))
