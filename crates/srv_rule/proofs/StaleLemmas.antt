-- Stale entries for rules that are no longer there, rule by rule.
use Rattle.std.proofs.Common.{◌≡◌, ℤ, true, false, not, List, [], ◌∷◌, ◌++◌, is_some, cond, refl, ap, sym, ◌∙◌, append-nil, append_assoc}
use Rattle.op_base.specs.declared.moment.Moment.{Moment}
use Rattle.op_base.specs.Labels.{Texts}
use Rattle.srv_store.specs.declared.entry.Entry.{Entry}
use Rattle.srv_store.specs.LabelMaps.{stale_entries}
use Rattle.srv_rule.specs.declared.states.RuleId.{RuleId}
use Rattle.srv_rule.specs.Rounds.{States, last_of, gone, gone_entries}

gone_entries-cons : (t : Moment) (state : RuleId × List Texts) (rest next : States)
    → gone_entries t (gone (state ∷ rest) next) ≡ gone_entries t (gone (state ∷ []) next) ++ gone_entries t (gone rest next)
gone_entries-cons t state rest next =
    elim (is_some (last_of next state.0))
    as (λ b. gone_entries t (cond (not b) (state ∷ gone rest next) (gone rest next)) ≡ gone_entries t (cond (not b) (state ∷ []) []) ++ gone_entries t (gone rest next)) [
      | true ↦ refl
      | false ↦ ap (λ es. es ++ gone_entries t (gone rest next)) (sym (append-nil (stale_entries {X = ℤ} t state.1 [])))
    ]

pub gone_step : (t : Moment) (all entries more : List Entry) (state : RuleId × List Texts) (was rest next : States) → all ≡ entries ++ gone_entries t (gone was next) → was ≡ state ∷ rest
    → more ≡ entries ++ gone_entries t (gone (state ∷ []) next) → all ≡ more ++ gone_entries t (gone rest next)
gone_step t all entries more state was rest next so_far first is =
    so_far ∙ ap (λ s. entries ++ gone_entries t (gone s next)) first ∙ ap (λ es. entries ++ es) (gone_entries-cons t state rest next)
    ∙ sym (append_assoc entries _ _) ∙ ap (λ es. es ++ gone_entries t (gone rest next)) (sym is)
