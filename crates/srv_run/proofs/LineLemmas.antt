-- The lines of what was shared out are those of the namespaces.
use Rattle.std.proofs.Common.{◌≡◌, ℕ, List, [], ◌∷◌, map, Some, refl, ap, ◌∙◌}
use Rattle.op_base.specs.declared.moment.Moment.{Moment}
use Rattle.op_base.specs.Maps.{Map, grouped, members_at, text_cmp}
use Rattle.op_report.specs.declared.view.Report.{Report}
use Rattle.srv_store.specs.declared.entry.Entry.{Entry}
use Rattle.srv_rule.specs.declared.view.FailedRule.{FailedRule}
use Rattle.srv_run.specs.Shares.{failed_of, tick_view, tenant_report}
use Rattle.srv_run.specs.Sharing.{home_of, place_of}
use Rattle.srv_run.specs.Ticking.{told, shared_line}
use Rattle.srv_run.proofs.ShareLemmas.{members-with_members}

abbrev line : Moment → List ℕ → List FailedRule → List Entry → Report
line t name failed added = record { to = Some name; view = tick_view failed added t }

shared_line-told : (failed : List FailedRule) (added : List Entry) (t : Moment) (name : List ℕ)
    → shared_line (grouped text_cmp place_of failed) (grouped text_cmp home_of added) t name ≡ tenant_report (told failed added) t name
shared_line-told failed added t name =
    ap (λ l. line t name l (members_at text_cmp (grouped text_cmp home_of added) name)) (members-with_members place_of name failed [])
    ∙ ap (λ l. line t name (failed_of name failed) l) (members-with_members home_of name added [])

pub shared_lines-told : (failed : List FailedRule) (added : List Entry) (t : Moment) (names : List (List ℕ))
    → map (shared_line (grouped text_cmp place_of failed) (grouped text_cmp home_of added) t) names ≡ map (tenant_report (told failed added) t) names
shared_lines-told failed added t [] = refl
shared_lines-told failed added t (name ∷ names) =
    ap (λ l. l ∷ map (shared_line (grouped text_cmp place_of failed) (grouped text_cmp home_of added) t) names) (shared_line-told failed added t name)
    ∙ ap (λ l. tenant_report (told failed added) t name ∷ l) (shared_lines-told failed added t names)

-- what was made of shares is what the namespaces are told
pub told_lines : (failed : List FailedRule) (added : List Entry) (t : Moment) (rules : Map (List FailedRule)) (entries : Map (List Entry)) (names keys : List (List ℕ)) (reports : List Report)
    → rules ≡ grouped text_cmp place_of failed → entries ≡ grouped text_cmp home_of added → names ≡ keys → reports ≡ map (shared_line rules entries t) names
    → reports ≡ map (tenant_report (told failed added) t) keys
told_lines failed added t rules entries names keys reports r e n is =
    is ∙ ap (λ x. map (shared_line x entries t) names) r
    ∙ ap (λ x. map (shared_line (grouped text_cmp place_of failed) x t) names) e
    ∙ ap (map (shared_line (grouped text_cmp place_of failed) (grouped text_cmp home_of added) t)) n
    ∙ shared_lines-told failed added t keys
