-- Routes, receivers and inhibition rules as an AlertmanagerConfig writes them.
use Rattle.std.specs.Prelude.{ℕ, zero, suc, Bool, true, false, List, [], ◌∷◌, ◌++◌, codes, bytes_eq, map, Option, Some, None, option_and_then, unwrap_or, is_some, if◌then◌else◌}
use Rattle.serde_json.specs.Data.{Data}
use Rattle.serde_json.specs.Find.{as_str}
use Rattle.op_base.specs.declared.matcher.MatchOp.{MatchOp}
use Rattle.op_base.specs.declared.matcher.MatchOp.TheVariants.{Eq, Ne, Re, Nr}
use Rattle.op_base.specs.declared.matcher.Matcher.{Matcher}
use Rattle.op_manifest.specs.declared.reference.SecretRef.{SecretRef}
use Rattle.op_manifest.specs.declared.receiver.Webhook.{Webhook}
use Rattle.op_manifest.specs.declared.receiver.Receiver.{Receiver}
use Rattle.op_manifest.specs.declared.route.Route.{Route, roll-Route}
use Rattle.op_manifest.specs.declared.matching.InhibitRule.{InhibitRule}
use Rattle.op_manifest.specs.declared.shape.TheConstants.ShapeRule.{BAD_CHOICE}
use Rattle.op_manifest.specs.Checks.{Check, Row, anything, may, must, text, flag, whole, span, worded, list, table}
use Rattle.op_manifest.specs.Values.{text_of, text_in, flag_in, number_in, span_in, items_in}
use Rattle.op_manifest.specs.Parts.{item_in}
use Rattle.op_manifest.specs.References.{reference, reference_in}

-- the comparison of a word
unfoldable pub comparison_named : List ℕ → Option MatchOp
comparison_named word =
    if bytes_eq word (codes "=") then Some Eq
    else if bytes_eq word (codes "!=") then Some Ne
    else if bytes_eq word (codes "=~") then Some Re
    else if bytes_eq word (codes "!~") then Some Nr
    else None

-- the word is a comparison's
abbrev pub is_comparison : List ℕ → Bool
is_comparison word = is_some (comparison_named word)

-- a comparison
abbrev pub comparison : Check
comparison = worded BAD_CHOICE is_comparison

-- the comparison that a value is, or `=`
abbrev pub comparison_of : Data → MatchOp
comparison_of d = unwrap_or (option_and_then comparison_named (as_str d)) Eq

-- the fields of a matcher
abbrev pub matcher_rows : List Row
matcher_rows =
    must (codes "name") text
    ∷ may (codes "value") text
    ∷ may (codes "matchType") comparison
    ∷ may (codes "regex") flag
    ∷ []

-- where no comparison is given, `regex` makes it `=~`
abbrev pub comparison_by : Option MatchOp → Bool → MatchOp
comparison_by (Some op) regex = op
comparison_by None regex = if regex then Re else Eq

-- the matcher that a value is; without a value it has the empty text
unfoldable pub matcher_of : Data → Matcher
matcher_of d = record {
  name = unwrap_or (item_in text_of (codes "name") d) [];
  op = comparison_by (item_in comparison_of (codes "matchType") d) (unwrap_or (flag_in (codes "regex") d) false);
  value = unwrap_or (text_in (codes "value") d) [];
}

-- the fields of a route, over what a child has to be
abbrev pub route_rows : Check → List Row
route_rows child =
    may (codes "receiver") text
    ∷ may (codes "groupBy") (list text)
    ∷ may (codes "groupWait") span
    ∷ may (codes "groupInterval") span
    ∷ may (codes "repeatInterval") span
    ∷ may (codes "matchers") (list (table matcher_rows))
    ∷ may (codes "continue") flag
    ∷ may (codes "routes") (list child)
    ∷ []

-- the names of a route's fields
abbrev pub route_names : List (List ℕ)
route_names = map (λ (row : Row). row.name) (route_rows anything)

-- a route in whose tree that many routes stand below one another; what stands deeper isn't looked at
unfoldable pub route_within : ℕ → Check
route_within zero path d = []
route_within (suc levels) path d = table (route_rows (route_within levels)) path d

-- the route that a value is, over what a child is
unfoldable pub route_by : (Data → Route) → Data → Route
route_by child d = roll-Route (record {
  receiver = text_in (codes "receiver") d;
  group_by = unwrap_or (items_in text_of (codes "groupBy") d) [];
  group_wait = span_in (codes "groupWait") d;
  group_interval = span_in (codes "groupInterval") d;
  repeat_interval = span_in (codes "repeatInterval") d;
  matchers = unwrap_or (items_in matcher_of (codes "matchers") d) [];
  goes_on = unwrap_or (flag_in (codes "continue") d) false;
  routes = unwrap_or (items_in child (codes "routes") d) [];
})

-- the route without anything
abbrev pub no_route : Route
no_route = roll-Route (record {
  receiver = None;
  group_by = [];
  group_wait = None;
  group_interval = None;
  repeat_interval = None;
  matchers = [];
  goes_on = false;
  routes = [];
})

-- the route that a value is, as deep as its tree is looked at
unfoldable pub route_of_within : ℕ → Data → Route
route_of_within zero d = no_route
route_of_within (suc levels) d = route_by (route_of_within levels) d

-- the row of the address that a Secret holds: the base's webhooks have none
abbrev pub secret_rows : Bool → List Row
secret_rows true = []
secret_rows false = may (codes "urlSecret") reference ∷ []

-- the fields of a webhook
abbrev pub webhook_rows : Bool → List Row
webhook_rows base =
    may (codes "url") text
    ∷ secret_rows base
    ++ (may (codes "sendResolved") flag ∷ may (codes "maxAlerts") whole ∷ [])

-- a webhook
unfoldable pub webhook : Bool → Check
webhook base = table (webhook_rows base)

-- the reference to the address, which the base's webhooks haven't
abbrev pub secret_of : Bool → Data → Option SecretRef
secret_of true d = None
secret_of false d = reference_in (codes "urlSecret") d

-- the webhook that a value is
unfoldable pub webhook_of : Bool → Data → Webhook
webhook_of base d = record {
  url = text_in (codes "url") d;
  url_secret = secret_of base d;
  send_resolved = flag_in (codes "sendResolved") d;
  max_alerts = number_in (codes "maxAlerts") d;
}

-- the fields of a receiver
abbrev pub receiver_rows : Bool → List Row
receiver_rows base =
    must (codes "name") text
    ∷ may (codes "webhookConfigs") (list (webhook base))
    ∷ []

-- a receiver
unfoldable pub receiver : Bool → Check
receiver base = table (receiver_rows base)

-- the receiver that a value is
unfoldable pub receiver_of : Bool → Data → Receiver
receiver_of base d = record {
  name = unwrap_or (item_in text_of (codes "name") d) [];
  webhook_configs = unwrap_or (items_in (webhook_of base) (codes "webhookConfigs") d) [];
}

-- the fields of an inhibition rule
abbrev pub inhibit_rows : List Row
inhibit_rows =
    may (codes "sourceMatch") (list (table matcher_rows))
    ∷ may (codes "targetMatch") (list (table matcher_rows))
    ∷ may (codes "equal") (list text)
    ∷ []

-- the inhibition rule that a value is
unfoldable pub inhibit_of : Data → InhibitRule
inhibit_of d = record {
  source_match = unwrap_or (items_in matcher_of (codes "sourceMatch") d) [];
  target_match = unwrap_or (items_in matcher_of (codes "targetMatch") d) [];
  equal = unwrap_or (items_in text_of (codes "equal") d) [];
}
