-- The Secrets that an object names, all of its own namespace: in the credentials of its endpoints, and at its webhooks.
-- A token out of a file names none.
use Rattle.std.specs.Prelude.{ℕ, List, [], ◌∷◌, ◌++◌, map, flat_map, Option, Some, None, option_to_list}
use Rattle.op_base.specs.Maps.{Map, text_cmp, put_all, keys_of}
use Rattle.op_manifest.specs.declared.receiver.Receiver.{Receiver}
use Rattle.op_manifest.specs.declared.receiver.Webhook.{Webhook}
use Rattle.op_manifest.specs.declared.reference.SecretRef.{SecretRef}
use Rattle.kind_rules.specs.declared.object.RuleObject.TheVariants as rule
use Rattle.kind_scrape.specs.declared.credentials.Authorization.{Authorization}
use Rattle.kind_scrape.specs.declared.credentials.BasicAuth.{BasicAuth}
use Rattle.kind_scrape.specs.declared.credentials.Credentials.{Credentials}
use Rattle.kind_scrape.specs.declared.endpoint.Endpoint.{Endpoint}
use Rattle.kind_scrape.specs.declared.endpoint.PodEndpoint.{PodEndpoint}
use Rattle.kind_scrape.specs.declared.object.ScrapeObject.{ScrapeObject}
use Rattle.kind_scrape.specs.declared.object.ScrapeObject.TheVariants as scrape
use Rattle.op_admit.specs.declared.object.Object.{Object}
use Rattle.op_admit.specs.declared.object.Object.TheVariants.{Scrape, Rules, Admin}

-- those of a user and its password
abbrev pub basic_refs : Option BasicAuth → List SecretRef
basic_refs None = []
basic_refs (Some auth) = auth.username ∷ auth.password ∷ []

-- that of a header
abbrev pub header_refs : Option Authorization → List SecretRef
header_refs None = []
header_refs (Some header) = header.credentials ∷ []

-- those of credentials, in reading order
abbrev pub credential_refs : Credentials → List SecretRef
credential_refs credentials =
    basic_refs credentials.basic_auth
    ++ option_to_list credentials.bearer_token_secret
    ++ header_refs credentials.authorization

-- those of an endpoint of a ServiceMonitor
abbrev pub endpoint_refs : Endpoint → List SecretRef
endpoint_refs endpoint = credential_refs endpoint.credentials

-- those of an endpoint of a PodMonitor
abbrev pub pod_endpoint_refs : PodEndpoint → List SecretRef
pod_endpoint_refs port = endpoint_refs port.endpoint

-- that of a webhook
abbrev pub webhook_refs : Webhook → List SecretRef
webhook_refs webhook = option_to_list webhook.url_secret

-- those of a receiver
abbrev pub receiver_refs : Receiver → List SecretRef
receiver_refs receiver = flat_map webhook_refs receiver.webhook_configs

-- those of an object that scrapes
abbrev pub scrape_refs : ScrapeObject → List SecretRef
scrape_refs (scrape.Service monitor) = flat_map endpoint_refs monitor.spec.endpoints
scrape_refs (scrape.Pod monitor) = flat_map pod_endpoint_refs monitor.spec.pod_metrics_endpoints
scrape_refs (scrape.Probe probe) = credential_refs probe.spec.credentials

-- the references of an object; one of another kind has none
abbrev pub refs_of : Object → List SecretRef
refs_of (Scrape object) = scrape_refs object
refs_of (Rules (rule.Rules rules)) = []
refs_of (Rules (rule.Routes routes)) = flat_map receiver_refs routes.receivers
refs_of (Admin object) = []

-- a name as the key of a map that holds names alone
abbrev pub named_by : SecretRef → List ℕ × Unit {0}
named_by reference = (reference.name, tt)

-- names, with those of references put to them: each stands once, in the order of their bytes
abbrev pub with_names : Map (Unit {0}) → List SecretRef → Map (Unit {0})
with_names names refs = put_all text_cmp names (map named_by refs)

-- the names of the Secrets, in the order of their bytes, each once
abbrev pub secret_names : Object → List (List ℕ)
secret_names object = keys_of (with_names [] (refs_of object))
