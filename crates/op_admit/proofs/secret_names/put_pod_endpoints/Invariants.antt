-- The names so far, with those of what is left put to them, are all.
use Rattle.std.proofs.Common.{◌≡◌, drop, flat_map}
use Rattle.op_admit.specs.SecretNames.{with_names, pod_endpoint_refs}
use Rattle.op_admit.proofs.secret_names.put_pod_endpoints.Given as goal

abbrev pub invariant-loop-endpoint : goal.invariant-loop-endpoint
invariant-loop-endpoint l = with_names l.initial.names (flat_map pod_endpoint_refs l.endpoints) ≡ with_names l.names (flat_map pod_endpoint_refs (drop l.endpoint-index l.endpoints))
