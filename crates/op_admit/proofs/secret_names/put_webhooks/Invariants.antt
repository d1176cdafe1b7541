-- The names so far, with those of what is left put to them, are all.
use Rattle.std.proofs.Common.{◌≡◌, drop, flat_map}
use Rattle.op_admit.specs.SecretNames.{with_names, webhook_refs}
use Rattle.op_admit.proofs.secret_names.put_webhooks.Given as goal

abbrev pub invariant-loop-webhook : goal.invariant-loop-webhook
invariant-loop-webhook l = with_names l.initial.names (flat_map webhook_refs l.webhooks) ≡ with_names l.names (flat_map webhook_refs (drop l.webhook-index l.webhooks))
