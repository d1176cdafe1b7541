-- The names so far, with those of what is left put to them, are all.
use Rattle.std.proofs.Common.{◌≡◌, drop, flat_map}
use Rattle.op_admit.specs.SecretNames.{with_names, receiver_refs}
use Rattle.op_admit.proofs.secret_names.put_receivers.Given as goal

abbrev pub invariant-loop-receiver : goal.invariant-loop-receiver
invariant-loop-receiver l = with_names l.initial.names (flat_map receiver_refs l.receivers) ≡ with_names l.names (flat_map receiver_refs (drop l.receiver-index l.receivers))
