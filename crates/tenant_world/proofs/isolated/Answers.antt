use Rattle.tenant_world.proofs.EventLaws.{isolated}
use Rattle.tenant_world.proofs.isolated.Goals as goal

pub returns : goal.returns
returns c = isolated
