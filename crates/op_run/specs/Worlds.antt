-- What a run has come to, of its two parts.
use Rattle.op_thin.specs.Objects.{Present}
use Rattle.srv_run.specs.Served.{Served}
use Rattle.tenant_world.specs.Runs.{World}

-- the objects that are present, and what the server keeps
abbrev pub world : Present → Served → World
world objects served = record { objects = objects; served = served }
