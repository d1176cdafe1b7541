use Rattle.std.proofs.Common.{◌≡◌, ◌∙◌, [], sym, subst, if◌then◌else◌, OnOk}
use Rattle.op_manifest.specs.Checks.{known}
use Rattle.op_manifest.specs.Heads.{secret_fields, spec_fields}
use Rattle.op_manifest.specs.Shapes.{later}
use Rattle.op_manifest.specs.Trees.{data_of}
use Rattle.op_manifest.proofs.head.note_fields.Goals as goal

pub returns-then-is_secret : goal.returns-then-is_secret
returns-then-is_secret c =
    subst (λ secret. OnOk c.noted_known.result (c.noted_known.new.found ≡ later c.args.found.now (known (if secret then secret_fields else spec_fields) [] (data_of c.args.tree.now))))
    (sym c.if-is_secret.true ∙ c.is_secret.ensures) c.noted_known.ensures

pub returns-else-is_secret : goal.returns-else-is_secret
returns-else-is_secret c =
    subst (λ secret. OnOk c.noted_known-else-is_secret.result (c.noted_known-else-is_secret.new.found ≡ later c.args.found.now (known (if secret then secret_fields else spec_fields) [] (data_of c.args.tree.now))))
    (sym c.if-is_secret.false ∙ c.is_secret.ensures) c.noted_known-else-is_secret.ensures
