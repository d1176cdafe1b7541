-- What is found among tags where one is put over them.
use Rattle.std.proofs.Common.{◌≡◌, ℕ, List, Some, cond}
use Rattle.std.specs.Ordering.{eq_by_cmp}
use Rattle.std.specs.Cmp.Lexicographic.{nat_list_cmp_total}
use Rattle.std.specs.FinMap.Entries.{find-put}
use Rattle.op_base.specs.Labels.{Texts}
use Rattle.op_base.specs.Maps.{text_cmp, value_at}
use Rattle.op_admit.specs.Selected.{namespace_tags}
use Rattle.op_admit.specs.declared.namespace_tags.TheConstants.{NAMESPACE_NAME_TAG}

pub tag_found : (namespace key : List ℕ) (tags : Texts)
    → value_at (namespace_tags namespace tags) key ≡ cond (eq_by_cmp text_cmp key NAMESPACE_NAME_TAG.now) (Some namespace) (value_at tags key)
tag_found namespace key tags = find-put text_cmp nat_list_cmp_total key NAMESPACE_NAME_TAG.now namespace tags
