-- Row by row.
use Rattle.std.specs.Prelude.{None}
use Rattle.op_manifest.specs.Trees.{data_of}
use Rattle.op_manifest.proofs.RowLemmas.{read_rows, row, end}
use Rattle.kind_scrape.specs.Credentials.{secret_rows, secrets_of}
use Rattle.kind_scrape.proofs.credentials.noted_secrets.Goals as goal

pub returns : goal.returns
unfolding secrets_of
returns c = (
  read_rows c.args.path.now (data_of c.args.tree.now) secret_rows _ _
      (row c.in_ok-basic_auth.ensures.0
      (row c.in_ok-bearer_token_secret.ensures.0
      (row c.in_ok-authorization.ensures.0
      end))),
  λ i. record {
    basic_auth = c.in_ok-basic_auth.ensures.1 i;
    bearer_token_secret = c.in_ok-bearer_token_secret.ensures.1 i;
    bearer_token_file = None;
    authorization = c.in_ok-authorization.ensures.1 i;
  },
)
