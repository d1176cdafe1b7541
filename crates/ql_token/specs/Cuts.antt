-- One step of the way through a text.
use Rattle.std.specs.Prelude.{◌≡◌, ℕ, ◌<◌, ◌≤◌, List, Some, None, length}
use Rattle.ql_tree.specs.Tokens.{gap_at, token_at}
use Rattle.ql_token.specs.declared.cut.Step.{Step}
use Rattle.ql_token.specs.declared.cut.Step.TheVariants.{Gap, Token, Bad}

-- white space or a comment of n bytes stands here, a token of n bytes, or neither
abbrev pub IsStep : List ℕ → Step → Type 0
IsStep bytes (Gap n) = (0 < n) × (n ≤ length bytes) × (gap_at bytes ≡ n)
IsStep bytes (Token kind n) = (0 < n) × (n ≤ length bytes) × (gap_at bytes ≡ 0) × (token_at bytes ≡ Some (kind, n))
IsStep bytes Bad = (gap_at bytes ≡ 0) × (token_at bytes ≡ None)
