-- What a scrape shows to its targets, after the type Endpoint of `monitoring.coreos.com/v1`: a user with a password, a
-- token out of a Secret or a file, or a header of another type. Only one of them may stand.
use Rattle.std.specs.Prelude.{ℕ, Bool, ◌||◌, ◌&&◌, List, [], ◌∷◌, codes, None, is_some, unwrap_or, if◌then◌else◌}
use Rattle.serde_json.specs.Data.{Data}
use Rattle.op_manifest.specs.declared.shape.TheConstants.ShapeRule.{UNKNOWN_FIELD}
use Rattle.op_manifest.specs.Checks.{Check, Row, field, may, optional, table, text}
use Rattle.op_manifest.specs.Parts.{item_in}
use Rattle.op_manifest.specs.References.{reference, reference_in, must_refer}
use Rattle.op_manifest.specs.Shapes.{path_to, wrong}
use Rattle.op_manifest.specs.Values.{text_in}
use Rattle.kind_scrape.specs.declared.credentials.Authorization.{Authorization}
use Rattle.kind_scrape.specs.declared.credentials.BasicAuth.{BasicAuth}
use Rattle.kind_scrape.specs.declared.credentials.Credentials.{Credentials}
use Rattle.kind_scrape.specs.Needed.{reference_or_empty}

-- the fields of a user: both have to be references that count
abbrev pub basic_rows : List Row
basic_rows =
    must_refer (codes "username")
    ∷ must_refer (codes "password")
    ∷ []

-- a user
unfoldable pub basic_of : Data → BasicAuth
basic_of d =
    record {
      username = reference_or_empty (reference_in (codes "username") d);
      password = reference_or_empty (reference_in (codes "password") d);
    }

-- the fields of a header
abbrev pub authorization_rows : List Row
authorization_rows =
    may (codes "type") text
    ∷ must_refer (codes "credentials")
    ∷ []

-- a header, of the type `Bearer` where none is given
unfoldable pub authorization_of : Data → Authorization
authorization_of d =
    record {
      sort = unwrap_or (text_in (codes "type") d) (codes "Bearer");
      credentials = reference_or_empty (reference_in (codes "credentials") d);
    }

-- the field is there
abbrev pub has_field : List ℕ → Data → Bool
has_field name d = is_some (field name d)

-- the field is a reference that counts
abbrev pub has_reference : List ℕ → Data → Bool
has_reference name d = is_some (reference_in name d)

-- a second credential breaks the rule on unknown fields, and isn't looked at
unfoldable pub unless_second : Bool → Check → List ℕ → Check
unless_second is_second check name path d =
    if is_second then wrong UNKNOWN_FIELD (path_to path name) else optional check name path d

-- the row of a credential that is a second one where the test holds
abbrev pub credential : (Data → Bool) → List ℕ → Check → Row
credential is_second name check = record { name = name; wrongs = λ path d. unless_second (is_second d) check name path d }

-- a user is there, or a token out of a Secret
abbrev pub has_user_or_token : Data → Bool
has_user_or_token d = has_field (codes "basicAuth") d || has_reference (codes "bearerTokenSecret") d

-- a token out of a Secret behind a user; a reference that counts as absent is no token
abbrev pub is_second_token : Data → Bool
is_second_token d = has_reference (codes "bearerTokenSecret") d && has_field (codes "basicAuth") d

-- a token out of a file behind one of these
abbrev pub is_second_file : Data → Bool
is_second_file d = has_field (codes "bearerTokenFile") d && has_user_or_token d

-- a header behind a user or a token out of a Secret
abbrev pub is_second_header : Data → Bool
is_second_header d = has_field (codes "authorization") d && has_user_or_token d

-- one of these is there, or a token out of a file
abbrev pub has_other_credential : Data → Bool
has_other_credential d = has_user_or_token d || has_field (codes "bearerTokenFile") d

-- a header behind any other credential
abbrev pub is_last_header : Data → Bool
is_last_header d = has_field (codes "authorization") d && has_other_credential d

-- the credentials of Secrets
abbrev pub secret_rows : List Row
secret_rows =
    may (codes "basicAuth") (table basic_rows)
    ∷ credential is_second_token (codes "bearerTokenSecret") reference
    ∷ credential is_second_header (codes "authorization") (table authorization_rows)
    ∷ []

-- these, and a token out of a file
abbrev pub credential_rows : List Row
credential_rows =
    may (codes "basicAuth") (table basic_rows)
    ∷ credential is_second_token (codes "bearerTokenSecret") reference
    ∷ credential is_second_file (codes "bearerTokenFile") text
    ∷ credential is_last_header (codes "authorization") (table authorization_rows)
    ∷ []

-- the credentials of Secrets
unfoldable pub secrets_of : Data → Credentials
secrets_of d =
    record {
      basic_auth = item_in basic_of (codes "basicAuth") d;
      bearer_token_secret = reference_in (codes "bearerTokenSecret") d;
      bearer_token_file = None;
      authorization = item_in authorization_of (codes "authorization") d;
    }

-- the credentials
unfoldable pub credentials_of : Data → Credentials
credentials_of d =
    record {
      basic_auth = item_in basic_of (codes "basicAuth") d;
      bearer_token_secret = reference_in (codes "bearerTokenSecret") d;
      bearer_token_file = text_in (codes "bearerTokenFile") d;
      authorization = item_in authorization_of (codes "authorization") d;
    }
