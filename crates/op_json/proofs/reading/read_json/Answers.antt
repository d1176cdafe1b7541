use Rattle.std.proofs.Common.{◌≡◌, ℕ, true, false, List, Some, None, true≢false, refl, sym, ap, ◌∙◌, if◌then◌else◌}
use Rattle.std.proofs.lemmas.Str.{IsUtf8-from_is_utf8, is_utf8-from_IsUtf8}
use Rattle.std.specs.Str.{IsUtf8, is_utf8}
use Rattle.serde_json.specs.Data.{Data}
use Rattle.serde_json.specs.Read.{read}
use Rattle.op_json.specs.Reading.{json_of}
use Rattle.op_json.proofs.reading.read_json.Goals as goal

is_json : (bytes : List ℕ) (d : Data) → IsUtf8 bytes → read bytes ≡ Some d → Some d ≡ json_of bytes
is_json bytes d utf8 is = sym is ∙ ap (λ b. if b then read bytes else None) (sym (is_utf8-from_IsUtf8 bytes utf8))

no_json : (bytes : List ℕ) → (IsUtf8 bytes → read bytes ≡ None) → None ≡ json_of bytes
no_json bytes unread =
    elim (is_utf8 bytes) as (λ b. is_utf8 bytes ≡ b → None ≡ (if b then read bytes else None)) [
      | true ↦ λ is. sym (unread (IsUtf8-from_is_utf8 bytes is))
      | false ↦ λ is. refl
    ] refl

pub returns-in-Ok : goal.returns-in-Ok
returns-in-Ok c = is_json c.args.bytes.now _ c.in-Ok.ensures.ok.0 c.in-Ok.ensures.ok.1

pub returns-else-is_memory : goal.returns-else-is_memory
returns-else-is_memory c = no_json c.args.bytes.now (c.in-Err.ensures.err (λ memory. true≢false (sym (c.is_memory.ensures.1 memory) ∙ c.if-is_memory.false)))
