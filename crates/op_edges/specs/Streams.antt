-- What sources give and sinks take, where their bytes are told and where they aren't.
use Rattle.std.specs.Prelude.{ℕ, ◌<◌, ◌≤◌, List, length, take, Option, Result, IfOk}
use Rattle.std.specs.Io.KnownBytes.{Appends}

-- a write took some bytes of a piece that isn't empty, and no more than the piece has
abbrev pub TakesSome : {E : Type 0} → Result ℕ E → List ℕ → Type 0
TakesSome result piece = IfOk result (λ count. (count ≤ length piece) × (0 < length piece → 0 < count))

-- the bytes taken grew by a prefix of bytes
abbrev pub AppendsPrefix : Option (List ℕ) → Option (List ℕ) → List ℕ → Type 0
AppendsPrefix before now bytes = (count : ℕ) × (count ≤ length bytes) × Appends before now (take count bytes)
