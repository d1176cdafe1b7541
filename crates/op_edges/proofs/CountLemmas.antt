-- Fault counts over several calls in a row.
use Rattle.std.proofs.Common.{◌≡◌, ◌^◌, ◌-◌, ◌⊎◌, inl, inr, ◌<◌, ℕ, ◌≤◌, arith}
use Rattle.std.proofs.lemmas.Bool.{cases_lt}
use Rattle.op_edges.specs.Causes.{Rose}

-- rose in the first of two calls
pub rose_first : (before between after : ℕ) → Rose before between → between ≤ after → Rose before after
rose_first before between after rose later = omega (arith, rose, later)

-- rose in the second of two calls
pub rose_second : (before between after : ℕ) → before ≤ between → Rose between after → Rose before after
rose_second before between after later rose = omega (arith, later, rose)

-- what it is to have risen, for a count of 64 bits
pub rose_is : (before now : ℕ) → now < 2 ^ 64 → Rose before now → (before < now) ⊎ (now ≡ 2 ^ 64 - 1)
rose_is before now fits rose = elim (cases_lt before now) [ inl greater ↦ inl greater | inr other ↦ inr (omega (arith, rose, fits, other)) ]
