-- The form of tags, the labels of Kubernetes objects.
use Rattle.std.specs.Prelude.{ℕ, Bool, ◌&&◌, ◌||◌, ◌==◌, nat_le, List, length}
use Rattle.std.specs.List.{list_all}
use Rattle.op_base.specs.Names.{is_lower, is_upper, is_digit}

-- a letter, a digit, `.`, `_` or `-`
abbrev pub is_value_byte : ℕ → Bool
is_value_byte b = is_lower b || is_upper b || is_digit b || b == 46 || b == 95 || b == 45

-- such a byte or `/`
abbrev pub is_key_byte : ℕ → Bool
is_key_byte b = is_value_byte b || b == 47

-- a tag's key: 1 to 317 such bytes
abbrev pub is_tag_key : List ℕ → Bool
is_tag_key text = nat_le 1 (length text) && nat_le (length text) 317 && list_all is_key_byte text

-- a tag's value: at most 63 letters, digits, `.`, `_` and `-`
abbrev pub is_tag_value : List ℕ → Bool
is_tag_value text = nat_le (length text) 63 && list_all is_value_byte text
