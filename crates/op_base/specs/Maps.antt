-- Finite maps: lists of entries whose keys strictly rise in an order `R`, so that they compute.
--
-- `finite.find R key entries` is the value at a key, and `finite.put R key value entries` the map with the value at
-- the key, over any that stood there. Each `OrderedMap` keeps that its keys rise, and so does each `Table`, whose
-- keys are texts in the order of their bytes.
use Rattle.std.specs.Prelude.{ℕ, ◌-◌, List, [], ◌∷◌, ◌++◌, Option, String, fold, length, map, not, slice_get, string_bytes, take, unwrap_or}
use Rattle.std.specs.declared.alloc.Global.{Global}
use Rattle.std.specs.declared.cmp.Ordering.{Ordering}
use Rattle.std.specs.BTreeMap.{BTreeMap}
use Rattle.std.specs.Ordering.{nat_cmp, eq_by_cmp}
use Rattle.std.specs.Cmp.Lexicographic.{slice_cmp}
use Rattle.std.specs.FinMap as finite
use Rattle.std.specs.FinMap.Entries.{where_key}
use Rattle.std.specs.List.Sorted.{IsStrictlySortedBy}
use Rattle.std.specs.Option.{option_map_or}

-- the keys in order
abbrev pub keys_of : {K X : Type 0} → List (K × X) → List K
keys_of entries = map (λ entry. entry.0) entries

-- the values in the order of their keys
abbrev pub values_of : {K X : Type 0} → List (K × X) → List X
values_of entries = map (λ entry. entry.1) entries

-- the keys strictly rise
abbrev pub IsOrdered : {K X : Type 0} → (K → K → Ordering) → List (K × X) → Type 0
IsOrdered R entries = IsStrictlySortedBy R (keys_of entries)

-- the things at a key
abbrev pub members_at : {K X : Type 0} → (K → K → Ordering) → List (K × List X) → K → List X
members_at R entries key = unwrap_or (finite.find R key entries) []

-- one thing more at a key, behind those that stand there
abbrev pub with_member : {K X : Type 0} → (K → K → Ordering) → List (K × List X) → K → X → List (K × List X)
with_member R entries key member = finite.put R key (members_at R entries key ++ member ∷ []) entries

-- the last of the things at a key
abbrev pub last_member : {K X : Type 0} → (K → K → Ordering) → List (K × List X) → K → Option X
last_member R entries key = let members = members_at R entries key in slice_get members (length members - 1)

-- a map without the last of the things at a key
abbrev pub without_last : {K X : Type 0} → (K → K → Ordering) → List (K × List X) → K → List (K × List X)
without_last R entries key =
    option_map_or (λ members. finite.put R key (take (length members - 1) members) entries) (finite.find R key entries) entries

-- further things, one after the other, each at its own key
abbrev pub with_members : {K X : Type 0} → (K → K → Ordering) → (X → K) → List (K × List X) → List X → List (K × List X)
with_members R key_of entries members = fold (λ entries member. with_member R entries (key_of member) member) entries members

-- things by their keys, those of one key in their order
abbrev pub grouped : {K X : Type 0} → (K → K → Ordering) → (X → K) → List X → List (K × List X)
grouped R key_of members = with_members R key_of [] members

-- a map with pairs put to it, each over any of the same key
abbrev pub put_all : {K X : Type 0} → (K → K → Ordering) → List (K × X) → List (K × X) → List (K × X)
put_all R entries pairs = fold (λ entries pair. finite.put R pair.0 pair.1 entries) entries pairs

-- pairs in the order of their keys, of two with the same key the later one's value
abbrev pub in_order : {K X : Type 0} → (K → K → Ordering) → List (K × X) → List (K × X)
in_order R pairs = put_all R [] pairs

-- texts before one another, by their bytes
abbrev pub text_cmp : List ℕ → List ℕ → Ordering
text_cmp = slice_cmp nat_cmp

-- entries of a name and a value; `IsMap` says that the names rise
abbrev pub Map : Type 0 → Type 0
Map X = List (List ℕ × X)

-- the value at a name
abbrev pub value_at : {X : Type 0} → Map X → List ℕ → Option X
value_at entries key = finite.find text_cmp key entries

-- the map with the value at the name, over any that stood there
abbrev pub with_entry : {X : Type 0} → Map X → List ℕ → X → Map X
with_entry entries key value = finite.put text_cmp key value entries

-- the map without the name
abbrev pub without_entry : {X : Type 0} → Map X → List ℕ → Map X
without_entry entries key = where_key text_cmp (λ other. not (eq_by_cmp text_cmp key other)) entries

-- a map of maps with the value at the two names, in an inner map that is added where there is none
abbrev pub with_inner : {X : Type 0} → Map (Map X) → List ℕ → List ℕ → X → Map (Map X)
with_inner entries outer inner value =
    with_entry entries outer (with_entry (unwrap_or (value_at entries outer) []) inner value)

-- the names strictly rise in the order of their bytes
abbrev pub IsMap : {X : Type 0} → Map X → Type 0
IsMap entries = IsOrdered text_cmp entries

-- what an ordered map of owned texts shows: its entries, the names as their bytes
abbrev pub shown_entries : {X : Type 0} → BTreeMap (String Global) X → Map X
shown_entries tree = map (λ entry. (string_bytes entry.0, entry.1)) tree.entries
