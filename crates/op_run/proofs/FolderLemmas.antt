-- Reading the manifests of a folder, name by name.
use Rattle.std.proofs.Common.{◌≡◌, ℕ, zero, suc, ◌+◌, ◌<◌, ◌≤◌, List, [], ◌∷◌, ◌++◌, take, get_or, length, Option, None, Some, IfSome, refl, sym, ap, subst, ◌∙◌, append-nil, append_assoc, arith}
use Rattle.std.proofs.lemmas.List.{take_more, take_all}
use Rattle.std.proofs.lemmas.List.Sums.{sum_by-append}
use Rattle.std.specs.List.{flat_map}
use Rattle.op_edges.specs.Folders.{Folders}
use Rattle.op_run.specs.declared.files.NamedFile.{NamedFile}
use Rattle.op_run.specs.Folders.{manifest_at, bytes_in}

bytes_in-append : (xs ys : List NamedFile) → bytes_in (xs ++ ys) ≡ bytes_in xs + bytes_in ys
bytes_in-append xs ys = sum_by-append (λ file. length file.bytes) xs ys

flat_map-append : {X Y : Type 0} (f : X → List Y) (xs ys : List X) → flat_map f (xs ++ ys) ≡ flat_map f xs ++ flat_map f ys
flat_map-append f [] ys = refl
flat_map-append f (x ∷ xs) ys = ap (λ l. f x ++ l) (flat_map-append f xs ys) ∙ sym (append_assoc (f x) (flat_map f xs) (flat_map f ys))

-- the files of the first names and of the next one are a part of all
part_of_all : {X : Type 0} (f : X → List NamedFile) (xs : List X) (i : ℕ) (d : X) → i < length xs
    → bytes_in (flat_map f (take i xs)) + bytes_in (f (get_or xs i d)) ≤ bytes_in (flat_map f xs)
part_of_all f [] i d h = absurd (omega arith)
part_of_all f (x ∷ xs) zero d h = omega (arith, bytes_in-append (f x) (flat_map f xs))
part_of_all f (x ∷ xs) (suc i) d h =
    omega (arith, bytes_in-append (f x) (flat_map f (take i xs)), bytes_in-append (f x) (flat_map f xs), part_of_all f xs i d (omega arith))

-- the files read so far are those of the first names
abbrev pub ReadSoFar : Option Folders → List ℕ → List NamedFile → List (List ℕ) → ℕ → Type 0
ReadSoFar content dir files names count = IfSome content (λ folders. files ≡ flat_map (manifest_at folders dir) (take count names))

pub none_read : (content : Option Folders) (dir : List ℕ) (names : List (List ℕ)) → ReadSoFar content dir [] names 0
none_read None dir names = tt
none_read (Some folders) dir names = refl

pub one_read : (content now : Option Folders) (dir : List ℕ) (old new : List NamedFile) (names : List (List ℕ)) (i : ℕ) (name : List ℕ) → now ≡ content → i < length names
    → name ≡ get_or names i name → ReadSoFar content dir old names i → IfSome now (λ folders. new ≡ old ++ manifest_at folders dir name)
    → ReadSoFar content dir new names (i + 1)
one_read None now dir old new names i name same within is so_far next = tt
one_read (Some folders) now dir old new names i name same within is so_far next =
    let added = subst (λ o. IfSome o (λ told. new ≡ old ++ manifest_at told dir name)) same next in
    added ∙ ap (λ l. l ++ manifest_at folders dir name) so_far
    ∙ ap (λ l. flat_map (manifest_at folders dir) (take i names) ++ l) (ap (manifest_at folders dir) is ∙ sym (append-nil _))
    ∙ sym (flat_map-append (manifest_at folders dir) (take i names) (get_or names i name ∷ []))
    ∙ ap (flat_map (manifest_at folders dir)) (sym (take_more names i name within))

pub all_read : (content : Option Folders) (dir : List ℕ) (files : List NamedFile) (names : List (List ℕ)) (i : ℕ) → length names ≤ i → ReadSoFar content dir files names i
    → IfSome content (λ folders. files ≡ flat_map (manifest_at folders dir) names)
all_read None dir files names i past so_far = tt
all_read (Some folders) dir files names i past so_far = so_far ∙ ap (flat_map (manifest_at folders dir)) (take_all i names past)

-- a file that doesn't fit into what is left doesn't fit beside the others
pub too_many : (content now : Option Folders) (dir : List ℕ) (files : List NamedFile) (names : List (List ℕ)) (i : ℕ) (name : List ℕ) (room most : ℕ) (P : Type 0)
    → now ≡ content → i < length names → name ≡ get_or names i name → room + bytes_in files ≡ most → ReadSoFar content dir files names i
    → IfSome now (λ folders. P → room < bytes_in (manifest_at folders dir name))
    → IfSome content (λ folders. P → most < bytes_in (flat_map (manifest_at folders dir) names))
too_many None now dir files names i name room most P same within is left so_far next = tt
too_many (Some folders) now dir files names i name room most P same within is left so_far next = λ p.
    let longer = subst (λ o. IfSome o (λ told. P → room < bytes_in (manifest_at told dir name))) same next in
    let above : room < bytes_in (manifest_at folders dir (get_or names i name)) = subst (λ n. room < bytes_in (manifest_at folders dir n)) is (longer p) in
    omega (arith, above, left, ap bytes_in so_far, part_of_all (manifest_at folders dir) names i name within)
