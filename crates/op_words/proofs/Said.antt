-- The items that words say, read from left to right over what was said before them.
use Rattle.std.proofs.Common.{◌≡◌, ◌∙◌, Bool, true, false, cond, refl, sym, ap, List, [], ◌∷◌, ◌++◌, map, drop, Option, Some, None, is_some, option_map}
use Rattle.std.specs.Prelude.{codes, option_and_then}
use Rattle.std.specs.Str.{bytes_eq}
use Rattle.clap.specs.Walk.{Text}
use Rattle.op_words.specs.declared.reading.Given.{Given}
use Rattle.op_words.specs.declared.reading.Part.{Part}
use Rattle.op_words.specs.Readings.{Dir, Each, InPart, Item, at_most_one, begins, dirs_of, eaches_of, given_from, given_in, given_of, is_option, items_after_part, items_in, onto, part_named, parts_of}
use Rattle.op_words.proofs.Rules.{Said}

-- what was said, and one more thing, which may not come twice
abbrev pub with_dir : Text → Said → Option Said
with_dir dir s = cond (is_some s.dir) None (Some (record s { dir = Some dir }))

-- the same of a part, which has to be one
abbrev pub with_part : Option Part → Said → Option Said
with_part None s = None
with_part (Some part) s = cond (is_some s.part) None (Some (record s { part = Some part }))

-- the same of `--each`
abbrev pub with_each : Said → Option Said
with_each s = cond (is_some s.each) None (Some (record s { each = Some true }))

-- each word is a folder
unfoldable pub said_dirs : List Text → Said → Option Said
said_dirs [] s = Some s
said_dirs (word ∷ words) s = option_and_then (said_dirs words) (with_dir word s)

unfoldable mutual
  -- what was said once the words are read too
  pub said : List Text → Said → Option Said
  said [] s = Some s
  said (word ∷ words) s =
      cond (bytes_eq word (codes "--")) (said_dirs words s)
      (cond (bytes_eq word (codes "--part")) (said_part words s)
      (cond (begins (codes "--part=") word) (option_and_then (said words) (with_part (part_named (drop 7 word)) s))
      (cond (bytes_eq word (codes "--each")) (option_and_then (said words) (with_each s))
      (cond (is_option word) None
      (option_and_then (said words) (with_dir word s))))))

  -- the same after `--part`
  pub said_part : List Text → Said → Option Said
  said_part [] s = None
  said_part (word ∷ words) s = option_and_then (said words) (with_part (part_named word) s)

-- ---- the same by items

-- what was said, and an item
abbrev put : Item → Said → Option Said
put (Dir dir) s = with_dir dir s
put (InPart part) s = with_part (Some part) s
put Each s = with_each s

-- what was said, and items in turn
abbrev puts : List Item → Said → Option Said
puts [] s = Some s
puts (item ∷ items) s = option_and_then (puts items) (put item s)

-- the same of items that may not be there
abbrev after : Said → Option (List Item) → Option Said
after s = option_and_then (λ items. puts items s)

-- reading on agrees with the items of the words to come
abbrev Agrees : (Said → Option Said) → Option (List Item) → Type 0
Agrees read items = (s : Said) → read s ≡ after s items

-- words after `--` agree with their items
dirs_agree : (words : List Text) (s : Said) → said_dirs words s ≡ puts (map Dir words) s
unfolding said_dirs
dirs_agree [] s = refl
dirs_agree (word ∷ words) s = go (with_dir word s) (λ t. dirs_agree words t)
  where
    go : (o : Option Said) → ((t : Said) → said_dirs words t ≡ puts (map Dir words) t) → option_and_then (said_dirs words) o ≡ option_and_then (puts (map Dir words)) o
    go None rest = refl
    go (Some t) rest = rest t

-- an item in front of items that agree
item_agrees : (read : Said → Option Said) (items : Option (List Item)) → Agrees read items → (item : Item) (s : Said) → option_and_then read (put item s) ≡ after s (onto (Some item) items)
item_agrees read None rest item s = go (put item s)
  where
    go : (o : Option Said) → option_and_then read o ≡ None
    go None = refl
    go (Some t) = rest t
item_agrees read (Some items) rest item s = go (put item s)
  where
    go : (o : Option Said) → option_and_then read o ≡ option_and_then (puts items) o
    go None = refl
    go (Some t) = rest t

-- a part in front of items that agree, where the name is one
part_agrees : (read : Said → Option Said) (items : Option (List Item)) → Agrees read items → (o : Option Part) (s : Said)
    → option_and_then read (with_part o s) ≡ after s (onto (option_map InPart o) items)
part_agrees read items rest None s = refl
part_agrees read items rest (Some part) s = item_agrees read items rest (InPart part) s

-- a choice agrees where both of its sides do
choice : (b : Bool) (s : Said) (x y : Option Said) (xs ys : Option (List Item)) → x ≡ after s xs → y ≡ after s ys → cond b x y ≡ after s (cond b xs ys)
choice true s x y xs ys e f = e
choice false s x y xs ys e f = f

mutual
  unfolding said said_part items_in items_after_part

  -- the words agree with their items
  agrees : (words : List Text) → Agrees (said words) (items_in words)
  agrees [] s = refl
  agrees (word ∷ words) s =
      let rest : Agrees (said words) (items_in words) = agrees words in
      choice (bytes_eq word (codes "--")) s _ _ _ _ (dirs_agree words s)
      (choice (bytes_eq word (codes "--part")) s _ _ _ _ (agrees_part words s)
      (choice (begins (codes "--part=") word) s _ _ _ _ (part_agrees (said words) (items_in words) rest (part_named (drop 7 word)) s)
      (choice (bytes_eq word (codes "--each")) s _ _ _ _ (item_agrees (said words) (items_in words) rest Each s)
      (choice (is_option word) s _ _ _ _ refl
      (item_agrees (said words) (items_in words) rest (Dir word) s)))))

  -- and so do the words after `--part`
  agrees_part : (words : List Text) → Agrees (said_part words) (items_after_part words)
  agrees_part [] s = refl
  agrees_part (word ∷ words) s = part_agrees (said words) (items_in words) (agrees words) (part_named word) s

-- ---- each at most once

-- the list of what is there
abbrev listed : {X : Type 0} → Option X → List X
listed None = []
listed (Some x) = x ∷ []

-- it has at most one element
once : {X : Type 0} (o : Option X) → at_most_one (listed o ++ []) ≡ Some o
once None = refl
once (Some x) = refl

-- what was said gives it
abbrev pub given_by_said : Said → Option Given
given_by_said s = given_from (Some s.dir) (Some s.part) (Some s.each)

-- more than one part give nothing
no_part : (dir : Option (Option Text)) (each : Option (Option Bool)) → given_from dir None each ≡ None
no_part None each = refl
no_part (Some None) each = refl
no_part (Some (Some dir)) each = refl

-- more than one `--each` give nothing
no_each : (dir : Option (Option Text)) (part : Option (Option Part)) → given_from dir part None ≡ None
no_each None part = refl
no_each (Some None) part = refl
no_each (Some (Some dir)) None = refl
no_each (Some (Some dir)) (Some part) = refl

-- what was said and items give together, counted by list
abbrev totalled : Option Text → Option Part → Option Bool → List Item → Option Given
totalled dir part each items =
    given_from (at_most_one (listed dir ++ dirs_of items)) (at_most_one (listed part ++ parts_of items)) (at_most_one (listed each ++ eaches_of items))

-- counting by list is the same as putting the items in turn
totals : (items : List Item) (dir : Option Text) (part : Option Part) (each : Option Bool)
    → totalled dir part each items ≡ option_and_then given_by_said (puts items (record { dir = dir; part = part; each = each }))
totals [] dir part each = λ i. given_from (once dir i) (once part i) (once each i)
totals (Dir x ∷ items) None part each = totals items (Some x) part each
totals (Dir x ∷ items) (Some dir) part each = refl
totals (InPart x ∷ items) dir None each = totals items dir (Some x) each
totals (InPart x ∷ items) dir (Some part) each = no_part (at_most_one (listed dir ++ dirs_of items)) (at_most_one (listed each ++ eaches_of items))
totals (Each ∷ items) dir part None = totals items dir part (Some true)
totals (Each ∷ items) dir part (Some each) = no_each (at_most_one (listed dir ++ dirs_of items)) (at_most_one (listed part ++ parts_of items))

-- nothing was said yet
abbrev pub nothing_said : Said
nothing_said = record { dir = None; part = None; each = None }

-- what the words give, by reading them from left to right
pub given_in-said : (words : List Text) → given_in words ≡ option_and_then given_by_said (said words nothing_said)
given_in-said words = go (items_in words) ∙ ap (option_and_then given_by_said) (sym (agrees words nothing_said))
  where
    go : (o : Option (List Item)) → option_and_then given_of o ≡ option_and_then given_by_said (after nothing_said o)
    go None = refl
    go (Some items) = totals items None None None
