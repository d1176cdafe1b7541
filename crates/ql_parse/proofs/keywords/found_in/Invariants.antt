-- The entries that are left give what all of them do.
use Rattle.std.proofs.Common.{◌≡◌, drop, map}
use Rattle.std.specs.Str.{str_eq_ignore_ascii_case}
use Rattle.ql_tree.specs.Words.{found_in}
use Rattle.ql_parse.proofs.keywords.found_in.Given as goal

abbrev pub invariant-loop-entry : goal.invariant-loop-entry
invariant-loop-entry l =
    found_in (str_eq_ignore_ascii_case l.text)
    (map (λ entry. (entry.0.now, entry.1)) (drop l.entry-index l.entries))
    ≡ found_in (str_eq_ignore_ascii_case l.text) (map (λ entry. (entry.0.now, entry.1)) l.entries)
